-- The calls that a text says, and the steps that hold them.
use Rattle.std.specs.Prelude.{ℕ, ◌-◌, true, false, cond, ◌&&◌, List, [], ◌∷◌, ◌++◌, Some, None, Ok, Option, ◌==◌, nat_le}
use Rattle.std.specs.Option.{option_to_list}
use Rattle.dispatch.specs.declared.replies.Event.{Event}
use Rattle.dispatch.specs.declared.replies.Event.TheVariants.{Release, Tick, Look}
use Rattle.dispatch.specs.declared.replies.Reply.TheVariants.{Ticked}
use Rattle.dispatch.specs.declared.replies.Step.{Step}
use Rattle.dispatch.specs.declared.replies.Ticked.TheVariants.{Idle}

-- `A` to `Z` release tasks 0 to 25, `a` to `z` look at them, `.` is a tick, `!` a tick with done; any other byte says nothing
abbrev pub call_said : ℕ → Option Event
call_said b =
    cond (nat_le 65 b && nat_le b 90) (Some (Release (b - 65)))
    (cond (nat_le 97 b && nat_le b 122) (Some (Look (b - 97)))
    (cond (b == 46) (Some (Tick false))
    (cond (b == 33) (Some (Tick true)) None)))

unfoldable pub calls_said : List ℕ → List Event
calls_said [] = []
calls_said (b ∷ bs) = option_to_list (call_said b) ++ calls_said bs

-- a call before it is made: the answer beside it says nothing yet
abbrev pub unmade : Event → Step
unmade call = record { call = call; answer = Ok (Ticked Idle) }

-- the calls stand in the first steps, as many as there are steps; further steps are as they were
unfoldable pub laid_over : List Event → List Step → List Step
laid_over [] steps = steps
laid_over (call ∷ calls) [] = []
laid_over (call ∷ calls) (step ∷ steps) = unmade call ∷ laid_over calls steps
