-- Courses: what every call keeps holds after every list of calls; a list of calls made in two parts.
use Rattle.std.proofs.Common.{◌≡◌, List, [], ◌∷◌, ◌++◌, Some, None, Option, refl}
use Rattle.table.specs.Rules.{TaskSet}
use Rattle.table.specs.declared.refusal.Refusal.{Refusal}
use Rattle.policy.specs.Order.{Order}
use Rattle.theory.specs.Machine.{State, Call, step, step_by, accept, refusal, play}

module _ (s : TaskSet) (o : Order) where
  -- what the accepted calls keep, every call keeps
  pub step_keeps : (P : State → Type 0) (st : State) (c : Call) → P st → (refusal s st c ≡ None → P (accept s o st c)) → P (step s o st c)
  unfolding step
  step_keeps P st c here next = go (refusal s st c) refl
    where
      go : (r : Option Refusal) → refusal s st c ≡ r → P (step_by s o st c r)
      go None e = next e
      go (Some x) e = here

  pub play_keeps : (P : State → Type 0) → ((st : State) (c : Call) → P st → P (step s o st c)) → (st : State) (cs : List Call) → P st → P (play s o st cs)
  unfolding play
  play_keeps P keeps st [] h = h
  play_keeps P keeps st (c ∷ cs) h = play_keeps P keeps (step s o st c) cs (keeps st c h)

  pub play_append : (st : State) (cs ds : List Call) → play s o st (cs ++ ds) ≡ play s o (play s o st cs) ds
  unfolding play
  play_append st [] ds = refl
  play_append st (c ∷ cs) ds = play_append (step s o st c) cs ds

  -- one call more at the end
  pub play_snoc : (st : State) (cs : List Call) (c : Call) → play s o st (cs ++ (c ∷ [])) ≡ step s o (play s o st cs) c
  unfolding play
  play_snoc st [] c = refl
  play_snoc st (d ∷ cs) c = play_snoc (step s o st d) cs c
