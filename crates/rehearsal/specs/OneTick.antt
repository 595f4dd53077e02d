-- One tick of a worst course, after the calls that came before it.
use Rattle.std.specs.Prelude.{◌≡◌, ℕ, false, List, [], ◌∷◌, ◌++◌}
use Rattle.table.specs.Rules.{TaskSet, task_count}
use Rattle.policy.specs.Order.{Order}
use Rattle.theory.specs.Course.{releases_below}
use Rattle.theory.specs.Machine.{Call, Answer, tick, start, play, answer}
use Rattle.courses.specs.declared.course.Course.{Course}
use Rattle.dispatch.specs.Represents.{Answered}
use Rattle.dispatch.specs.declared.station.Station.{Station}

-- the calls with the releases of tick t
abbrev pub with_releases : TaskSet → Order → Course → ℕ → List Call → List Call
with_releases s o c t calls = calls ++ releases_below s o c.task c.offset t (task_count s)

-- the station has answered the releases and the tick, and this is the answer to the tick
pub record OneTick (s : TaskSet) (o : Order) (c : Course) (t : ℕ) (calls : List Call) (d : Station) (told : Answer) : Type 0 where
  pub played : Answered o d (with_releases s o c t calls ++ (tick false ∷ []))
  pub tells : told ≡ answer s o (play s o start (with_releases s o c t calls)) (tick false)
