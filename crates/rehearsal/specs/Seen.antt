-- The response of a job that a list of answers tells.
use Rattle.std.specs.Prelude.{ℕ, cond, ◌&&◌, List, [], ◌∷◌, Some, None, Option, ◌==◌}
use Rattle.theory.specs.Machine.{Answer, Refused, Released, Idle, Ran, Finished, Looked, or_else}

-- an answer tells that the job of task i released at this tick finished, with this response
abbrev pub told_by : ℕ → ℕ → Answer → Option ℕ
told_by i arrival (Finished j release response) = cond (j == i && release == arrival) (Some response) None
told_by i arrival (Ran j release) = None
told_by i arrival Idle = None
told_by i arrival (Released time) = None
told_by i arrival (Refused e) = None
told_by i arrival (Looked counts) = None

-- what the latest of these answers that tells it tells
unfoldable pub seen : ℕ → ℕ → List Answer → Option ℕ
seen i arrival [] = None
seen i arrival (x ∷ xs) = or_else (seen i arrival xs) (told_by i arrival x)
