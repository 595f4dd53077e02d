-- The text of a miss, as a program prints it. A job is written as its task's number and its release.
use Rattle.std.specs.Prelude.{ℕ, List, ◌++◌, codes, decimal}
use Rattle.rehearsal.specs.declared.misses.Miss.{Miss}

abbrev pub miss_text : Miss → List ℕ
miss_text m = codes "missed " ++ decimal m.task ++ codes "@" ++ decimal m.release ++ codes " at " ++ decimal m.time
