-- What a reader hands out: what a record says, where a name is what its part of the input holds, and where the reader stands then.
use Rattle.std.specs.Prelude.{ℕ, ◌+◌, List, length, Ok, Err}
use Rattle.table.specs.Sporadic.{Sporadic}
use Rattle.tablefile.specs.Fields.{Read, ◌then◌}
use Rattle.tablefile.specs.Format.{header_at, task_at, end_at}
use Rattle.tablefile.specs.declared.records.HeaderFields.{HeaderFields}
use Rattle.tablefile.specs.declared.records.TaskFields.{TaskFields}
use Rattle.tablefile.specs.declared.records.Record.{Record}
use Rattle.tablefile.specs.declared.records.Record.TheVariants.{Header, Task, End}

abbrev pub task_said : TaskFields → Sporadic
task_said e = record { cost = e.cost; period = e.period; deadline = e.deadline; rank = e.rank; name = e.name.now }

pub data Said : Type 0 where
  a_header : HeaderFields → Said
  a_task : Sporadic → Said
  the_end : Said

abbrev pub said : Record → Said
said (Header h) = a_header h
said (Task e) = a_task (task_said e)
said End = the_end

abbrev pub handed : Read Record → Read Said
handed (Ok r) = Ok (said r)
handed (Err why) = Err why

-- each record, at a place
abbrev pub next_header : List ℕ → ℕ → Read Said
next_header s p = header_at s p then λ h. Ok (a_header h)

abbrev pub next_task : List ℕ → ℕ → ℕ → List Sporadic → Read Said
next_task s p n earlier = task_at s p n earlier then λ t. Ok (a_task t)

abbrev pub next_end : List ℕ → ℕ → Read Said
next_end s p = end_at s p then λ _. Ok the_end

-- behind a record that was handed out; a refusal does not move the reader
abbrev pub behind : ℕ → Read Said → ℕ
behind p (Ok (a_header h)) = p + 6
behind p (Ok (a_task t)) = p + 10 + length t.name
behind p (Ok the_end) = p + 2
behind p (Err why) = p
