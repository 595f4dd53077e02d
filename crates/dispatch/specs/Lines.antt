-- What a line says of its task's jobs, and the lines of a station by task number.
use Rattle.std.specs.Prelude.{ℕ, List, [], ◌∷◌, map, take, slice_index_or}
use Rattle.dispatch.specs.Summaries.{Summary, Pending, pending, no_summary}
use Rattle.dispatch.specs.declared.line.Line.{Line}

-- waiting jobs by their releases, of which only the first has run
abbrev pub queue : ℕ → List ℕ → List Pending
queue ran [] = []
queue ran (r ∷ rs) = pending r ran ∷ map (λ q. pending q 0) rs

abbrev pub line_summary : Line → Summary
line_summary l = record { waiting = queue l.ran (take l.len l.releases); free = l.free; finished = l.finished; missed = l.missed; longest = l.longest }

abbrev pub board : List Line → ℕ → Summary
board ls j = slice_index_or (map line_summary ls) j no_summary
