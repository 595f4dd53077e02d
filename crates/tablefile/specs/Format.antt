-- The records of a table file, field by field, and the whole file: a header, as many tasks as it counts, the end, and nothing behind it.
-- The marks are 48 54, 54 4B and 45 4E; a header has 6 bytes, a task 10 and its name, the end 2.
use Rattle.std.specs.Prelude.{ℕ, zero, suc, ◌+◌, List, [], ◌∷◌, ◌++◌, length, Ok}
use Rattle.table.specs.Sporadic.{Sporadic}
use Rattle.table.specs.Rules.{TaskSet}
use Rattle.tablefile.specs.Fields.{Read, ◌then◌, mark_at, policy_at, mode_at, count_at, band_at, cost_at, period_at, deadline_at, rank_at, name_at, nothing_at}
use Rattle.tablefile.specs.declared.records.HeaderFields.{HeaderFields}

abbrev pub header_at : List ℕ → ℕ → Read HeaderFields
header_at s p =
    mark_at s p 0x4854 then λ _.
    policy_at s (p + 2) then λ policy.
    mode_at s (p + 3) then λ mode.
    count_at s (p + 4) then λ n.
    band_at s (p + 5) policy n then λ band.
    Ok (record { policy = policy; mode = mode; count = n; band = band })

-- a task of a file of n tasks, behind these
abbrev pub task_at : List ℕ → ℕ → ℕ → List Sporadic → Read Sporadic
task_at s p n earlier =
    mark_at s p 0x544B then λ _.
    cost_at s (p + 2) then λ cost.
    period_at s (p + 4) then λ period.
    deadline_at s (p + 6) period then λ deadline.
    rank_at s (p + 8) n earlier then λ rank.
    name_at s (p + 9) then λ name.
    Ok (record { cost = cost; period = period; deadline = deadline; rank = rank; name = name })

abbrev pub end_at : List ℕ → ℕ → Read ℕ
end_at s p =
    mark_at s p 0x454E then λ _.
    nothing_at s (p + 2)

-- k more of n tasks, behind these, and the end
abbrev pub tasks_at : List ℕ → ℕ → ℕ → List Sporadic → ℕ → Read (List Sporadic)
tasks_at s n zero earlier p = end_at s p then λ _. Ok earlier
tasks_at s n (suc k) earlier p = task_at s p n earlier then λ t. tasks_at s n k (earlier ++ t ∷ []) (p + 10 + length t.name)

-- what a file says, or why it is refused
unfoldable pub file : List ℕ → Read TaskSet
file s =
    header_at s 0 then λ h.
    tasks_at s h.count h.count [] 6 then λ ts.
    Ok (record { policy = h.policy; mode = h.mode; band = h.band; tasks = ts })
