-- A judgement checked by computing: least solutions, responses, worst responses and whole lines.
use Rattle.std.proofs.Common.{ℕ, zero, suc, ◌+◌, ◌-◌, max, Bool, true, cond, not, ◌&&◌, ◌||◌, eqb, ltb, leb, List, [], ◌∷◌}
use Rattle.table.specs.Rules.{TaskSet, task_at, task_count, follows_rules}
use Rattle.table.specs.declared.kinds.Mode.{Mode}
use Rattle.table.specs.declared.kinds.Mode.TheVariants.{NonPreemptive, Preemptive}
use Rattle.policy.specs.Order.{Order}
use Rattle.theory.specs.BusyPeriod.{load}
use Rattle.theory.specs.Response.{until_finish, until_start}

-- every number below n passes the test
unfoldable pub all_below : ℕ → (ℕ → Bool) → Bool
all_below zero p = true
all_below (suc n) p = p n && all_below n p

-- W applied n times: where a least solution is looked for, with nothing claimed
unfoldable pub climb : ℕ → (ℕ → ℕ) → ℕ → ℕ
climb zero W t = t
climb (suc n) W t = climb n W (W t)

abbrev pub least_is : ℕ → (ℕ → ℕ) → ℕ → Bool
least_is low W t = leb low t && (eqb t (W t) && all_below t (λ v. ltb v low || not (eqb v (W v))))

-- where the window of offset a ends (preemptive), or the job begins
unfoldable pub window : Mode → TaskSet → Order → ℕ → ℕ → ℕ
window Preemptive s o i a = climb 10 (until_finish s o i a) 1
window NonPreemptive s o i a = climb 10 (until_start s o i a) 0

unfoldable pub window_is : Mode → TaskSet → Order → ℕ → ℕ → ℕ → Bool
window_is Preemptive s o i a t = least_is 1 (until_finish s o i a) t
window_is NonPreemptive s o i a t = least_is 0 (until_start s o i a) t

unfoldable pub response : Mode → TaskSet → ℕ → ℕ → ℕ → ℕ
response Preemptive s i a t = max (task_at s i).cost (t - a)
response NonPreemptive s i a t = max (task_at s i).cost (t + (task_at s i).cost - a)

-- with the window t found at offset b, its response stays below r before the offset a, and at most r from there on
abbrev pub fits : Mode → TaskSet → Order → ℕ → ℕ → ℕ → ℕ → ℕ → Bool
fits m s o i r a b t = window_is m s o i b t && cond (ltb b a) (ltb (response m s i b t) r) (leb (response m s i b t) r)

abbrev pub worst_is : Mode → TaskSet → Order → ℕ → ℕ → ℕ → ℕ → Bool
worst_is m s o L i r a = ltb a L && (eqb r (response m s i a (window m s o i a)) && all_below L (λ b. fits m s o i r a b (window m s o i b)))

unfoldable pub rows_are : TaskSet → Order → ℕ → ℕ → List (ℕ × ℕ) → Bool
rows_are s o L i [] = eqb i (task_count s)
rows_are s o L i (x ∷ xs) = worst_is s.mode s o L i x.0 x.1 && rows_are s o L (suc i) xs

unfoldable pub line_is : TaskSet → Order → ℕ → List (ℕ × ℕ) → Bool
line_is s o L xs = follows_rules s.policy s.band s.tasks && (least_is 1 (load s) L && rows_are s o L 0 xs)

-- every row from task i on is within its deadline
unfoldable pub all_meet : TaskSet → ℕ → List (ℕ × ℕ) → Bool
all_meet s i [] = true
all_meet s i (x ∷ xs) = leb x.0 (task_at s i).deadline && all_meet s (suc i) xs
