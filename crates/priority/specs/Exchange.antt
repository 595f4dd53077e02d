-- Two ranks of a task set exchanged, under Fixed.
use Rattle.std.specs.Prelude.{ℕ, cond, map, ◌==◌}
use Rattle.table.specs.Sporadic.{Sporadic}
use Rattle.table.specs.Rules.{TaskSet}
use Rattle.table.specs.declared.kinds.PolicyCode.TheVariants.{Fixed}

abbrev pub exchanged : ℕ → ℕ → ℕ → ℕ
exchanged x y rank = cond (rank == x) y (cond (rank == y) x rank)

abbrev pub reranked : ℕ → Sporadic → Sporadic
reranked rank t = record { cost = t.cost; period = t.period; deadline = t.deadline; rank = rank; name = t.name }

abbrev pub exchange : ℕ → ℕ → Sporadic → Sporadic
exchange x y t = reranked (exchanged x y t.rank) t

abbrev pub with_exchanged : ℕ → ℕ → TaskSet → TaskSet
with_exchanged x y s = record { policy = Fixed; mode = s.mode; band = 0; tasks = map (exchange x y) s.tasks }
