-- The order by class, then by release plus offset: the lower class is always ahead; within a class the smaller sum is, and a tie goes to the lower task number.
use Rattle.std.specs.Prelude.{ℕ, min, true, false, cond, List, map, nat_lt, slice_index}
use Rattle.classes.specs.declared.Member.{Member}
use Rattle.policy.specs.Order.{Order}
use Rattle.policy.specs.Orders.{keyed_order}
use Rattle.policy.specs.declared.job.Reach.TheVariants.{Always, Never}

-- the classes and the offsets of members, in their order
abbrev pub classes_of : List Member → List ℕ
classes_of members = map (λ (m : Member). m.class) members

abbrev pub offsets_of : List Member → List ℕ
offsets_of members = map (λ (m : Member). m.offset) members

-- the number that a list has for a task
abbrev pub number_at : List ℕ → ℕ → ℕ
number_at numbers i = slice_index numbers i

-- the offset of a task: at most 99,999 of it counts
abbrev pub offset_at : List ℕ → ℕ → ℕ
offset_at offsets i = min 99999 (number_at offsets i)

-- what holds where the first class is lower, where it is higher, and where the two are the same
abbrev pub by_class : {X : Type 0} → ℕ → ℕ → X → X → X → X
by_class first second lower higher same = cond (nat_lt first second) lower (cond (nat_lt second first) higher same)

abbrev pub class_order : (ℕ → ℕ) → (ℕ → ℕ) → Order
class_order class offset = record {
  ahead = λ x y. by_class (class x.task) (class y.task) true false ((keyed_order offset).ahead x y);
  reach = λ i j. by_class (class j) (class i) Always Never ((keyed_order offset).reach i j);
}
