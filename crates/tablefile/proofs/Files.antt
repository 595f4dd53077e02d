-- The bytes determine the table, and the table the bytes.
use Rattle.std.proofs.Common.{◌≡◌, ℕ, ◌<◌, ◌≤◌, true, leb, List, [], ◌∷◌, ◌++◌, map, length, get_or, Ok, Err, sym, refl, ap, ◌∙◌, subst, Some, None, Option, rules}
use Rattle.std.proofs.lemmas.Bool.{leb-true, both_ways}
use Rattle.std.specs.List.{flat_map}
use Rattle.table.proofs.Every.{and_true, and_left, and_right}
use Rattle.table.specs.Codes.{mode_code, policy_code}
use Rattle.table.specs.Content.{sporadic}
use Rattle.table.specs.declared.checked.Table.{Table}
use Rattle.table.specs.declared.task.Task.{Task}
use Rattle.table.specs.Model.{Built}
use Rattle.std.specs.Option.{IsSome}
use Rattle.table.specs.Sporadic.{Sporadic, every, within, task_in_range}
use Rattle.table.specs.Rules.{TaskSet, band_in_range, ranks_differ, follows_rules}
use Rattle.table.specs.declared.kinds.PolicyCode.{PolicyCode}
use Rattle.table.specs.declared.refusal.Refusal.{Refusal}
use Rattle.tablefile.specs.Fields.{Read, ◌then◌}
use Rattle.tablefile.specs.Format.{header_at, tasks_at, file}
use Rattle.tablefile.specs.Layout.{task_bytes, end_bytes, layout, LaysOut}
use Rattle.tablefile.specs.declared.records.HeaderFields.{HeaderFields}
use Rattle.tablefile.proofs.Inversion.{no_value, same_value, then_ok}
use Rattle.tablefile.proofs.Accepted.{header_read, tasks_read}
use Rattle.tablefile.proofs.Laid.{then_go, header_back, tasks_back}

-- the rules from their parts, for n tasks
rules_from : (policy : PolicyCode) (band : ℕ) (ts : List Sporadic) (n : ℕ) → length ts ≡ n → within 1 24 n ≡ true → band_in_range policy n band ≡ true → every (task_in_range n) ts ≡ true → ranks_differ ts ≡ true → follows_rules policy band ts ≡ true
unfolding follows_rules
rules_from policy band ts n long few good ranges differ =
    and_true (within 1 24 (length ts)) _ (ap (within 1 24) long ∙ few)
    (and_true (band_in_range policy (length ts) band) _ (ap (λ k. band_in_range policy k band) long ∙ good)
    (and_true (every (task_in_range (length ts)) ts) (ranks_differ ts) (ap (λ k. every (task_in_range k) ts) long ∙ ranges) differ))

rules_parts : (policy : PolicyCode) (band : ℕ) (ts : List Sporadic) → follows_rules policy band ts ≡ true → (within 1 24 (length ts) ≡ true) × (band_in_range policy (length ts) band ≡ true) × (every (task_in_range (length ts)) ts ≡ true) × (ranks_differ ts ≡ true)
unfolding follows_rules
rules_parts policy band ts h =
    let a = and_right (within 1 24 (length ts)) _ h in
    let b = and_right (band_in_range policy (length ts) band) _ a in (
      and_left (within 1 24 (length ts)) _ h,
      and_left (band_in_range policy (length ts) band) _ a,
      and_left (every (task_in_range (length ts)) ts) (ranks_differ ts) b,
      and_right (every (task_in_range (length ts)) ts) (ranks_differ ts) b,
    )

module _ (s : List ℕ) where
  pub file_read : (fit : (i : ℕ) → get_or s i 0 < 256) (w : TaskSet) → file s ≡ Ok w → LaysOut s w
  unfolding file layout
  file_read fit w e =
      let a = then_ok (header_at s 0) _ e in
      let h = a.0 in
      let b = then_ok (tasks_at s h.count h.count [] 6) _ a.2 in
      let head = header_read s fit 0 a.1 in
      let rest = tasks_read s fit h.count h.count [] 6 b.1 refl in
      let same : b.0 ≡ rest.0 = rest.1 in
      let long : length b.0 ≡ h.count = ap length same ∙ rest.2 in
      subst (LaysOut s) (same_value b.2) (
        rules_from h.policy h.band b.0 h.count long head.few head.band (ap (every (task_in_range h.count)) same ∙ rest.3) rest.4,
        head.bytes ∙ (λ i. 0x48 ∷ 0x54 ∷ policy_code h.policy ∷ mode_code h.mode ∷ sym long i ∷ h.band ∷ (rest.5 ∙ ap (λ ts. flat_map task_bytes ts ++ end_bytes) (sym same)) i),
      )

  pub file_back : (w : TaskSet) → LaysOut s w → file s ≡ Ok w
  unfolding file layout
  file_back w l =
      let parts = rules_parts w.policy w.band w.tasks l.0 in
      let n = length w.tasks in
      let head = header_back s 0 (record { policy = w.policy; mode = w.mode; count = n; band = w.band }) (flat_map task_bytes w.tasks ++ end_bytes) l.1 parts.0 parts.1 in
      then_go (header_at s 0) _ head.0
      (then_go (tasks_at s n n [] 6) (λ ts. Ok (record { policy = w.policy; mode = w.mode; band = w.band; tasks = ts })) (tasks_back s n w.tasks [] 6 head.1 parts.2 parts.3) refl)

-- an accepted file, and a refused one, beside what any task set lays out
module _ (s : List ℕ) (r : Read (Unit {0})) where
  pub accepted_exactly : (fit : (i : ℕ) → get_or s i 0 < 256) (w : TaskSet) → file s ≡ Ok w → r ≡ Ok tt → ((v : TaskSet) → (r ≡ Ok tt) × (w ≡ v) → LaysOut s v) × ((v : TaskSet) → LaysOut s v → (r ≡ Ok tt) × (w ≡ v))
  accepted_exactly fit w said good = (
    λ v e. file_read s fit v (said ∙ ap Ok e.1),
    λ v l. (good, same_value (sym said ∙ file_back s v l)),
  )

  pub refused_exactly : (w : TaskSet) (why : Refusal) → file s ≡ Err why → r ≡ Err why → ((v : TaskSet) → (r ≡ Ok tt) × (w ≡ v) → LaysOut s v) × ((v : TaskSet) → LaysOut s v → (r ≡ Ok tt) × (w ≡ v))
  refused_exactly w why said bad = (
    λ v e. no_value (sym bad ∙ e.0),
    λ v l. no_value (sym said ∙ file_back s v l),
  )

-- a file, record by record: the header as the code has it, and the tasks as its loop has stored them
abbrev of_header : HeaderFields → List Sporadic → TaskSet
of_header h ts = record { policy = h.policy; mode = h.mode; band = h.band; tasks = ts }

pub header_refused : (s : List ℕ) (why : Refusal) → Err why ≡ header_at s 0 → file s ≡ Err why
unfolding file
header_refused s why bad = ap (λ r. r then λ h. tasks_at s h.count h.count [] 6 then λ ts. Ok (of_header h ts)) (sym bad)

module _ (s : List ℕ) (h : HeaderFields) (head : Ok h ≡ header_at s 0) where
  pub few_tasks : (fit : (i : ℕ) → get_or s i 0 < 256) → h.count ≤ 24
  few_tasks fit = leb-true h.count 24 (and_right (leb 1 h.count) (leb h.count 24) (header_read s fit 0 (sym head)).few)

  pub tasks_refused : (why : Refusal) → tasks_at s h.count h.count [] 6 ≡ Err why → file s ≡ Err why
  unfolding file
  tasks_refused why bad = then_go (header_at s 0) _ (sym head) (ap (λ r. r then λ ts. Ok (of_header h ts)) bad)

  module _ (ts : List Task) (good : tasks_at s h.count h.count [] 6 ≡ Ok (map sporadic ts)) where
    stored : file s ≡ Ok (of_header h (map sporadic ts))
    unfolding file
    stored = then_go (header_at s 0) _ (sym head) (ap (λ r. r then λ ts. Ok (of_header h ts)) good)

    pub file_built : (w : TaskSet) → w ≡ of_header h (map sporadic ts) → file s ≡ Ok w
    file_built w same = stored ∙ ap Ok (sym same)

    pub is_built : (fit : (i : ℕ) → get_or s i 0 < 256) (o : Option Table) → Built (of_header h (map sporadic ts)) o → IsSome o
    is_built fit (Some t) built = search rules
    is_built fit None broken = absurd (both_ways (follows_rules h.policy h.band (map sporadic ts)) broken (file_read s fit (of_header h (map sporadic ts)) stored).0)
