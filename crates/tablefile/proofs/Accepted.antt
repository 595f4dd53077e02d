-- What is read keeps the rules, and its bytes are laid out as the format says.
use Rattle.std.proofs.Common.{◌≡◌, ℕ, zero, suc, ◌+◌, ◌/◌, ◌%◌, ◌<◌, true, eqb, List, [], ◌∷◌, ◌++◌, length, get_or, drop, Some, Ok, sym, refl, ap, ◌∙◌, subst, append_assoc, append-nil, arith}
use Rattle.std.proofs.lemmas.List.{drop_all}
use Rattle.std.proofs.lemmas.Bool.Decides.{nat_tests}
use Rattle.std.specs.List.{flat_map}
use Rattle.std.proofs.lemmas.Bool.{eqb-true}
use Rattle.table.proofs.Every.{and_true}
use Rattle.table.specs.Codes.{mode_code, policy_code, mode_coded, policy_coded}
use Rattle.table.specs.Sporadic.{Sporadic, every, name_byte, within, task_in_range, cost_in_range, period_in_range, deadline_in_range, rank_in_range, name_in_range}
use Rattle.table.specs.Rules.{band_in_range, rank_free, ranks_differ}
use Rattle.table.specs.declared.kinds.Mode.{Mode}
use Rattle.table.specs.declared.kinds.PolicyCode.{PolicyCode}
use Rattle.table.specs.declared.refusal.Refusal.TheVariants.{WrongMark, HeaderRange, TaskRange, RankTaken, Trailing}
use Rattle.tablefile.specs.Fields.{tested, byte_at, mark_at, policy_at, mode_at, count_at, band_at, cost_at, period_at, deadline_at, rank_at, name_length_at, name_at}
use Rattle.tablefile.specs.Format.{header_at, task_at, end_at, tasks_at}
use Rattle.tablefile.specs.Layout.{two_bytes, task_bytes, end_bytes}
use Rattle.tablefile.specs.declared.records.HeaderFields.{HeaderFields}
use Rattle.tablefile.proofs.Inversion.{same_value, then_ok, tested_ok, known_ok, byte_ok, tested_byte, tested_number}
use Rattle.tablefile.proofs.Ranks.{ranks_push}
use Rattle.tablefile.proofs.Bytes.{byte_here, number_here, letters_here}

policy_is : (b : ℕ) (policy : PolicyCode) → policy_coded b ≡ Some policy → b ≡ policy_code policy
policy_is b policy h = grind (arith, nat_tests)

mode_is : (b : ℕ) (mode : Mode) → mode_coded b ≡ Some mode → b ≡ mode_code mode
mode_is b mode h = grind (arith, nat_tests)

pub record HeaderRead (s : List ℕ) (p : ℕ) (h : HeaderFields) : Type 0 where
  pub few : within 1 24 h.count ≡ true
  pub band : band_in_range h.policy h.count h.band ≡ true
  pub bytes : drop p s ≡ 0x48 ∷ 0x54 ∷ policy_code h.policy ∷ mode_code h.mode ∷ h.count ∷ h.band ∷ drop (p + 6) s

pub record TaskRead (s : List ℕ) (p n : ℕ) (earlier : List Sporadic) (t : Sporadic) : Type 0 where
  pub ranges : task_in_range n t ≡ true
  pub free : rank_free t.rank earlier ≡ true
  pub bytes : drop p s ≡ task_bytes t ++ drop (p + 10 + length t.name) s

module _ (s : List ℕ) where
  name_here : (p from : ℕ) {name : List ℕ} → p + 1 ≡ from → name_at s p ≡ Ok name → (name_in_range name ≡ true) × (drop p s ≡ length name ∷ (name ++ drop (from + length name) s))
  name_here p from {name} next h =
      let a = then_ok (name_length_at s p) _ h in
      let f = tested_byte s p (within 1 8) (TaskRange p) a.1 in
      let l = letters_here s a.0 (p + 1) a.2 in
      let long = l.0 in (
        and_true (within 1 8 (length name)) (every name_byte name) (ap (within 1 8) long ∙ f.2) l.1,
        byte_here s p (p + 1) refl f.0 (f.1 ∙ sym long) ∙ ap (λ xs. length name ∷ xs) (l.2 ∙ (λ i. name ++ drop (next i + sym long i) s)),
      )

  -- the name of a task that was read
  pub name_good : (p n : ℕ) (earlier : List Sporadic) (t : Sporadic) → task_at s p n earlier ≡ Ok t → name_in_range t.name ≡ true
  name_good p n earlier t e =
      let a = then_ok (mark_at s p 0x544B) _ e in
      let b = then_ok (cost_at s (p + 2)) _ a.2 in
      let c = then_ok (period_at s (p + 4)) _ b.2 in
      let d = then_ok (deadline_at s (p + 6) c.0) _ c.2 in
      let f = then_ok (rank_at s (p + 8) n earlier) _ d.2 in
      let g = then_ok (name_at s (p + 9)) _ f.2 in
      ap (λ x. name_in_range x.name) (sym (same_value g.2)) ∙ (name_here (p + 9) (p + 10) (omega arith) g.1).0

module _ (s : List ℕ) (fit : (i : ℕ) → get_or s i 0 < 256) where
  mark_here : (p mark q : ℕ) {m : ℕ} → p + 2 ≡ q → mark_at s p mark ≡ Ok m → drop p s ≡ mark / 256 ∷ mark % 256 ∷ drop q s
  mark_here p mark q next h =
      let m = tested_number s p (λ x. eqb x mark) (WrongMark p) h in
      number_here s fit p q next m.0 (m.1 ∙ eqb-true _ mark m.2)

  policy_here : (p q : ℕ) {policy : PolicyCode} → p + 1 ≡ q → policy_at s p ≡ Ok policy → drop p s ≡ policy_code policy ∷ drop q s
  policy_here p q {policy} next h =
      let b = then_ok (byte_at s p) _ h in
      let f = byte_ok s p b.1 in
      byte_here s p q next f.0 (f.1 ∙ policy_is b.0 policy (known_ok (policy_coded b.0) (HeaderRange p) b.2))

  mode_here : (p q : ℕ) {mode : Mode} → p + 1 ≡ q → mode_at s p ≡ Ok mode → drop p s ≡ mode_code mode ∷ drop q s
  mode_here p q {mode} next h =
      let b = then_ok (byte_at s p) _ h in
      let f = byte_ok s p b.1 in
      byte_here s p q next f.0 (f.1 ∙ mode_is b.0 mode (known_ok (mode_coded b.0) (HeaderRange p) b.2))

  pub header_read : (p : ℕ) {h : HeaderFields} → header_at s p ≡ Ok h → HeaderRead s p h
  header_read p {h} e =
      let a = then_ok (mark_at s p 0x4854) _ e in
      let b = then_ok (policy_at s (p + 2)) _ a.2 in
      let c = then_ok (mode_at s (p + 3)) _ b.2 in
      let d = then_ok (count_at s (p + 4)) _ c.2 in
      let f = then_ok (band_at s (p + 5) b.0 d.0) _ d.2 in
      let few = tested_byte s (p + 4) (within 1 24) (HeaderRange (p + 4)) d.1 in
      let band = tested_byte s (p + 5) (band_in_range b.0 d.0) (HeaderRange (p + 5)) f.1 in
      subst (HeaderRead s p) (same_value f.2) (record {
        few = few.2;
        band = band.2;
        bytes =
            mark_here p 0x4854 (p + 2) refl a.1
            ∙ ap (λ xs. 0x48 ∷ 0x54 ∷ xs) (policy_here (p + 2) (p + 3) (omega arith) b.1
            ∙ ap (λ xs. policy_code b.0 ∷ xs) (mode_here (p + 3) (p + 4) (omega arith) c.1
            ∙ ap (λ xs. mode_code c.0 ∷ xs) (byte_here s (p + 4) (p + 5) (omega arith) few.0 few.1
            ∙ ap (λ xs. d.0 ∷ xs) (byte_here s (p + 5) (p + 6) (omega arith) band.0 band.1))));
      })

  rank_here : (p n : ℕ) (earlier : List Sporadic) {r : ℕ} → rank_at s p n earlier ≡ Ok r → (p < length s) × (get_or s p 0 ≡ r) × (rank_in_range n r ≡ true) × (rank_free r earlier ≡ true)
  rank_here p n earlier h =
      let a = then_ok (byte_at s p) _ h in
      let f = byte_ok s p a.1 in
      let b = then_ok (tested (rank_in_range n a.0) (TaskRange p) a.0) _ a.2 in
      let c = tested_ok (rank_in_range n a.0) (TaskRange p) a.0 b.1 in
      let d = tested_ok (rank_free b.0 earlier) (RankTaken p) b.0 b.2 in
      let same = c.1 ∙ d.1 in
      (f.0, f.1 ∙ same, ap (rank_in_range n) (sym same) ∙ c.0, ap (λ x. rank_free x earlier) (sym d.1) ∙ d.0)

  pub task_read : (p n : ℕ) (earlier : List Sporadic) {t : Sporadic} → task_at s p n earlier ≡ Ok t → TaskRead s p n earlier t
  task_read p n earlier e =
      let a = then_ok (mark_at s p 0x544B) _ e in
      let b = then_ok (cost_at s (p + 2)) _ a.2 in
      let c = then_ok (period_at s (p + 4)) _ b.2 in
      let d = then_ok (deadline_at s (p + 6) c.0) _ c.2 in
      let f = then_ok (rank_at s (p + 8) n earlier) _ d.2 in
      let g = then_ok (name_at s (p + 9)) _ f.2 in
      let cost = tested_number s (p + 2) cost_in_range (TaskRange (p + 2)) b.1 in
      let period = tested_number s (p + 4) period_in_range (TaskRange (p + 4)) c.1 in
      let deadline = tested_number s (p + 6) (deadline_in_range c.0) (TaskRange (p + 6)) d.1 in
      let rank = rank_here (p + 8) n earlier f.1 in
      let name = name_here s (p + 9) (p + 10) (omega arith) g.1 in
      subst (TaskRead s p n earlier) (same_value g.2) (record {
        ranges = and_true _ _ cost.2 (and_true _ _ period.2 (and_true _ _ deadline.2 (and_true _ _ rank.2 name.0)));
        free = rank.3;
        bytes =
            mark_here p 0x544B (p + 2) refl a.1
            ∙ ap (λ xs. 0x54 ∷ 0x4B ∷ xs) (number_here s fit (p + 2) (p + 4) (omega arith) cost.0 cost.1
            ∙ ap (λ xs. two_bytes b.0 ++ xs) (number_here s fit (p + 4) (p + 6) (omega arith) period.0 period.1
            ∙ ap (λ xs. two_bytes c.0 ++ xs) (number_here s fit (p + 6) (p + 8) (omega arith) deadline.0 deadline.1
            ∙ ap (λ xs. two_bytes d.0 ++ xs) (byte_here s (p + 8) (p + 9) (omega arith) rank.0 rank.1
            ∙ ap (λ xs. f.0 ∷ xs) name.1))));
      })

  end_read : (p : ℕ) {q : ℕ} → end_at s p ≡ Ok q → drop p s ≡ end_bytes
  end_read p e =
      let a = then_ok (mark_at s p 0x454E) _ e in
      let b = tested_ok (eqb (length s) (p + 2)) (Trailing (p + 2)) (p + 2) a.2 in
      let over : length s ≡ p + 2 = eqb-true (length s) (p + 2) b.0 in
      mark_here p 0x454E (p + 2) refl a.1 ∙ ap (λ xs. 0x45 ∷ 0x4E ∷ xs) (drop_all (p + 2) s (omega arith))

  -- what was read behind the earlier tasks
  abbrev TasksRead : ℕ → ℕ → List Sporadic → ℕ → List Sporadic → Type 0
  TasksRead n k earlier p ts = (more : List Sporadic) × (ts ≡ earlier ++ more) × (length more ≡ k) × (every (task_in_range n) more ≡ true) × (ranks_differ ts ≡ true) × (drop p s ≡ flat_map task_bytes more ++ end_bytes)

  pub tasks_read : (n k : ℕ) (earlier : List Sporadic) (p : ℕ) {ts : List Sporadic} → tasks_at s n k earlier p ≡ Ok ts → ranks_differ earlier ≡ true → TasksRead n k earlier p ts
  tasks_read n zero earlier p e differ =
      let a = then_ok (end_at s p) _ e in
      let same = same_value a.2 in
      ([], sym same ∙ sym (append-nil earlier), refl, refl, ap ranks_differ (sym same) ∙ differ, end_read p a.1)
  tasks_read n (suc k) earlier p e differ =
      let a = then_ok (task_at s p n earlier) _ e in
      let t = a.0 in
      let one = task_read p n earlier a.1 in
      let rest = tasks_read n k (earlier ++ t ∷ []) (p + 10 + length t.name) a.2 (ranks_push earlier t differ one.free) in (
        t ∷ rest.0,
        rest.1 ∙ append_assoc earlier (t ∷ []) rest.0,
        ap suc rest.2,
        and_true (task_in_range n t) (every (task_in_range n) rest.0) one.ranges rest.3,
        rest.4,
        one.bytes ∙ ap (λ xs. task_bytes t ++ xs) rest.5 ∙ sym (append_assoc (task_bytes t) (flat_map task_bytes rest.0) end_bytes),
      )
