-- Bytes that are laid out as the format says are read: the other way round.
use Rattle.std.proofs.Common.{◌≡◌, ℕ, ◌+◌, ◌/◌, ◌%◌, true, eqb, List, [], ◌∷◌, ◌++◌, length, drop, Some, Ok, sym, refl, ap, ◌∙◌, append_assoc, append-nil, arith, length-drop}
use Rattle.std.proofs.lemmas.List.{drop-drop, drop_at}
use Rattle.std.proofs.lemmas.Bool.{eq-eqb, and_parts}
use Rattle.std.specs.List.{flat_map}
use Rattle.table.proofs.Every.{and_left, and_right}
use Rattle.table.specs.Codes.{mode_code, policy_code, mode_coded, policy_coded}
use Rattle.table.specs.Sporadic.{Sporadic, every, name_byte, within, task_in_range, cost_in_range, period_in_range, deadline_in_range, rank_in_range, name_in_range}
use Rattle.table.specs.Rules.{band_in_range, rank_free, ranks_differ}
use Rattle.table.specs.declared.kinds.Mode.{Mode}
use Rattle.table.specs.declared.kinds.Mode.TheVariants.{NonPreemptive, Preemptive}
use Rattle.table.specs.declared.kinds.PolicyCode.{PolicyCode}
use Rattle.table.specs.declared.kinds.PolicyCode.TheVariants.{Fixed, Deadline, Arrival, Bands}
use Rattle.table.specs.declared.refusal.Refusal.TheVariants.{WrongMark, HeaderRange, TaskRange, RankTaken, Trailing}
use Rattle.tablefile.specs.Fields.{Read, ◌then◌, tested, known, byte_at, number_at, mark_at, policy_at, mode_at, count_at, band_at, cost_at, period_at, deadline_at, rank_at, name_length_at, name_at, letters_at, nothing_at}
use Rattle.tablefile.specs.Format.{header_at, task_at, end_at, tasks_at}
use Rattle.tablefile.specs.Layout.{task_bytes, end_bytes}
use Rattle.tablefile.specs.declared.records.HeaderFields.{HeaderFields}
use Rattle.tablefile.proofs.Bytes.{pass, first_is, byte_back, number_back, letters_back}
use Rattle.tablefile.proofs.Ranks.{ranks_front}

-- one field after another
pub then_go : {X Y : Type 0} (r : Read X) (more : X → Read Y) {x : X} {z : Read Y} → r ≡ Ok x → more x ≡ z → (r then more) ≡ z
then_go r more e h = ap (λ f. f then more) e ∙ h

policy_again : (policy : PolicyCode) → policy_coded (policy_code policy) ≡ Some policy
policy_again Fixed = refl
policy_again Deadline = refl
policy_again Arrival = refl
policy_again Bands = refl

mode_again : (mode : Mode) → mode_coded (mode_code mode) ≡ Some mode
mode_again NonPreemptive = refl
mode_again Preemptive = refl

module _ (s : List ℕ) where
  -- behind one byte, and behind two
  past : (p q b : ℕ) (rest : List ℕ) → p + 1 ≡ q → drop p s ≡ b ∷ rest → drop q s ≡ rest
  past p q b rest next h = ap (λ k. drop k s) (sym next) ∙ (first_is s p b rest h).2

  past_two : (p q a b : ℕ) (rest : List ℕ) → p + 2 ≡ q → drop p s ≡ a ∷ b ∷ rest → drop q s ≡ rest
  past_two p q a b rest next h = past (p + 1) q b rest (omega arith) (past p (p + 1) a (b ∷ rest) refl h)

  mark_back : (p mark : ℕ) (rest : List ℕ) → drop p s ≡ mark / 256 ∷ mark % 256 ∷ rest → mark_at s p mark ≡ Ok mark
  mark_back p mark rest h = pass (number_at s p) (λ x. eqb x mark) (WrongMark p) mark (number_back s p mark rest h) (eq-eqb mark mark refl)

  policy_back : (p : ℕ) (policy : PolicyCode) (rest : List ℕ) → drop p s ≡ policy_code policy ∷ rest → policy_at s p ≡ Ok policy
  policy_back p policy rest h = then_go (byte_at s p) (λ b. known (policy_coded b) (HeaderRange p)) (byte_back s p (policy_code policy) rest h) (ap (λ o. known o (HeaderRange p)) (policy_again policy))

  mode_back : (p : ℕ) (mode : Mode) (rest : List ℕ) → drop p s ≡ mode_code mode ∷ rest → mode_at s p ≡ Ok mode
  mode_back p mode rest h = then_go (byte_at s p) (λ b. known (mode_coded b) (HeaderRange p)) (byte_back s p (mode_code mode) rest h) (ap (λ o. known o (HeaderRange p)) (mode_again mode))

  pub header_back : (p : ℕ) (h : HeaderFields) (rest : List ℕ) → drop p s ≡ 0x48 ∷ 0x54 ∷ policy_code h.policy ∷ mode_code h.mode ∷ h.count ∷ h.band ∷ rest → within 1 24 h.count ≡ true → band_in_range h.policy h.count h.band ≡ true → (header_at s p ≡ Ok h) × (drop (p + 6) s ≡ rest)
  header_back p h rest bytes few band =
      let b = past_two p (p + 2) 0x48 0x54 (policy_code h.policy ∷ mode_code h.mode ∷ h.count ∷ h.band ∷ rest) refl bytes in
      let c = past (p + 2) (p + 3) (policy_code h.policy) (mode_code h.mode ∷ h.count ∷ h.band ∷ rest) (omega arith) b in
      let d = past (p + 3) (p + 4) (mode_code h.mode) (h.count ∷ h.band ∷ rest) (omega arith) c in
      let e = past (p + 4) (p + 5) h.count (h.band ∷ rest) (omega arith) d in (
        then_go (mark_at s p 0x4854) _ (mark_back p 0x4854 (policy_code h.policy ∷ mode_code h.mode ∷ h.count ∷ h.band ∷ rest) bytes)
            (then_go (policy_at s (p + 2)) _ (policy_back (p + 2) h.policy (mode_code h.mode ∷ h.count ∷ h.band ∷ rest) b)
            (then_go (mode_at s (p + 3)) _ (mode_back (p + 3) h.mode (h.count ∷ h.band ∷ rest) c)
            (then_go (count_at s (p + 4)) _ (pass (byte_at s (p + 4)) (within 1 24) (HeaderRange (p + 4)) h.count (byte_back s (p + 4) h.count (h.band ∷ rest) d) few)
            (then_go (band_at s (p + 5) h.policy h.count) _ (pass (byte_at s (p + 5)) (band_in_range h.policy h.count) (HeaderRange (p + 5)) h.band (byte_back s (p + 5) h.band rest e) band) refl)))),
        past (p + 5) (p + 6) h.band rest (omega arith) e,
      )

  rank_back : (p n : ℕ) (earlier : List Sporadic) (r : ℕ) (rest : List ℕ) → drop p s ≡ r ∷ rest → rank_in_range n r ≡ true → rank_free r earlier ≡ true → rank_at s p n earlier ≡ Ok r
  rank_back p n earlier r rest h good free =
      then_go (byte_at s p) _ (byte_back s p r rest h)
      (then_go (tested (rank_in_range n r) (TaskRange p) r) (λ x. tested (rank_free x earlier) (RankTaken p) x) (ap (λ b. tested b (TaskRange p) r) good)
      (ap (λ b. tested b (RankTaken p) r) free))

  name_back : (p from : ℕ) (name rest : List ℕ) → p + 1 ≡ from → drop p s ≡ length name ∷ (name ++ rest) → name_in_range name ≡ true → (name_at s p ≡ Ok name) × (drop (from + length name) s ≡ rest)
  name_back p from name rest next h good =
      let few = and_left (within 1 8 (length name)) (every name_byte name) good in
      let all = and_right (within 1 8 (length name)) (every name_byte name) good in
      let b = past p (p + 1) (length name) (name ++ rest) refl h in (
        then_go (name_length_at s p) (λ k. letters_at s (p + 1) k) (pass (byte_at s p) (within 1 8) (TaskRange p) (length name) (byte_back s p (length name) (name ++ rest) h) few) (letters_back s name (p + 1) rest b all),
        sym (drop-drop (length name) from s) ∙ ap (drop (length name)) (ap (λ k. drop k s) (sym next) ∙ b) ∙ drop_at name rest (length name) refl,
      )

  pub task_back : (p n : ℕ) (earlier : List Sporadic) (t : Sporadic) (rest : List ℕ) → drop p s ≡ task_bytes t ++ rest → task_in_range n t ≡ true → rank_free t.rank earlier ≡ true → (task_at s p n earlier ≡ Ok t) × (drop (p + 10 + length t.name) s ≡ rest)
  task_back p n earlier t rest bytes ranges free =
      let r1 = and_parts (cost_in_range t.cost) _ ranges in
      let r2 = and_parts (period_in_range t.period) _ r1.1 in
      let r3 = and_parts (deadline_in_range t.period t.deadline) _ r2.1 in
      let r4 = and_parts (rank_in_range n t.rank) (name_in_range t.name) r3.1 in
      let b = past_two p (p + 2) 0x54 0x4B _ refl bytes in
      let c = past_two (p + 2) (p + 4) _ _ _ (omega arith) b in
      let d = past_two (p + 4) (p + 6) _ _ _ (omega arith) c in
      let e = past_two (p + 6) (p + 8) _ _ _ (omega arith) d in
      let f = past (p + 8) (p + 9) _ _ (omega arith) e in
      let name = name_back (p + 9) (p + 10) t.name rest (omega arith) f r4.1 in (
        then_go (mark_at s p 0x544B) _ (mark_back p 0x544B _ bytes)
            (then_go (cost_at s (p + 2)) _ (pass (number_at s (p + 2)) cost_in_range (TaskRange (p + 2)) t.cost (number_back s (p + 2) t.cost _ b) r1.0)
            (then_go (period_at s (p + 4)) _ (pass (number_at s (p + 4)) period_in_range (TaskRange (p + 4)) t.period (number_back s (p + 4) t.period _ c) r2.0)
            (then_go (deadline_at s (p + 6) t.period) _ (pass (number_at s (p + 6)) (deadline_in_range t.period) (TaskRange (p + 6)) t.deadline (number_back s (p + 6) t.deadline _ d) r3.0)
            (then_go (rank_at s (p + 8) n earlier) _ (rank_back (p + 8) n earlier t.rank _ e r4.0 free)
            (then_go (name_at s (p + 9)) _ name.0 refl))))),
        name.1,
      )

  end_back : (p : ℕ) → drop p s ≡ end_bytes → (q : ℕ) × (end_at s p ≡ Ok q)
  end_back p h =
      let over : length s ≡ p + 2 = omega (arith, sym (length-drop p s) ∙ ap length h) in
      (p + 2, then_go (mark_at s p 0x454E) (λ _. nothing_at s (p + 2)) (mark_back p 0x454E [] h) (ap (λ b. tested b (Trailing (p + 2)) (p + 2)) (eq-eqb (length s) (p + 2) over)))

  pub tasks_back : (n : ℕ) (more earlier : List Sporadic) (p : ℕ) → drop p s ≡ flat_map task_bytes more ++ end_bytes → every (task_in_range n) more ≡ true → ranks_differ (earlier ++ more) ≡ true → tasks_at s n (length more) earlier p ≡ Ok (earlier ++ more)
  tasks_back n [] earlier p bytes ranges differ = then_go (end_at s p) (λ _. Ok earlier) (end_back p bytes).1 (ap Ok (sym (append-nil earlier)))
  tasks_back n (t ∷ more) earlier p bytes ranges differ =
      let same = append_assoc earlier (t ∷ []) more in
      let one = task_back p n earlier t (flat_map task_bytes more ++ end_bytes) (bytes ∙ append_assoc (task_bytes t) (flat_map task_bytes more) end_bytes) (and_left (task_in_range n t) (every (task_in_range n) more) ranges) (ranks_front earlier t more differ) in
      then_go (task_at s p n earlier) _ one.0
      (tasks_back n more (earlier ++ t ∷ []) (p + 10 + length t.name) one.1 (and_right (task_in_range n t) (every (task_in_range n) more) ranges) (ap ranks_differ same ∙ differ) ∙ ap Ok same)
