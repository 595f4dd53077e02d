-- The fields of a table file, each read at a place of the input, counted from 0.
-- Where the input ends inside the field it is refused with the input's length, whatever its first byte is;
-- where the value is out of range, with the field's own place.
use Rattle.std.specs.Prelude.{◌≡◌, ◌⊎◌, MatchResult, ℕ, zero, suc, ◌+◌, ◌*◌, Bool, cond, List, [], ◌∷◌, length, Some, None, Ok, Err, Option, Result, ◌==◌, nat_lt, slice_index}
use Rattle.table.specs.Sporadic.{Sporadic, within, name_byte, cost_in_range, period_in_range, deadline_in_range, rank_in_range}
use Rattle.table.specs.Rules.{band_in_range, rank_free}
use Rattle.table.specs.Codes.{mode_coded, policy_coded}
use Rattle.table.specs.declared.kinds.Mode.{Mode}
use Rattle.table.specs.declared.kinds.PolicyCode.{PolicyCode}
use Rattle.table.specs.declared.refusal.Refusal.{Refusal}
use Rattle.table.specs.declared.refusal.Refusal.TheVariants.{Ended, WrongMark, HeaderRange, TaskRange, RankTaken, NameByte, Trailing}

infixr 20 ◌then◌
-- what was read, or why it was refused
abbrev pub Read : Type 0 → Type 0
Read X = Result X Refusal

-- goes on with what was read; a refusal stands
abbrev pub ◌then◌ : {X Y : Type 0} → Read X → (X → Read Y) → Read Y
◌then◌ (Ok x) more = more x
◌then◌ (Err why) more = Err why

-- a value that passes its test
abbrev pub tested : {X : Type 0} → Bool → Refusal → X → Read X
tested good why x = cond good (Ok x) (Err why)

-- a value that a number stands for
abbrev pub known : {X : Type 0} → Option X → Refusal → Read X
known (Some x) why = Ok x
known None why = Err why

-- the result of a read and of a test that may answer so of what was read
abbrev pub Tested : Read ℕ → (ℕ → Bool → Type 0) → Refusal → Read ℕ → Type 0
Tested read answers why result = (good : Bool) × ((n : ℕ) → read ≡ Ok n → answers n good) × (result ≡ (read then λ n. tested good why n))

-- the result of a read and of a conversion that may give so of what was read
abbrev pub Decoded : {X E : Type 0} → Read ℕ → (ℕ → Result X E → Type 0) → Refusal → Read X → Type 0
Decoded {X} {E} read gives why result = MatchResult result (λ x. (n : ℕ) × (read ≡ Ok n) × gives n (Ok x)) (λ bad. (read ≡ Err bad) ⊎ ((n : ℕ) × (e : E) × (read ≡ Ok n) × gives n (Err e) × (bad ≡ why)))

abbrev pub byte_at : List ℕ → ℕ → Read ℕ
byte_at s p = cond (nat_lt p (length s)) (Ok (slice_index s p)) (Err (Ended (length s)))

-- two bytes, the high one first
abbrev pub number_at : List ℕ → ℕ → Read ℕ
number_at s p = cond (nat_lt (p + 1) (length s)) (Ok (slice_index s p * 256 + slice_index s (p + 1))) (Err (Ended (length s)))

abbrev pub mark_at : List ℕ → ℕ → ℕ → Read ℕ
mark_at s p mark = number_at s p then λ m. tested (m == mark) (WrongMark p) m

abbrev pub policy_at : List ℕ → ℕ → Read PolicyCode
policy_at s p = byte_at s p then λ b. known (policy_coded b) (HeaderRange p)

abbrev pub mode_at : List ℕ → ℕ → Read Mode
mode_at s p = byte_at s p then λ b. known (mode_coded b) (HeaderRange p)

abbrev pub count_at : List ℕ → ℕ → Read ℕ
count_at s p = byte_at s p then λ n. tested (within 1 24 n) (HeaderRange p) n

abbrev pub band_at : List ℕ → ℕ → PolicyCode → ℕ → Read ℕ
band_at s p policy n = byte_at s p then λ b. tested (band_in_range policy n b) (HeaderRange p) b

abbrev pub cost_at : List ℕ → ℕ → Read ℕ
cost_at s p = number_at s p then λ c. tested (cost_in_range c) (TaskRange p) c

abbrev pub period_at : List ℕ → ℕ → Read ℕ
period_at s p = number_at s p then λ t. tested (period_in_range t) (TaskRange p) t

abbrev pub deadline_at : List ℕ → ℕ → ℕ → Read ℕ
deadline_at s p period = number_at s p then λ d. tested (deadline_in_range period d) (TaskRange p) d

-- in range first, then different from every earlier rank
abbrev pub rank_at : List ℕ → ℕ → ℕ → List Sporadic → Read ℕ
rank_at s p n earlier = byte_at s p then λ r. tested (rank_in_range n r) (TaskRange p) r then λ r. tested (rank_free r earlier) (RankTaken p) r

abbrev pub letter_at : List ℕ → ℕ → Read ℕ
letter_at s p = byte_at s p then λ b. tested (name_byte b) (NameByte p) b

-- so many name bytes, each a field of its own
abbrev pub letters_at : List ℕ → ℕ → ℕ → Read (List ℕ)
letters_at s p zero = Ok []
letters_at s p (suc k) = letter_at s p then λ b. letters_at s (p + 1) k then λ bs. Ok (b ∷ bs)

abbrev pub name_length_at : List ℕ → ℕ → Read ℕ
name_length_at s p = byte_at s p then λ k. tested (within 1 8 k) (TaskRange p) k

-- the length, then the letters
abbrev pub name_at : List ℕ → ℕ → Read (List ℕ)
name_at s p = name_length_at s p then λ k. letters_at s (p + 1) k

-- nothing follows
abbrev pub nothing_at : List ℕ → ℕ → Read ℕ
nothing_at s p = tested (length s == p) (Trailing p) p
