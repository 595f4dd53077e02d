-- Answers along a list of calls, one more at a time.
use Rattle.std.proofs.Common.{◌≡◌, ℕ, ◌+◌, ◌<◌, ◌≤◌, List, [], ◌∷◌, ◌++◌, length, get_or, take, drop, set, sym, refl, ap, ◌∙◌, subst, arith, take_all, drop-drop, drop-set-lt}
use Rattle.std.proofs.lemmas.List.{take_more, take_more_set, drop_more}
use Rattle.table.specs.Rules.{TaskSet}
use Rattle.policy.specs.Order.{Order}
use Rattle.theory.specs.Machine.{State, Call, answer, answers, play, start}
use Rattle.theory.specs.Machine as machine
use Rattle.table.specs.Model.{content}
use Rattle.table.specs.declared.checked.Table.{Table}
use Rattle.dispatch.specs.Represents.{Answered, Answers}
use Rattle.dispatch.specs.declared.station.Station.{Station}
use Rattle.dispatch.specs.Replayed.{calls_in, calls_of, answers_in}
use Rattle.dispatch.specs.Replies.{call_of, reply_told}
use Rattle.dispatch.specs.declared.replies.Step.{Step}
use Rattle.dispatch.proofs.Queues.{map_snoc}

pub answers_snoc : (s : TaskSet) (o : Order) (st : State) (cs : List Call) (c : Call) → answers s o st (cs ++ (c ∷ [])) ≡ answers s o st cs ++ (answer s o (play s o st cs) c ∷ [])
unfolding answers play
answers_snoc s o st [] c = refl
answers_snoc s o st (d ∷ cs) c = ap (λ zs. answer s o st d ∷ zs) (answers_snoc s o (machine.step s o st d) cs c)

-- the first n steps are answered, the rest is as it was
pub record Replayed (s : TaskSet) (o : Order) (before after : List Step) (n : ℕ) : Type 0 where
  pub calls : calls_in (take n after) ≡ calls_in (take n before)
  pub told : answers_in (take n after) ≡ answers s o start (calls_of (take n before))
  pub rest : drop n after ≡ drop n before

module _ (s : TaskSet) (o : Order) (before : List Step) where
  pub replayed_none : Replayed s o before before 0
  unfolding answers
  replayed_none = record { calls = refl; told = refl; rest = refl }

  module _ (after : List Step) (n : ℕ) (here : n < length before) (long : length after ≡ length before) (so_far : Replayed s o before after n) where
    -- the step that comes next is as it was
    pub next_same : (x : Step) → get_or after n x ≡ get_or before n x
    next_same x = first (get_or after n x) (get_or before n x) (drop (n + 1) after) (drop (n + 1) before) (sym (drop_more after n x (omega arith)) ∙ so_far.rest ∙ drop_more before n x here)
      where
        first : (a b : Step) (us vs : List Step) → a ∷ us ≡ b ∷ vs → a ≡ b
        first a b us vs e = cc

    module _ (x q : Step) (same : x.call ≡ (get_or before n q).call) where
      -- the calls with the next one
      pub calls_more : calls_of (take (n + 1) before) ≡ calls_of (take n before) ++ (call_of x.call ∷ [])
      calls_more = ap calls_of (take_more before n q here) ∙ map_snoc (λ (p : Step). call_of p.call) (take n before) (get_or before n q) ∙ ap (λ c. calls_of (take n before) ++ (call_of c ∷ [])) (sym same)

      pub replayed_more : reply_told x.answer ≡ answer s o (play s o start (calls_of (take n before))) (call_of x.call) → Replayed s o before (set after n x) (n + 1)
      replayed_more is = record {
        calls = ap calls_in (take_more_set after n x (omega arith)) ∙ map_snoc (λ (p : Step). p.call) (take n after) x ∙ ap (λ cs. cs ++ (x.call ∷ [])) so_far.calls ∙ ap (λ c. calls_in (take n before) ++ (c ∷ [])) same ∙ sym (map_snoc (λ (p : Step). p.call) (take n before) (get_or before n q)) ∙ ap calls_in (sym (take_more before n q here));
        told = ap answers_in (take_more_set after n x (omega arith)) ∙ map_snoc (λ (p : Step). reply_told p.answer) (take n after) x ∙ ap (λ us. us ++ (reply_told x.answer ∷ [])) so_far.told ∙ ap (λ a. answers s o start (calls_of (take n before)) ++ (a ∷ [])) is ∙ sym (answers_snoc s o start (calls_of (take n before)) (call_of x.call)) ∙ ap (answers s o start) (sym calls_more);
        rest = drop-set-lt (n + 1) after n x (omega arith) ∙ sym (drop-drop 1 n after) ∙ ap (drop 1) so_far.rest ∙ drop-drop 1 n before;
      }

  -- at the end
  pub replayed_all : (after : List Step) (n : ℕ) → length before ≤ n → length after ≡ length before → Replayed s o before after n → (calls_in after ≡ calls_in before) × (answers_in after ≡ answers s o start (calls_of before))
  replayed_all after n h long so_far =
      let a : take n after ≡ after = take_all n after (omega arith) in
      let b : take n before ≡ before = take_all n before h in
      (sym (ap calls_in a) ∙ so_far.calls ∙ ap calls_in b, sym (ap answers_in a) ∙ so_far.told ∙ ap (λ xs. answers s o start (calls_of xs)) b)

-- one step of a station that has answered the calls so far; q is any default
pub replay_step : (t : Table) (o : Order) (before after : List Step) (n : ℕ) (d e : Station) (x q : Step) → n < length before → length after ≡ length before → d.table ≡ t → x.call ≡ (get_or after n q).call
    → Answers o d e (call_of x.call) (reply_told x.answer) → Answered o d (calls_of (take n before)) → Replayed (content t) o before after n
    → Answered o e (calls_of (take (n + 1) before)) × Replayed (content t) o before (set after n x) (n + 1)
replay_step t o before after n d e x q here long same read makes answered so_far =
    let r = makes (calls_of (take n before)) answered in
    let known : x.call ≡ (get_or before n q).call = read ∙ ap (λ (p : Step). p.call) (next_same (content t) o before after n here long so_far q) in (
      subst (Answered o e) (sym (calls_more (content t) o before after n here long so_far x q known)) r.0,
      replayed_more (content t) o before after n here long so_far x q known (r.1 ∙ ap (λ u. answer (content u) o (play (content u) o start (calls_of (take n before))) (call_of x.call)) same),
    )
