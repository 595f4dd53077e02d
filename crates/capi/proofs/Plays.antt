-- Replies along a list of calls, one more at a time.
use Rattle.std.proofs.Common.{◌≡◌, ℕ, ◌+◌, ◌<◌, ◌≤◌, List, [], ◌∷◌, ◌++◌, map, length, get_or, take, drop, set, sym, refl, ap, ◌∙◌, subst, arith, take_all, drop-drop, drop-set-lt}
use Rattle.std.proofs.lemmas.List.{take_more, take_more_set, drop_more}
use Rattle.table.specs.Rules.{TaskSet}
use Rattle.table.specs.Model.{content}
use Rattle.table.specs.declared.checked.Table.{Table}
use Rattle.policy.specs.Order.{Order}
use Rattle.theory.specs.Machine.{Call, Answer, answer, answers, play, start}
use Rattle.dispatch.specs.Represents.{Answered, Answers}
use Rattle.dispatch.specs.declared.station.Station.{Station}
use Rattle.dispatch.proofs.Queues.{map_snoc}
use Rattle.dispatch.proofs.Replays.{answers_snoc}
use Rattle.capi.specs.Played.{calls_in, calls_of, replies_in, Played}
use Rattle.capi.specs.Steps.{call_of, reply_of}
use Rattle.capi.specs.declared.steps.Step.{Step}

-- the first n steps are answered, the rest is as it was
pub record SoFar (s : TaskSet) (o : Order) (before after : List Step) (n : ℕ) : Type 0 where
  pub calls : calls_in (take n after) ≡ calls_in (take n before)
  pub told : replies_in (take n after) ≡ map reply_of (answers s o start (calls_of (take n before)))
  pub rest : drop n after ≡ drop n before

module _ (s : TaskSet) (o : Order) (before : List Step) where
  pub played_none : SoFar s o before before 0
  unfolding answers
  played_none = record { calls = refl; told = refl; rest = refl }

  module _ (after : List Step) (n : ℕ) (here : n < length before) (long : length after ≡ length before) (so_far : SoFar s o before after n) where
    -- the step that comes next is as it was
    pub next_same : (x : Step) → get_or after n x ≡ get_or before n x
    next_same x = first (get_or after n x) (get_or before n x) (drop (n + 1) after) (drop (n + 1) before) (sym (drop_more after n x (omega arith)) ∙ so_far.rest ∙ drop_more before n x here)
      where
        first : (a b : Step) (us vs : List Step) → a ∷ us ≡ b ∷ vs → a ≡ b
        first a b us vs e = cc

    module _ (x q : Step) (same : x.call ≡ (get_or before n q).call) where
      -- the calls with the next one
      pub calls_more : calls_of (take (n + 1) before) ≡ calls_of (take n before) ++ (call_of x.call ∷ [])
      calls_more = ap calls_of (take_more before n q here) ∙ map_snoc (λ (p : Step). call_of p.call) (take n before) (get_or before n q) ∙ ap (λ c. calls_of (take n before) ++ (call_of c ∷ [])) (sym same)

      told_more : map reply_of (answers s o start (calls_of (take (n + 1) before))) ≡ map reply_of (answers s o start (calls_of (take n before))) ++ (reply_of (answer s o (play s o start (calls_of (take n before))) (call_of x.call)) ∷ [])
      told_more = ap (λ cs. map reply_of (answers s o start cs)) calls_more ∙ ap (map reply_of) (answers_snoc s o start (calls_of (take n before)) (call_of x.call)) ∙ map_snoc reply_of (answers s o start (calls_of (take n before))) (answer s o (play s o start (calls_of (take n before))) (call_of x.call))

      pub played_more : x.reply ≡ reply_of (answer s o (play s o start (calls_of (take n before))) (call_of x.call)) → SoFar s o before (set after n x) (n + 1)
      played_more is = record {
        calls = ap calls_in (take_more_set after n x (omega arith)) ∙ map_snoc (λ (p : Step). p.call) (take n after) x ∙ ap (λ cs. cs ++ (x.call ∷ [])) so_far.calls ∙ ap (λ c. calls_in (take n before) ++ (c ∷ [])) same ∙ sym (map_snoc (λ (p : Step). p.call) (take n before) (get_or before n q)) ∙ ap calls_in (sym (take_more before n q here));
        told = ap replies_in (take_more_set after n x (omega arith)) ∙ map_snoc (λ (p : Step). p.reply) (take n after) x ∙ ap (λ us. us ++ (x.reply ∷ [])) so_far.told ∙ ap (λ a. map reply_of (answers s o start (calls_of (take n before))) ++ (a ∷ [])) is ∙ sym told_more;
        rest = drop-set-lt (n + 1) after n x (omega arith) ∙ sym (drop-drop 1 n after) ∙ ap (drop 1) so_far.rest ∙ drop-drop 1 n before;
      }

  -- at the end
  pub played_all : (after : List Step) (n : ℕ) → length before ≤ n → length after ≡ length before → SoFar s o before after n → Played s o before after
  played_all after n h long so_far =
      let a : take n after ≡ after = take_all n after (omega arith) in
      let b : take n before ≡ before = take_all n before h in
      record { calls = sym (ap calls_in a) ∙ so_far.calls ∙ ap calls_in b; replies = sym (ap replies_in a) ∙ so_far.told ∙ ap (λ xs. map reply_of (answers s o start (calls_of xs))) b }

-- one step of a station that has answered the calls so far; q is any default
pub play_step : (t : Table) (o : Order) (before after : List Step) (n : ℕ) (d e : Station) (x q : Step) (c : Call) (given : Answer) → n < length before → length after ≡ length before → d.table ≡ t → x.call ≡ (get_or after n q).call
    → c ≡ call_of x.call → x.reply ≡ reply_of given → Answers o d e c given → Answered o d (calls_of (take n before)) → SoFar (content t) o before after n
    → Answered o e (calls_of (take (n + 1) before)) × SoFar (content t) o before (set after n x) (n + 1)
play_step t o before after n d e x q c given here long same read asked told makes answered so_far =
    let r = makes (calls_of (take n before)) answered in
    let known : x.call ≡ (get_or before n q).call = read ∙ ap (λ (p : Step). p.call) (next_same (content t) o before after n here long so_far q) in (
      subst (Answered o e) (ap (λ u. calls_of (take n before) ++ (u ∷ [])) asked ∙ sym (calls_more (content t) o before after n here long so_far x q known)) r.0,
      played_more (content t) o before after n here long so_far x q known (told ∙ ap reply_of (r.1 ∙ (λ k. answer (content (same k)) o (play (content (same k)) o start (calls_of (take n before))) (asked k)))),
    )
