-- A station in which the first job of a task has run.
use Rattle.std.proofs.Common.{◌≡◌, ℕ, Bool, List, ◌∷◌, Some, Option, sym, ap, ◌∙◌, subst}
use Rattle.table.specs.Content.{sporadic}
use Rattle.table.specs.Model.{content}
use Rattle.table.specs.Rules.{task_at}
use Rattle.theory.proofs.Search.{none_some, some_same}
use Rattle.dispatch.specs.Advanced.{Advanced, Moves, stage_after, outcome_of, told_of}
use Rattle.dispatch.specs.Fronts.{Fronted}
use Rattle.dispatch.specs.Leading.{first_release}
use Rattle.dispatch.specs.Lines.{board, line_summary}
use Rattle.dispatch.specs.Put.{Put}
use Rattle.dispatch.specs.Summaries.{Summary, Pending, moved, ends_now}
use Rattle.dispatch.specs.declared.front.Front.{Front}
use Rattle.dispatch.specs.declared.replies.Ticked.{Ticked}
use Rattle.dispatch.specs.declared.stage.Stage.{Stage}
use Rattle.dispatch.specs.declared.station.Station.{Station}

-- the front is the first waiting job
pub front_release : (us : List Pending) (p : Pending) (ps : List Pending) (r : ℕ) → us ≡ p ∷ ps → Some r ≡ first_release us → r ≡ p.release
front_release us p ps r e f = some_same (f ∙ ap first_release e)

-- the line u that is written, from what its own tick says, and the stage set after it
pub moves_from : (d e : Station) (to : Stage) (lines : ℕ → Summary) (f : Front) (over : Bool) (p : Pending) (ps : List Pending) (u : Summary) (r : Ticked) → Fronted (content d.table) (board d.lines) f → (board d.lines f.task).waiting ≡ p ∷ ps
    → Put d e f.task u → u ≡ moved (sporadic f.known) over d.time p ps (line_summary f.line) → ((k : ℕ) → lines k ≡ board e.lines k) → to ≡ stage_after (content e.table).mode e.stage (outcome_of over f.task) → r ≡ told_of over f.task p.release d.time
    → Moves (content d.table) d.time (board d.lines) lines d.stage to f.task over p ps r
moves_from d e to lines f over p ps u r front w put is same turned tells = record {
  here = same f.task ∙ put.here ∙ is ∙ ap (λ t. moved t over d.time p ps (line_summary f.line)) front.task ∙ ap (λ v. moved (task_at (content d.table) f.task) over d.time p ps v) front.line;
  others = λ k ne. same k ∙ put.others k ne;
  stage = turned ∙ ap (λ t. stage_after (content t).mode e.stage (outcome_of over f.task)) put.table ∙ ap (λ g. stage_after (content d.table).mode g (outcome_of over f.task)) put.stage;
  told = tells;
}

-- the test of the line is that of the task
pub over_is : (d : Station) (f : Front) (done v : Bool) (p : Pending) (ps : List Pending) → Fronted (content d.table) (board d.lines) f → (board d.lines f.task).waiting ≡ p ∷ ps → ((line_summary f.line).waiting ≡ p ∷ ps → v ≡ ends_now (sporadic f.known) done p) → v ≡ ends_now (task_at (content d.table) f.task) done p
over_is d f done v p ps front w h = h (ap (λ (u : Summary). u.waiting) front.line ∙ w) ∙ ap (λ t. ends_now t done p) front.task

-- the chosen task is the front's
pub advanced_from : (d e : Station) (f : Front) (later : ℕ) (chosen : Option ℕ) (done : Bool) (r : Ticked) → chosen ≡ Some f.task
    → ((p : Pending) (ps : List Pending) → (board d.lines f.task).waiting ≡ p ∷ ps → Moves (content d.table) later (board d.lines) (board e.lines) d.stage e.stage f.task (ends_now (task_at (content d.table) f.task) done p) p ps r)
    → Advanced (content d.table) later (board d.lines) (board e.lines) d.stage e.stage chosen done r
advanced_from d e f later chosen done r is moves = record {
  idle = λ none. absurd (none_some (sym none ∙ is));
  ran = λ i p ps c known w.
      let same : f.task ≡ i = some_same (sym is ∙ c) in
      subst (λ j. Moves (content d.table) later (board d.lines) (board e.lines) d.stage e.stage j (ends_now (task_at (content d.table) j) done p) p ps r) same (moves p ps (subst (λ j. (board d.lines j).waiting ≡ p ∷ ps) (sym same) w));
}
