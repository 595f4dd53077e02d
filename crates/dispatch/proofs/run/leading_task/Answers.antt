use Rattle.std.proofs.Common.{◌≡◌, ℕ, Bool, Some, None, Option, rules, subst, sym}
use Rattle.std.specs.Option.{option_map}
use Rattle.table.specs.Model.{content}
use Rattle.table.specs.Rules.{task_count}
use Rattle.policy.specs.Answers.{ahead_answer}
use Rattle.policy.specs.declared.job.Job.{Job}
use Rattle.dispatch.specs.Leading.{Leading, Leads}
use Rattle.dispatch.specs.Lines.{board}
use Rattle.dispatch.specs.Summaries.{Summary}
use Rattle.dispatch.specs.declared.stage.Head.{Head}
use Rattle.dispatch.proofs.run.leading_task.Goals as goal

-- the task of the job that leads
leads : (a : Job → Job → Bool) (b : ℕ → Summary) (n : ℕ) (best : Option Head) (task : Option ℕ) → task ≡ option_map (λ (h : Head). h.task) best → Leading a b n best → Leads a b n task
leads a b n None task is h = subst (Leads a b n) (sym is) h
leads a b n (Some best) task is h = subst (Leads a b n) (sym is) (best.release, h)

pub returns : goal.returns
returns g c =
    let d = c.args.station.now in
    let s = content d.table in
    leads (ahead_answer s (g.P.Policy.meaning c.args.policy.now s)) (board d.lines) (task_count s) c.leader.result c.map.result (search rules) c.leader.ensures
