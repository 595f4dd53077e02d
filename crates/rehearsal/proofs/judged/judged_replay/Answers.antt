use Rattle.std.proofs.Common.{Ok, rules}
use Rattle.table.specs.Model.{content}
use Rattle.table.proofs.Tables.{table_checked}
use Rattle.policy.proofs.Lawfulness.{table_laws}
use Rattle.rehearsal.specs.Replayed.{Replayed}
use Rattle.rehearsal.proofs.Bounded.{kept_within}
use Rattle.rehearsal.proofs.judged.judged_replay.Goals as goal

pub returns : goal.returns
returns g c =
    let s = content c.args.table.now in
    let p = c.args.policy in
    let o = g.P.Policy.meaning p s in
    let met = g.met.P.Policy in
    let checked = table_checked c.args.table.now in
    let laws = table_laws g.P.Policy.meaning met.total met.transitive met.earlier met.range met.rule p c.args.table.now in
    let told = c.in_ok-judgement.ensures in
    let replayed : Replayed s o c.args.steps.now c.replay.new.steps (Ok c.in_ok-judgement.judgement) = search rules in
    let kept = kept_within s o checked laws c.args.rows.now c.judge.new.rows c.args.steps.now c.replay.new.steps (Ok c.in_ok-judgement.judgement) told.judged replayed in
    record {
      judged = told.judged;
      replayed = replayed;
      within = kept.0;
      on_time = kept.1;
      never_longer = told.never_longer;
      attained = told.attained;
      late_exactly = told.late_exactly;
    }
