use Rattle.std.proofs.Common.{◌≡◌, true, false, ltb, leb, length, sym, refl, ap, ◌∙◌, arith}
use Rattle.std.proofs.lemmas.Bool.{leb-false, ltb-false}
use Rattle.table.specs.Model.{content}
use Rattle.table.specs.Rules.{task_at}
use Rattle.table.specs.Sporadic.{Sporadic}
use Rattle.table.proofs.Tables.{table_checked}
use Rattle.table.proofs.Ranges.{task_ranges}
use Rattle.dispatch.specs.Lines.{board, line_summary}
use Rattle.dispatch.specs.Summaries.{Summary, joined}
use Rattle.dispatch.proofs.Queues.{line_long}
use Rattle.dispatch.proofs.Stations.{answered_put}
use Rattle.dispatch.proofs.Ties.{release_unknown, release_soon, release_full, release_free}
use Rattle.dispatch.proofs.station.Station.release.Goals as goal

pub returns-in_default : goal.returns-in_default
returns-in_default c = record {
  table = refl;
  refused = refl;
  answered = λ o law calls rep.
      let d = c.args.self.now in
      let n = release_unknown (content d.table) o calls d.time (board d.lines) d.stage rep c.args.task c.in_default.ensures in
      (n.stands, n.tells);
}

pub returns-then-is_soon : goal.returns-then-is_soon
returns-then-is_soon c = record {
  table = refl;
  refused = refl;
  answered = λ o law calls rep.
      let d = c.args.self.now in
      let found = c.in-Some.ensures in
      let soon : ltb d.time (board d.lines c.args.task).free ≡ true = ap (λ (u : Summary). ltb d.time u.free) (sym c.line-line.ensures) ∙ sym c.if-is_soon.ensures in
      let n = release_soon (content d.table) o calls d.time (board d.lines) d.stage rep (table_checked d.table) law c.args.task found.0 soon in
      (n.stands, n.tells);
}

pub returns-then-is_full : goal.returns-then-is_full
returns-then-is_full c = record {
  table = refl;
  refused = refl;
  answered = λ o law calls rep.
      let d = c.args.self.now in
      let found = c.in-Some.ensures in
      let soon : ltb d.time (board d.lines c.args.task).free ≡ false = ap (λ (u : Summary). ltb d.time u.free) (sym c.line-line.ensures) ∙ sym c.if-is_soon.ensures in
      let full : leb 8 (length (board d.lines c.args.task).waiting) ≡ true = ap (λ (u : Summary). leb 8 (length u.waiting)) (sym c.line-line.ensures) ∙ ap (leb 8) (line_long c.line-line.result) ∙ sym c.if-is_full.ensures in
      let n = release_full (content d.table) o calls d.time (board d.lines) d.stage rep (table_checked d.table) law c.args.task found.0 soon full in
      (n.stands, n.tells);
}

pub push-requires : goal.push-requires
push-requires c =
    let d = c.args.self.now in
    let found = c.in-Some.ensures in
    let r = task_ranges (content d.table) (table_checked d.table) c.args.task found.0 in
    let same = ap (λ (t : Sporadic). t.period) found.1 in
    record {
      room = leb-false 8 c.line-line.result.len (sym c.if-is_full.ensures);
      free = ltb-false d.time c.line-line.result.free (sym c.if-is_soon.ensures);
      clock = d.clock;
      low = omega (arith, same, r.period_low);
      high = omega (arith, same, r.period_high);
    }

pub returns : goal.returns
returns c = record {
  table = c.put.ensures.table;
  refused = tt;
  answered = λ o law calls rep.
      let d = c.args.self.now in
      let e = c.put.new.self in
      let j = c.args.task in
      let s = content d.table in
      let found = c.in-Some.ensures in
      let soon : ltb d.time (board d.lines j).free ≡ false = ap (λ (u : Summary). ltb d.time u.free) (sym c.line-line.ensures) ∙ sym c.if-is_soon.ensures in
      let full : leb 8 (length (board d.lines j).waiting) ≡ false = ap (λ (u : Summary). leb 8 (length u.waiting)) (sym c.line-line.ensures) ∙ ap (leb 8) (line_long c.line-line.result) ∙ sym c.if-is_full.ensures in
      let here : board e.lines j ≡ joined (task_at s j) d.time (board d.lines j) = c.put.ensures.here ∙ c.push.ensures ∙ ap (λ t. joined t d.time (line_summary c.line-line.result)) found.1 ∙ ap (λ u. joined (task_at s j) d.time u) c.line-line.ensures in
      answered_put d e j (line_summary c.push.result) o calls _ c.put.ensures (release_free s o calls d.time (board d.lines) d.stage rep (table_checked d.table) law j found.0 (board e.lines) here c.put.ensures.others soon full);
}
