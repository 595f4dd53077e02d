use Rattle.std.proofs.Common.{◌<◌, map, length, take, sym, ◌∙◌, arith, length-set}
use Rattle.std.proofs.lemmas.Result.{err_from_is_err_and}
use Rattle.table.specs.Content.{sporadic}
use Rattle.tablefile.specs.Format.{task_at}
use Rattle.tablefile.specs.Handed.{task_said}
use Rattle.tablefile.proofs.Turns.{stored_more, refused_here}
use Rattle.tablefile.proofs.Accepted.{name_good}
use Rattle.tablefile.proofs.whole.read_tasks.Goals as goal

pub returns-in_err-fields : goal.returns-in_err-fields
returns-in_err-fields c =
    let p = err_from_is_err_and c.from_residual.result c.from_residual.ensures.1 in
    let l = c.loop-at in
    let same = l.invariant.input in
    rw (p.1, p.2) (refused_here c.args.reader.now.src.now (length c.args.room.now) l.at l.reader.pos l.room c.loop-at-test.true l.invariant.read c.in_err-fields.field-0.0 ((λ j. task_at (sym same j).now l.reader.pos (length c.args.room.now) (map sporadic (take l.at l.room))) ∙ c.in_err-fields.ensures.value))

pub stored-requires : goal.stored-requires
stored-requires c =
    let l = c.loop-at in
    name_good l.reader.src.now l.reader.pos (length c.args.room.now) (map sporadic (take l.at l.room)) (task_said c.in_ok-fields.fields) c.in_ok-fields.ensures.value

pub loop-at-preserved : goal.loop-at-preserved
loop-at-preserved c =
    let l = c.loop-at in
    let same = l.invariant.input in
    let read = c.in_ok-fields.ensures in
    let long = length-set l.room l.at c.stored.result in
    let inside : l.at < length l.room = omega (arith, l.invariant.long, c.loop-at-test.true) in
    record {
      long = long ∙ l.invariant.long;
      input = read.input ∙ same;
      read = stored_more c.args.reader.now.src.now (length c.args.room.now) l.at l.reader.pos l.room c.loop-at-test.true l.invariant.read c.stored.result (task_said c.in_ok-fields.fields) c.read_task.new.self.pos inside ((λ j. task_at (sym same j).now l.reader.pos (length c.args.room.now) (map sporadic (take l.at l.room))) ∙ read.value) c.stored.ensures read.place;
    }
