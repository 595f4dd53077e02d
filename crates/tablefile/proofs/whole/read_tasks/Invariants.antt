use Rattle.std.proofs.Common.{◌≡◌, ◌-◌, [], map, length, take}
use Rattle.table.specs.Content.{sporadic}
use Rattle.tablefile.specs.Format.{tasks_at}
use Rattle.tablefile.proofs.whole.read_tasks.Given as goal

abbrev pub invariant-loop-at : goal.invariant-loop-at
invariant-loop-at l = record {
  long : length l.room ≡ length l.initial.room;
  input : l.reader.src ≡ l.initial.reader.src;
  read : tasks_at l.initial.reader.src.now l.count l.count [] l.initial.reader.pos ≡ tasks_at l.initial.reader.src.now l.count (l.count - l.at) (map sporadic (take l.at l.room)) l.reader.pos;
}
