use Rattle.std.proofs.Common.{◌≡◌, ◌+◌}
use Rattle.tablefile.proofs.Letters.{SoFar}
use Rattle.tablefile.proofs.reader.Reader.letters.Given as goal

abbrev pub invariant-loop : goal.invariant-loop
invariant-loop l = record {
  input : l.self.src ≡ l.initial.self.src;
  place : l.self.pos ≡ l.from + l.counter;
  read : SoFar l.initial.self.src.now l.from l.len l.counter;
}
