use Rattle.std.proofs.Common.{◌≡◌, length}
use Rattle.callfile.specs.Said.{laid_over}
use Rattle.callfile.proofs.read_calls.Given as goal

abbrev pub invariant-loop-count : goal.invariant-loop-count
invariant-loop-count l = record { laid : l.steps ≡ laid_over l.yielded l.initial.steps; places : l.count ≡ length l.yielded }
