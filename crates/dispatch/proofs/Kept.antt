-- What a refusal leaves, in a value that holds another.
use Rattle.std.proofs.Common.{IfErr, Ok, Err, Result}

pub refused_so : {X Y : Type 0} (r : Result X Y) (P Q : Type 0) → (P → Q) → IfErr r (λ _. P) → IfErr r (λ _. Q)
refused_so (Ok x) P Q f h = tt
refused_so (Err y) P Q f h = f h
