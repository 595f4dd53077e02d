-- Bytes put at the start of a buffer leave what lies behind them.
use Rattle.std.proofs.Common.{◌≡◌, ℕ, ◌+◌, ◌≤◌, List, length, drop, ap, ◌∙◌, arith, drop_at}
use Rattle.report.specs.Pasted.{Put}

pub behind : (before bytes after : List ℕ) (answer : ℕ) → length bytes ≤ length before → Put before 0 bytes after answer → (answer ≡ length bytes) × (drop answer after ≡ drop answer before)
behind before bytes after answer room put =
    let done = put.fits (omega arith) in
    let end : length bytes ≡ answer = omega (arith, done.1) in
    let far : 0 + length bytes ≡ answer = omega arith in
    (done.1, ap (drop answer) done.0 ∙ drop_at bytes (drop (0 + length bytes) before) answer end ∙ ap (λ n. drop n before) far)
