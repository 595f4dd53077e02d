use Rattle.std.proofs.Common.{◌≡◌, ℕ, ◌+◌, Ok, Err, rules}
use Rattle.std.proofs.lemmas.Result.{err_from_is_err_and}
use Rattle.tablefile.specs.Fields.{Read, ◌then◌, mark_at, policy_at, mode_at, count_at, band_at}
use Rattle.tablefile.specs.Format.{header_at}
use Rattle.tablefile.proofs.Steps.{header_says}
use Rattle.tablefile.proofs.reader.Reader.read_header.Goals as goal
use Rattle.tablefile.proofs.reader.Reader.read_header.Goals.{In_ok-count}

with_band : (c : In_ok-count) (band : Read ℕ) → band ≡ band_at c.args.self.now.src.now (c.args.self.now.pos + 5) c.in_ok-policy.policy c.in_ok-count.count → (band then λ b. Ok (record { policy = c.in_ok-policy.policy; mode = c.in_ok-mode.mode; count = c.in_ok-count.count; band = b })) ≡ header_at c.args.self.now.src.now c.args.self.now.pos
with_band c band band_read =
    let s = c.args.self.now.src.now in
    let p = c.args.self.now.pos in
    let marked : Ok c.in_ok-number.field-0 ≡ mark_at s p 0x4854 = search rules in
    let policy_read : Ok c.in_ok-policy.policy ≡ policy_at s (p + 2) = search rules in
    let mode_read : Ok c.in_ok-mode.mode ≡ mode_at s (p + 3) = search rules in
    let count_read : Ok c.in_ok-count.count ≡ count_at s (p + 4) = search rules in
    header_says s p marked policy_read mode_read count_read band_read

pub returns-in_err-band-clause-value : goal.returns-in_err-band-clause-value
returns-in_err-band-clause-value c =
    let p = err_from_is_err_and c.from_residual-in_err-band.result c.from_residual-in_err-band.ensures.1 in
    rw (p.1, p.2) (with_band (goal.at.returns-in_err-band-clause-value c).In_ok-count (Err c.in_err-band.field-0.0) (search rules))

pub returns-clause-value : goal.returns-clause-value
returns-clause-value c = with_band (goal.at.returns-clause-value c).In_ok-count (Ok c.in_ok-band.band) (search rules)
