-- Quotients rounded down and up.
use Rattle.std.proofs.Common.{◌≡◌, ℕ, zero, suc, ◌+◌, ◌-◌, ◌*◌, ◌/◌, ◌<◌, ◌≤◌, ap, suc-mul, div-lt_iff_lt-mul, add-mul, le-div_iff_mul-le, arith}
use native.Mathlib.Nat.{lt-div-mul-add, add-div_right}
use Rattle.theory.specs.BusyPeriod.{ceil_div}

-- k periods fit strictly below t
pub ceil_above : (t T k : ℕ) → 1 ≤ T → k * T < t → k < ceil_div t T
ceil_above t T k low h = (le-div_iff_mul-le {k = T} {x = suc k} {y = t + (T - 1)} low).1 (omega (arith, suc-mul k T))

pub below_ceil : (t T k : ℕ) → 1 ≤ T → k < ceil_div t T → k * T < t
below_ceil t T k low h = omega (arith, suc-mul k T, (le-div_iff_mul-le {k = T} {x = suc k} {y = t + (T - 1)} low).0 h)

pub ceil_least : (t T N : ℕ) → 1 ≤ T → t ≤ N * T → ceil_div t T ≤ N
ceil_least t T N low h = omega (arith, (div-lt_iff_lt-mul {k = T} {x = t + (T - 1)} {y = suc N} low).1 (omega (arith, suc-mul N T)))

pub ceil_covers : (t T : ℕ) → 1 ≤ T → t ≤ ceil_div t T * T
ceil_covers t T low = omega (arith, lt-div-mul-add {a = t + (T - 1)} {b = T} low)

pub ceil_mono : (x y T : ℕ) → 1 ≤ T → x ≤ y → ceil_div x T ≤ ceil_div y T
ceil_mono x y T low le = ceil_least x T (ceil_div y T) low (omega (arith, ceil_covers y T low))

pub ceil_add : (x y T : ℕ) → 1 ≤ T → ceil_div (x + y) T ≤ ceil_div x T + ceil_div y T
ceil_add x y T low = ceil_least (x + y) T (ceil_div x T + ceil_div y T) low (omega (arith, ceil_covers x T low, ceil_covers y T low, add-mul (ceil_div x T) (ceil_div y T) T))

pub ceil_suc : (t T : ℕ) → 1 ≤ T → ceil_div (suc t) T ≡ 1 + t / T
ceil_suc t T low =
    let e : suc t + (T - 1) ≡ t + T = omega arith in
    omega (arith, ap (λ z. z / T) e, add-div_right t {k = T} low)

pub ceil_at_most : (t T : ℕ) → 1 ≤ T → ceil_div t T ≤ t
ceil_at_most t T low = ceil_least t T t low (omega (arith, le_times))
  where
    le_times : t ≤ t * T
    le_times = go t
      where
        go : (n : ℕ) → n ≤ n * T
        go zero = omega arith
        go (suc n) = omega (arith, go n, suc-mul n T)
