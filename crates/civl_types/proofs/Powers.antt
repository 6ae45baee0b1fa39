-- Powers of 2.
use Rattle.std.proofs.Common.{◌≡◌, ℕ, ◌^◌, ◌*◌, ◌<◌, ◌≤◌, min, false, nat_eq, arith, lit≤}
use Rattle.std.proofs.Math.Nat.{pow-le-pow_right, mul-le-mul_left, mul-le-mul_right}
use Rattle.std.proofs.lemmas.Bool.Decides.{nat_tests}

pub large_power : (width permissions : ℕ) → width < 4294967296 → 32 ≤ permissions → nat_eq width (2 ^ permissions) ≡ false
large_power width permissions w p =
    let large : 2 ^ 32 ≤ 2 ^ permissions = pow-le-pow_right (lit≤ tt) p in
    let below : width < 2 ^ permissions = omega (arith, large) in
    grind (arith, nat_tests)

one_power : (index : ℕ) → 1 ≤ 2 ^ index
one_power index = pow-le-pow_right {n = 2} (lit≤ tt) {i = 0} {j = index} (omega arith)

-- a row of wide cells
pub wide_row : (width index : ℕ) → 4096 < width → min (width * 2 ^ index) 4097 ≡ 4097
wide_row width index w =
    let large : width * 1 ≤ width * 2 ^ index = mul-le-mul_left width (one_power index) in
    omega (arith, large)

-- a row of many cells
pub long_row : (width index : ℕ) → 1 ≤ width → 12 < index → min (width * 2 ^ index) 4097 ≡ 4097
long_row width index w i =
    let at : 13 ≤ index = omega arith in
    let many : 2 ^ 13 ≤ 2 ^ index = pow-le-pow_right (lit≤ tt) at in
    let large : 1 * 2 ^ index ≤ width * 2 ^ index = mul-le-mul_right (2 ^ index) w in
    omega (arith, large, many)

pub ruleset rows = (wide_row, long_row)
