-- Floors: what they are, and that they keep bounds and order.
use Rattle.std.proofs.Common.{◌≡◌, ℕ, zero, suc, ◌*◌, ◌/◌, ◌%◌, ◌^◌, ◌<◌, ◌≤◌, ℤ, pos, negsuc, ◌+ℤ◌, ◌*ℤ◌, neg_ℤ, ◌≤ℤ◌, ◌<ℤ◌, mod-lt, add-mul, arith}
use Rattle.std.proofs.lemmas.Nat.{shr_le, shr_split, le-div, pow_pos}
use Rattle.std.proofs.lemmas.Int.{ints}
use Rattle.stages.specs.Floors.{floor_over, IsFloor}

pub floor_high : (z : ℤ) (e b : ℕ) → z ≤ℤ pos b → floor_over z e ≤ℤ pos b
unfolding floor_over
floor_high (pos a) e b h = omega (arith, ints, shr_le a e)
floor_high (negsuc a) e b h = omega (arith, ints)

pub floor_low : (z : ℤ) (e b : ℕ) → neg_ℤ (pos b) ≤ℤ z → neg_ℤ (pos b) ≤ℤ floor_over z e
unfolding floor_over
floor_low (pos a) e b h = omega (arith, ints)
floor_low (negsuc a) e b h = omega (arith, ints, shr_le a e)

-- a floor rises with what it is of
pub floor_mono : (x y : ℤ) (e : ℕ) → x ≤ℤ y → floor_over x e ≤ℤ floor_over y e
unfolding floor_over
floor_mono (pos a) (pos b) e h = let k : a / 2 ^ e ≤ b / 2 ^ e = le-div (a / 2 ^ e) b (2 ^ e) (pow_pos e) (omega (arith, ints, shr_split a e)) in omega (arith, ints)
floor_mono (pos a) (negsuc b) e h = absurd (omega (arith, ints))
floor_mono (negsuc a) (pos b) e h = omega (arith, ints)
floor_mono (negsuc a) (negsuc b) e h = let k : b / 2 ^ e ≤ a / 2 ^ e = le-div (b / 2 ^ e) a (2 ^ e) (pow_pos e) (omega (arith, ints, shr_split b e)) in omega (arith, ints)

neg_below : (d m a : ℕ) → d * m ≤ a → negsuc a <ℤ ((negsuc d +ℤ pos 1) *ℤ pos m)
neg_below zero m a h = omega (arith, ints)
neg_below (suc d) m a h =
    let e : negsuc (suc d) +ℤ pos 1 ≡ negsuc d = omega (arith, ints) in
    rw e (omega (arith, ints))

pub is_floor : (z : ℤ) (e : ℕ) → IsFloor z e (floor_over z e)
unfolding floor_over
is_floor (pos a) e =
    let s = shr_split a e in
    let r : a % 2 ^ e < 2 ^ e = mod-lt a (pow_pos e) in
    record { reached = omega (arith, ints); greatest = omega (arith, ints, add-mul (a / 2 ^ e) 1 (2 ^ e)) }
is_floor (negsuc a) e =
    let s = shr_split a e in
    let r : a % 2 ^ e < 2 ^ e = mod-lt a (pow_pos e) in
    record { reached = omega (arith, ints, add-mul (a / 2 ^ e) 1 (2 ^ e)); greatest = neg_below (a / 2 ^ e) (2 ^ e) a (omega arith) }
