-- Limits that depend on a number before them.
use Rattle.std.proofs.Common.{◌≡◌, ℕ, ◌-◌, ◌≤◌, min, ℤ, pos, ◌-ℤ◌, arith}
use Rattle.std.specs.Int.{int_min}
use Rattle.std.proofs.lemmas.Int.{ints, clamps}

pub rest_limit : (z : ℤ) (n : ℕ) → z ≡ pos n → n ≤ 64 → pos 64 -ℤ z ≡ pos (64 - n)
rest_limit z n e h = omega (arith, ints)

pub dep_limit : (z : ℤ) (n g : ℕ) → z ≡ pos n → n ≤ 64 → g ≡ min 8 (64 - n) → int_min (pos 8) (pos 64 -ℤ z) ≡ pos g
dep_limit z n g e h m = omega (arith, ints, clamps)
