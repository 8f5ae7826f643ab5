-- Floors of quotients by a power of two. A floor always rounds toward minus infinity.
use Rattle.std.specs.Prelude.{ℕ, ◌^◌, ℤ, pos, ◌+ℤ◌, ◌*ℤ◌, ◌≤ℤ◌, ◌<ℤ◌}
use Rattle.std.specs.Int.Signed.{shr_z}

-- the floor of z / 2^e
unfoldable pub floor_over : ℤ → ℕ → ℤ
floor_over z e = shr_z z (2 ^ e)

-- q is the greatest whole number that is not above z / 2^e
pub record IsFloor (z : ℤ) (e : ℕ) (q : ℤ) : Type 0 where
  pub reached : (q *ℤ pos (2 ^ e)) ≤ℤ z
  pub greatest : z <ℤ ((q +ℤ pos 1) *ℤ pos (2 ^ e))
