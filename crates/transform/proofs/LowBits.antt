-- The low 32 bits of a number are the number wrapped.
use Rattle.std.proofs.Common.{◌≡◌, suc, ◌-◌, ◌%◌, ◌^◌, ℤ, pos, negsuc, ap, ◌∙◌, arith, w32, w64, SFits, to_z, of_z}
use Rattle.std.specs.Int.Bits.{bit_and}
use Rattle.std.proofs.lemmas.Nat.{and_mask}
use Rattle.std.proofs.lemmas.Int.{ints}
use Rattle.std.specs.Int.{int_wrap}

pub masked_wrapped : (v : ℤ) → SFits w64 v → to_z w32 (bit_and (of_z w64 v) 4294967295) ≡ int_wrap w32 v
unfolding int_wrap
masked_wrapped (pos a) f = ap (to_z w32) (and_mask a 32)
masked_wrapped (negsuc a) f =
    let e : (2 ^ 64 - suc a) % 2 ^ 32 ≡ 2 ^ 32 - 1 - a % 2 ^ 32 = omega (arith, ints) in
    ap (to_z w32) (and_mask (2 ^ 64 - suc a) 32 ∙ e)
