-- Products of a tap and a sample, and sums of few of them.
use Rattle.std.proofs.Common.{◌≡◌, suc, ◌^◌, ℤ, pos, negsuc, ◌*ℤ◌, neg_ℤ, ◌≤ℤ◌, ◌∙◌, arith, w16, w32, w64, SFits, to_z, of_z}
use Rattle.std.proofs.lemmas.Nat.{mul-le}
use Rattle.std.proofs.lemmas.Int.{ints, clamps, to_z-of_z}
use Rattle.std.specs.Int.{int_max, int_min}

abbrev pub Small : ℤ → Type 0
Small z = (z ≤ℤ pos (2 ^ 46)) × (neg_ℤ (pos (2 ^ 46)) ≤ℤ z)

pub product_small : (a b : ℤ) → SFits w16 a → SFits w32 b → Small (a *ℤ b)
product_small (pos a) (pos b) f g = omega (arith, ints, mul-le a b (2 ^ 15) (2 ^ 31) (omega (arith, ints)) (omega (arith, ints)))
product_small (pos a) (negsuc b) f g = omega (arith, ints, mul-le a (suc b) (2 ^ 15) (2 ^ 31) (omega (arith, ints)) (omega (arith, ints)))
product_small (negsuc a) (pos b) f g = omega (arith, ints, mul-le (suc a) b (2 ^ 15) (2 ^ 31) (omega (arith, ints)) (omega (arith, ints)))
product_small (negsuc a) (negsuc b) f g = omega (arith, ints, mul-le (suc a) (suc b) (2 ^ 15) (2 ^ 31) (omega (arith, ints)) (omega (arith, ints)))

-- the product as the code makes it: each factor is widened, and the product read back
pub product_back : (a b : ℤ) → SFits w16 a → SFits w32 b → to_z w64 (of_z w64 (to_z w64 (of_z w64 (to_z w16 (of_z w16 a))) *ℤ to_z w64 (of_z w64 (to_z w32 (of_z w32 b))))) ≡ a *ℤ b
product_back a b f g =
    let wa : to_z w64 (of_z w64 (to_z w16 (of_z w16 a))) ≡ a = omega (arith, ints) in
    let wb : to_z w64 (of_z w64 (to_z w32 (of_z w32 b))) ≡ b = omega (arith, ints) in
    let s = product_small a b f g in
    let h : SFits w64 (a *ℤ b) = omega (arith, ints) in
    (λ i. to_z w64 (of_z w64 (wa i *ℤ wb i))) ∙ to_z-of_z w64 (a *ℤ b) h

pub min_small : (p q : ℤ) → Small p → Small q → Small (int_min p q)
min_small p q f g = omega (arith, ints, clamps)

pub max_small : (p q : ℤ) → Small p → Small q → Small (int_max p q)
max_small p q f g = omega (arith, ints, clamps)

pub min_max : (p q : ℤ) → int_min p q ≤ℤ int_max p q
min_max p q = omega (arith, ints, clamps)
