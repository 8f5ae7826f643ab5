-- The colours of one instant in wrapping arithmetic: exact where they fit, and undone exactly.
use Rattle.std.proofs.Common.{◌≡◌, true, false, ℤ, pos, ◌+ℤ◌, ◌-ℤ◌, ◌*ℤ◌, neg_ℤ, sym, ap, ◌∙◌, subst, arith, w32, SFits}
use Rattle.std.specs.Int.{int_wrap}
use Rattle.std.proofs.lemmas.Int.{ints, int_wrap_fits}
use Rattle.stages.proofs.Floors.{is_floor}
use Rattle.stages.specs.Floors.{floor_over}
use Rattle.transform.specs.declared.rct.Colours.{Colours}
use Rattle.transform.specs.Colours.{recoloured}
use Rattle.transform.proofs.Recolours.{colours, same-colours}
use Rattle.transform.proofs.Turning.{taken-added}

-- the transform of three samples by its rule
abbrev pub exact : ℤ → ℤ → ℤ → Colours
exact a b c = colours (floor_over (a +ℤ (pos 2 *ℤ b +ℤ c)) 2) (c -ℤ b) (a -ℤ b)

pub record AllFit (k : Colours) : Type 0 where
  pub first : SFits w32 k.first
  pub second : SFits w32 k.second
  pub third : SFits w32 k.third

-- the sum is four times the middle sample and the two differences
luma-is : (a b c : ℤ) → floor_over (a +ℤ (pos 2 *ℤ b +ℤ c)) 2 ≡ b +ℤ floor_over ((c -ℤ b) +ℤ (a -ℤ b)) 2
luma-is a b c =
    let p = is_floor (a +ℤ (pos 2 *ℤ b +ℤ c)) 2 in
    let q = is_floor ((c -ℤ b) +ℤ (a -ℤ b)) 2 in
    omega (arith, ints, p.reached, p.greatest, q.reached, q.greatest)

pub recoloured-exact : (a b c : ℤ) → AllFit (exact a b c) → recoloured false a b c ≡ exact a b c
recoloured-exact a b c f = same-colours _ _ _ _ _ _ (int_wrap_fits w32 _ f.first) (int_wrap_fits w32 _ f.second) (int_wrap_fits w32 _ f.third)

-- a sum that wraps, less what was added
added_away : (x v m : ℤ) → SFits w32 x → SFits w32 (v -ℤ m) → v ≡ int_wrap w32 (x +ℤ m) → v -ℤ m ≡ x
added_away x v m f g e =
    let less : v -ℤ m ≡ v +ℤ neg_ℤ m = omega (arith, ints) in
    let more : x +ℤ m ≡ x -ℤ neg_ℤ m = omega (arith, ints) in
    less ∙ taken-added x v (neg_ℤ m) f (subst (SFits w32) less g) (e ∙ ap (int_wrap w32) more)

pub uncoloured_exact : (y0 y1 y2 z0 z1 z2 : ℤ) → AllFit (colours y0 y1 y2) → colours z0 z1 z2 ≡ recoloured true y0 y1 y2 → AllFit (exact z0 z1 z2) → exact z0 z1 z2 ≡ colours y0 y1 y2
uncoloured_exact y0 y1 y2 z0 z1 z2 f e g =
    let middle : z1 ≡ int_wrap w32 (y0 -ℤ floor_over (y1 +ℤ y2) 2) = ap (λ k. k.second) e in
    let one : z2 -ℤ z1 ≡ y1 = added_away y1 z2 z1 f.second g.second (ap (λ k. k.third) e ∙ ap (λ m. int_wrap w32 (y1 +ℤ m)) (sym middle)) in
    let other : z0 -ℤ z1 ≡ y2 = added_away y2 z0 z1 f.third g.third (ap (λ k. k.first) e ∙ ap (λ m. int_wrap w32 (y2 +ℤ m)) (sym middle)) in
    let luma : floor_over (z0 +ℤ (pos 2 *ℤ z1 +ℤ z2)) 2 ≡ z1 +ℤ floor_over (y1 +ℤ y2) 2 = luma-is z0 z1 z2 ∙ (λ i. z1 +ℤ floor_over (one i +ℤ other i) 2) in
    same-colours _ _ _ _ _ _ (luma ∙ taken-added y0 z1 (floor_over (y1 +ℤ y2) 2) f.first (subst (SFits w32) luma g.first) middle) one other

pub uncoloured_only : (a b c : ℤ) → AllFit (colours a b c) → recoloured true (exact a b c).first (exact a b c).second (exact a b c).third ≡ colours a b c
uncoloured_only a b c f =
    let e = luma-is a b c in
    let less : floor_over (a +ℤ (pos 2 *ℤ b +ℤ c)) 2 -ℤ floor_over ((c -ℤ b) +ℤ (a -ℤ b)) 2 ≡ b = omega (arith, ints) in
    let middle : int_wrap w32 (floor_over (a +ℤ (pos 2 *ℤ b +ℤ c)) 2 -ℤ floor_over ((c -ℤ b) +ℤ (a -ℤ b)) 2) ≡ b = ap (int_wrap w32) less ∙ int_wrap_fits w32 b f.second in
    let one : (a -ℤ b) +ℤ b ≡ a = omega (arith, ints) in
    let other : (c -ℤ b) +ℤ b ≡ c = omega (arith, ints) in
    same-colours _ _ _ _ _ _
    (ap (λ m. int_wrap w32 ((a -ℤ b) +ℤ m)) middle ∙ ap (int_wrap w32) one ∙ int_wrap_fits w32 a f.first)
    middle
    (ap (λ m. int_wrap w32 ((c -ℤ b) +ℤ m)) middle ∙ ap (int_wrap w32) other ∙ int_wrap_fits w32 c f.third)
