-- What lies in bounds of signed 32 bits is a number of signed 32 bits.
use Rattle.std.proofs.Common.{◌≡◌, ℕ, zero, suc, ◌+◌, ◌<◌, ◌≤◌, true, List, [], ◌∷◌, map, length, ℤ, pos, negsuc, ◌≤ℤ◌, sym, ◌∙◌, arith, w32, SFits}
use Rattle.std.proofs.lemmas.Int.{ints}
use Rattle.std.proofs.lemmas.Bool.{and_parts}
use Rattle.std.specs.List.{range_with_len}
use Rattle.sets.specs.declared.bounds.Bounds.{Bounds}
use Rattle.sets.specs.Areas.{span_at, In}
use Rattle.stages.specs.Ranges.{fits32, fits, all_fit}
use Rattle.stages.proofs.Every.{all_fit_map, every-all}

fits32-bounds : (z : ℤ) → fits32 z ≡ true → (negsuc 2147483647 ≤ℤ z) × (z ≤ℤ pos 2147483647)
fits32-bounds z h = (grind (arith, ints), grind (arith, ints))

pub in_fits : (b : Bounds) (x : ℤ) → fits b ≡ true → In b x → SFits w32 x
in_fits b x h i =
    let p = and_parts (fits32 b.least) _ h in
    let l = fits32-bounds b.least p.0 in
    let g = fits32-bounds b.greatest p.1 in
    omega (arith, ints)

pub all_fit_at : (bs : List Bounds) (c : ℕ) → c < length bs → all_fit bs ≡ true → fits (span_at bs c) ≡ true
all_fit_at [] c h a = absurd (omega arith)
all_fit_at (b ∷ bs) zero h a = (and_parts (fits b) (all_fit bs) a).0
all_fit_at (b ∷ bs) (suc c) h a = all_fit_at bs c (omega arith) (and_parts (fits b) (all_fit bs) a).1

pub all_fit_made : (g : ℕ → Bounds) (a n : ℕ) → all_fit (map g (range_with_len a n)) ≡ true → (j : ℕ) → a ≤ j → j < a + n → fits (g j) ≡ true
all_fit_made g a n h j l m = every-all (λ i. fits (g i)) a n (sym (all_fit_map g (range_with_len a n)) ∙ h) j l m
