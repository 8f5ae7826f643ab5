-- Sums of taps times samples, tap by tap.
use Rattle.std.proofs.Common.{◌≡◌, ℕ, zero, suc, ◌+◌, ◌<◌, ◌≤◌, List, [], ◌∷◌, length, get_or, take, drop, ℤ, pos, ◌+ℤ◌, ◌*ℤ◌, refl, ap, add-one, arith}
use Rattle.std.proofs.Math.IntN.{*ℤ-zero}
use Rattle.std.proofs.lemmas.List.{drop_all}
use Rattle.std.proofs.lemmas.Int.{ints}
use Rattle.stages.specs.Quotients.{sum_of}

sum_none : (ts : List ℤ) → sum_of ts [] ≡ pos 0
unfolding sum_of
sum_none [] = refl
sum_none (a ∷ ts) = refl

sum_suc : (ts xs : List ℤ) (k : ℕ) → k < length ts → sum_of (drop k ts) (drop k xs) ≡ get_or ts k (pos 0) *ℤ get_or xs k (pos 0) +ℤ sum_of (drop (suc k) ts) (drop (suc k) xs)
unfolding sum_of
sum_suc [] xs k h = absurd (omega arith)
sum_suc (a ∷ ts) [] zero h = simp (*ℤ-zero, sum_none ts)
sum_suc (a ∷ ts) [] (suc k) h = simp (*ℤ-zero, sum_none)
sum_suc (a ∷ ts) (x ∷ xs) zero h = refl
sum_suc (a ∷ ts) (x ∷ xs) (suc k) h = sum_suc ts xs k (omega arith)

-- one more product, as the code adds it
pub sum_more : (ts xs : List ℤ) (k : ℕ) (s p all : ℤ) → k < length ts → p ≡ get_or ts k (pos 0) *ℤ get_or xs k (pos 0) → s +ℤ sum_of (drop k ts) (drop k xs) ≡ all → (s +ℤ p) +ℤ sum_of (drop (k + 1) ts) (drop (k + 1) xs) ≡ all
sum_more ts xs k s p all h e i = rw add-one (let n = sum_suc ts xs k h in omega (arith, ints))

pub sum_all : (ts xs : List ℤ) (k : ℕ) (s all : ℤ) → length ts ≤ k → s +ℤ sum_of (drop k ts) (drop k xs) ≡ all → s ≡ all
unfolding sum_of
sum_all ts xs k s all h e = let d : sum_of (drop k ts) (drop k xs) ≡ pos 0 = rw (drop_all k ts h) refl in omega (arith, ints)

-- taps past the last sample add nothing
pub sum_cut : (ts xs : List ℤ) (n : ℕ) → length xs ≤ n → sum_of (take n ts) xs ≡ sum_of ts xs
unfolding sum_of
sum_cut [] xs zero h = refl
sum_cut [] xs (suc n) h = refl
sum_cut (a ∷ ts) [] zero h = refl
sum_cut (a ∷ ts) [] (suc n) h = refl
sum_cut (a ∷ ts) (x ∷ xs) zero h = absurd (omega arith)
sum_cut (a ∷ ts) (x ∷ xs) (suc n) h = ap (λ z. a *ℤ x +ℤ z) (sum_cut ts xs n (omega arith))

-- and so do samples past the last tap
pub sum_short : (ts xs : List ℤ) (n : ℕ) → length ts ≤ n → sum_of ts (take n xs) ≡ sum_of ts xs
unfolding sum_of
sum_short [] xs n h = refl
sum_short (a ∷ ts) [] zero h = refl
sum_short (a ∷ ts) [] (suc n) h = refl
sum_short (a ∷ ts) (x ∷ xs) zero h = absurd (omega arith)
sum_short (a ∷ ts) (x ∷ xs) (suc n) h = ap (λ z. a *ℤ x +ℤ z) (sum_short ts xs n (omega arith))
