-- Sums of ends of products, tap by tap.
use Rattle.std.proofs.Common.{◌≡◌, ℕ, zero, suc, ◌+◌, ◌<◌, ◌≤◌, List, [], ◌∷◌, length, get_or, drop, ℤ, pos, ◌+ℤ◌, ◌*ℤ◌, refl, add-one, arith}
use Rattle.std.proofs.Math.IntN.{*ℤ-zero}
use Rattle.std.proofs.lemmas.List.{drop_all}
use Rattle.std.proofs.lemmas.Int.{ints}
use Rattle.sets.specs.declared.bounds.Bounds.{Bounds}
use Rattle.stages.specs.Quotients.{end_sum}
use Rattle.stages.specs.Ranges.{at}

module _ (end : ℤ → ℤ → ℤ) (still : end (pos 0) (pos 0) ≡ pos 0) where
  end_none : (ts : List ℤ) → end_sum end ts [] ≡ pos 0
  unfolding end_sum
  end_none [] = refl
  end_none (a ∷ ts) = refl

  end_suc : (ts : List ℤ) (bs : List Bounds) (k : ℕ) → k < length ts → end_sum end (drop k ts) (drop k bs) ≡ end (get_or ts k (pos 0) *ℤ (at bs k).least) (get_or ts k (pos 0) *ℤ (at bs k).greatest) +ℤ end_sum end (drop (suc k) ts) (drop (suc k) bs)
  unfolding end_sum
  end_suc [] bs k h = absurd (omega arith)
  end_suc (a ∷ ts) [] zero h = simp (*ℤ-zero, still, end_none ts)
  end_suc (a ∷ ts) [] (suc k) h = simp (*ℤ-zero, still, end_none)
  end_suc (a ∷ ts) (b ∷ bs) zero h = refl
  end_suc (a ∷ ts) (b ∷ bs) (suc k) h = end_suc ts bs k (omega arith)

  -- one more product, as the code adds it
  pub end_more : (ts : List ℤ) (bs : List Bounds) (k : ℕ) (s p all : ℤ) → k < length ts → p ≡ end (get_or ts k (pos 0) *ℤ (at bs k).least) (get_or ts k (pos 0) *ℤ (at bs k).greatest) → s +ℤ end_sum end (drop k ts) (drop k bs) ≡ all → (s +ℤ p) +ℤ end_sum end (drop (k + 1) ts) (drop (k + 1) bs) ≡ all
  end_more ts bs k s p all h e i = rw add-one (let n = end_suc ts bs k h in omega (arith, ints))

  pub end_all : (ts : List ℤ) (bs : List Bounds) (k : ℕ) (s all : ℤ) → length ts ≤ k → s +ℤ end_sum end (drop k ts) (drop k bs) ≡ all → s ≡ all
  unfolding end_sum
  end_all ts bs k s all h e = let d : end_sum end (drop k ts) (drop k bs) ≡ pos 0 = rw (drop_all k ts h) refl in omega (arith, ints)
