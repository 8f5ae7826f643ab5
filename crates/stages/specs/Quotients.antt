-- The quotient that every stage but the colour transform is made of:
-- the floor of (the sum of taps times samples, plus a residue) over a power of two.
use Rattle.std.specs.Prelude.{◌≡◌, ℕ, List, [], ◌∷◌, ℤ, pos, ◌+ℤ◌, ◌*ℤ◌, ◌≤ℤ◌}
use Rattle.std.specs.Int.{int_max, int_min}
use Rattle.sets.specs.declared.bounds.Bounds.{Bounds}
use Rattle.stages.specs.Floors.{floor_over}

-- the sum of taps times samples
unfoldable pub sum_of : List ℤ → List ℤ → ℤ
sum_of [] xs = pos 0
sum_of (a ∷ ts) [] = pos 0
sum_of (a ∷ ts) (x ∷ xs) = a *ℤ x +ℤ sum_of ts xs

-- the quotient of taps ts, residue r and exponent e at the samples xs
unfoldable pub quotient_of : List ℤ → ℤ → ℕ → List ℤ → ℤ
quotient_of ts r e xs = floor_over (sum_of ts xs +ℤ r) e

-- the sum of one end of each product, where a sample is an end of its span
unfoldable pub end_sum : (ℤ → ℤ → ℤ) → List ℤ → List Bounds → ℤ
end_sum end [] bs = pos 0
end_sum end (a ∷ ts) [] = pos 0
end_sum end (a ∷ ts) (b ∷ bs) = end (a *ℤ b.least) (a *ℤ b.greatest) +ℤ end_sum end ts bs

-- the least and the greatest of such a sum, each sample being anywhere in its span, separately
abbrev pub least_sum : List ℤ → List Bounds → ℤ
least_sum ts bs = end_sum int_min ts bs

abbrev pub greatest_sum : List ℤ → List Bounds → ℤ
greatest_sum ts bs = end_sum int_max ts bs

-- the least and the greatest quotient over spans
unfoldable pub reach_of : List ℤ → ℤ → ℕ → List Bounds → Bounds
reach_of ts r e bs = record {
  least = floor_over (least_sum ts bs +ℤ r) e;
  greatest = floor_over (greatest_sum ts bs +ℤ r) e;
}

-- each sample lies in its span
pub data Inside : List ℤ → List Bounds → Type 0 where
  none : Inside [] []
  one : {x : ℤ} {xs : List ℤ} {b : Bounds} {bs : List Bounds} → b.least ≤ℤ x → x ≤ℤ b.greatest → Inside xs bs → Inside (x ∷ xs) (b ∷ bs)

-- some samples in the spans bs have the quotient z
pub record Reached (ts : List ℤ) (r : ℤ) (e : ℕ) (bs : List Bounds) (z : ℤ) : Type 0 where
  pub samples : List ℤ
  pub inside : Inside samples bs
  pub value : quotient_of ts r e samples ≡ z

-- q holds every quotient of samples in the spans bs, and both its ends are such quotients
pub record Extremes (ts : List ℤ) (r : ℤ) (e : ℕ) (bs : List Bounds) (q : Bounds) : Type 0 where
  pub above : (xs : List ℤ) → Inside xs bs → q.least ≤ℤ quotient_of ts r e xs
  pub below : (xs : List ℤ) → Inside xs bs → quotient_of ts r e xs ≤ℤ q.greatest
  pub least : Reached ts r e bs q.least
  pub greatest : Reached ts r e bs q.greatest
