-- The index that is read for an index outside a line is inside it, and has the same parity.
use Rattle.std.proofs.Common.{◌≡◌, ℕ, zero, suc, ◌+◌, ◌-◌, ◌*◌, ◌/◌, ◌%◌, ◌<◌, ◌≤◌, ℤ, pos, negsuc, ◌+ℤ◌, ◌-ℤ◌, ◌*ℤ◌, nat_abs, sym, refl, subst, inl, inr, arith}
use Rattle.std.proofs.lemmas.Int.{ints}
use Rattle.std.proofs.lemmas.Bool.{cond-true, cond-false, lt-ltb, le-ltb, cases_lt}
use Rattle.std.proofs.lemmas.Bool.Decides.{nat_tests}
use Rattle.stages.specs.declared.stage.Extension.{Extension}
use Rattle.stages.specs.declared.stage.Extension.TheVariants.{Mirrored, Nearest}
use Rattle.stages.specs.declared.stage.Parity.{Parity}
use Rattle.stages.specs.Lifting.{parity_of, source_index}
use Rattle.stages.specs.Lines.{MirroredTo, inside, below, above, mirror_by, mirror, nearest, extended}

-- how many mirrorings are enough
abbrev turns : ℤ → ℕ
turns (pos k) = 2 * k
turns (negsuc k) = 2 * k + 3

turns-above : (n k : ℕ) (w : ℤ) → 2 ≤ n → n ≤ k → w ≡ pos (2 * (n - 1)) -ℤ pos k → turns w < 2 * k
turns-above n k (pos j) h l e = omega (arith, ints)
turns-above n k (negsuc j) h l e = omega (arith, ints)

-- the function's answer is one that the relation allows
mirror_by-to : (n f : ℕ) (z : ℤ) → 2 ≤ n → turns z < f → MirroredTo n z (mirror_by n f z)
mirror_by-to n zero z h l = absurd (omega arith)
mirror_by-to n (suc f) (negsuc k) h l = below (mirror_by-to n f (pos (suc k)) h (omega arith))
mirror_by-to n (suc f) (pos k) h l =
    let w = pos (2 * (n - 1)) -ℤ pos k in
    elim (cases_lt k n) [
      | inl p ↦ subst (λ i. MirroredTo n (pos k) i) (sym (cond-true _ _ _ (lt-ltb k n p))) (inside p)
      | inr p ↦ subst (λ i. MirroredTo n (pos k) i) (sym (cond-false _ _ _ (le-ltb k n p))) (above p (mirror_by-to n f w h (omega (arith, turns-above n k w h p refl))))
    ]

pub mirror-to : (n : ℕ) (z : ℤ) → 2 ≤ n → MirroredTo n z (mirror n z)
unfolding mirror
mirror-to n (pos k) h = mirror_by-to n (2 * k + 2) (pos k) h (omega arith)
mirror-to n (negsuc k) h = mirror_by-to n (2 * suc k + 2) (negsuc k) h (omega arith)

pub mirrored_below : (n : ℕ) (z : ℤ) (i : ℕ) → MirroredTo n z i → i < n
mirrored_below n z i (inside l) = l
mirrored_below n z i (below {k} m) = mirrored_below n (pos (suc k)) i m
mirrored_below n z i (above {k} l m) = mirrored_below n _ i m

pub mirrored_parity : (n : ℕ) (z : ℤ) (i : ℕ) → 1 ≤ n → MirroredTo n z i → i % 2 ≡ nat_abs z % 2
mirrored_parity n z i h (inside l) = refl
mirrored_parity n z i h (below {k} m) = mirrored_parity n (pos (suc k)) i h m
mirrored_parity n z i h (above {k} l m) = let r = mirrored_parity n (pos (2 * (n - 1)) -ℤ pos k) i h m in omega (arith, ints)

nearest-below-end : (n : ℕ) (z : ℤ) → 2 ≤ n → nearest n z < n
unfolding nearest
nearest-below-end n (negsuc k) h = omega arith
nearest-below-end n (pos k) h = grind (arith, nat_tests)

nearest-parity : (n : ℕ) (z : ℤ) → 2 ≤ n → nearest n z % 2 ≡ nat_abs z % 2
unfolding nearest
nearest-parity n (negsuc k) h = omega arith
nearest-parity n (pos k) h = grind (arith, nat_tests)

pub extended-below : (e : Extension) (n : ℕ) (z : ℤ) → 2 ≤ n → extended e n z < n
extended-below Mirrored n z h = mirrored_below n z _ (mirror-to n z h)
extended-below Nearest n z h = nearest-below-end n z h

pub extended-parity : (e : Extension) (n : ℕ) (z : ℤ) → 2 ≤ n → extended e n z % 2 ≡ nat_abs z % 2
extended-parity Mirrored n z h = mirrored_parity n z _ (omega arith) (mirror-to n z h)
extended-parity Nearest n z h = nearest-parity n z h

-- An index counted from the first one of the line, q, and put back: its parity stays.
pub extended-from-parity : (e : Extension) (n q : ℕ) (z : ℤ) → 2 ≤ n → (q + extended e n (z -ℤ pos q)) % 2 ≡ nat_abs z % 2
extended-from-parity e n q z h = moved_parity q (extended e n (z -ℤ pos q)) z (extended-parity e n (z -ℤ pos q) h)
  where
    moved_parity : (q i : ℕ) (z : ℤ) → i % 2 ≡ nat_abs (z -ℤ pos q) % 2 → (q + i) % 2 ≡ nat_abs z % 2
    moved_parity q i (pos a) e = omega (arith, ints)
    moved_parity q i (negsuc a) e = omega (arith, ints)

-- a double and one more or none is odd or even
double_parity : (w : ℤ) (b : ℕ) → b ≤ 1 → nat_abs (pos 2 *ℤ w +ℤ pos b) % 2 ≡ b
double_parity (pos a) b h = omega (arith, ints)
double_parity (negsuc a) b h = omega (arith, ints)

-- what a step reads for an index of its parity has the other parity
pub source_parity : (m : Parity) (i : ℕ) (off : ℤ) (k : ℕ) → nat_abs (source_index (parity_of m) i off k) % 2 ≡ 1 - parity_of m
source_parity m i off k = double_parity (pos (i / 2) +ℤ (off +ℤ pos k)) (1 - parity_of m) (omega arith)
