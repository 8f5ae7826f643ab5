-- Indices outside a line: mirrored by the relation, and by the function.
use Rattle.std.proofs.Common.{◌≡◌, ℕ, zero, suc, ◌+◌, ◌-◌, ◌*◌, ◌%◌, ◌<◌, ◌≤◌, ℤ, pos, negsuc, ◌-ℤ◌, nat_abs, ◌≤ℤ◌, ◌<ℤ◌, sym, refl, ◌∙◌, subst, ⊎_elim, min, neg_ℤ, add-one, arith}
use Rattle.std.proofs.Math.Nat.{mod-eq_of_lt, mod-eq-sub-mod}
use Rattle.std.proofs.lemmas.Int.{ints}
use Rattle.std.proofs.lemmas.Bool.{cond-true, cond-false, lt-ltb, le-ltb, cases_lt}
use Rattle.stages.specs.Lines.{MirroredTo, inside, below, above, mirror_by, mirror, nearest}

-- how many mirrorings are enough
abbrev turns : ℤ → ℕ
turns (pos k) = 2 * k
turns (negsuc k) = 2 * k + 3

turns-above : (n k : ℕ) (w : ℤ) → 2 ≤ n → n ≤ k → w ≡ pos (2 * (n - 1)) -ℤ pos k → turns w < 2 * k
turns-above n k (pos j) h l e = omega (arith, ints)
turns-above n k (negsuc j) h l e = omega (arith, ints)

mirrored_by : (n f i : ℕ) (z : ℤ) → 2 ≤ n → turns z < f → MirroredTo n z i → i ≡ mirror_by n f z
mirrored_by n zero i z h l m = absurd (omega arith)
mirrored_by n (suc f) i z h l (inside {i = j} p) = sym (cond-true _ _ _ (lt-ltb j n p))
mirrored_by n (suc f) i z h l (below {k} m) = mirrored_by n f i (pos (suc k)) h (omega arith) m
mirrored_by n (suc f) i z h l (above {k} p m) = mirrored_by n f i _ h (omega (arith, turns-above n k _ h p refl)) m ∙ sym (cond-false _ _ _ (le-ltb k n p))

pub mirrored_is : (n i : ℕ) (z : ℤ) → 2 ≤ n → MirroredTo n z i → i ≡ mirror n z
unfolding mirror
mirrored_is n i (pos k) h m = mirrored_by n (2 * k + 2) i (pos k) h (omega arith) m
mirrored_is n i (negsuc k) h m = mirrored_by n (2 * suc k + 2) i (negsuc k) h (omega arith) m

-- the place of k in a period of mirrorings, there and back
abbrev pub turned : ℕ → ℕ → ℕ
turned n k = min (k % (2 * (n - 1))) (2 * (n - 1) - k % (2 * (n - 1)))

pub turned-inside : (n k : ℕ) → 2 ≤ n → k < n → turned n k ≡ k
turned-inside n k h l = let e : k % (2 * (n - 1)) ≡ k = mod-eq_of_lt (omega arith) in rw e (omega arith)

mirrored-back : (n i k : ℕ) → MirroredTo n (pos k) i → MirroredTo n (neg_ℤ (pos k)) i
mirrored-back n i zero m = m
mirrored-back n i (suc k) m = below m

mirrored-turn : (n f k : ℕ) → 2 ≤ n → k < f → MirroredTo n (pos k) (turned n k)
mirrored-turn n zero k h l = absurd (omega arith)
mirrored-turn n (suc f) k h l =
    let p : ℕ = 2 * (n - 1) in
    ⊎_elim (λ low. subst (MirroredTo n (pos k)) (sym (turned-inside n k h low)) (inside low)) (λ (high : n ≤ k).
    above high (⊎_elim
    (λ (near : k < p).
    let e : k % p ≡ k = mod-eq_of_lt near in
    let i : turned n k ≡ p - k = rw e (omega arith) in
    let z : pos p -ℤ pos k ≡ pos (p - k) = omega (arith, ints) in
    rw (z, i) (inside {i = p - k} (omega arith)))
    (λ (far : p ≤ k).
    let e : k % p ≡ (k - p) % p = mod-eq-sub-mod far in
    let z : pos p -ℤ pos k ≡ neg_ℤ (pos (k - p)) = omega (arith, ints) in
    rw (z, e) (mirrored-back n _ (k - p) (mirrored-turn n f (k - p) h (omega arith))))
    (cases_lt k p))) (cases_lt k n)

pub mirrored-turned : (n : ℕ) (z : ℤ) → 2 ≤ n → MirroredTo n z (turned n (nat_abs z))
mirrored-turned n (pos k) h = mirrored-turn n (suc k) k h (omega arith)
mirrored-turned n (negsuc k) h = mirrored-back n _ (suc k) (mirrored-turn n (suc (suc k)) (suc k) h (omega arith))

pub nearest-below : (n : ℕ) (z : ℤ) → z <ℤ pos 0 → nearest n z ≡ nat_abs z % 2
unfolding nearest
nearest-below n (pos k) h = absurd (omega (arith, ints))
nearest-below n (negsuc k) h = rw add-one

pub nearest-inside : (n : ℕ) (z : ℤ) → pos 0 ≤ℤ z → nat_abs z < n → nearest n z ≡ nat_abs z
unfolding nearest
nearest-inside n (pos k) g h = cond-true _ _ _ (lt-ltb k n h)
nearest-inside n (negsuc k) g h = absurd (omega (arith, ints))

pub nearest-above : (n : ℕ) (z : ℤ) → pos 0 ≤ℤ z → n ≤ nat_abs z → nearest n z ≡ n - 1 - (nat_abs z - (n - 1)) % 2
unfolding nearest
nearest-above n (pos k) g h = cond-false _ _ _ (le-ltb k n h)
nearest-above n (negsuc k) g h = absurd (omega (arith, ints))

-- the three cases of the nearest index
pub ruleset nearest_cases = (nearest-below, nearest-inside, nearest-above)
