-- The reach of a quotient holds every quotient of samples in the spans, and both its ends are such quotients.
use Rattle.std.proofs.Common.{◌≡◌, ℕ, suc, ◌*◌, ◌<◌, ◌≤◌, Bool, true, false, cond, List, [], ◌∷◌, length, ℤ, pos, negsuc, ◌+ℤ◌, ◌*ℤ◌, ◌≤ℤ◌, refl, ap, mul-le-mul_left, arith}
use Rattle.std.specs.Int.Signed.{lt_z}
use Rattle.std.proofs.lemmas.List.{get_or-take, length-take}
use Rattle.std.proofs.lemmas.Int.{ints, clamps}
use Rattle.std.specs.Int.{int_max, int_min}
use Rattle.sets.specs.declared.bounds.Bounds.{Bounds}
use Rattle.sets.specs.declared.span_list.SpanList.{SpanList}
use Rattle.sets.specs.Ordered.{no_bounds}
use Rattle.sets.specs.Sets.{rows_of}
use Rattle.stages.specs.Floors.{floor_over}
use Rattle.stages.specs.Quotients.{sum_of, quotient_of, end_sum, reach_of, Inside, none, one, Extremes}
use Rattle.stages.specs.Ranges.{at}
use Rattle.stages.proofs.Floors.{floor_mono}

times_rise : (n : ℕ) (x y : ℤ) → x ≤ℤ y → (pos n *ℤ x) ≤ℤ (pos n *ℤ y)
times_rise n (pos x) (pos y) h = let m : n * x ≤ n * y = mul-le-mul_left n (omega (arith, ints)) in omega (arith, ints)
times_rise n (pos x) (negsuc y) h = absurd (omega (arith, ints))
times_rise n (negsuc x) (pos y) h = omega (arith, ints)
times_rise n (negsuc x) (negsuc y) h = let m : n * suc y ≤ n * suc x = mul-le-mul_left n (omega (arith, ints)) in omega (arith, ints)

times_fall : (n : ℕ) (x y : ℤ) → x ≤ℤ y → (negsuc n *ℤ y) ≤ℤ (negsuc n *ℤ x)
times_fall n (pos x) (pos y) h = let m : suc n * x ≤ suc n * y = mul-le-mul_left (suc n) (omega (arith, ints)) in omega (arith, ints)
times_fall n (pos x) (negsuc y) h = absurd (omega (arith, ints))
times_fall n (negsuc x) (pos y) h = omega (arith, ints)
times_fall n (negsuc x) (negsuc y) h = let m : suc n * suc y ≤ suc n * suc x = mul-le-mul_left (suc n) (omega (arith, ints)) in omega (arith, ints)

-- a product lies between the products of the ends
between : (a l x g : ℤ) → l ≤ℤ x → x ≤ℤ g → (int_min (a *ℤ l) (a *ℤ g) ≤ℤ (a *ℤ x)) × ((a *ℤ x) ≤ℤ int_max (a *ℤ l) (a *ℤ g))
between (pos n) l x g h k = let u = times_rise n l x h in let v = times_rise n x g k in (omega (arith, ints, clamps), omega (arith, ints, clamps))
between (negsuc n) l x g h k = let u = times_fall n l x h in let v = times_fall n x g k in (omega (arith, ints, clamps), omega (arith, ints, clamps))

-- each span holds a sample
abbrev pub Rising : List Bounds → Type 0
Rising bs = (k : ℕ) → k < length bs → (at bs k).least ≤ℤ (at bs k).greatest

pub sum_between : (ts xs : List ℤ) (bs : List Bounds) → Inside xs bs → (end_sum int_min ts bs ≤ℤ sum_of ts xs) × (sum_of ts xs ≤ℤ end_sum int_max ts bs)
unfolding end_sum sum_of
sum_between [] xs bs i = (omega (arith, ints), omega (arith, ints))
sum_between (a ∷ ts) xs bs none = (omega (arith, ints), omega (arith, ints))
sum_between (a ∷ ts) xs bs (one {x} {xs = ys} {b} {bs = cs} h k i) =
    let p = between a b.least x b.greatest h k in
    let r = sum_between ts ys cs i in
    (omega (arith, ints), omega (arith, ints))

-- a way to choose an end of a span for a tap, which reaches an end of the product
module _ (end : ℤ → ℤ → ℤ) (pick : ℤ → Bounds → ℤ)
    (reaches : (a : ℤ) (b : Bounds) → a *ℤ pick a b ≡ end (a *ℤ b.least) (a *ℤ b.greatest))
    (inside : (a : ℤ) (b : Bounds) → b.least ≤ℤ b.greatest → (b.least ≤ℤ pick a b) × (pick a b ≤ℤ b.greatest)) where
  picked : List ℤ → List Bounds → List ℤ
  picked ts [] = []
  picked [] (b ∷ bs) = b.least ∷ picked [] bs
  picked (a ∷ ts) (b ∷ bs) = pick a b ∷ picked ts bs

  picked_sum : (ts : List ℤ) (bs : List Bounds) → sum_of ts (picked ts bs) ≡ end_sum end ts bs
  unfolding end_sum sum_of picked
  picked_sum [] bs = refl
  picked_sum (a ∷ ts) [] = refl
  picked_sum (a ∷ ts) (b ∷ bs) = λ i. reaches a b i +ℤ picked_sum ts bs i

  picked_inside : (ts : List ℤ) (bs : List Bounds) → Rising bs → Inside (picked ts bs) bs
  unfolding picked
  picked_inside [] [] o = none
  picked_inside (a ∷ ts) [] o = none
  picked_inside [] (b ∷ bs) o = let h = o 0 (omega arith) in one (omega (arith, ints)) h (picked_inside [] bs (λ k l. o (suc k) (omega arith)))
  picked_inside (a ∷ ts) (b ∷ bs) o = let h = inside a b (o 0 (omega arith)) in one h.0 h.1 (picked_inside ts bs (λ k l. o (suc k) (omega arith)))

times_cond : (a : ℤ) (t : Bool) (x y : ℤ) → a *ℤ cond t x y ≡ cond t (a *ℤ x) (a *ℤ y)
times_cond a true x y = refl
times_cond a false x y = refl

either_inside : (t : Bool) (l g x y : ℤ) → l ≤ℤ x → x ≤ℤ g → l ≤ℤ y → y ≤ℤ g → (l ≤ℤ cond t x y) × (cond t x y ≤ℤ g)
either_inside true l g x y h k m n = (h, k)
either_inside false l g x y h k m n = (m, n)

-- the greatest sample of a span where the tap turns the span round, and else the least; and the other way round
abbrev low : ℤ → Bounds → ℤ
low a b = cond (lt_z (a *ℤ b.greatest) (a *ℤ b.least)) b.greatest b.least

abbrev high : ℤ → Bounds → ℤ
high a b = cond (lt_z (a *ℤ b.greatest) (a *ℤ b.least)) b.least b.greatest

low-inside : (a : ℤ) (b : Bounds) → b.least ≤ℤ b.greatest → (b.least ≤ℤ low a b) × (low a b ≤ℤ b.greatest)
low-inside a b o = either_inside _ _ _ _ _ o (omega (arith, ints)) (omega (arith, ints)) o

high-inside : (a : ℤ) (b : Bounds) → b.least ≤ℤ b.greatest → (b.least ≤ℤ high a b) × (high a b ≤ℤ b.greatest)
high-inside a b o = either_inside _ _ _ _ _ (omega (arith, ints)) o o (omega (arith, ints))

pub reach_extremes : (ts : List ℤ) (r : ℤ) (e : ℕ) (bs : List Bounds) → Rising bs → Extremes ts r e bs (reach_of ts r e bs)
unfolding reach_of quotient_of
reach_extremes ts r e bs o =
    let at-floor : ℤ → ℤ = λ s. floor_over (s +ℤ r) e in
    record {
      above = λ xs i. let s = sum_between ts xs bs i in floor_mono _ _ e (omega (arith, ints));
      below = λ xs i. let s = sum_between ts xs bs i in floor_mono _ _ e (omega (arith, ints));
      least = record {
        samples = picked int_min low (λ a b. times_cond a _ _ _) low-inside ts bs;
        inside = picked_inside int_min low (λ a b. times_cond a _ _ _) low-inside ts bs o;
        value = ap at-floor (picked_sum int_min low (λ a b. times_cond a _ _ _) low-inside ts bs);
      };
      greatest = record {
        samples = picked int_max high (λ a b. times_cond a _ _ _) high-inside ts bs;
        inside = picked_inside int_max high (λ a b. times_cond a _ _ _) high-inside ts bs o;
        value = ap at-floor (picked_sum int_max high (λ a b. times_cond a _ _ _) high-inside ts bs);
      };
    }

-- the rows of a list of spans
pub rows_rising : (l : SpanList) → Rising (rows_of l)
rows_rising l k h =
    let n : k < l.len = omega (arith, length-take l.len l.rows) in
    rw (get_or-take l.len l.rows k no_bounds n) (l.ordered k n)
