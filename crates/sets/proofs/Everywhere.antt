-- Tests at each number below a bound, and the test of an area against its spans.
use Rattle.std.proofs.Common.{◌≡◌, ℕ, zero, suc, ◌+◌, ◌*◌, ◌<◌, ◌≤◌, Bool, true, false, ◌&&◌, List, length, ℤ, pos, Decides, refl, ap, inl, inr, mul-le-mul_right, suc-mul, add-one, arith}
use Rattle.std.specs.Int.Signed.{le_z}
use Rattle.std.specs.List.{between}
use Rattle.std.proofs.lemmas.List.Edits.{length-between, get_or-between}
use Rattle.std.proofs.lemmas.Int.{ints}
use Rattle.std.proofs.lemmas.Bool.{both_ways, cases_Bool, and_parts, and_from, and_right, eq-eqb}
use Rattle.std.proofs.lemmas.Bool.Decides.{Decides-below_and, Decides-and, Decides-eqb, Decides-like, not_from_Decides}
use Rattle.sets.specs.declared.bounds.Bounds.{Bounds}
use Rattle.sets.specs.declared.shape.Shape.{Shape}
use Rattle.sets.specs.Areas.{size_of, at, sample_at, span_at, In, Within, holds, every, within}

pub every-decides : (p : ℕ → Bool) (P : ℕ → Type 0) (n : ℕ) → ((k : ℕ) → Decides (p k) (P k)) → Decides (every n p) ((k : ℕ) → k < n → P k)
unfolding every
every-decides p P n each = Decides-below_and p P (λ i. every i p) each refl (λ _. refl) n

-- a loop's start and its step
pub every-none : (p : ℕ → Bool) → every 0 p ≡ true
unfolding every
every-none p = refl

pub every_more : (p : ℕ → Bool) (n : ℕ) → every (n + 1) p ≡ (p n && every n p)
unfolding every
every_more p n = rw add-one refl

pub every-same : (n : ℕ) (p q : ℕ → Bool) → ((k : ℕ) → k < n → p k ≡ q k) → every n p ≡ every n q
unfolding every
every-same zero p q h = refl
every-same (suc n) p q h =
    let here = h n (omega arith) in
    let below = every-same n p q (λ k l. h k (omega arith)) in
    rw (here, below)

pub every-fails : (p : ℕ → Bool) (n k : ℕ) → k < n → p k ≡ false → every n p ≡ false
every-fails p n k h e =
    elim (cases_Bool (every n p)) [
      | inl y ↦ absurd (both_ways (p k) e ((every-decides p (λ i. p i ≡ true) n (λ i. (λ t. t, λ t. t))).0 y k h))
      | inr y ↦ y
    ]

pub holds-decides : (b : Bounds) (x : ℤ) → Decides (holds b x) (In b x)
holds-decides b x = (
  λ e. let p = and_parts (le_z b.least x) (le_z x b.greatest) e in record { low = grind (arith, ints); high = grind (arith, ints) },
  λ i. let low = i.low in let high = i.high in and_from (le_z b.least x) (le_z x b.greatest) (grind (arith, ints)) (grind (arith, ints)),
)

pub within-decides : (f : Shape) (bs : List Bounds) (xs : List ℤ) → Decides (within f bs xs) (Within f bs xs)
within-decides f bs xs =
    Decides-like (within f bs xs) (λ p. record { long = p.0; inside = λ c t h k. p.1 c h t k }) (λ w. (w.long, λ c h t k. w.inside c t h k))
    (Decides-and _ _ (Decides-eqb (length xs) (size_of f))
    (every-decides _ _ f.channels (λ c. every-decides _ _ f.samples (λ t. holds-decides (span_at bs c) (sample_at f xs c t)))))

pub within-from-true : (f : Shape) (bs : List Bounds) (xs : List ℤ) → within f bs xs ≡ true → Within f bs xs
within-from-true f bs xs = (within-decides f bs xs).0

pub true_from_within : (f : Shape) (bs : List Bounds) (xs : List ℤ) → Within f bs xs → within f bs xs ≡ true
true_from_within f bs xs = (within-decides f bs xs).1

pub not_within_from_false : (f : Shape) (bs : List Bounds) (xs : List ℤ) → within f bs xs ≡ false → Within f bs xs → ⊥
not_within_from_false f bs xs = not_from_Decides (within f bs xs) (within-decides f bs xs)

-- what the test of an area asks of channel c
abbrev pub channel_holds : Shape → List Bounds → List ℤ → ℕ → Bool
channel_holds f bs xs c = every f.samples (λ t. holds (span_at bs c) (sample_at f xs c t))

pub within-each : (f : Shape) (bs : List Bounds) (xs : List ℤ) → length xs ≡ size_of f → ((c : ℕ) → c < f.channels → channel_holds f bs xs c ≡ true) → within f bs xs ≡ true
within-each f bs xs long each =
    and_from _ _ (eq-eqb _ _ long) ((every-decides (channel_holds f bs xs) _ f.channels (λ c. (λ t. t, λ t. t))).1 each)

pub within-fails : (f : Shape) (bs : List Bounds) (xs : List ℤ) (c : ℕ) → c < f.channels → channel_holds f bs xs c ≡ false → within f bs xs ≡ false
within-fails f bs xs c h e = and_right _ _ (every-fails (channel_holds f bs xs) f.channels c h e)

-- channel c of an area ends in it
pub channel-ends : (f : Shape) (c : ℕ) → c < f.channels → c * f.samples + f.samples ≤ size_of f
channel-ends f c h = let p = mul-le-mul_right f.samples h in omega (arith, suc-mul c f.samples, p)

-- channel c, as the part of the area that is handed on
abbrev pub channel_part : Shape → List ℤ → ℕ → List ℤ
channel_part f xs c = between (c * f.samples) (c * f.samples + f.samples) xs

pub every-of-part : (f : Shape) (xs : List ℤ) (c : ℕ) (p : ℤ → Bool) → c < f.channels → length xs ≡ size_of f → every (length (channel_part f xs c)) (λ t. p (at (channel_part f xs c) t)) ≡ every f.samples (λ t. p (sample_at f xs c t))
every-of-part f xs c p h long =
    let ends = channel-ends f c h in
    let n : length (channel_part f xs c) ≡ f.samples = omega (arith, length-between xs (c * f.samples) (c * f.samples + f.samples) (omega arith)) in
    rw n (every-same f.samples _ _ (λ t k. ap p (get_or-between xs (c * f.samples) (c * f.samples + f.samples) t (pos 0) (omega arith))))
