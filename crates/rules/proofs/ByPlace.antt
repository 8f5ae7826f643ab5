-- Spans and areas that are made by place: what lies within what, and where two of them agree.
use Rattle.std.proofs.Common.{◌≡◌, ℕ, zero, suc, ◌+◌, ◌<◌, ◌≤◌, Bool, true, false, cond, List, ◌∷◌, map, length, ℤ, ◌-ℤ◌, sym, refl, ◌∙◌, arith}
use Rattle.std.proofs.lemmas.List.FromFn.{get_or-map-range_with_len}
use Rattle.std.proofs.lemmas.Int.{ints}
use Rattle.std.specs.List.{range_with_len}
use Rattle.sets.specs.declared.bounds.Bounds.{Bounds}
use Rattle.sets.specs.declared.shape.Shape.{Shape}
use Rattle.sets.specs.Areas.{sample_at, span_at, area_of, In, Within}
use Rattle.sets.specs.Ordered.{no_bounds}
use Rattle.stages.specs.Ranges.{lowered}
use Rattle.rack.specs.Laws.{SameSpans, SameSamples}
use Rattle.rules.proofs.Places.{length-area, sample_area}

pub lowered-in : (a b : Bounds) (x y : ℤ) → In a x → In b y → In (lowered a b) (x -ℤ y)
lowered-in a b x y h k = record { low = omega (arith, ints); high = omega (arith, ints) }

pub cond-in : (t : Bool) (a b : Bounds) (x y : ℤ) → (t ≡ true → In a x) → (t ≡ false → In b y) → In (cond t a b) (cond t x y)
cond-in true a b x y h k = h refl
cond-in false a b x y h k = k refl

pub same_in : (a b : Bounds) (x y : ℤ) → a ≡ b → x ≡ y → In b y → In a x
same_in a b x y e d h = rw (e, d) h

-- lists that are made by equal functions
pub map_same : {A : Type 0} (g h : ℕ → A) (a n : ℕ) → ((k : ℕ) → a ≤ k → k < a + n → g k ≡ h k) → map g (range_with_len a n) ≡ map h (range_with_len a n)
map_same g h a zero e = refl
map_same g h a (suc n) e = λ i. e a (omega arith) (omega arith) i ∷ map_same g h (a + 1) n (λ k l m. e k (omega arith) (omega arith)) i

-- the span of a channel where g makes n spans
pub span_made : (g : ℕ → Bounds) (n c : ℕ) → c < n → span_at (map g (range_with_len 0 n)) c ≡ g c
span_made g n c h = get_or-map-range_with_len g 0 n c c no_bounds h (omega arith)

module _ (f : Shape) where
  pub within-made : (g : ℕ → Bounds) (x : ℕ → ℕ → ℤ) (n : ℕ) → n ≡ f.channels → ((c t : ℕ) → c < f.channels → t < f.samples → In (g c) (x c t)) → Within f (map g (range_with_len 0 n)) (area_of f x)
  within-made g x n l i = record {
    long = length-area f x;
    inside = λ c t h k. same_in _ _ _ _ (span_made g n c (omega arith)) (sample_area f x c t h k) (i c t h k);
  }

  module _ (p : ℕ → Bool) where
    pub spans_kept : (g : ℕ → Bounds) (bs : List Bounds) → length bs ≡ f.channels → ((c : ℕ) → c < f.channels → p c ≡ true → span_at bs c ≡ g c) → SameSpans f p bs (map g (range_with_len 0 (length bs)))
    spans_kept g bs l e c h t = e c h t ∙ sym (span_made g (length bs) c (omega arith))

    pub spans_agree : (g d : ℕ → Bounds) (m n : ℕ) → m ≡ f.channels → n ≡ f.channels → ((c : ℕ) → c < f.channels → p c ≡ true → g c ≡ d c) → SameSpans f p (map g (range_with_len 0 m)) (map d (range_with_len 0 n))
    spans_agree g d m n k l e c h t = span_made g m c (omega arith) ∙ e c h t ∙ sym (span_made d n c (omega arith))

    pub samples_kept : (x : ℕ → ℕ → ℤ) (xs : List ℤ) → ((c t : ℕ) → c < f.channels → t < f.samples → p c ≡ true → sample_at f xs c t ≡ x c t) → SameSamples f p xs (area_of f x)
    samples_kept x xs e c t h k u = e c t h k u ∙ sym (sample_area f x c t h k)

    pub samples_agree : (x y : ℕ → ℕ → ℤ) → ((c t : ℕ) → c < f.channels → t < f.samples → p c ≡ true → x c t ≡ y c t) → SameSamples f p (area_of f x) (area_of f y)
    samples_agree x y e c t h k u = sample_area f x c t h k ∙ e c t h k u ∙ sym (sample_area f y c t h k)
