-- A stage on an area that it is admitted to.
use Rattle.std.specs.Prelude.{◌≡◌, Bool, true, false, List, length, ℤ, ◌≢◌}
use Rattle.sets.specs.declared.bounds.Bounds.{Bounds}
use Rattle.sets.specs.declared.shape.Shape.{Shape}
use Rattle.sets.specs.declared.span_list.SpanList.{SpanList}
use Rattle.sets.specs.Areas.{Within}
use Rattle.sets.specs.Sets.{in_limits, rows_of}
use Rattle.stages.specs.Plain.{Plain}
use Rattle.stages.specs.Ranges.{all_fit}
use Rattle.stages.specs.Stages.{fits_in, bounds_made}
use Rattle.rules.specs.Samples.{samples_after}

-- the stage fits, there is one span for each channel, and no bound that the stage makes is beyond signed 32 bits
pub record Workable (f : Shape) (s : Plain) (bs : List Bounds) : Type 0 where
  pub shape : in_limits f ≡ true
  pub fit : fits_in s f.channels ≡ true
  pub many : length bs ≡ f.channels
  pub made : all_fit (bounds_made f s bs) ≡ true

-- whether a set within the spans gives the area ys under the stage; if so, xs is one
abbrev pub FoundSet : Shape → Plain → List Bounds → List ℤ → Bool → List ℤ → Type 0
FoundSet f s bs ys true xs = Within f bs xs × (samples_after f s xs ≡ ys)
FoundSet f s bs ys false xs = (zs : List ℤ) → Within f bs zs → samples_after f s zs ≢ ys

-- xs became ys: what the stage makes of it, if xs is a set within spans that the stage may work on
abbrev pub Applied : Shape → Plain → List ℤ → List ℤ → Type 0
Applied f s xs ys = (l : SpanList) → Workable f s (rows_of l) → Within f (rows_of l) xs → ys ≡ samples_after f s xs

-- zs gives ys under the stage, if it lies within the spans, and no other set within them does
pub record OnlySource (f : Shape) (s : Plain) (bs : List Bounds) (ys zs : List ℤ) : Type 0 where
  pub gives : Within f bs zs → samples_after f s zs ≡ ys
  pub only : (xs : List ℤ) → Within f bs xs → samples_after f s xs ≡ ys → zs ≡ xs

-- no set within the spans gives ys under the stage
abbrev pub NoSource : Shape → Plain → List Bounds → List ℤ → Type 0
NoSource f s bs ys = (xs : List ℤ) → Within f bs xs → samples_after f s xs ≢ ys

-- whether ys was taken back, to zs, whatever the spans
abbrev pub TakenBack : Shape → Plain → List ℤ → Bool → List ℤ → Type 0
TakenBack f s ys true zs = (l : SpanList) → Workable f s (rows_of l) → OnlySource f s (rows_of l) ys zs
TakenBack f s ys false zs = (l : SpanList) → Workable f s (rows_of l) → NoSource f s (rows_of l) ys
