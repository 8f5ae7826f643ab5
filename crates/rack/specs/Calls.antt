-- What the calls of a rack answer, and what lists and areas then hold.
use Rattle.std.specs.Prelude.{◌≡◌, ℕ, ◌<◌, ◌≤◌, Bool, true, false, cond, List, length, ℤ, Some, None, Ok, Err, Option, Result, ◌==◌, ◌≢◌, is_some, nat_lt, slice_index, unwrap_or}
use Rattle.sets.specs.declared.bounds.Bounds.{Bounds}
use Rattle.sets.specs.declared.refusal.Refusal.{Refusal}
use Rattle.sets.specs.declared.refusal.Refusal.TheVariants.{BadShape, SpanCount, AreaLength, NoSuchStage, DoesNotFit, TooWide, OutsideSpan, Foreign}
use Rattle.sets.specs.declared.shape.Shape.{Shape}
use Rattle.sets.specs.Areas.{size_of, within, zeros}
use Rattle.sets.specs.Sets.{in_limits}
use Rattle.rack.specs.Meanings.{Meaning, Undone, Restored}

-- the first refusal whose cause holds: a cause is a test that should have passed
abbrev pub unless : Bool → Refusal → Option Refusal → Option Refusal
unless true e rest = rest
unless false e rest = Some e

-- a shape beyond its limits, not one span for each channel, and then the rest
abbrev pub shape_refused : Shape → List Bounds → Option Refusal → Option Refusal
shape_refused f bs rest = unless (in_limits f) BadShape (unless (length bs == f.channels) SpanCount rest)

-- no such stage, a stage that does not fit, and then the rest
abbrev pub stage_refused : Meaning → Shape → ℕ → Option Refusal → Option Refusal
stage_refused m f k rest = unless (nat_lt k m.stages) NoSuchStage (unless (m.fits f.channels k) DoesNotFit rest)

abbrev pub width_refused : Meaning → Shape → ℕ → List Bounds → Option Refusal
width_refused m f k bs = unless (is_some (m.widened f k bs)) TooWide None

-- what list, spans, and both apply and undo are refused for, before a sample is looked at, in this order
unfoldable pub list_refused : Meaning → Shape → ℕ → Option Refusal
list_refused m f k = unless (in_limits f) BadShape (stage_refused m f k None)

unfoldable pub spans_refused : Meaning → Shape → ℕ → List Bounds → Option Refusal
spans_refused m f k bs = shape_refused f bs (stage_refused m f k (width_refused m f k bs))

unfoldable pub area_refused : Meaning → Shape → ℕ → List Bounds → ℕ → Option Refusal
area_refused m f k bs n = shape_refused f bs (unless (n == size_of f) AreaLength (stage_refused m f k (width_refused m f k bs)))

abbrev pub answered : Option Refusal → Result Unit Refusal
answered None = Ok tt
answered (Some e) = Err e

-- what a call of spans leaves in the list
abbrev pub spans_left : Meaning → Shape → ℕ → List Bounds → Option Refusal → List Bounds
spans_left m f k bs (Some e) = bs
spans_left m f k bs None = unwrap_or (m.widened f k bs) bs

-- apply's answer r, and ys, what the area xs then holds
abbrev pub ApplyAnswer : Meaning → Shape → ℕ → List Bounds → List ℤ → Option Refusal → Result Unit Refusal → List ℤ → Type 0
ApplyAnswer m f k bs xs (Some e) r ys = (r ≡ Err e) × (ys ≡ xs)
ApplyAnswer m f k bs xs None r ys = (r ≡ cond (within f bs xs) (Ok tt) (Err OutsideSpan)) × (ys ≡ cond (within f bs xs) (m.transformed f k xs) (zeros xs))

-- undo, where nothing is refused before: accepted with the only set, or foreign with zeros where there is none
abbrev pub UndoFound : Meaning → Shape → ℕ → List Bounds → List ℤ → Result Unit Refusal → List ℤ → Type 0
UndoFound m f k bs ys (Ok _) xs = Restored m f k bs ys xs
UndoFound m f k bs ys (Err e) xs = (e ≡ Foreign) × (xs ≡ zeros ys) × ((zs : List ℤ) → Undone m f k bs ys zs → ⊥)

abbrev pub UndoAnswer : Meaning → Shape → ℕ → List Bounds → List ℤ → Option Refusal → Result Unit Refusal → List ℤ → Type 0
UndoAnswer m f k bs ys (Some e) r xs = (r ≡ Err e) × (xs ≡ ys)
UndoAnswer m f k bs ys None r xs = UndoFound m f k bs ys r xs

-- what a maker's own code answers where nothing is refused before: whether there is a set, and the set
abbrev pub Found : Meaning → Shape → ℕ → List Bounds → List ℤ → Bool → List ℤ → Type 0
Found m f k bs ys true xs = Undone m f k bs ys xs
Found m f k bs ys false xs = (zs : List ℤ) → Undone m f k bs ys zs → ⊥

-- the listed channels below a bound, each once, in any order, are the first n of the list; what stands after them stays
pub record Listed (m : Meaning) (f : Shape) (k bound : ℕ) (before after : List ℕ) (n : ℕ) : Type 0 where
  pub few : n ≤ bound
  pub listed : (i : ℕ) → i < n → (slice_index after i < bound) × (m.listed f k (slice_index after i) ≡ true)
  pub once : (i j : ℕ) → i < j → j < n → slice_index after i ≢ slice_index after j
  pub all : (c : ℕ) → c < bound → m.listed f k c ≡ true → (i : ℕ) × (i < n) × (slice_index after i ≡ c)
  pub rest : (i : ℕ) → n ≤ i → slice_index after i ≡ slice_index before i

abbrev pub ListAnswer : Meaning → Shape → ℕ → List ℕ → Option Refusal → Result ℕ Refusal → List ℕ → Type 0
ListAnswer m f k before (Some e) r after = (r ≡ Err e) × (after ≡ before)
ListAnswer m f k before None (Ok n) after = Listed m f k f.channels before after n
ListAnswer m f k before None (Err e) after = ⊥

-- what list, spans, apply and undo answer, and what list, spans and area then hold
abbrev pub Lists : Meaning → Shape → ℕ → List ℕ → Result ℕ Refusal → List ℕ → Type 0
Lists m f k before r after = ListAnswer m f k before (list_refused m f k) r after

pub record Widens (m : Meaning) (f : Shape) (k : ℕ) (bs : List Bounds) (r : Result Unit Refusal) (cs : List Bounds) : Type 0 where
  pub answer : r ≡ answered (spans_refused m f k bs)
  pub after : cs ≡ spans_left m f k bs (spans_refused m f k bs)

abbrev pub Applies : Meaning → Shape → ℕ → List Bounds → List ℤ → Result Unit Refusal → List ℤ → Type 0
Applies m f k bs xs r ys = ApplyAnswer m f k bs xs (area_refused m f k bs (length xs)) r ys

abbrev pub Undoes : Meaning → Shape → ℕ → List Bounds → List ℤ → Result Unit Refusal → List ℤ → Type 0
Undoes m f k bs ys r xs = UndoAnswer m f k bs ys (area_refused m f k bs (length ys)) r xs
