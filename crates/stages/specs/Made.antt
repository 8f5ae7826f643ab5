-- What is made, or not made since a bound is beyond signed 32 bits.
use Rattle.std.specs.Prelude.{◌≡◌, ℕ, ◌<◌, Bool, true, false, ◌&&◌, List, [], ◌∷◌, length, ℤ, Some, None, Option, MatchOption}
use Rattle.sets.specs.declared.bounds.Bounds.{Bounds}
use Rattle.sets.specs.declared.shape.Shape.{Shape}
use Rattle.sets.specs.declared.span.Span.{Span}
use Rattle.sets.specs.declared.span_list.SpanList.{SpanList}
use Rattle.sets.specs.Sets.{bounds_of, rows_of}
use Rattle.stages.specs.declared.reach.Reach.{Reach}
use Rattle.stages.specs.declared.stage.Lift.{Lift}
use Rattle.stages.specs.Lifting.{channel_made, channel_after}
use Rattle.stages.specs.Plain.{PlainLift, PlainStep, plain_lift, plain_steps}
use Rattle.stages.specs.Ranges.{fits, all_fit, at}

abbrev pub between : ℤ → ℤ → Bounds
between a b = record { least = a; greatest = b }

abbrev pub wide_of : Reach → Bounds
wide_of r = between r.least r.greatest

-- the span of b where the test passed, and none where it failed
abbrev pub MadeSpan : Option Span → Bool → Bounds → Type 0
MadeSpan r test b = MatchOption r (test ≡ false) (λ s. (test ≡ true) × (bounds_of s ≡ b))

abbrev pub MadeList : Option SpanList → Bool → List Bounds → Type 0
MadeList r test bs = MatchOption r (test ≡ false) (λ l. (test ≡ true) × (rows_of l ≡ bs))

-- the span of b, and none where b is beyond 32 bits
abbrev pub Narrowed : Option Span → Bounds → Type 0
Narrowed r b = MadeSpan r (fits b) b

-- the spans bs, and none where a bound that is made on the way is beyond 32 bits
abbrev pub AllNarrowed : Option SpanList → List Bounds → List Bounds → Type 0
AllNarrowed r made bs = MadeList r (all_fit made) bs

-- the same of what a lifting makes of x
abbrev pub LiftMakes : {X : Type 0} → Option SpanList → (PlainLift → List PlainStep → X → List Bounds) → (PlainLift → List PlainStep → X → List Bounds) → Lift → X → Type 0
LiftMakes r made after l x = AllNarrowed r (made (plain_lift l) (plain_steps l) x) (after (plain_lift l) (plain_steps l) x)

-- the span of a channel after a lifting along its samples
abbrev pub ChannelMakes : Option Span → Shape → Lift → Bounds → Type 0
ChannelMakes r f l b = MadeSpan r (all_fit (channel_made f (plain_lift l) (plain_steps l) b)) (channel_after f (plain_lift l) (plain_steps l) b)

-- the test passes at each number of the list
abbrev pub every : (ℕ → Bool) → List ℕ → Bool
every test [] = true
every test (i ∷ is) = test i && every test is

-- a list of n spans, each of which a call at its number returned
pub record Listed (returned : ℕ → Span → Type 0) (n : ℕ) (l : SpanList) : Type 0 where
  pub count : length (rows_of l) ≡ n
  pub rows : (i : ℕ) → i < n → (s : Span) × returned i s × (at (rows_of l) i ≡ bounds_of s)

-- the same, and no list where a call returned none
pub record Gathered (returned : ℕ → Option Span → Type 0) (n : ℕ) (r : Option SpanList) : Type 0 where
  pub outcome : MatchOption r ((i : ℕ) × (i < n) × returned i None) (Listed (λ i s. returned i (Some s)) n)
