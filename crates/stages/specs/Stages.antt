-- What every kind of stage says: the channels it lists, where it fits, and its rule on spans.
use Rattle.std.specs.Prelude.{◌≡◌, ℕ, ◌+◌, Bool, true, false, List, length, Some, None, Ok, Err, Option, Result, MatchResult, ◌==◌, nat_le}
use Rattle.sets.specs.declared.bounds.Bounds.{Bounds}
use Rattle.sets.specs.declared.refusal.Refusal.{Refusal}
use Rattle.sets.specs.declared.refusal.Refusal.TheVariants.{BadShape, SpanCount, DoesNotFit, TooWide}
use Rattle.sets.specs.declared.shape.Shape.{Shape}
use Rattle.sets.specs.declared.span_list.SpanList.{SpanList}
use Rattle.sets.specs.Sets.{in_limits, rows_of}
use Rattle.stages.specs.Channels.{rct_after, rct_made, dep_after, dep_made}
use Rattle.stages.specs.Lifting.{lift_after, lift_made}
use Rattle.stages.specs.Plain.{Plain, lift, dep, rct}
use Rattle.stages.specs.Ranges.{all_fit}

-- a stage lists the channels from first_of on, before end_of
abbrev pub first_of : Plain → ℕ
first_of (lift l ss) = l.first
first_of (dep first rows) = first
first_of (rct first) = first

abbrev pub end_of : Plain → ℕ
end_of (lift l ss) = l.first + l.count
end_of (dep first rows) = first + (length rows + 1)
end_of (rct first) = first + 3

-- it fits when all its channels are below C
abbrev pub fits_in : Plain → ℕ → Bool
fits_in s n = nat_le (end_of s) n

-- the spans after the stage
abbrev pub spans_after : Shape → Plain → List Bounds → List Bounds
spans_after f (lift l ss) bs = lift_after f l ss bs
spans_after f (dep first rows) bs = dep_after first rows bs
spans_after f (rct first) bs = rct_after first bs

-- every bound that the rule makes on the way, between two steps too
abbrev pub bounds_made : Shape → Plain → List Bounds → List Bounds
bounds_made f (lift l ss) bs = lift_made f l ss bs
bounds_made f (dep first rows) bs = dep_made first rows bs
bounds_made f (rct first) bs = rct_made first bs

-- the first refusal whose cause holds: a cause is a test that should have passed
abbrev pub unless : Bool → Refusal → Option Refusal → Option Refusal
unless true e rest = rest
unless false e rest = Some e

-- the rule on spans is refused for a bad shape, a wrong number of spans, a stage that does not fit and a bound beyond 32 bits, in that order
unfoldable pub spans_refused : Shape → Plain → List Bounds → Option Refusal
spans_refused f s bs = unless (in_limits f) BadShape (unless (length bs == f.channels) SpanCount (unless (fits_in s f.channels) DoesNotFit (unless (all_fit (bounds_made f s bs)) TooWide None)))

-- the spans bs where there is no refusal
abbrev pub Ruled : Result SpanList Refusal → Option Refusal → List Bounds → Type 0
Ruled r refused bs = MatchResult r (λ l. (refused ≡ None) × (rows_of l ≡ bs)) (λ e. refused ≡ Some e)

abbrev pub answered : Option Refusal → Result Unit Refusal
answered None = Ok tt
answered (Some e) = Err e

-- the list of spans after a call: the rule's, or unaltered where the call is refused
abbrev pub spans_left : Shape → Plain → List Bounds → Option Refusal → List Bounds
spans_left f s bs None = spans_after f s bs
spans_left f s bs (Some e) = bs

abbrev pub spans_then : Shape → Plain → List Bounds → List Bounds
spans_then f s bs = spans_left f s bs (spans_refused f s bs)
