-- Why the rule on spans is refused, cause by cause.
use Rattle.std.proofs.Common.{◌≡◌, ℕ, Bool, true, false, cond, eqb, List, length, None, Some, Ok, Err, Option, Result, refl, arith}
use Rattle.std.specs.Option.{ok_or}
use Rattle.sets.specs.declared.bounds.Bounds.{Bounds}
use Rattle.sets.specs.declared.refusal.Refusal.{Refusal}
use Rattle.sets.specs.declared.refusal.Refusal.TheVariants.{BadShape, SpanCount, DoesNotFit, TooWide}
use Rattle.sets.specs.declared.shape.Shape.{Shape}
use Rattle.sets.specs.declared.span_list.SpanList.{SpanList}
use Rattle.sets.specs.Sets.{in_limits}
use Rattle.stages.specs.Made.{MadeList}
use Rattle.stages.specs.Plain.{Plain}
use Rattle.stages.specs.Ranges.{all_fit}
use Rattle.stages.specs.Stages.{fits_in, bounds_made, unless, spans_refused, Ruled}

-- what the check of a shape tells of its limits
pub limits_kept : (t : Bool) → Ok tt ≡ cond {A = Result Unit Refusal} t (Ok tt) (Err BadShape) → t ≡ true
limits_kept true h = refl
limits_kept false h = let z : ◌≡◌ {A = ℕ} 0 1 = cc in absurd (omega arith)

pub limits_left : (t : Bool) (e : Refusal) → Err e ≡ cond {A = Result Unit Refusal} t (Ok tt) (Err BadShape) → (t ≡ false) × (e ≡ BadShape)
limits_left true e h = let z : ◌≡◌ {A = ℕ} 0 1 = cc in absurd (omega arith)
limits_left false e h = (refl, cc)

module _ (f : Shape) (s : Plain) (bs : List Bounds) where
  pub refused_shape : in_limits f ≡ false → spans_refused f s bs ≡ Some BadShape
  unfolding spans_refused
  refused_shape a = grind arith

  module _ (a : in_limits f ≡ true) where
    pub refused_count : eqb (length bs) f.channels ≡ false → spans_refused f s bs ≡ Some SpanCount
    unfolding spans_refused
    refused_count b = grind arith

    module _ (b : eqb (length bs) f.channels ≡ true) where
      pub refused_fit : fits_in s f.channels ≡ false → spans_refused f s bs ≡ Some DoesNotFit
      unfolding spans_refused
      refused_fit d = grind arith

      module _ (d : fits_in s f.channels ≡ true) where
        pub refused_width : all_fit (bounds_made f s bs) ≡ false → spans_refused f s bs ≡ Some TooWide
        unfolding spans_refused
        refused_width e = grind arith

        pub refused_not : all_fit (bounds_made f s bs) ≡ true → spans_refused f s bs ≡ None
        unfolding spans_refused
        refused_not e = grind arith

-- after all other tests
pub too_wide : (o : Option SpanList) (t : Bool) (bs : List Bounds) → MadeList o t bs → Ruled (ok_or o TooWide) (unless t TooWide None) bs
too_wide None t bs h = rw h refl
too_wide (Some l) t bs h = (rw h.0 refl, h.1)

pub ruleset refusals = (limits_kept, limits_left, too_wide)
