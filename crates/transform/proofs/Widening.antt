-- The rule on spans where nothing but the width can refuse.
use Rattle.std.proofs.Common.{◌≡◌, true, List, length, is_ok, is_some, None, Result, arith}
use Rattle.std.specs.Prelude.{unwrap_or}
use Rattle.std.proofs.lemmas.Bool.{eq-eqb}
use Rattle.sets.specs.declared.bounds.Bounds.{Bounds}
use Rattle.sets.specs.declared.refusal.Refusal.{Refusal}
use Rattle.sets.specs.declared.refusal.Refusal.TheVariants.{BadShape, SpanCount, DoesNotFit, TooWide}
use Rattle.sets.specs.declared.shape.Shape.{Shape}
use Rattle.sets.specs.Sets.{in_limits}
use Rattle.stages.specs.Plain.{Plain}
use Rattle.stages.specs.Ranges.{all_fit}
use Rattle.stages.specs.Stages.{fits_in, bounds_made, spans_refused, spans_then, answered, unless}
use Rattle.rules.specs.Samples.{spans_made}

pub only_width : (f : Shape) (s : Plain) (bs : List Bounds) → in_limits f ≡ true → fits_in s f.channels ≡ true → length bs ≡ f.channels → spans_refused f s bs ≡ unless (all_fit (bounds_made f s bs)) TooWide None
unfolding spans_refused
only_width f s bs shape fit many = λ i. unless (shape i) BadShape (unless (eq-eqb (length bs) f.channels many i) SpanCount (unless (fit i) DoesNotFit (unless (all_fit (bounds_made f s bs)) TooWide None)))

module _ (f : Shape) (s : Plain) (bs : List Bounds) (shape : in_limits f ≡ true) (fit : fits_in s f.channels ≡ true) (many : length bs ≡ f.channels) where
  pub answer-made : (r : Result Unit Refusal) → r ≡ answered (spans_refused f s bs) → is_ok r ≡ is_some (spans_made f s bs)
  answer-made r e = grind (arith, only_width f s bs shape fit many)

  pub after-made : (cs : List Bounds) → cs ≡ spans_then f s bs → cs ≡ unwrap_or (spans_made f s bs) bs
  after-made cs e = grind (arith, only_width f s bs shape fit many)
