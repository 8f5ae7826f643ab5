-- Lifting keeps the laws.
use Rattle.std.proofs.Common.{◌≡◌, ◌+◌, ◌≤◌, true, List}
use Rattle.std.proofs.lemmas.Bool.{leb-true}
use Rattle.sets.specs.declared.shape.Shape.{Shape}
use Rattle.sets.specs.Sets.{in_limits}
use Rattle.stages.specs.Plain.{PlainLift, PlainStep, lift}
use Rattle.stages.specs.Stages.{fits_in}
use Rattle.rules.specs.Samples.{StageLaws}
use Rattle.rules.proofs.LiftSamples.{lift_apart, lift_keeps_samples, lift_local_samples}
use Rattle.rules.proofs.LiftSpans.{many_spans, keeps_spans, local_spans, local_width}
use Rattle.rules.proofs.LiftSpansInside.{lift_inside}

lift_keeps : (f : Shape) (l : PlainLift) (ss : List PlainStep) → l.first + l.count ≤ f.channels → StageLaws f (lift l ss)
lift_keeps f l ss fits = record {
  many = λ bs n. many_spans f l ss bs n;
  inside = λ bs xs n w. lift_inside f l ss fits bs xs n w;
  apart = lift_apart f l ss fits;
  keeps_spans = λ bs n. keeps_spans f l ss bs n;
  keeps_samples = lift_keeps_samples f l ss;
  local_spans = λ bs ds n m same. local_spans f l ss fits bs ds n m same;
  local_width = λ bs ds n m same. local_width f l ss fits bs ds n m same;
  local_samples = lift_local_samples f l ss fits;
}

pub lift_laws : (f : Shape) (l : PlainLift) (ss : List PlainStep) → in_limits f ≡ true → fits_in (lift l ss) f.channels ≡ true → StageLaws f (lift l ss)
lift_laws f l ss shape fit = lift_keeps f l ss (leb-true (l.first + l.count) f.channels fit)
