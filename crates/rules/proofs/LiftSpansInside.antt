-- Samples within spans are, after a lifting, within the spans after it.
use Rattle.std.proofs.Common.{◌≡◌, ℕ, ◌+◌, ◌/◌, ◌%◌, ◌<◌, ◌≤◌, true, false, leb, List, [], ◌∷◌, length, ℤ, ◌+ℤ◌, refl, ap, ◌∙◌, ⊎_elim, arith}
use Rattle.std.proofs.lemmas.Bool.{cases_Bool, cond-true, cond-false, cond_both, and_parts, and_left, le-leb}
use Rattle.sets.specs.declared.bounds.Bounds.{Bounds}
use Rattle.sets.specs.declared.shape.Shape.{Shape}
use Rattle.sets.specs.Areas.{In, Within, size_of, span_at, at}
use Rattle.stages.specs.declared.stage.Axis.{Axis}
use Rattle.stages.specs.declared.stage.Axis.TheVariants.{Time, Channel}
use Rattle.stages.specs.declared.stage.Parity.{Parity}
use Rattle.stages.specs.Lifting.{other, ended, by_parity, lists_channel, on_line, index_of, line_length, line_spans, line_ends, channel_ends}
use Rattle.stages.specs.Lines.{extended}
use Rattle.stages.specs.Plain.{PlainLift, PlainStep, lift}
use Rattle.stages.specs.Ranges.{hull}
use Rattle.stages.specs.Stages.{spans_after}
use Rattle.rules.specs.Lifted.{count_of, lone_odd, doubled_at, lift_pass, lift_passes}
use Rattle.rules.specs.Passes.{passed, ran}
use Rattle.rules.specs.Samples.{samples_after}
use Rattle.rules.proofs.ByPlace.{same_in}
use Rattle.rules.proofs.LiftPlaces.{along}
use Rattle.rules.proofs.LiftKinds.{many, lone, still, line-kind, lift_many, lift_lone, lift_still}
use Rattle.rules.proofs.LiftSamples.{lift_length}
use Rattle.rules.proofs.LiftSpans.{time_after, channel-after}
use Rattle.rules.proofs.LiftSpansHolds.{raised-in, hull-left, hull-right, two_hold, within-at, within-from}
use Rattle.rules.proofs.LiftSpansLines.{time_standing, time_slotted, line-standing, line-slotted, none_lone}
use Rattle.rules.proofs.LiftSpansRuns.{ran-slotted}
use Rattle.rules.proofs.LiftSpansSlots.{touches, index_at}
use Rattle.rules.proofs.Passing.{length-passed, at-passed-kept}
use Rattle.rules.proofs.Places.{channel_below, at-sample, at-area}

-- the steps keep samples that are not touched
untouched_kept : (f : Shape) (l : PlainLift) (m : Parity) (ss : List PlainStep) (xs : List ℤ) (a : ℕ) → a < length xs → touches f l a ≡ false → at (ran (lift_passes f l m ss) xs) a ≡ at xs a
unfolding lift_passes ran
untouched_kept f l m [] xs a h off = refl
untouched_kept f l m (s ∷ ss) xs a h off =
    let p = lift_pass f l m s in
    untouched_kept f l (other m) ss (passed p xs) a (omega (arith, length-passed p xs)) off ∙ at-passed-kept p xs a h (and_left _ _ off)

-- a span after a lifting holds what the span before does
kept_inside : (x : Axis) (f : Shape) (l : PlainLift) (ss : List PlainStep) (bs : List Bounds) (c : ℕ) (y : ℤ) → c < length bs → In (span_at bs c) y →
    In (span_at (spans_after f (lift (along x l) ss) bs) c) y
kept_inside Time f l ss bs c y h i = same_in _ _ _ _ (time_after f l ss bs c h) refl (cond_both (lists_channel l c) _ _ (λ b. In b y) (λ t. hull-left _ _ y i) (λ t. i))
kept_inside Channel f l ss bs c y h i = same_in _ _ _ _ (channel-after f l ss bs c h) refl (cond_both (on_line l c) _ _ (λ b. In b y) (λ t. hull-left _ _ y i) (λ t. i))

-- and, in a listed channel, what either slot does that the line along its samples ends with
ends_inside : (f : Shape) (l : PlainLift) (ss : List PlainStep) (bs es : List Bounds) (c j : ℕ) (y : ℤ) → c < length bs → lists_channel l c ≡ true → channel_ends f l ss (span_at bs c) ≡ es →
    j < 2 → In (span_at es j) y → In (span_at (spans_after f (lift (along Time l) ss) bs) c) y
ends_inside f l ss bs es c j y h on e k i =
    let b = span_at bs c in
    same_in _ _ _ _ (time_after f l ss bs c h ∙ cond-true _ _ _ on ∙ ap (λ ds. hull b (hull (span_at ds 0) (span_at ds 1))) e) refl (hull-right b _ y (two_hold es j y k i))

-- and what the steps make of a touched sample
ran-inside : (x : Axis) (f : Shape) (l : PlainLift) (ss : List PlainStep) (bs : List Bounds) (xs : List ℤ) → l.first + l.count ≤ f.channels → 2 ≤ count_of f (along x l) →
    length bs ≡ f.channels → Within f bs xs → (a : ℕ) → a < size_of f → touches f (along x l) a ≡ true →
    In (span_at (spans_after f (lift (along x l) ss) bs) (a / f.samples)) (at (ran (lift_passes f (along x l) l.parity ss) xs) a)
ran-inside Time f l ss bs xs fits n e w a h t =
    let after = ran-slotted f (along Time l) by_parity 2 _ _ (time_standing f l fits n) l.parity ss _ xs (time_slotted f l bs xs w) in
    let c = a / f.samples in
    ends_inside f l ss bs _ c (index_at f (along Time l) a % 2) _ (omega (arith, channel_below f a h)) (and_parts (lists_channel l c) _ t).0
    (cond-true _ _ _ (le-leb 2 _ n)) (omega arith) (after.inside a h t)
ran-inside Channel f l ss bs xs fits n e w a h t =
    let slot = extended l.extension (line_length l) in
    let after = ran-slotted f (along Channel l) slot (line_length l) _ _ (line-standing f l fits n) l.parity ss _ xs (line-slotted f l bs xs w) in
    let c = a / f.samples in
    let ends : line_ends l ss bs ≡ ended slot l.parity ss (line_spans l bs) = cond-true _ _ _ (le-leb 2 _ n) in
    let here = channel-after f l ss bs c (omega (arith, channel_below f a h)) ∙ cond-true (on_line l c) _ _ t in
    same_in _ _ _ _ (here ∙ ap (λ es. hull (span_at bs c) (span_at es (index_of l c))) ends) refl (hull-right (span_at bs c) _ _ (after.inside a h t))

-- and the double of a touched sample, on a line of one odd index
lone_inside : (x : Axis) (f : Shape) (l : PlainLift) (ss : List PlainStep) (bs : List Bounds) (y : ℤ) → leb 2 (count_of f (along x l)) ≡ false → lone_odd f (along x l) ≡ true →
    length bs ≡ f.channels → (a : ℕ) → a < size_of f → touches f (along x l) a ≡ true → In (span_at bs (a / f.samples)) y →
    In (span_at (spans_after f (lift (along x l) ss) bs) (a / f.samples)) (y +ℤ y)
lone_inside Time f l ss bs y few odd e a h t i =
    let c = a / f.samples in
    let ends = cond-false _ _ _ few ∙ cond-true _ _ _ odd in
    ends_inside f l ss bs _ c 0 _ (omega (arith, channel_below f a h)) (and_parts (lists_channel l c) _ t).0 ends (omega arith) (raised-in _ _ y y i i)
lone_inside Channel f l ss bs y few odd e a h t i = absurd (none_lone f l odd)

module _ (f : Shape) (l : PlainLift) (ss : List PlainStep) (fits : l.first + l.count ≤ f.channels) (bs : List Bounds) (xs : List ℤ) (n : length bs ≡ f.channels) (w : Within f bs xs) where
  abbrev after : ℕ → Bounds
  after a = span_at (spans_after f (lift l ss) bs) (a / f.samples)

  still_inside : (a : ℕ) → a < size_of f → In (after a) (at xs a)
  still_inside a h = kept_inside l.axis f l ss bs (a / f.samples) (at xs a) (omega (arith, channel_below f a h)) (within-at f bs xs w a h)

  steps_inside : 2 ≤ count_of f l → (a : ℕ) → a < size_of f → In (after a) (at (ran (lift_passes f l l.parity ss) xs) a)
  steps_inside k a h = ⊎_elim
      (λ on. ran-inside l.axis f l ss bs xs fits k n w a h on)
      (λ off. same_in _ _ _ _ refl (untouched_kept f l l.parity ss xs a (omega (arith, w.long)) off) (still_inside a h))
      (cases_Bool (touches f l a))

  double_inside : leb 2 (count_of f l) ≡ false → lone_odd f l ≡ true → (a : ℕ) → a < size_of f → In (after a) (doubled_at f l xs (a / f.samples) (a % f.samples))
  double_inside few odd a h =
      let here = at-sample f a xs in
      cond_both (touches f l a) _ _ (In (after a))
      (λ on. lone_inside l.axis f l ss bs _ few odd n a h on (same_in _ _ _ _ refl here (within-at f bs xs w a h)))
      (λ off. same_in _ _ _ _ refl here (still_inside a h))

  after-inside : (a : ℕ) → a < size_of f → In (after a) (at (samples_after f (lift l ss) xs) a)
  after-inside a h = elim (line-kind f l) [
    | many k t ↦ same_in _ _ _ _ refl (ap (λ ys. at ys a) (lift_many f l ss xs t)) (steps_inside k a h)
    | lone t o ↦ same_in _ _ _ _ refl (ap (λ ys. at ys a) (lift_lone f l ss xs t o) ∙ at-area f (doubled_at f l xs) a h) (double_inside t o a h)
    | still t o ↦ same_in _ _ _ _ refl (ap (λ ys. at ys a) (lift_still f l ss xs t o)) (still_inside a h)
  ]

  pub lift_inside : Within f (spans_after f (lift l ss) bs) (samples_after f (lift l ss) xs)
  lift_inside = within-from f _ _ (lift_length f l ss xs w.long ∙ w.long) after-inside
