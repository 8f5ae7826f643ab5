-- Where no bound made on the way is beyond signed 32 bits, no sample is, before a step or after it.
use Rattle.std.proofs.Common.{◌≡◌, ℕ, ◌+◌, ◌*◌, ◌/◌, ◌^◌, ◌<◌, ◌≤◌, true, false, eqb, leb, List, [], ◌∷◌, length, ℤ, ◌+ℤ◌, sym, ap, ◌∙◌, arith, w32, SFits}
use Rattle.std.specs.List.{range_with_len}
use Rattle.std.proofs.lemmas.Bool.{cond-true, cond-false, and_parts, eqb-true, le-leb, lt-leb}
use Rattle.sets.specs.declared.bounds.Bounds.{Bounds}
use Rattle.sets.specs.declared.shape.Shape.{Shape}
use Rattle.sets.specs.Areas.{Within, span_at, sample_at}
use Rattle.stages.specs.declared.stage.Axis.{Axis}
use Rattle.stages.specs.declared.stage.Axis.TheVariants.{Time, Channel}
use Rattle.stages.specs.Lifting.{by_parity, lists_channel, line_length, line_spans, channel_made}
use Rattle.stages.specs.Lines.{extended}
use Rattle.stages.specs.Plain.{PlainLift, PlainStep, lift}
use Rattle.stages.specs.Ranges.{all_fit, fits, doubled}
use Rattle.stages.specs.Stages.{bounds_made}
use Rattle.stages.proofs.Every.{all_fit_map, all_fit_joined, every-all, all_every}
use Rattle.stages.proofs.Spans.{two_fit}
use Rattle.rules.specs.Lifted.{count_of, lone_odd, touched, lift_passes}
use Rattle.rules.specs.Passes.{Fitting}
use Rattle.rules.proofs.Fits.{all_fit_at, in_fits}
use Rattle.rules.proofs.LiftPlaces.{along, listed_from, listed_below}
use Rattle.rules.proofs.LiftSpans.{index_inside, listed_some}
use Rattle.rules.proofs.LiftSpansHolds.{raised-in}
use Rattle.rules.proofs.LiftSpansLines.{time_standing, time_slotted, line-standing, line-slotted, none_lone}
use Rattle.rules.proofs.LiftSpansRuns.{ran-fitting}
use Rattle.rules.proofs.Places.{channel_below}

-- what is made along the samples of each listed channel
made_at : (f : Shape) (l : PlainLift) (ss : List PlainStep) (bs : List Bounds) → all_fit (bounds_made f (lift (along Time l) ss) bs) ≡ true →
    (c : ℕ) → lists_channel l c ≡ true → all_fit (channel_made f l ss (span_at bs c)) ≡ true
made_at f l ss bs made c t =
    let all = sym (all_fit_joined (λ d. channel_made f l ss (span_at bs d)) _) ∙ made in
    every-all _ l.first l.count all c (listed_from l c t) (listed_below l c t)

-- the spans of the line along the channels, where a channel is listed
line-fits : (f : Shape) (l : PlainLift) (bs : List Bounds) → l.first + l.count ≤ f.channels → length bs ≡ f.channels → all_fit bs ≡ true →
    (c : ℕ) → lists_channel l c ≡ true → all_fit (line_spans l bs) ≡ true
line-fits f l bs inner e fit c t =
    let channel : ℕ → ℕ = λ i. l.first + i * 2 ^ l.level in
    let below : (i : ℕ) → i < line_length l → channel i < length bs = λ i k. omega (arith, index_inside l.level l.count i (listed_some l c t) k) in
    all_fit_map (λ i. span_at bs (channel i)) (range_with_len 0 (line_length l)) ∙ all_every _ 0 (line_length l) (λ i o k. all_fit_at bs (channel i) (below i (omega arith)) fit)

fitting_along : (x : Axis) (f : Shape) (l : PlainLift) (ss : List PlainStep) (bs : List Bounds) (xs : List ℤ) → l.first + l.count ≤ f.channels → 2 ≤ count_of f (along x l) →
    length bs ≡ f.channels → all_fit bs ≡ true → all_fit (bounds_made f (lift (along x l) ss) bs) ≡ true → Within f bs xs → Fitting (lift_passes f (along x l) l.parity ss) xs
fitting_along Time f l ss bs xs inner n e fit made w =
    ran-fitting f (along Time l) by_parity 2 _ _ (time_standing f l inner n) l.parity ss _ xs (time_slotted f l bs xs w)
    (λ a h t. two_fit (span_at bs (a / f.samples)) (all_fit_at bs (a / f.samples) (omega (arith, channel_below f a h)) fit))
    (λ a h t. ap all_fit (sym (cond-true _ _ _ (le-leb 2 _ n))) ∙ made_at f l ss bs made (a / f.samples) (and_parts (lists_channel l (a / f.samples)) _ t).0)
fitting_along Channel f l ss bs xs inner n e fit made w =
    ran-fitting f (along Channel l) (extended l.extension (line_length l)) (line_length l) _ _ (line-standing f l inner n) l.parity ss _ xs (line-slotted f l bs xs w)
    (λ a h t. line-fits f l bs inner e fit (a / f.samples) (and_parts (lists_channel l (a / f.samples)) _ t).0)
    (λ a h t. ap all_fit (sym (cond-true _ _ _ (le-leb 2 _ n))) ∙ made)

pub lifts_fitting : (f : Shape) (l : PlainLift) (ss : List PlainStep) → l.first + l.count ≤ f.channels → 2 ≤ count_of f l → (bs : List Bounds) (xs : List ℤ) → length bs ≡ f.channels →
    all_fit bs ≡ true → all_fit (bounds_made f (lift l ss) bs) ≡ true → Within f bs xs → Fitting (lift_passes f l l.parity ss) xs
lifts_fitting f l ss inner n bs xs e fit made w = fitting_along l.axis f l ss bs xs inner n e fit made w

lone_along : (x : Axis) (f : Shape) (l : PlainLift) (ss : List PlainStep) (bs : List Bounds) (xs : List ℤ) → lone_odd f (along x l) ≡ true →
    all_fit (bounds_made f (lift (along x l) ss) bs) ≡ true → Within f bs xs → (c t : ℕ) → c < f.channels → t < f.samples →
    touched f (along x l) c t ≡ true → SFits w32 (sample_at f xs c t +ℤ sample_at f xs c t)
lone_along Time f l ss bs xs odd made w c t h k on =
    let b = span_at bs c in
    let one : count_of f (along Time l) ≡ 1 = eqb-true _ _ (and_parts (eqb (count_of f (along Time l)) 1) _ odd).0 in
    let few : leb 2 (count_of f (along Time l)) ≡ false = lt-leb 2 _ (omega arith) in
    let here : channel_made f l ss b ≡ doubled b ∷ b ∷ [] = cond-false _ _ _ few ∙ cond-false _ _ _ few ∙ cond-true _ _ _ odd in
    let both = ap all_fit (sym here) ∙ made_at f l ss bs made c (and_parts (lists_channel l c) _ on).0 in
    in_fits (doubled b) _ (and_parts (fits (doubled b)) _ both).0 (raised-in b b _ _ (w.inside c t h k) (w.inside c t h k))
lone_along Channel f l ss bs xs odd made w c t h k on = absurd (none_lone f l odd)

-- on a line of one odd index, the doubles fit
pub lone_fitting : (f : Shape) (l : PlainLift) (ss : List PlainStep) → lone_odd f l ≡ true → (bs : List Bounds) (xs : List ℤ) → all_fit (bounds_made f (lift l ss) bs) ≡ true → Within f bs xs →
    (c t : ℕ) → c < f.channels → t < f.samples → touched f l c t ≡ true → SFits w32 (sample_at f xs c t +ℤ sample_at f xs c t)
lone_fitting f l ss odd bs xs made w c t h k on = lone_along l.axis f l ss bs xs odd made w c t h k on
