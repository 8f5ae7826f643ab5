-- A step never reads what it changes, since it reads indices of the other parity alone.
use Rattle.std.proofs.Common.{◌≡◌, ℕ, ◌+◌, ◌-◌, ◌/◌, ◌%◌, ◌<◌, ◌≤◌, true, false, List, [], ◌∷◌, map, length, ℤ, ap, arith}
use Rattle.std.proofs.lemmas.Bool.{and_right, and_parts, ne_eqb}
use Rattle.std.specs.List.{range_with_len}
use Rattle.sets.specs.declared.shape.Shape.{Shape}
use Rattle.sets.specs.Areas.{at, size_of}
use Rattle.stages.specs.declared.stage.Parity.{Parity}
use Rattle.stages.specs.Lifting.{parity_of, other, source_index, lists_channel}
use Rattle.stages.specs.Plain.{PlainLift, PlainStep}
use Rattle.stages.specs.Quotients.{quotient_of}
use Rattle.rules.specs.Lifted.{count_of, line_index, touched, address_of, inside_of, reads_of, changes, lift_pass, lift_passes}
use Rattle.rules.specs.Passes.{Blind, AllBlind, none, more}
use Rattle.rules.proofs.LiftPlaces.{Source, read_source, read_parity}
use Rattle.rules.proofs.Places.{time_below}

module _ (f : Shape) (l : PlainLift) (fits : l.first + l.count ≤ f.channels) (many : 2 ≤ count_of f l) where
  -- A step reads the same in two areas that agree at the indices of the other parity on the same line.
  pub reads_same : (m : Parity) (s : PlainStep) (xs ys : List ℤ) (c t : ℕ) → t < f.samples → lists_channel l c ≡ true →
      ((i a : ℕ) → Source f l c t i a → i % 2 ≡ 1 - parity_of m → at xs a ≡ at ys a) → reads_of f l m s xs c t ≡ reads_of f l m s ys c t
  reads_same m s xs ys c t h on same =
      let read : ℕ → ℤ = λ k. source_index (parity_of m) (line_index f l c t) s.offset k in
      let each : (k : ℕ) → at xs (address_of f l c t (inside_of f l (read k))) ≡ at ys (address_of f l c t (inside_of f l (read k))) =
      λ k. same _ _ (read_source f l c t (read k) fits many h on) (read_parity f l m (line_index f l c t) s.offset k many) in
      λ i. map (λ k. each k i) (range_with_len 0 (length s.taps))

  -- a sample at an index of the other parity is not changed
  pub other-kept : (m : Parity) (c t i a : ℕ) → Source f l c t i a → i % 2 ≡ 1 - parity_of m → changes f l m (a / f.samples) (a % f.samples) ≡ false
  other-kept m c t i a s e = and_right (touched f l (a / f.samples) (a % f.samples)) _ (ne_eqb _ _ (λ d. omega (arith, s.index, ap (λ j. j % 2) s.index)))

  changed_listed : (m : Parity) (c t : ℕ) → changes f l m c t ≡ true → lists_channel l c ≡ true
  changed_listed m c t h = (and_parts (lists_channel l c) _ (and_parts (touched f l c t) _ h).0).0

  pub lift_blind : (m : Parity) (s : PlainStep) → Blind (size_of f) (lift_pass f l m s)
  lift_blind m s xs ys e d same a h hit =
      ap (quotient_of s.taps s.residue s.exponent)
      (reads_same m s xs ys (a / f.samples) (a % f.samples) (time_below f a h) (changed_listed m _ _ hit)
      (λ i b r p. same b r.below (other-kept m _ _ i b r p)))

  pub lifts_blind : (m : Parity) (ss : List PlainStep) → AllBlind (size_of f) (lift_passes f l m ss)
  unfolding lift_passes
  lifts_blind m [] = none
  lifts_blind m (s ∷ ss) = more (lift_blind m s) (lifts_blind (other m) ss)
