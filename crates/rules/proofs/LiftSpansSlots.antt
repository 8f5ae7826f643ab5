-- Samples that stand in slots: what a step does to the samples keeps them in what it does to the slots.
use Rattle.std.proofs.Common.{◌≡◌, ℕ, ◌/◌, ◌%◌, ◌<◌, Bool, true, eqb, List, length, ℤ, sym, refl, ap, ◌∙◌, ⊎_elim, zero-add, arith}
use Rattle.std.proofs.lemmas.List.FromFn.{get_or-map-range_with_len, length-map-range_with_len}
use Rattle.std.proofs.lemmas.Bool.{cases_Bool, cond-true, cond-false, and_from, and_right}
use Rattle.sets.specs.declared.bounds.Bounds.{Bounds}
use Rattle.sets.specs.declared.shape.Shape.{Shape}
use Rattle.sets.specs.Areas.{In, size_of, at}
use Rattle.sets.specs.Ordered.{no_bounds}
use Rattle.stages.specs.declared.stage.Parity.{Parity}
use Rattle.stages.specs.Lifting.{parity_of, source_index, sources_of, slot_after, stepped}
use Rattle.stages.specs.Plain.{PlainLift, PlainStep}
use Rattle.stages.specs.Quotients.{reach_of}
use Rattle.stages.specs.Ranges.{at as slot_at}
use Rattle.rules.specs.Lifted.{line_index, touched, address_of, inside_of, lift_pass}
use Rattle.rules.specs.Passes.{passed}
use Rattle.rules.proofs.ByPlace.{same_in}
use Rattle.rules.proofs.LiftSpansHolds.{raised-in}
use Rattle.rules.proofs.Passing.{length-passed, at-passed-hit, at-passed-kept}
use Rattle.rules.proofs.Reaching.{reach_holds, inside_map}

-- the same of an address
abbrev pub touches : Shape → PlainLift → ℕ → Bool
touches f l a = touched f l (a / f.samples) (a % f.samples)

abbrev pub index_at : Shape → PlainLift → ℕ → ℕ
index_at f l a = line_index f l (a / f.samples) (a % f.samples)

-- the address that tap k of a step reads for address a
abbrev pub read_index_at : Shape → PlainLift → Parity → ℤ → ℕ → ℕ → ℕ
read_index_at f l m off a k = address_of f l (a / f.samples) (a % f.samples) (inside_of f l (source_index (parity_of m) (index_at f l a) off k))

-- A touched address has one of n slots, its place, in the slots of its group.
-- What a step reads for it is of its group, and stands in the slot that the rule on spans reads for its place.
pub record Standing (f : Shape) (l : PlainLift) (slot : ℤ → ℕ) (n : ℕ) (group place : ℕ → ℕ) : Type 0 where
  pub room : (a : ℕ) → a < size_of f → touches f l a ≡ true → place a < n
  pub parity : (a : ℕ) → a < size_of f → touches f l a ≡ true → place a % 2 ≡ index_at f l a % 2
  pub reads : (m : Parity) (off : ℤ) (a k : ℕ) → a < size_of f → touches f l a ≡ true → (read_index_at f l m off a k < size_of f) × (touches f l (read_index_at f l m off a k) ≡ true)
  pub read_group : (m : Parity) (off : ℤ) (a k : ℕ) → a < size_of f → touches f l a ≡ true → group (read_index_at f l m off a k) ≡ group a
  pub read_place : (m : Parity) (off : ℤ) (a k : ℕ) → a < size_of f → touches f l a ≡ true → place (read_index_at f l m off a k) ≡ slot (source_index (parity_of m) (place a) off k)

-- each touched sample lies in its slot
pub record Slotted (f : Shape) (l : PlainLift) (n : ℕ) (group place : ℕ → ℕ) (slots : ℕ → List Bounds) (xs : List ℤ) : Type 0 where
  pub long : length xs ≡ size_of f
  pub many : (g : ℕ) → length (slots g) ≡ n
  pub inside : (a : ℕ) → a < size_of f → touches f l a ≡ true → In (slot_at (slots (group a)) (place a)) (at xs a)

module _ (slot : ℤ → ℕ) (m : Parity) (s : PlainStep) (bs : List Bounds) where
  pub length-stepped : length (stepped slot m s bs) ≡ length bs
  unfolding stepped
  length-stepped = length-map-range_with_len _ 0 (length bs)

  pub at-stepped : (i : ℕ) → i < length bs → slot_at (stepped slot m s bs) i ≡ slot_after slot m s bs i
  unfolding stepped
  at-stepped i h = get_or-map-range_with_len _ 0 (length bs) i i no_bounds h (zero-add i)

module _ (f : Shape) (l : PlainLift) (slot : ℤ → ℕ) (n : ℕ) (group place : ℕ → ℕ) (standing : Standing f l slot n group place) where
  module _ (m : Parity) (s : PlainStep) (slots : ℕ → List Bounds) (xs : List ℤ) (in-slots : Slotted f l n group place slots xs) (a : ℕ) (h : a < size_of f) (t : touches f l a ≡ true) where
    -- each sample that a tap reads lies in the slot that the rule on spans reads
    read_inside : (k : ℕ) → In (slot_at (slots (group a)) (slot (source_index (parity_of m) (place a) s.offset k))) (at xs (read_index_at f l m s.offset a k))
    read_inside k =
        let r = standing.reads m s.offset a k h t in
        let g = standing.read_group m s.offset a k h t in
        let p = standing.read_place m s.offset a k h t in
        same_in _ _ _ _ (sym (λ i. slot_at (slots (g i)) (p i))) refl (in-slots.inside _ r.0 r.1)

    -- so what is added to a sample lies in the reach of its slot
    amount_inside : In (reach_of s.taps s.residue s.exponent (sources_of slot m s (slots (group a)) (place a))) ((lift_pass f l m s).amount xs a)
    amount_inside =
        let r = reach_holds s.taps s.residue s.exponent _ _ (inside_map (length s.taps) _ _ (λ k b. read_inside k)) in
        record { low = r.0; high = r.1 }

    step-inside : In (slot_at (stepped slot m s (slots (group a))) (place a)) (at (passed (lift_pass f l m s) xs) a)
    step-inside =
        let room : place a < length (slots (group a)) = omega (arith, standing.room a h t, in-slots.many (group a)) in
        let long : a < length xs = omega (arith, in-slots.long) in
        let same = sym (ap (λ j. eqb j (parity_of m)) (standing.parity a h t)) in
        let now = in-slots.inside a h t in
        same_in _ _ _ _ (at-stepped slot m s (slots (group a)) (place a) room) refl (⊎_elim
        (λ e. same_in _ _ _ _ (cond-true _ _ _ e) (at-passed-hit (lift_pass f l m s) xs a long (and_from _ _ t (same ∙ e))) (raised-in _ _ _ _ now amount_inside))
        (λ e. same_in _ _ _ _ (cond-false _ _ _ e) (at-passed-kept (lift_pass f l m s) xs a long (and_right _ _ (same ∙ e))) now)
        (cases_Bool (eqb (place a % 2) (parity_of m))))

  pub step-slotted : (m : Parity) (s : PlainStep) (slots : ℕ → List Bounds) (xs : List ℤ) → Slotted f l n group place slots xs →
      Slotted f l n group place (λ g. stepped slot m s (slots g)) (passed (lift_pass f l m s) xs)
  step-slotted m s slots xs i = record {
    long = length-passed (lift_pass f l m s) xs ∙ i.long;
    many = λ g. length-stepped slot m s (slots g) ∙ i.many g;
    inside = λ a h t. step-inside m s slots xs i a h t;
  }
