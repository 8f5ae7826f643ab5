-- All steps of a lifting: the samples end in the slots that the rule on spans ends with, and fit where all slots on the way do.
use Rattle.std.proofs.Common.{◌≡◌, ℕ, ◌<◌, true, List, [], ◌∷◌, length, ℤ, sym, ◌∙◌, subst, arith, w32, SFits}
use Rattle.std.proofs.lemmas.Bool.{and_parts}
use Rattle.sets.specs.declared.bounds.Bounds.{Bounds}
use Rattle.sets.specs.declared.shape.Shape.{Shape}
use Rattle.sets.specs.Areas.{size_of, at}
use Rattle.stages.specs.declared.stage.Parity.{Parity}
use Rattle.stages.specs.Lifting.{other, stepped, ended, walked}
use Rattle.stages.specs.Plain.{PlainLift, PlainStep}
use Rattle.stages.specs.Ranges.{all_fit}
use Rattle.stages.proofs.Every.{all_fit_append}
use Rattle.rules.specs.Lifted.{lift_pass, lift_passes}
use Rattle.rules.specs.Passes.{ran, FitsAt, Fitting, none, more}
use Rattle.rules.proofs.Fits.{all_fit_at, in_fits}
use Rattle.rules.proofs.LiftSpansSlots.{touches, Standing, Slotted, step-slotted}
use Rattle.rules.proofs.Passing.{at-passed-hit}

-- the slots of every group that has a touched address fit
abbrev pub SlotsFit : Shape → PlainLift → (ℕ → ℕ) → (ℕ → List Bounds) → Type 0
SlotsFit f l group slots = (a : ℕ) → a < size_of f → touches f l a ≡ true → all_fit (slots (group a)) ≡ true

-- where the slots of a walk fit, so do those of its first step and those of the rest
walk_parts : (slot : ℤ → ℕ) (m : Parity) (s : PlainStep) (ss : List PlainStep) (bs : List Bounds) → all_fit (walked slot m (s ∷ ss) bs) ≡ true →
    (all_fit (stepped slot m s bs) ≡ true) × (all_fit (walked slot (other m) ss (stepped slot m s bs)) ≡ true)
unfolding walked
walk_parts slot m s ss bs h =
    let next = stepped slot m s bs in
    let rest = walked slot (other m) ss next in
    and_parts (all_fit next) (all_fit rest) (sym (all_fit_append next rest) ∙ h)

module _ (f : Shape) (l : PlainLift) (slot : ℤ → ℕ) (n : ℕ) (group place : ℕ → ℕ) (standing : Standing f l slot n group place) where
  pub ran-slotted : (m : Parity) (ss : List PlainStep) (slots : ℕ → List Bounds) (xs : List ℤ) → Slotted f l n group place slots xs →
      Slotted f l n group place (λ g. ended slot m ss (slots g)) (ran (lift_passes f l m ss) xs)
  unfolding ended ran lift_passes
  ran-slotted m [] slots xs i = i
  ran-slotted m (s ∷ ss) slots xs i = ran-slotted (other m) ss (λ g. stepped slot m s (slots g)) _ (step-slotted f l slot n group place standing m s slots xs i)

  slotted_fits : (slots : ℕ → List Bounds) (xs : List ℤ) → Slotted f l n group place slots xs → SlotsFit f l group slots →
      (a : ℕ) → a < size_of f → touches f l a ≡ true → SFits w32 (at xs a)
  slotted_fits slots xs i fit a h t =
      let room : place a < length (slots (group a)) = omega (arith, standing.room a h t, i.many (group a)) in
      in_fits _ _ (all_fit_at (slots (group a)) (place a) room (fit a h t)) (i.inside a h t)

  pub step_fits : (m : Parity) (s : PlainStep) (slots : ℕ → List Bounds) (xs : List ℤ) → Slotted f l n group place slots xs → SlotsFit f l group slots →
      SlotsFit f l group (λ g. stepped slot m s (slots g)) → FitsAt (lift_pass f l m s) xs
  step_fits m s slots xs i fit fit-after =
      let next = step-slotted f l slot n group place standing m s slots xs i in
      record {
        before = λ a h t. slotted_fits slots xs i fit a (omega (arith, i.long)) (hit_touched a t);
        after = λ a h t. subst (SFits w32) (at-passed-hit (lift_pass f l m s) xs a h t) (slotted_fits _ _ next fit-after a (omega (arith, i.long)) (hit_touched a t));
      }
    where
      hit_touched : (a : ℕ) → (lift_pass f l m s).hits a ≡ true → touches f l a ≡ true
      hit_touched a t = (and_parts (touches f l a) _ t).0

  pub ran-fitting : (m : Parity) (ss : List PlainStep) (slots : ℕ → List Bounds) (xs : List ℤ) → Slotted f l n group place slots xs → SlotsFit f l group slots →
      SlotsFit f l group (λ g. walked slot m ss (slots g)) → Fitting (lift_passes f l m ss) xs
  unfolding walked lift_passes
  ran-fitting m [] slots xs i fit walk = none
  ran-fitting m (s ∷ ss) slots xs i fit walk =
      let next = step-slotted f l slot n group place standing m s slots xs i in
      let here : SlotsFit f l group (λ g. stepped slot m s (slots g)) = λ a h t. (walk_parts slot m s ss _ (walk a h t)).0 in
      more (step_fits m s slots xs i fit here)
      (ran-fitting (other m) ss (λ g. stepped slot m s (slots g)) _ next here (λ a h t. (walk_parts slot m s ss _ (walk a h t)).1))
