-- The steps of a lifting one after another, from step k on, forth and back.
use Rattle.std.proofs.Common.{◌≡◌, ℕ, ◌+◌, ◌<◌, ◌≤◌, true, false, List, length, get_or, drop, ℤ, subst, arith}
use Rattle.std.proofs.lemmas.List.{drop_all, length-map, length-take}
use Rattle.sets.specs.declared.shape.Shape.{Shape}
use Rattle.stages.specs.declared.stage.Lift.{Lift}
use Rattle.stages.specs.declared.stage.Parity.{Parity}
use Rattle.stages.specs.declared.stage.Step.{Step}
use Rattle.stages.specs.Lifting.{other}
use Rattle.stages.specs.Plain.{plain_lift, plain_step, plain_steps}
use Rattle.stages.proofs.Parts.{front-more}
use Rattle.rules.specs.Lifted.{lift_pass, lift_passes}
use Rattle.transform.specs.Turned.{Turned, Forth, Back, none, more}

module _ (f : Shape) (l : Lift) (m : Parity) (k : ℕ) where
  steps_over : l.step_count ≤ k → length (plain_steps l) ≤ k
  steps_over h = simp (length-map, length-take) (omega (arith, l.full, l.few))

  pub forth_none : (xs : List ℤ) → l.step_count ≤ k → Forth (lift_passes f (plain_lift l) m (drop k (plain_steps l))) xs xs
  unfolding lift_passes
  forth_none xs h = rw (drop_all k (plain_steps l) (steps_over h)) none

  pub back_none : (xs : List ℤ) → l.step_count ≤ k → Back (lift_passes f (plain_lift l) m (drop k (plain_steps l))) xs xs
  unfolding lift_passes
  back_none xs h = rw (drop_all k (plain_steps l) (steps_over h)) none

  module _ (d : Step) (m' : Parity) (xs ys zs : List ℤ) (h : k < l.step_count) (e : m' ≡ other m) where
    pub forth_more : Turned false (lift_pass f (plain_lift l) m (plain_step (get_or l.steps k d))) xs ys →
        Forth (lift_passes f (plain_lift l) m' (drop (k + 1) (plain_steps l))) ys zs → Forth (lift_passes f (plain_lift l) m (drop k (plain_steps l))) xs zs
    unfolding lift_passes
    forth_more t rest =
        rw (front-more plain_step l.steps l.step_count k d h (omega (arith, l.full, l.few)))
        (more t (subst (λ p. Forth (lift_passes f (plain_lift l) p (drop (k + 1) (plain_steps l))) ys zs) e rest))

    pub back_more : Back (lift_passes f (plain_lift l) m' (drop (k + 1) (plain_steps l))) xs ys →
        Turned true (lift_pass f (plain_lift l) m (plain_step (get_or l.steps k d))) ys zs → Back (lift_passes f (plain_lift l) m (drop k (plain_steps l))) xs zs
    unfolding lift_passes
    back_more rest t =
        rw (front-more plain_step l.steps l.step_count k d h (omega (arith, l.full, l.few)))
        (more (subst (λ p. Back (lift_passes f (plain_lift l) p (drop (k + 1) (plain_steps l))) xs ys) e rest) t)
