-- The steps of a lifting one after another, forth and back.
use Rattle.std.proofs.Common.{◌≡◌, ℕ, ◌+◌, ◌<◌, ◌≤◌, true, false, List, [], ◌∷◌, length, ◌++◌, get_or, take, drop, ℤ, sym, refl, ap, ◌∙◌, subst, arith}
use Rattle.std.proofs.lemmas.List.{take_all, take_at, take-take, length-take, get_or-take, length_push, get_or_push, drop_all, drop_more, length-map, get_or-map}
use Rattle.std.proofs.lemmas.Bool.Decides.{nat_tests}
use Rattle.stages.specs.declared.stage.Parity.{Parity}
use Rattle.stages.specs.declared.stage.Parity.TheVariants.{Even, Odd}
use Rattle.stages.specs.declared.stage.Step.{Step}
use Rattle.stages.specs.Lifting.{other}
use Rattle.stages.specs.Plain.{plain_lift, plain_step, plain_steps, steps_of}
use Rattle.rules.specs.Lifted.{lift_passes}
use Rattle.rules.specs.Passes.{Pass}
use Rattle.transform.specs.declared.long_lines.LongLines.{LongLines}
use Rattle.transform.specs.Steps.{parity_at, step_pass}
use Rattle.transform.specs.Turned.{Turned, Forth, Back, none, more}

parity-more : (m : Parity) (k : ℕ) → other (parity_at m k) ≡ parity_at m (k + 1)
parity-more Even k = grind (arith, nat_tests)
parity-more Odd k = grind (arith, nat_tests)

module _ (s : LongLines) where
  -- the passes of the steps from step k on
  abbrev pub passes_from : ℕ → List Pass
  passes_from k = lift_passes s.lifting.shape (plain_lift s.lifting.lift) (parity_at s.lifting.lift.parity k) (drop k (plain_steps s.lifting.lift))

  module _ (steps : List Step) (of : steps ≡ steps_of s.lifting.lift) where
    passes_over : (k : ℕ) → length steps ≤ k → passes_from k ≡ []
    unfolding lift_passes
    passes_over k h = rw (drop_all k (plain_steps s.lifting.lift) (simp length-map (omega (arith, ap length of)))) refl

    passes_more : (k : ℕ) (d : Step) → k < length steps → d ≡ get_or steps k d → passes_from k ≡ step_pass s.lifting k d ∷ passes_from (k + 1)
    unfolding lift_passes
    passes_more k d h e =
        let l = s.lifting.lift in
        let below : k < length (steps_of l) = omega (arith, ap length of) in
        let step : get_or (plain_steps l) k (plain_step d) ≡ plain_step d = get_or-map plain_step (steps_of l) k d (plain_step d) below ∙ ap plain_step (sym (e ∙ ap (λ x. get_or x k d) of)) in
        ap (lift_passes s.lifting.shape (plain_lift l) (parity_at l.parity k)) (drop_more (plain_steps l) k (plain_step d) (simp length-map below) ∙ ap (λ x. x ∷ drop (k + 1) (plain_steps l)) step)
        ∙ ap (λ m. step_pass s.lifting k d ∷ lift_passes s.lifting.shape (plain_lift l) m (drop (k + 1) (plain_steps l))) (parity-more l.parity k)

    pub forth_none : (k : ℕ) (xs : List ℤ) → length steps ≤ k → Forth (passes_from k) xs xs
    forth_none k xs h = subst (λ ps. Forth ps xs xs) (sym (passes_over k h)) none

    pub forth_more : (k : ℕ) (d : Step) (xs ys zs : List ℤ) → k < length steps → d ≡ get_or steps k d → Turned false (step_pass s.lifting k d) xs ys → Forth (passes_from (k + 1)) ys zs → Forth (passes_from k) xs zs
    forth_more k d xs ys zs h e t rest = subst (λ ps. Forth ps xs zs) (sym (passes_more k d h e)) (more t rest)

  -- the first steps are left, and the steps after them are undone
  pub record Undone (left : List Step) (xs ys : List ℤ) : Type 0 where
    pub first : take (length left) (steps_of s.lifting.lift) ≡ left
    pub back : Back (passes_from (length left)) xs ys

  pub back_none : (xs : List ℤ) → Undone (steps_of s.lifting.lift) xs xs
  back_none xs =
      let steps = steps_of s.lifting.lift in
      record { first = take_all (length steps) steps (omega arith); back = subst (λ ps. Back ps xs xs) (sym (passes_over steps refl (length steps) (omega arith))) none }

  pub back_more : (left : List Step) (k : ℕ) (d : Step) (xs ys zs : List ℤ) → k ≡ length left → Undone (left ++ d ∷ []) xs ys → Turned true (step_pass s.lifting k d) ys zs → Undone left xs zs
  back_more left k d xs ys zs e u t =
      let steps = steps_of s.lifting.lift in
      let n = length left in
      let more_one : length (left ++ d ∷ []) ≡ n + 1 = length_push left d in
      let first : take (n + 1) steps ≡ left ++ d ∷ [] = rw more_one at u.first in
      let below : n < length steps = omega (arith, sym (ap length first) ∙ length-take (n + 1) steps, more_one) in
      let step : d ≡ get_or steps n d = sym (get_or_push left d d n refl) ∙ sym (ap (λ x. get_or x n d) first) ∙ get_or-take (n + 1) steps n d (omega arith) in
      record {
        first = sym (take-take n (n + 1) steps (omega arith)) ∙ ap (take n) first ∙ take_at left (d ∷ []) n refl;
        back = subst (λ ps. Back ps xs zs) (sym (passes_more steps refl n d below step)) (more (subst (λ m. Back (passes_from m) xs ys) more_one u.back) (subst (λ m. Turned true (step_pass s.lifting m d) ys zs) e t));
      }
