-- What one line more makes of the stage at hand.
use Rattle.std.proofs.Common.{◌≡◌, ℕ, ◌+◌, ◌-◌, ◌<◌, List, [], ◌∷◌, ◌++◌, map, take, set, None, codes, sym, ap, ◌∙◌, arith}
use Rattle.std.proofs.lemmas.List.{map_push, take_more_set}
use Rattle.stages.specs.declared.quotient.Quotient.{Quotient}
use Rattle.stages.specs.declared.stage.Dep.{Dep}
use Rattle.stages.specs.declared.stage.Lift.{Lift}
use Rattle.stages.specs.declared.stage.Step.{Step}
use Rattle.stages.specs.declared.stage.Stage.TheVariants.{Lift as in_lift, Dep as in_dep}
use Rattle.stages.specs.Plain.{Plain, lift, dep, plain, plain_lift, plain_step, plain_row, steps_of}
use Rattle.recipe.specs.Grammar.{Sofar, line_fault, step_from, row_from, taken}
use Rattle.recipe.specs.Promises.{headed}
use Rattle.recipe.specs.Rules.{step, row}
use Rattle.recipe.proofs.Openings.{inside_fault, inside_taken}
use Rattle.recipe.proofs.Tables.{at_hand-last, step-form, row_form, with_step-lift, with_row_dep}

-- the stages ts, then p, with n lines due after the next
abbrev pub due : List Plain → ℕ → Plain → Sofar
due ts n p = record { stages = ts ++ p ∷ []; left = n + 1 }

abbrev pub done : List Plain → ℕ → Plain → Sofar
done ts n p = record { stages = ts ++ p ∷ []; left = n }

pub joined : (ss us : List Plain) (m n : ℕ) → ss ≡ us → m ≡ n → ◌≡◌ {A = Sofar} (record { stages = ss; left = m }) (record { stages = us; left = n })
joined ss us m n p q = cc

module _ (l : Lift) (ts : List Plain) (n line : ℕ) (fs : List (List ℕ)) where
  pub lift_fault : line_fault (due ts n (plain (in_lift l))) line fs ≡ headed (codes "STEP") step line fs
  lift_fault = inside_fault _ (omega arith) line fs _ (codes "STEP") step (at_hand-last ts (plain (in_lift l))) (step-form l)

  pub lift_taken : (x : Step) → headed (codes "STEP") step line fs ≡ None → plain_step x ≡ step_from fs → taken (due ts n (plain (in_lift l))) fs ≡ done ts n (lift (plain_lift l) (map plain_step (steps_of l) ++ plain_step x ∷ []))
  unfolding plain
  lift_taken x clear e =
      inside_taken _ (omega arith) line fs _ (codes "STEP") step (at_hand-last ts (plain (in_lift l))) (step-form l) clear
      ∙ joined _ _ _ _ (with_step-lift (step_from fs) ts (plain_lift l) (map plain_step (steps_of l)) ∙ ap (λ x. ts ++ lift (plain_lift l) (map plain_step (steps_of l) ++ x ∷ []) ∷ []) (sym e)) (omega arith)

module _ (d : Dep) (ts : List Plain) (n line : ℕ) (fs : List (List ℕ)) where
  pub dep_fault : line_fault (due ts n (plain (in_dep d))) line fs ≡ headed (codes "ROW") (row d.count) line fs
  dep_fault = inside_fault _ (omega arith) line fs _ (codes "ROW") (row d.count) (at_hand-last ts (plain (in_dep d))) (row_form d)

  pub dep_taken : (q : Quotient) → headed (codes "ROW") (row d.count) line fs ≡ None → plain_row q ≡ row_from fs → taken (due ts n (plain (in_dep d))) fs ≡ done ts n (dep d.first (map plain_row (take (d.count - 1) d.rows) ++ plain_row q ∷ []))
  unfolding plain
  dep_taken q clear e =
      inside_taken _ (omega arith) line fs _ (codes "ROW") (row d.count) (at_hand-last ts (plain (in_dep d))) (row_form d) clear
      ∙ joined _ _ _ _ (with_row_dep (row_from fs) ts d.first (map plain_row (take (d.count - 1) d.rows)) ∙ ap (λ x. ts ++ dep d.first (map plain_row (take (d.count - 1) d.rows) ++ x ∷ []) ∷ []) (sym e)) (omega arith)

-- the steps and the rows with one more
pub steps-more : (l : Lift) (x : Step) → l.step_count < 4 → map plain_step (take (l.step_count + 1) (set l.steps l.step_count x)) ≡ map plain_step (steps_of l) ++ plain_step x ∷ []
steps-more l x h = ap (map plain_step) (take_more_set l.steps l.step_count x (omega (arith, l.full))) ∙ map_push plain_step (steps_of l) x

pub rows-more : (d : Dep) (q : Quotient) → d.count < 8 → map plain_row (take (d.count + 1 - 1) (set d.rows (d.count - 1) q)) ≡ map plain_row (take (d.count - 1) d.rows) ++ plain_row q ∷ []
rows-more d q h =
    let some = d.some in
    let e : d.count + 1 - 1 ≡ d.count - 1 + 1 = omega arith in
    ap (λ m. map plain_row (take m (set d.rows (d.count - 1) q))) e ∙ ap (map plain_row) (take_more_set d.rows (d.count - 1) q (omega (arith, d.full))) ∙ map_push plain_row (take (d.count - 1) d.rows) q
