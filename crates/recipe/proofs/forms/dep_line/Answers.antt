use Rattle.std.proofs.Common.{◌≡◌, ◌-◌, ◌-ℤ◌, [], ◌∷◌, pos, nat_abs, sym, ap, ◌∙◌, arith}
use Rattle.std.specs.Int.{int_min}
use Rattle.stages.specs.Plain.{plain, dep as a-dep}
use Rattle.recipe.specs.Promises.{fields_in}
use Rattle.recipe.specs.Rules.{between, first_wrong, number}
use Rattle.recipe.proofs.Faults.{past, rule_wrong, first_wrong-none, passed}
use Rattle.recipe.proofs.Limits.{dep_limit}
use Rattle.recipe.proofs.forms.dep_line.Goals as goal
use Rattle.recipe.proofs.forms.dep_line.Goals.{After-min, at-returns-in_err-count, at-returns}

-- the limit of the count
limit : (c : After-min) → first_wrong c.args.line.now.number (fields_in c.args.line.now) 2 (between (pos 2) (int_min (pos 8) (pos 64 -ℤ number (fields_in c.args.line.now) 1)) ∷ []) ≡ first_wrong c.args.line.now.number (fields_in c.args.line.now) 2 (between (pos 2) (pos c.min.result) ∷ [])
limit c =
    let line = c.args.line.now in
    let first = c.in_ok-first.ensures.1 in
    ap (λ z. first_wrong line.number (fields_in line) 2 (between (pos 2) z ∷ [])) (dep_limit (number (fields_in line) 1) c.in_ok-first.first _ first.is (omega arith) (omega (arith, c.min.ensures)))

pub returns-in_err-first : goal.returns-in_err-first
returns-in_err-first c = passed _ _ c.from_residual.result _ c.from_residual.ensures (rule_wrong _ _ 1 _ _ _ c.in_err-first.ensures)

pub returns-in_err-count : goal.returns-in_err-count
returns-in_err-count c =
    passed _ _ c.from_residual-in_err-count.result _ c.from_residual-in_err-count.ensures
    (past _ _ 1 1 _ (c.in_ok-first.ensures.0, tt) ∙ (limit (at-returns-in_err-count c).After-min ∙ c.in_err-count.ensures))

pub invariant_of-result : goal.invariant_of-result
unfolding plain
invariant_of-result c = record { fits = omega (arith, c.in_ok-count.ensures.1.below, c.min.ensures) }

pub returns : goal.returns
unfolding plain
returns c =
    let count = c.in_ok-count.ensures in
    let f : nat_abs (number (fields_in c.args.line.now) 1) ≡ c.in_ok-first.first = ap nat_abs c.in_ok-first.ensures.1.is in
    let n : nat_abs (number (fields_in c.args.line.now) 2) ≡ c.in_ok-count.count = ap nat_abs count.1.is in (
      past _ _ 1 2 _ (c.in_ok-first.ensures.0, (limit (at-returns c).After-min ∙ count.0, tt)) ∙ first_wrong-none _ _ _,
      record { stage = ap (λ m. a-dep m []) (sym f); left = ap (λ m. m - 1) (sym n) },
    )
