use Rattle.std.proofs.Common.{◌≡◌, ◌-◌, ◌-ℤ◌, [], ◌∷◌, pos, nat_abs, sym, ap, ◌∙◌, arith}
use Rattle.recipe.specs.Grammar.{parity_from}
use Rattle.stages.specs.Plain.{plain}
use Rattle.recipe.specs.Promises.{fields_in}
use Rattle.recipe.specs.Rules.{between, first_wrong, number}
use Rattle.recipe.proofs.Alike.{alike_lifts}
use Rattle.recipe.proofs.Faults.{past, rule_wrong, first_wrong-none, passed}
use Rattle.recipe.proofs.Limits.{rest_limit}
use Rattle.recipe.proofs.forms.lift_line.Goals as goal
use Rattle.recipe.proofs.forms.lift_line.Goals.{In_ok-first, at-returns-in_err-count, at-returns-in_err-level, at-returns-in_err-extension, at-returns-in_err-odd, at-returns-in_err-left, at-returns}

-- the limit of the count
limit : (c : In_ok-first) → first_wrong c.args.line.now.number (fields_in c.args.line.now) 3 (between (pos 1) (pos 64 -ℤ number (fields_in c.args.line.now) 2) ∷ []) ≡ first_wrong c.args.line.now.number (fields_in c.args.line.now) 3 (between (pos 1) (pos (64 - c.in_ok-first.first)) ∷ [])
limit c =
    let line = c.args.line.now in
    let first = c.in_ok-first.ensures.1 in
    ap (λ z. first_wrong line.number (fields_in line) 3 (between (pos 1) z ∷ [])) (rest_limit (number (fields_in line) 2) c.in_ok-first.first first.is (omega arith))

pub returns-in_err-axis : goal.returns-in_err-axis
returns-in_err-axis c = passed _ _ c.from_residual.result _ c.from_residual.ensures (rule_wrong _ _ 1 _ _ _ c.in_err-axis.ensures)

pub returns-in_err-first : goal.returns-in_err-first
returns-in_err-first c =
    passed _ _ c.from_residual-in_err-first.result _ c.from_residual-in_err-first.ensures
    (past _ _ 1 1 _ (c.in_ok-axis.ensures.0, tt) ∙ rule_wrong _ _ 2 _ _ _ c.in_err-first.ensures)

pub returns-in_err-count : goal.returns-in_err-count
returns-in_err-count c =
    passed _ _ c.from_residual-in_err-count.result _ c.from_residual-in_err-count.ensures
    (past _ _ 1 2 _ (c.in_ok-axis.ensures.0, (c.in_ok-first.ensures.0, tt)) ∙ rule_wrong _ _ 3 _ _ _ (limit (at-returns-in_err-count c).In_ok-first ∙ c.in_err-count.ensures))

pub returns-in_err-level : goal.returns-in_err-level
returns-in_err-level c =
    let so = at-returns-in_err-level c in
    passed _ _ c.from_residual-in_err-level.result _ c.from_residual-in_err-level.ensures
    (past _ _ 1 3 _ (c.in_ok-axis.ensures.0, (c.in_ok-first.ensures.0, (limit so.In_ok-first ∙ c.in_ok-count.ensures.0, tt))) ∙ rule_wrong _ _ 4 _ _ _ c.in_err-level.ensures)

pub returns-in_err-extension : goal.returns-in_err-extension
returns-in_err-extension c =
    let so = at-returns-in_err-extension c in
    passed _ _ c.from_residual-in_err-extension.result _ c.from_residual-in_err-extension.ensures
    (past _ _ 1 4 _ (c.in_ok-axis.ensures.0, (c.in_ok-first.ensures.0, (limit so.In_ok-first ∙ c.in_ok-count.ensures.0, (c.in_ok-level.ensures.0, tt)))) ∙ rule_wrong _ _ 5 _ _ _ c.in_err-extension.ensures)

pub returns-in_err-odd : goal.returns-in_err-odd
returns-in_err-odd c =
    let so = at-returns-in_err-odd c in
    passed _ _ c.from_residual-in_err-odd.result _ c.from_residual-in_err-odd.ensures
    (past _ _ 1 5 _ (c.in_ok-axis.ensures.0, (c.in_ok-first.ensures.0, (limit so.In_ok-first ∙ c.in_ok-count.ensures.0, (c.in_ok-level.ensures.0, (c.in_ok-extension.ensures.0, tt))))) ∙ rule_wrong _ _ 6 _ _ _ c.in_err-odd.ensures)

pub returns-in_err-left : goal.returns-in_err-left
returns-in_err-left c =
    let so = at-returns-in_err-left c in
    passed _ _ c.from_residual-in_err-left.result _ c.from_residual-in_err-left.ensures
    (past _ _ 1 6 _ (c.in_ok-axis.ensures.0, (c.in_ok-first.ensures.0, (limit so.In_ok-first ∙ c.in_ok-count.ensures.0, (c.in_ok-level.ensures.0, (c.in_ok-extension.ensures.0, (c.in_ok-odd.ensures.0, tt)))))) ∙ rule_wrong _ _ 7 _ _ _ c.in_err-left.ensures)

pub invariant_of-result : goal.invariant_of-result
unfolding plain
invariant_of-result c = record { fits = omega (arith, c.in_ok-left.ensures.1.below) }

pub returns : goal.returns
unfolding plain
returns c =
    let so = at-returns c in
    let n : nat_abs (number (fields_in c.args.line.now) 7) ≡ c.in_ok-left.left = ap nat_abs c.in_ok-left.ensures.1.is in (
      past _ _ 1 7 _ (c.in_ok-axis.ensures.0, (c.in_ok-first.ensures.0, (limit so.In_ok-first ∙ c.in_ok-count.ensures.0, (c.in_ok-level.ensures.0, (c.in_ok-extension.ensures.0, (c.in_ok-odd.ensures.0, (c.in_ok-left.ensures.0, tt))))))) ∙ first_wrong-none _ _ _,
      record {
        stage = alike_lifts
            c.in_ok-axis.ensures.1
            (ap nat_abs (sym c.in_ok-first.ensures.1.is)) (ap nat_abs (sym c.in_ok-count.ensures.1.is)) (ap nat_abs (sym c.in_ok-level.ensures.1.is))
            c.in_ok-extension.ensures.1
            (c.parity.ensures ∙ ap (λ z. parity_from (nat_abs z)) (sym c.in_ok-odd.ensures.1.is));
        left = sym n;
      },
    )
