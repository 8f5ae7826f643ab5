use Rattle.std.proofs.Common.{◌≡◌, ◌-◌, length, replicate, nat_abs, sym, ap, ◌∙◌, arith, w32, SFits, rules}
use Rattle.std.proofs.lemmas.Int.{to_z-of_z}
use Rattle.recipe.specs.Grammar.{numbers}
use Rattle.recipe.specs.Promises.{fields_in}
use Rattle.recipe.specs.Rules.{tap_rule, first_wrong}
use Rattle.recipe.proofs.Alike.{alike_steps}
use Rattle.recipe.proofs.Faults.{past, rule_wrong, passed}
use Rattle.recipe.proofs.forms.step_line.Goals as goal
use Rattle.recipe.proofs.forms.step_line.Goals.{In_ok-residue, at-returns-in_err-taps, at-returns}

-- as many taps as fields behind the fourth
by_taps : (c : In_ok-residue) → first_wrong c.args.line.now.number (fields_in c.args.line.now) 4 (replicate (length (fields_in c.args.line.now) - 4) tap_rule) ≡ first_wrong c.args.line.now.number (fields_in c.args.line.now) 4 (replicate c.args.n tap_rule)
by_taps c =
    let line = c.args.line.now in
    let n : length (fields_in line) - 4 ≡ c.args.n = omega arith in
    ap (λ m. first_wrong line.number (fields_in line) 4 (replicate m tap_rule)) n

pub returns-in_err-offset : goal.returns-in_err-offset
returns-in_err-offset c = passed _ _ c.from_residual.result _ c.from_residual.ensures (rule_wrong _ _ 1 _ _ _ c.in_err-offset.ensures)

pub returns-in_err-exponent : goal.returns-in_err-exponent
returns-in_err-exponent c =
    passed _ _ c.from_residual-in_err-exponent.result _ c.from_residual-in_err-exponent.ensures
    (past _ _ 1 1 _ (c.in_ok-offset.ensures.0, tt) ∙ rule_wrong _ _ 2 _ _ _ c.in_err-exponent.ensures)

pub returns-in_err-residue : goal.returns-in_err-residue
returns-in_err-residue c =
    passed _ _ c.from_residual-in_err-residue.result _ c.from_residual-in_err-residue.ensures
    (past _ _ 1 2 _ (c.in_ok-offset.ensures.0, (c.in_ok-exponent.ensures.0, tt)) ∙ rule_wrong _ _ 3 _ _ _ c.in_err-residue.ensures)

pub returns-in_err-taps : goal.returns-in_err-taps
returns-in_err-taps c =
    passed _ _ c.from_residual-in_err-taps.result _ c.from_residual-in_err-taps.ensures
    (past _ _ 1 3 _ (c.in_ok-offset.ensures.0, (c.in_ok-exponent.ensures.0, (c.in_ok-residue.ensures.0, tt))) ∙ (by_taps (at-returns-in_err-taps c).In_ok-residue ∙ c.in_err-taps.ensures))

pub returns : goal.returns
returns c =
    let line = c.args.line.now in
    let taps = c.in_ok-taps.ensures in
    let fits : SFits w32 c.in_ok-offset.offset = search rules in
    let fits' : SFits w32 c.in_ok-residue.residue = search rules in
    let n : c.args.n ≡ length (fields_in line) - 4 = omega arith in (
      past _ _ 1 3 _ (c.in_ok-offset.ensures.0, (c.in_ok-exponent.ensures.0, (c.in_ok-residue.ensures.0, tt))) ∙ (by_taps (at-returns c).In_ok-residue ∙ taps.0),
      alike_steps (to_z-of_z w32 _ fits ∙ c.in_ok-offset.ensures.1.is) (ap nat_abs (sym c.in_ok-exponent.ensures.1.is)) (to_z-of_z w32 _ fits' ∙ c.in_ok-residue.ensures.1.is) (taps.1 ∙ ap (numbers (fields_in line) 4) n),
    )
