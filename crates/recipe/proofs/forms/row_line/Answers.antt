use Rattle.std.proofs.Common.{◌≡◌, ◌-◌, length, pos, nat_abs, sym, ap, ◌∙◌, arith, w32, SFits, rules}
use Rattle.stages.specs.Channels.{half_of}
use Rattle.std.proofs.lemmas.Int.{to_z-of_z}
use Rattle.recipe.specs.Grammar.{numbers}
use Rattle.recipe.specs.Promises.{fields_in}
use Rattle.recipe.proofs.Alike.{alike_rows}
use Rattle.recipe.proofs.Faults.{past, rule_wrong, passed}
use Rattle.recipe.proofs.forms.row_line.Goals as goal

pub returns-in_err-exponent : goal.returns-in_err-exponent
returns-in_err-exponent c =
    passed _ _ c.from_residual.result _ c.from_residual.ensures
    (rule_wrong _ _ 1 _ _ _ c.in_err-exponent.ensures)

pub returns-in_err-taps : goal.returns-in_err-taps
returns-in_err-taps c =
    passed _ _ c.from_residual-in_err-taps.result _ c.from_residual-in_err-taps.ensures
    (past _ _ 1 1 _ (c.in_ok-exponent.ensures.0, tt) ∙ c.in_err-taps.ensures)

pub returns : goal.returns
returns c =
    let line = c.args.line.now in
    let e = c.in_ok-exponent.ensures.1.is in
    let taps = c.in_ok-taps.ensures in
    let fits : SFits w32 c.half-residue.result = search rules in
    let n : c.args.i ≡ length (fields_in line) - 2 = omega arith in (
      past _ _ 1 1 _ (c.in_ok-exponent.ensures.0, tt) ∙ taps.0,
      alike_rows (ap nat_abs (sym e)) (to_z-of_z w32 _ fits ∙ c.half-residue.ensures ∙ ap (λ z. pos (half_of (nat_abs z))) (sym e)) (taps.1 ∙ ap (numbers (fields_in line) 2) n),
    )
