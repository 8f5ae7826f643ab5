use Rattle.std.proofs.Common.{◌≡◌, ◌+◌, ◌-◌, ◌<◌, take, replicate, sym, ap, ◌∙◌, arith, length-set, w16, w32, SFits, to_z, of_z, rules}
use Rattle.std.proofs.lemmas.Int.{ints}
use Rattle.std.proofs.lemmas.List.{take-append-le}
use Rattle.recipe.specs.Grammar.{numbers}
use Rattle.recipe.specs.Promises.{fields_in}
use Rattle.recipe.specs.Rules.{tap_rule, first_wrong}
use Rattle.recipe.proofs.Faults.{passed, first_wrong-none}
use Rattle.recipe.proofs.TapRules.{rules_next, rules_wrong, numbers_more}
use Rattle.recipe.proofs.forms.taps.Goals as goal

pub returns-in_err-tap : goal.returns-in_err-tap
returns-in_err-tap c =
    let line = c.args.line.now in
    let more : c.loop-i.i < c.args.n = omega (arith, c.loop-i.invariant.0) in
    passed _ _ c.from_residual.result _ c.from_residual.ensures
    (c.loop-i.invariant.2 ∙ rules_wrong line.number (fields_in line) c.args.from c.args.n c.loop-i.i tap_rule more _ c.in_err-tap.ensures)

pub loop-i-preserved : goal.loop-i-preserved
loop-i-preserved c =
    let line = c.args.line.now in
    let i = c.loop-i.i in
    let tap = c.in_ok-tap.ensures in
    let fits : SFits w32 c.in_ok-tap.field-0 = search rules in
    let same : to_z w16 (of_z w16 (to_z w32 (of_z w32 c.in_ok-tap.field-0))) ≡ c.in_ok-tap.field-0 = omega (arith, ints) in
    let more : i < c.args.n = omega (arith, c.loop-i.invariant.0) in (
      length-set _ _ _ ∙ c.loop-i.invariant.0,
      numbers_more (fields_in line) c.args.from i c.loop-i.tap-items _ (omega (arith, more, c.loop-i.invariant.0)) (same ∙ tap.1.is) c.loop-i.invariant.1,
      c.loop-i.invariant.2 ∙ rules_next line.number (fields_in line) c.args.from c.args.n i tap_rule more tap.0,
    )

pub returns : goal.returns
returns c =
    let line = c.args.line.now in
    let found = c.loop-i.tap-items in
    let n : c.loop-i.i ≡ c.args.n = omega (arith, c.loop-i.invariant.0) in
    let z : c.args.n - c.loop-i.i ≡ 0 = omega arith in (
      c.loop-i.invariant.2 ∙ ap (λ m. first_wrong line.number (fields_in line) (c.args.from + c.loop-i.i) (replicate m tap_rule)) z ∙ first_wrong-none _ _ _,
      take-append-le c.args.n found _ (omega (arith, c.loop-i.invariant.0)) ∙ ap (λ m. take m found) (sym n) ∙ c.loop-i.invariant.1 ∙ ap (numbers (fields_in line) c.args.from) n,
    )
