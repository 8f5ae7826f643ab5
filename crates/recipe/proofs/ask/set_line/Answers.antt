use Rattle.std.proofs.Common.{◌≡◌, [], ◌∷◌, pos, nat_abs, sym, ap, ◌∙◌, w32, SFits, to_z, of_z, rules}
use Rattle.std.proofs.lemmas.Int.{to_z-of_z}
use Rattle.recipe.specs.Promises.{fields_in}
use Rattle.recipe.specs.Rules.{between, first_wrong, number}
use Rattle.recipe.proofs.Alike.{alike_shapes, alike_bounds}
use Rattle.recipe.proofs.Faults.{past, rule_wrong, passed}
use Rattle.recipe.proofs.ask.set_line.Goals as goal
use Rattle.recipe.proofs.ask.set_line.Goals.{In_ok-least, at-returns-in_err-greatest, at-returns}

-- the least is the limit of the greatest
limit : (c : In_ok-least) → first_wrong c.args.line.now.number (fields_in c.args.line.now) 5 (between (number (fields_in c.args.line.now) 4) (pos 2147483647) ∷ []) ≡ first_wrong c.args.line.now.number (fields_in c.args.line.now) 5 (between (to_z w32 (of_z w32 c.in_ok-least.least)) (pos 2147483647) ∷ [])
limit c =
    let line = c.args.line.now in
    let fits : SFits w32 c.in_ok-least.least = search rules in
    ap (λ z. first_wrong line.number (fields_in line) 5 (between z (pos 2147483647) ∷ [])) (sym (to_z-of_z w32 _ fits ∙ c.in_ok-least.ensures.1.is))

pub returns-in_err-channels : goal.returns-in_err-channels
returns-in_err-channels c = passed _ _ c.from_residual.result _ c.from_residual.ensures (rule_wrong _ _ 1 _ _ _ c.in_err-channels.ensures)

pub returns-in_err-samples : goal.returns-in_err-samples
returns-in_err-samples c =
    passed _ _ c.from_residual-in_err-samples.result _ c.from_residual-in_err-samples.ensures
    (past _ _ 1 1 _ (c.in_ok-channels.ensures.0, tt) ∙ rule_wrong _ _ 2 _ _ _ c.in_err-samples.ensures)

pub returns-in_err-origin : goal.returns-in_err-origin
returns-in_err-origin c =
    passed _ _ c.from_residual-in_err-origin.result _ c.from_residual-in_err-origin.ensures
    (past _ _ 1 2 _ (c.in_ok-channels.ensures.0, (c.in_ok-samples.ensures.0, tt)) ∙ rule_wrong _ _ 3 _ _ _ c.in_err-origin.ensures)

pub returns-in_err-least : goal.returns-in_err-least
returns-in_err-least c =
    passed _ _ c.from_residual-in_err-least.result _ c.from_residual-in_err-least.ensures
    (past _ _ 1 3 _ (c.in_ok-channels.ensures.0, (c.in_ok-samples.ensures.0, (c.in_ok-origin.ensures.0, tt))) ∙ rule_wrong _ _ 4 _ _ _ c.in_err-least.ensures)

pub returns-in_err-greatest : goal.returns-in_err-greatest
returns-in_err-greatest c =
    passed _ _ c.from_residual-in_err-greatest.result _ c.from_residual-in_err-greatest.ensures
    (past _ _ 1 4 _ (c.in_ok-channels.ensures.0, (c.in_ok-samples.ensures.0, (c.in_ok-origin.ensures.0, (c.in_ok-least.ensures.0, tt)))) ∙ (limit (at-returns-in_err-greatest c).In_ok-least ∙ c.in_err-greatest.ensures))

pub returns : goal.returns
returns c =
    let fits : SFits w32 c.in_ok-least.least = search rules in
    let fits' : SFits w32 c.in_ok-greatest.greatest = search rules in (
      past _ _ 1 4 _ (c.in_ok-channels.ensures.0, (c.in_ok-samples.ensures.0, (c.in_ok-origin.ensures.0, (c.in_ok-least.ensures.0, tt)))) ∙ (limit (at-returns c).In_ok-least ∙ c.in_ok-greatest.ensures.0),
      record {
        shape = alike_shapes (ap nat_abs (sym c.in_ok-channels.ensures.1.is)) (ap nat_abs (sym c.in_ok-samples.ensures.1.is)) (ap nat_abs (sym c.in_ok-origin.ensures.1.is));
        span = alike_bounds (to_z-of_z w32 _ fits ∙ c.in_ok-least.ensures.1.is) (to_z-of_z w32 _ fits' ∙ c.in_ok-greatest.ensures.1.is);
      },
    )
