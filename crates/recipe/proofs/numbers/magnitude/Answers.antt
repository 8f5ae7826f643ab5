use Rattle.std.proofs.Common.{◌+◌, ◌-◌, ◌*◌, min, refl, ap, ◌∙◌, rules, tests}
use Rattle.std.proofs.lemmas.Iterator.{YieldsList-from_slice}
use Rattle.std.proofs.lemmas.Iterator.Consumers.{fold_from_yields_List}
use Rattle.recipe.proofs.Values.{cut_off}
use Rattle.recipe.proofs.numbers.magnitude.Goals as goal

pub returns : goal.returns
returns c =
    c.min.ensures ∙ ap (λ n. min n 4294967295) (fold_from_yields_List _ (λ n b. min n 4294967295 * 10 + (b - 48)) 0 c.fold-number.result c.fold-number.ensures.ran (YieldsList-from_slice c.args.digits.now (cc)) (λ a x b q k. search (rules, tests)))
    ∙ cut_off 0 0 c.args.digits.now refl
