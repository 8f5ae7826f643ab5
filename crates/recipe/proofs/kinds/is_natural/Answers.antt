use Rattle.std.proofs.Common.{sym, ◌∙◌, arith, rules, tests}
use Rattle.std.proofs.lemmas.Iterator.{YieldsList-from_slice}
use Rattle.std.proofs.lemmas.Iterator.Search.{all_from_yields_List}
use Rattle.recipe.specs.Fields.{is_digit}
use Rattle.recipe.proofs.Letters.{natural-digits}
use Rattle.recipe.proofs.kinds.is_natural.Goals as goal

pub returns-in_default : goal.returns-in_default
returns-in_default c =
    all_from_yields_List is_digit _ _ _ c.all.ensures.ran (YieldsList-from_slice c.args.bytes.now (cc)) (λ x b q k. search (rules, tests))
    ∙ sym (natural-digits c.args.bytes.now (grind arith) (λ n z. grind arith))
