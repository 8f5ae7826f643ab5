use Rattle.std.proofs.Common.{sym, ◌∙◌, arith}
use Rattle.std.proofs.lemmas.List.{take_rest}
use Rattle.recipe.proofs.Letters.{number-plain, number-zero, number-minus}
use Rattle.recipe.proofs.kinds.is_number.Goals as goal

pub returns-in-45 : goal.returns-in-45
returns-in-45 c = sym (number-zero c.args.bytes.now (omega arith) (omega arith) (omega arith))

pub returns-in-45-2 : goal.returns-in-45-2
returns-in-45-2 c =
    let bs = c.args.bytes.now in
    let e = c.is_natural.ensures in
    rw (take_rest bs 1) at e ∙ sym (number-minus bs (grind arith) (λ n z. grind arith))

pub returns-in_default : goal.returns-in_default
returns-in_default c = c.is_natural-in_default.ensures ∙ sym (number-plain c.args.bytes.now (λ e. grind arith))
