use Rattle.std.proofs.Common.{◌+◌, ◌%◌, ◌^◌, ◌<◌, cond, eqb, length, zero-add, ap, sym, ◌∙◌, arith, rules, tests}
use Rattle.std.proofs.lemmas.Iterator.{YieldsList-from_slice}
use Rattle.std.proofs.lemmas.Iterator.Consumers.{fold_from_yields_List}
use Rattle.std.proofs.lemmas.List.Splits.{length-slice_split}
use Rattle.recipe.specs.Fields.{fields_of}
use Rattle.recipe.proofs.Parting.{counted}
use Rattle.recipe.proofs.line.Line.commas.Goals as goal

pub returns : goal.returns
unfolding fields_of
returns c =
    let bs = c.args.self.now.bytes.now in
    let short : length bs < 2 ^ 64 = search rules in
    ap (λ n. n + 1) (
    fold_from_yields_List _ (λ n b. (n + cond (eqb b 44) 1 0) % 2 ^ 64) 0 c.fold.result c.fold.ensures.ran (YieldsList-from_slice bs (cc)) (λ a x b q k. search (rules, tests))
    ∙ counted (λ b. eqb b 44) 0 bs (omega (arith, short)) ∙ zero-add _
    )
    ∙ sym (length-slice_split (λ b. eqb b 44) bs)
