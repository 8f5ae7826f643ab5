use Rattle.std.proofs.Common.{sym, ap, ◌∙◌}
use Rattle.recipe.specs.Rules.{same}
use Rattle.recipe.proofs.Faults.{shown_no_word, same-no-word, same-from-equal}
use Rattle.recipe.proofs.line.Line.begins.Goals as goal

pub returns-in_default : goal.returns-in_default
returns-in_default c = sym (same-no-word _ c.args.word.now (shown_no_word c.field.result _ c.field.ensures c.in_default.not-Word) c.requires)

pub returns : goal.returns
returns c = same-from-equal c.in-Word.first.now c.args.word.now _ c.eq.ensures ∙ ap (λ w. same w c.args.word.now) c.in-Word.ensures.0
