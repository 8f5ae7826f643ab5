use Rattle.std.proofs.Common.{◌≡◌, ℕ, eqb, List, [], Option, Some, None, Bor, refl, ap, ◌∙◌, subst, rules, tests}
use Rattle.std.specs.Option.{MatchOption, option_map, unwrap_or}
use Rattle.std.proofs.lemmas.Option.{unwrap_or-slice_get}
use Rattle.std.proofs.lemmas.Iterator.Splits.{YieldsList-from_slice_split}
use Rattle.std.proofs.lemmas.Iterator.Consumers.{nth_from_yields_List}
use Rattle.recipe.specs.declared.field.Field.{Field}
use Rattle.recipe.specs.declared.field.Field.TheVariants.{Empty}
use Rattle.recipe.specs.Fields.{fields_of, Shows}
use Rattle.recipe.proofs.line.Line.field.Goals as goal

-- the field of what stands at a number, or an empty field past the last
shown : (o : Option (Bor (List ℕ))) (r : Field) → MatchOption o (r ≡ Empty) (λ x. Shows r x.now) → Shows r (unwrap_or (option_map (λ x. x.now) o) [])
shown None r h = rw h refl
shown (Some x) r h = h

pub returns : goal.returns
unfolding fields_of
returns c =
    let bs = c.args.self.now.bytes.now in
    let at_k = nth_from_yields_List c.nth.result c.nth.new.self c.args.k c.nth.ensures.ran (YieldsList-from_slice_split _ (λ b. eqb b 44) bs c.split.ensures.rest c.split.ensures.done c.split.ensures.closure (λ x b q k. search (rules, tests))) in
    subst (Shows c.map_or.result) (ap (λ o. unwrap_or o []) at_k ∙ unwrap_or-slice_get (fields_of bs) c.args.k []) (shown c.nth.result c.map_or.result c.map_or.ensures)
