use Rattle.std.proofs.Common.{◌≡◌, eqb, refl, sym, ◌∙◌, rules, tests}
use Rattle.std.specs.List.{position}
use Rattle.std.proofs.lemmas.List.{take_rest}
use Rattle.std.proofs.lemmas.Iterator.{YieldsList-from_slice}
use Rattle.std.proofs.lemmas.Iterator.Search.{position_from_yields_List}
use Rattle.recipe.proofs.Texts.{line-found, line-none}
use Rattle.recipe.proofs.lines.Lines.next_line.Goals as goal
use Rattle.recipe.proofs.lines.Lines.next_line.Goals.{After-position, at-returns-in_err-end, at-returns}

sought : (c : After-position) → c.position.result ≡ position (λ b. eqb b 10) c.args.self.now.rest.now
sought c = position_from_yields_List (λ b. eqb b 10) _ _ _ c.position.ensures.ran (YieldsList-from_slice c.args.self.now.rest.now (cc)) (λ x b q k. search (rules, tests))

pub returns-in_err-end : goal.returns-in_err-end
returns-in_err-end c =
    let none = line-none c.args.self.now.rest.now (sym c.in_err-end.was ∙ sought (at-returns-in_err-end c).After-position) in
    rw c.from_residual.ensures (record { cases = record { none = none; same = refl } })

pub returns : goal.returns
returns c =
    let first = line-found c.args.self.now.rest.now c.in_ok-end.end (sym c.in_ok-end.was ∙ sought (at-returns c).After-position) in
    record { cases = record { first = simp take_rest first; here = refl; next = refl } }
