use Rattle.std.proofs.Common.{rules, ◌≡◌, ℕ, ◌+◌, ◌<◌, ◌∙◌, length, map, get_or, arith, ap}
use Rattle.std.proofs.lemmas.List.{length-map, get_or-map, take_all}
use Rattle.std.proofs.lemmas.List.FromFn.{fill_by_all}
use Rattle.stages.specs.declared.quotient.Quotient.{Quotient}
use Rattle.stages.specs.Plain.{plain, plain_row, dep}
use Rattle.timing.specs.Timed.{small_row}
use Rattle.timing.proofs.table.small_rows.Goals as goal

pub returns : goal.returns
unfolding plain
returns c =
    let rows = c.from_fn.result in
    let long : length rows ≡ 7 = c.from_fn.ensures.items.long in
    let each : (k : ℕ) (e : Quotient) → k < 7 → plain_row (get_or rows k e) ≡ small_row (k + 1) = search rules in
    let some : Quotient = c.from_fn.ensures.items.each.1 in
    let filled = fill_by_all (λ k. small_row (k + 1)) (map plain_row rows) 7 (plain_row some) (simp length-map long) (λ k h. get_or-map plain_row rows k some (plain_row some) (omega (arith, long)) ∙ each k some h) in
    ap (dep 0) (ap (map plain_row) (take_all 7 rows (omega (arith, long))) ∙ filled)
