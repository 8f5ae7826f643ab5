use Rattle.std.proofs.Common.{pos, negsuc, ◌≤ℤ◌, arith, w32, SFits, rules, refl}
use Rattle.std.proofs.lemmas.List.{take-replicate}
use Rattle.std.proofs.lemmas.Int.{ints}
use Rattle.sets.specs.declared.bounds.Bounds.{Bounds}
use Rattle.sets.proofs.Rows.{each_row_alike}
use Rattle.sets.proofs.span_list.SpanList.repeat.Goals as goal

pub invariant_of-result : goal.invariant_of-result
invariant_of-result c =
    let low : SFits w32 c.args.span.least = search rules in
    let high : SFits w32 c.args.span.greatest = search rules in
    let few = c.if-channels-gt64.false in
    let ordered = each_row_alike (λ (b : Bounds). b.least ≤ℤ b.greatest) _ c.args.channels few (rw c.into.ensures c.args.span.ordered) in
    let below = each_row_alike (λ (b : Bounds). negsuc 2147483647 ≤ℤ b.least) _ c.args.channels few (rw c.into.ensures (omega (arith, ints))) in
    let above = each_row_alike (λ (b : Bounds). b.greatest ≤ℤ pos 2147483647) _ c.args.channels few (rw c.into.ensures (omega (arith, ints))) in
    record { full = refl; short = few; ordered = ordered; low = below; high = above }

pub returns-clause-cases : goal.returns-clause-cases
returns-clause-cases c = rw c.into.ensures (take-replicate c.args.channels 64 _ c.if-channels-gt64.false)
