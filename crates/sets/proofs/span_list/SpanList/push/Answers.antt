use Rattle.std.proofs.Common.{◌<◌, length, take, pos, negsuc, ◌≤ℤ◌, arith, length-set, w32, SFits, rules}
use Rattle.std.proofs.lemmas.List.{length-take, take_more_set}
use Rattle.std.proofs.lemmas.Int.{ints}
use Rattle.std.proofs.lemmas.Bool.{cond_below}
use Rattle.sets.specs.declared.bounds.Bounds.{Bounds}
use Rattle.sets.proofs.Rows.{each_row_more}
use Rattle.sets.proofs.span_list.SpanList.push.Goals as goal

pub invariant_of-self : goal.invariant_of-self
invariant_of-self c =
    let list = c.args.self.now in
    let low : SFits w32 c.args.span.least = search rules in
    let high : SFits w32 c.args.span.greatest = search rules in
    let room : list.len < length list.rows = omega arith in
    let ordered = each_row_more (λ (b : Bounds). b.least ≤ℤ b.greatest) list.rows list.len _ room list.ordered (rw c.into.ensures c.args.span.ordered) in
    let below = each_row_more (λ (b : Bounds). negsuc 2147483647 ≤ℤ b.least) list.rows list.len _ room list.low (rw c.into.ensures (omega (arith, ints))) in
    let above = each_row_more (λ (b : Bounds). b.greatest ≤ℤ pos 2147483647) list.rows list.len _ room list.high (rw c.into.ensures (omega (arith, ints))) in
    record { full = simp length-set list.full; short = omega arith; ordered = ordered; low = below; high = above }

pub returns : goal.returns
returns c =
    let list = c.args.self.now in
    let room : list.len < length list.rows = omega arith in
    let few : length (take list.len list.rows) < 64 = simp length-take (omega arith) in
    record { answer = cond_below _ 64 _ _ few; rows = rw c.into.ensures (take_more_set list.rows list.len _ room) }
