use Rattle.std.proofs.Common.{◌≡◌, ℕ, ◌+◌, ◌*◌, ◌<◌, Bool, List, length, ℤ, sym, ap, ◌∙◌, arith, rules, below_more}
use Rattle.sets.specs.declared.bounds.Bounds.{Bounds}
use Rattle.sets.specs.declared.shape.Shape.{Shape}
use Rattle.sets.specs.Areas.{size_of, at, span_at, holds, every}
use Rattle.sets.specs.Sets.{rows_of}
use Rattle.sets.proofs.Everywhere.{channel_holds, channel_part, channel-ends, every-of-part, within-each, within-fails}
use Rattle.sets.proofs.span_list.SpanList.hold.Goals as goal

pub offset_bounds-area-from : goal.offset_bounds-area-from
offset_bounds-area-from c =
    let ends = channel-ends c.args.shape.now c.loop-c.c c.loop-c-test.true in
    search rules

pub slice_bounds-hold-end : goal.slice_bounds-hold-end
slice_bounds-hold-end c =
    let ends = channel-ends c.args.shape.now c.loop-c.c c.loop-c-test.true in
    search rules

-- what the call on a channel's part answered is what the test asks of the channel
answer-of-channel : (f : Shape) (bs : List Bounds) (xs : List ℤ) (c : ℕ) (b : Bounds) (r : Bool) → c < f.channels → length xs ≡ size_of f → b ≡ span_at bs c → r ≡ every (length (channel_part f xs c)) (λ t. holds b (at (channel_part f xs c) t)) → channel_holds f bs xs c ≡ r
answer-of-channel f bs xs c b r h long is e = sym (e ∙ every-of-part f xs c (holds b) h long ∙ ap (λ b. every f.samples (λ t. holds b (at xs (c * f.samples + t)))) is)

pub returns-then-not-hold : goal.returns-then-not-hold
returns-then-not-hold c =
    let long : length c.args.area.now ≡ size_of c.args.shape.now = search rules in
    sym (within-fails c.args.shape.now (rows_of c.args.self.now) c.args.area.now c.loop-c.c c.loop-c-test.true (answer-of-channel c.args.shape.now _ _ _ _ _ c.loop-c-test.true long c.bounds-bounds.ensures c.if-not-hold.ensures))

pub loop-c-preserved : goal.loop-c-preserved
loop-c-preserved c =
    let long : length c.args.area.now ≡ size_of c.args.shape.now = search rules in
    below_more _ _ c.loop-c.invariant (answer-of-channel c.args.shape.now _ _ _ _ _ c.loop-c-test.true long c.bounds-bounds.ensures c.if-not-hold.ensures)

pub returns : goal.returns
returns c =
    let long : length c.args.area.now ≡ size_of c.args.shape.now = search rules in
    sym (within-each c.args.shape.now (rows_of c.args.self.now) c.args.area.now long (λ k h. c.loop-c.invariant k (omega arith)))
