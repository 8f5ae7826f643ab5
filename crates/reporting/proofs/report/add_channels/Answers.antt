use Rattle.std.proofs.Common.{◌+◌, ◌++◌, drop, vec_items, sym, ap, ◌∙◌, append_assoc, append-nil, arith, w32, SFits, rules}
use Rattle.std.proofs.lemmas.List.{drop_all}
use Rattle.std.proofs.lemmas.Int.{to_z-of_z}
use Rattle.sets.specs.Sets.{rows_of, bounds_of}
use Rattle.reporting.specs.Lines.{channel_lines}
use Rattle.reporting.proofs.Reports.{channel_lines-more}
use Rattle.reporting.proofs.report.add_channels.Goals as goal

pub loop-channel-preserved : goal.loop-channel-preserved
loop-channel-preserved c =
    let low : SFits w32 c.in-Some.field-0.least = search rules in
    let high : SFits w32 c.in-Some.field-0.greatest = search rules in
    let k = c.args.stage in
    let n = c.loop-channel.channel in
    let rows = rows_of c.args.spans.now in
    let found = c.in-Some.ensures in
    ap (λ l. l ++ channel_lines k (n + 1) (drop (n + 1) rows)) (simp to_z-of_z at c.in_ok-push.ensures.items)
    ∙ append_assoc (vec_items c.loop-channel.lines) _ _
    ∙ ap (λ l. vec_items c.loop-channel.lines ++ l) (sym (channel_lines-more k n (bounds_of c.in-Some.field-0) rows found.0 found.1))
    ∙ c.loop-channel.invariant

pub returns : goal.returns
unfolding channel_lines
returns c =
    let k = c.args.stage in
    let n = c.loop-channel.channel in
    sym (append-nil (vec_items c.loop-channel.lines)) ∙ ap (λ l. vec_items c.loop-channel.lines ++ channel_lines k n l) (sym (drop_all n (rows_of c.args.spans.now) (omega arith))) ∙ c.loop-channel.invariant
