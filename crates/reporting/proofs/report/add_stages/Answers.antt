use Rattle.std.proofs.Common.{◌+◌, ◌++◌, length, drop, vec_items, sym, ap, ◌∙◌, append_assoc, append-nil, arith}
use Rattle.std.proofs.lemmas.List.{drop_all, length-map}
use Rattle.sets.specs.Sets.{rows_of}
use Rattle.stages.specs.Plain.{plain}
use Rattle.recipe.specs.Tables.{stages_of, table_of}
use Rattle.reporting.specs.Lines.{channel_lines, stage_lines}
use Rattle.reporting.proofs.Reports.{stage_at, stage_lines-more, stage_lines-refused, refused_none, refused_some, left_after}
use Rattle.reporting.proofs.report.add_stages.Goals as goal

pub loop-k-init : goal.loop-k-init
loop-k-init c =
    let q = c.args.request.now in
    ap (λ bs. vec_items c.args.lines.now ++ stage_lines q.shape 0 (table_of q.recipe) bs) c.in-Ok.ensures.cases

pub loop-k-preserved : goal.loop-k-preserved
loop-k-preserved c =
    let q = c.args.request.now in
    let k = c.loop-k.k in
    let s = plain c.stage-item.result in
    let bs = rows_of c.loop-k.spans in
    let found = stage_at q.recipe _ k c.stage-item.result c.stages-stage-items.ensures c.loop-k-test.true c.stage-item.is in
    let fine = refused_none _ _ (sym c.spans.ensures.answer ∙ c.in_default-spans.is) in
    let after = left_after q.shape s bs _ fine c.spans.ensures.after in
    ap (λ l. l ++ stage_lines q.shape (k + 1) (drop (k + 1) (table_of q.recipe)) (rows_of c.spans.new.spans)) c.in_ok-add_channels.ensures
    ∙ append_assoc (vec_items c.loop-k.lines) _ _
    ∙ ap (λ l. vec_items c.loop-k.lines ++ l) (ap (λ ds. channel_lines k 0 ds ++ stage_lines q.shape (k + 1) (drop (k + 1) (table_of q.recipe)) ds) after ∙ sym (stage_lines-more q.shape k s (table_of q.recipe) bs found.0 found.1 fine))
    ∙ c.loop-k.invariant

pub returns-in-Err : goal.returns-in-Err
returns-in-Err c =
    let q = c.args.request.now in
    let k = c.loop-k.k in
    let s = plain c.stage-item.result in
    let bs = rows_of c.loop-k.spans in
    let found = stage_at q.recipe _ k c.stage-item.result c.stages-stage-items.ensures c.loop-k-test.true c.stage-item.is in
    let why = refused_some _ c.in-Err.refusal (sym c.spans.ensures.answer ∙ c.in-Err.is) in
    c.in_ok-push.ensures.items
    ∙ ap (λ l. vec_items c.loop-k.lines ++ l) (sym (stage_lines-refused q.shape k s (table_of q.recipe) bs found.0 found.1 _ why))
    ∙ c.loop-k.invariant

pub returns : goal.returns
unfolding stage_lines
returns c =
    let q = c.args.request.now in
    let k = c.loop-k.k in
    sym (append-nil (vec_items c.loop-k.lines)) ∙ ap (λ l. vec_items c.loop-k.lines ++ stage_lines q.shape k l (rows_of c.loop-k.spans)) (sym (drop_all k (table_of q.recipe) (omega (arith, length-map (stages_of q.recipe) plain, ap length c.stages-stage-items.ensures)))) ∙ c.loop-k.invariant
