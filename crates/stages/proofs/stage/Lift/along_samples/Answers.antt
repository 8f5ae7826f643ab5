use Rattle.std.proofs.Common.{ℕ, Bool, true, cond, length, sym, ◌∙◌, arith, rules}
use Rattle.std.specs.List.{range_with_len}
use Rattle.sets.specs.Sets.{rows_of}
use Rattle.stages.specs.Lifting.{channel_made, time_at, lists_channel}
use Rattle.stages.specs.Plain.{plain_steps, plain_lift}
use Rattle.stages.specs.Ranges.{at, all_fit}
use Rattle.stages.proofs.Every.{all_fit_joined, every-within}
use Rattle.stages.proofs.Gathers.{gathered_list}
use Rattle.stages.proofs.stage.Lift.along_samples.Goals as goal

pub returns : goal.returns
returns c =
    let f = c.args.checked.now.shape in
    let l = plain_lift c.args.self.now in
    let ss = plain_steps c.args.self.now in
    let bs = rows_of c.args.spans.now in
    let row : ℕ → Bool = λ c. all_fit (channel_made f l ss (at bs c)) in
    gathered_list _ _ _ c.gathered.ensures (λ c. cond (lists_channel l c) (row c) true) (time_at f l ss bs) (λ i h o r. search rules) _ _ c.len.ensures
    (every-within row (length bs) l.first l.count (omega arith)
    ∙ sym (all_fit_joined (λ c. channel_made f l ss (at bs c)) (range_with_len l.first l.count)))
