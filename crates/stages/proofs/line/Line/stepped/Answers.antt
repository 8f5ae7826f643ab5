use Rattle.std.proofs.Common.{length, sym, rules}
use Rattle.std.specs.List.{range_with_len}
use Rattle.sets.specs.Sets.{rows_of}
use Rattle.stages.specs.Lifting.{stepped, slot_after}
use Rattle.stages.specs.Plain.{plain_step}
use Rattle.stages.specs.Ranges.{fits}
use Rattle.stages.specs.Slots.{slot_of}
use Rattle.stages.proofs.Every.{all_fit_map}
use Rattle.stages.proofs.Gathers.{gathered_list}
use Rattle.stages.proofs.line.Line.stepped.Goals as goal

pub returns : goal.returns
unfolding stepped
returns c =
    let bs = rows_of c.args.slots.now in
    let after = slot_after (slot_of c.args.self.now) c.args.parity (plain_step c.args.step.now) bs in
    gathered_list _ _ _ c.gathered.ensures (λ i. fits (after i)) after (λ i h o r. search rules) _ _ c.len.ensures (sym (all_fit_map after (range_with_len 0 (length bs))))
