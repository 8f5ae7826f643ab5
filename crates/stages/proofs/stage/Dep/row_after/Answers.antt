use Rattle.std.proofs.Common.{◌≡◌, ◌+◌, ◌-◌, get_or, take, sym, refl, ◌∙◌, subst, arith, rules}
use Rattle.sets.specs.Sets.{bounds_of, rows_of}
use Rattle.stages.specs.Channels.{no_row, row_after, taken}
use Rattle.stages.specs.Made.{Narrowed, wide_of}
use Rattle.stages.specs.Plain.{plain_row, plain_rows}
use Rattle.stages.specs.Quotients.{reach_of}
use Rattle.stages.specs.Ranges.{at, lowered}
use Rattle.stages.proofs.Gathers.{listed_rows}
use Rattle.stages.proofs.Parts.{front_at, part_at, part_front}
use Rattle.stages.proofs.stage.Dep.row_after.Goals as goal

pub returns : goal.returns
returns c =
    let d = c.args.self.now in
    let i = c.args.i in
    let bs = rows_of c.args.spans.now in
    let xs = taken d.first d.count bs in
    let q = get_or (plain_rows d) (i - 1) no_row in
    let row = sym (front_at plain_row d.rows (d.count - 1) (i - 1) c.index-self-i.result (omega arith) (omega arith) no_row) in
    let before : rows_of c.listed-before.result ≡ take i xs = listed_rows _ _ _ c.listed-before.ensures (λ k. at bs (d.first + k)) (λ k h s r. search rules) i refl ∙ part_front bs d.first d.count i (omega arith) (omega arith) in
    let reach : wide_of c.reach.result ≡ reach_of q.taps q.residue q.exponent (take i xs) = c.reach.ensures.value ∙ (λ j. reach_of (row j).taps (row j).residue (row j).exponent (before j)) in
    let span = c.row_at-span.ensures.value ∙ sym (part_at bs d.first d.count i (omega arith)) in
    let e : lowered (bounds_of c.row_at-span.result) (wide_of c.reach.result) ≡ row_after (plain_rows d) xs i = λ j. lowered (span j) (reach j) in
    subst (Narrowed c.lower.result) e c.lower.ensures
