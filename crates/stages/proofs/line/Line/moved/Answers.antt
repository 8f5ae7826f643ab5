use Rattle.std.proofs.Common.{◌≡◌, ◌%◌, length, sym, ap, ◌∙◌, subst, arith, rules}
use Rattle.std.proofs.lemmas.Bool.{cond-true, eq-eqb}
use Rattle.sets.specs.Sets.{bounds_of, rows_of}
use Rattle.stages.specs.Lifting.{parity_of, source_index, sources_of, slot_after}
use Rattle.stages.specs.Made.{Narrowed, wide_of}
use Rattle.stages.specs.Plain.{taps_of, plain_step}
use Rattle.stages.specs.Quotients.{reach_of}
use Rattle.stages.specs.Ranges.{at, raised}
use Rattle.stages.specs.Slots.{slot_of}
use Rattle.stages.proofs.Gathers.{listed_rows}
use Rattle.stages.proofs.line.Line.moved.Goals as goal

pub returns : goal.returns
returns c =
    let s = c.args.step.now in
    let q = s.quotient in
    let i = c.args.slot in
    let bs = rows_of c.args.slots.now in
    let slot = slot_of c.args.self.now in
    let read : rows_of c.listed-read.result ≡ sources_of slot c.args.parity (plain_step s) bs i = listed_rows _ _ _ c.listed-read.ensures (λ k. at bs (slot (source_index (parity_of c.args.parity) i s.offset k))) (λ k h s r. search rules) _ (ap length c.taps.ensures) in
    let reach : wide_of c.reach.result ≡ reach_of (taps_of q) q.residue q.exponent (sources_of slot c.args.parity (plain_step s) bs i) = c.reach.ensures.value ∙ ap (reach_of (taps_of q) q.residue q.exponent) read in
    let hit : i % 2 ≡ parity_of c.args.parity = omega arith in
    let e : raised (bounds_of c.row_at-span.result) (wide_of c.reach.result) ≡ slot_after slot c.args.parity (plain_step s) bs i = (λ j. raised (c.row_at-span.ensures.value j) (reach j)) ∙ sym (cond-true _ _ _ (eq-eqb _ _ hit)) in
    subst (Narrowed c.raise.result) e c.raise.ensures
