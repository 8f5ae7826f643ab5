use Rattle.std.proofs.Common.{not, eqb, refl, arith}
use Rattle.transform.proofs.DepRows.{row_apart, row_fits, row_turned}
use Rattle.stages.specs.Plain.{plain_rows}
use Rattle.transform.proofs.dep_rows.DepRows.turn.Goals as goal

pub invariant_of-row-clause-apart : goal.invariant_of-row-clause-apart
invariant_of-row-clause-apart g c =
    let s = c.args.self.now in
    let room = s.room in
    let few = s.dep.few in
    row_apart s.shape s.dep.first (plain_rows s.dep) c.args.i _ _ c.row-quotient.ensures (λ j h. c.starts-from.ensures j (omega arith)) (omega arith)

pub turn-requires : goal.turn-requires
turn-requires g c =
    let s = c.args.self.now in
    let room = s.room in
    let few = s.dep.few in
    row_fits s.shape s.dep.first (plain_rows s.dep) c.args.i _ _ c.row-quotient.ensures (λ j h. c.starts-from.ensures j (omega arith)) (omega arith) _ (record { quotient = refl; reads = refl; to = refl; by = refl; count = refl }) _ c.requires.long

pub returns : goal.returns
returns g c =
    let s = c.args.self.now in
    let room = s.room in
    let few = s.dep.few in
    row_turned s.shape s.dep.first (plain_rows s.dep) c.args.i _ _ c.row-quotient.ensures (λ j h. c.starts-from.ensures j (omega arith)) (omega arith) _ (record { quotient = refl; reads = refl; to = refl; by = refl; count = refl })
    (not (eqb g.row.TAKE 0)) _ _ c.requires.long c.turn.ensures
