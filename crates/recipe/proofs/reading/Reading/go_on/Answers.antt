use Rattle.std.proofs.Common.{◌≡◌, ◌-◌, ◌<◌, get_or, Some, refl, sym, ap, ◌∙◌, arith, length-set}
use Rattle.stages.specs.declared.stage.Stage.{Stage}
use Rattle.stages.specs.Plain.{plain}
use Rattle.recipe.specs.Grammar.{at_hand, line_fault, taken}
use Rattle.recipe.specs.Promises.{fields_in}
use Rattle.recipe.specs.Readings.{so_far}
use Rattle.recipe.specs.Room.{room_in}
use Rattle.recipe.specs.Tables.{table_of}
use Rattle.recipe.proofs.Faults.{passed}
use Rattle.recipe.proofs.Growing.{due, joined}
use Rattle.recipe.proofs.Tables.{front, ends, set_last, room_last, some_at_hand}
use Rattle.recipe.proofs.reading.Reading.go_on.Goals as goal
use Rattle.recipe.proofs.reading.Reading.go_on.Goals.{After-index-self-last, at-grown-requires, at-returns-in_err-stage-clause-takes, at-invariant_of-self-2, at-returns-clause-takes}

room : (c : After-index-self-last) → 0 < room_in (at_hand (table_of c.args.self.now.recipe.now))
room c = omega (arith, c.args.self.now.fits)

abbrev last : After-index-self-last → Stage
last c = get_or c.args.self.now.recipe.now.stages (c.args.self.now.recipe.now.len - 1) c.index-self-last.result

-- the stage at hand is the last
start : (c : After-index-self-last) → so_far c.args.self.now ≡ due (front c.args.self.now.recipe.now.stages c.args.self.now.recipe.now.len) (c.args.self.now.left - 1) (plain (last c))
start c = joined _ _ _ _ (ends c.args.self.now.recipe.now (room c) (last c) c.index-self-last.result refl) (omega arith)

room-in-last : (c : After-index-self-last) → room_in (at_hand (table_of c.args.self.now.recipe.now)) ≡ room_in (Some (plain (last c)))
room-in-last c = room_last _ _ _ (ends c.args.self.now.recipe.now (room c) (last c) c.index-self-last.result refl)

pub grown-requires : goal.grown-requires
grown-requires c = omega (arith, room (at-grown-requires c).After-index-self-last, room-in-last (at-grown-requires c).After-index-self-last)

pub returns-in_err-stage-clause-takes : goal.returns-in_err-stage-clause-takes
returns-in_err-stage-clause-takes c =
    let line = c.args.line.now in
    passed _ _ c.from_residual.result _ c.from_residual.ensures
    (ap (λ s. line_fault s line.number (fields_in line)) (start (at-returns-in_err-stage-clause-takes c).After-index-self-last) ∙ c.in_err-stage.ensures.stage _ _)

pub invariant_of-self-2 : goal.invariant_of-self-2
invariant_of-self-2 c =
    let so = (at-invariant_of-self-2 c).After-index-self-last in
    let r = c.args.self.now.recipe.now in
    let some = some_at_hand r (room so) in
    let e = room_last _ _ _ (set_last r.stages r.len c.in_ok-stage.stage some (omega (arith, r.full, r.short))) in
    ((length-set _ _ _ ∙ r.full, (r.short, tt)), (omega (arith, e, room-in-last so, c.in_ok-stage.ensures.room, c.args.self.now.fits), tt))

pub returns-clause-takes : goal.returns-clause-takes
returns-clause-takes c =
    let so = (at-returns-clause-takes c).After-index-self-last in
    let line = c.args.line.now in
    let r = c.args.self.now.recipe.now in
    let some = some_at_hand r (room so) in
    let h = c.in_ok-stage.ensures.stage (front r.stages r.len) (c.args.self.now.left - 1) in (
      ap (λ s. line_fault s line.number (fields_in line)) (start so) ∙ h.0,
      ap (λ s. taken s (fields_in line)) (start so) ∙ h.1 ∙ joined _ _ _ _ (sym (set_last r.stages r.len c.in_ok-stage.stage some (omega (arith, r.full, r.short)))) refl,
    )
