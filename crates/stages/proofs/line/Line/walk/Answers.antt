use Rattle.std.proofs.Common.{◌≡◌, ◌+◌, ◌≤◌, ◌∷◌, length, drop, sym, ◌∙◌}
use Rattle.std.proofs.lemmas.List.{length-map}
use Rattle.sets.specs.Sets.{rows_of}
use Rattle.stages.specs.Plain.{plain_step, plain_steps}
use Rattle.stages.specs.Slots.{slot_of}
use Rattle.stages.proofs.Parts.{rest-more}
use Rattle.stages.proofs.Walks.{walk_stops, walk_fits, walk_ends, walk_none}
use Rattle.stages.proofs.line.Line.walk.Goals as goal
use Rattle.stages.proofs.line.Line.walk.Goals.{After-stepped}

-- the steps from the loop's on
here : (c : After-stepped) → drop c.loop-step.step-index (plain_steps c.args.lift.now) ≡ plain_step c.step-item.result ∷ drop (c.loop-step.step-index + 1) (plain_steps c.args.lift.now)
here c = rest-more plain_step _ _ _ _ c.steps-step-items.ensures c.loop-step-test.true c.step-item.is

pub returns-in_err-reached : goal.returns-in_err-reached
returns-in_err-reached c =
    let stops = walk_stops (slot_of c.args.self.now) c.loop-step.parity _ _ _ (rows_of c.loop-step.reached) (here (goal.at.returns-in_err-reached c).After-stepped) c.in_err-reached.ensures in
    rw c.from_residual.ensures (sym c.loop-step.invariant.0 ∙ stops)

pub loop-step-preserved : goal.loop-step-preserved
loop-step-preserved c =
    let slot = slot_of c.args.self.now in
    let bs = rows_of c.loop-step.reached in
    let next = here (goal.at.loop-step-preserved c).After-stepped in
    let made = c.in_ok-reached.ensures in (
      walk_fits slot c.loop-step.parity _ _ _ bs next _ _ c.other-parity.ensures made.0 made.1 ∙ c.loop-step.invariant.0,
      walk_ends slot c.loop-step.parity _ _ _ bs next _ _ c.other-parity.ensures made.1 ∙ c.loop-step.invariant.1,
    )

pub returns : goal.returns
returns c =
    let steps = plain_steps c.args.lift.now in
    let over : length steps ≤ c.loop-step.step-index = simp (length-map, sym c.steps-step-items.ensures) c.loop-step-test.false in
    let none = walk_none (slot_of c.args.self.now) c.loop-step.parity c.loop-step.step-index steps (rows_of c.loop-step.reached) over in
    (sym c.loop-step.invariant.0 ∙ none.0, sym none.1 ∙ c.loop-step.invariant.1)
