use Rattle.std.proofs.Common.{◌≡◌, length}
use Rattle.recipe.specs.Readings.{reading_from, so_far}
use Rattle.recipe.proofs.reading.Reading.take_all.Given as goal

abbrev pub invariant-loop-line : goal.invariant-loop-line
invariant-loop-line l = (l.self.recipe.ghost_name ≡ l.fn.self.recipe.ghost_name) × (reading_from (so_far l.fn.self) l.fn.lines ≡ reading_from (so_far l.self) l.lines)

abbrev pub decreases-loop-line : goal.decreases-loop-line
decreases-loop-line l = length l.lines.rest.now
