-- What a lifting does to its lines, by their indices.
use Rattle.sets.specs.declared.shape.Shape.{Shape}
use Rattle.stages.specs.declared.indexed.Indexed.{Indexed}
use Rattle.stages.specs.Lines.{IndexedAs as LineIndexedAs}
use Rattle.stages.specs.Plain.{PlainLift}
use Rattle.rules.specs.Lifted.{line_start, line_places}

-- the lines all begin alike and have as many places
abbrev pub IndexedAs : Shape → PlainLift → Indexed → Type 0
IndexedAs f l k = LineIndexedAs l.level (line_start f l) (line_places f l) k
