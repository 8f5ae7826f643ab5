-- The slot of an index, for each kind of line.
use Rattle.std.specs.Prelude.{ℕ, ℤ}
use Rattle.stages.specs.declared.line.Line.{Line}
use Rattle.stages.specs.declared.line.Line.TheVariants.{Parities, Indices as on_indices}
use Rattle.stages.specs.Lifting.{by_parity}
use Rattle.stages.specs.Lines.{extended}

abbrev pub slot_of : Line → ℤ → ℕ
slot_of Parities z = by_parity z
slot_of (on_indices l) z = extended l.extension l.count z
