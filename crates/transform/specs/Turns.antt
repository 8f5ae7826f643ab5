-- A step that is carried out on the lines of a lifting, by positions: position j of a line has the index first + j.
use Rattle.std.specs.Prelude.{◌≡◌, ℕ, ◌+◌, ◌%◌, Bool, List, length, ℤ, pos, ◌-ℤ◌}
use Rattle.sets.specs.Areas.{size_of}
use Rattle.stages.specs.Lifting.{parity_of, source_index}
use Rattle.stages.specs.Lines.{extended}
use Rattle.stages.specs.Plain.{plain_lift, plain_step}
use Rattle.rules.specs.Lifted.{lift_pass}
use Rattle.rules.specs.Passes.{Pass}
use Rattle.transform.specs.declared.turn.Turn.{Turn}
use Rattle.transform.specs.Parts.{part_of, of_index, between, of_channel}
use Rattle.transform.specs.Turned.{Turned}

-- position j has an index of the parity that is changed
abbrev pub Hits : Turn → ℕ → Type 0
Hits t j = (t.on_lines.lines.first + j) % 2 ≡ parity_of t.parity

-- the index that tap k reads for position j, the position inside the line that stands for any index, and so the position that is read
abbrev pub read_index : Turn → ℕ → ℕ → ℤ
read_index t j k = source_index (parity_of t.parity) (t.on_lines.lines.first + j) t.step.offset k

abbrev pub inside_at : Turn → ℤ → ℕ
inside_at t z = extended t.on_lines.lifting.lift.extension t.on_lines.lines.count (z -ℤ pos t.on_lines.lines.first)

abbrev pub read_index_at : Turn → ℕ → ℕ → ℕ
read_index_at t j k = inside_at t (read_index t j k)

-- the step as a pass of the rule
abbrev pub pass_of : Turn → Pass
pass_of t = lift_pass t.on_lines.lifting.shape (plain_lift t.on_lines.lifting.lift) t.parity (plain_step t.step)

-- the part of the step at some addresses is carried out, or undone
abbrev pub TurnedAt : Bool → Turn → (ℕ → Bool) → List ℤ → List ℤ → Type 0
TurnedAt undo t w xs ys = Turned undo (part_of (pass_of t) w) xs ys

-- an area has as many samples as the sets of the lifting
abbrev pub Sized : Turn → List ℤ → Type 0
Sized t xs = length xs ≡ size_of t.on_lines.lifting.shape

-- the addresses of position j of every line, those of the positions from i on and below e, and those of one channel along the samples
abbrev pub at_position : Turn → ℕ → ℕ → Bool
at_position t j = of_index t.on_lines.lifting.shape (plain_lift t.on_lines.lifting.lift) (t.on_lines.lines.first + j)

abbrev pub from_to : Turn → ℕ → ℕ → ℕ → Bool
from_to t i e = between t.on_lines.lifting.shape (plain_lift t.on_lines.lifting.lift) (t.on_lines.lines.first + i) (t.on_lines.lines.first + e)

abbrev pub on_line : Turn → ℕ → ℕ → Bool
on_line t r = of_channel t.on_lines.lifting.shape (t.on_lines.lifting.lift.first + r)
