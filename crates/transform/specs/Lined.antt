-- Where the lines of a lifting run in an area.
use Rattle.std.specs.Prelude.{◌≡◌, ℕ, ◌+◌, ◌-◌, ◌*◌, ◌/◌, ◌%◌, ◌<◌, ◌≤◌, true}
use Rattle.sets.specs.declared.shape.Shape.{Shape}
use Rattle.sets.specs.Areas.{size_of}
use Rattle.stages.specs.declared.stage.Axis.TheVariants.{Time}
use Rattle.stages.specs.Plain.{PlainLift}
use Rattle.rules.specs.Lifted.{on_axis, first_of, count_of, touched, address_of}
use Rattle.transform.specs.declared.lines.Lines.{Lines}
use Rattle.transform.specs.Parts.{index_at}

-- the address of position j of line r
abbrev pub spot : Lines → ℕ → ℕ → ℕ
spot n r j = n.start + j * n.by + r * n.apart

-- Address a has position j of line r, whose position i has the index first + i. Along the samples each channel is a line.
pub record Spot (f : Shape) (l : PlainLift) (n : Lines) (r j a : ℕ) : Type 0 where
  pub below : a < size_of f
  pub hit : touched f l (a / f.samples) (a % f.samples) ≡ true
  pub index : index_at f l a ≡ n.first + j
  pub channel : l.axis ≡ Time → a / f.samples ≡ l.first + r
  pub line : (i : ℕ) → i < n.count → address_of f l (a / f.samples) (a % f.samples) (n.first + i) ≡ spot n r i

-- the line on which an address stands
abbrev pub line_at : Shape → PlainLift → ℕ → ℕ
line_at f l a = on_axis l.axis (a / f.samples - l.first) (a % f.samples)

-- the positions of the lines are the touched samples
pub record Lined (f : Shape) (l : PlainLift) (n : Lines) : Type 0 where
  pub first : n.first ≡ first_of f l
  pub count : n.count ≡ count_of f l
  pub apart : 1 ≤ n.apart
  pub here : (r j : ℕ) → r < n.line_count → j < n.count → Spot f l n r j (spot n r j)
  pub all : (a : ℕ) → a < size_of f → touched f l (a / f.samples) (a % f.samples) ≡ true → (line_at f l a < n.line_count) × (a ≡ spot n (line_at f l a) (index_at f l a - n.first))
