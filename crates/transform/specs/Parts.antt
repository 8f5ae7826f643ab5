-- A part of a pass: the same amounts, at some of its addresses.
use Rattle.std.specs.Prelude.{ℕ, ◌/◌, ◌%◌, Bool, ◌&&◌, ◌==◌, nat_le, nat_lt}
use Rattle.sets.specs.declared.shape.Shape.{Shape}
use Rattle.stages.specs.Plain.{PlainLift}
use Rattle.rules.specs.Lifted.{line_index}
use Rattle.rules.specs.Passes.{Pass}

abbrev pub part_of : Pass → (ℕ → Bool) → Pass
part_of p w = record { hits = λ a. p.hits a && w a; amount = p.amount }

-- the index on its line of the sample at an address
abbrev pub index_at : Shape → PlainLift → ℕ → ℕ
index_at f l a = line_index f l (a / f.samples) (a % f.samples)

-- the addresses of one index of every line, and those of the indices from i on and below e
abbrev pub of_index : Shape → PlainLift → ℕ → ℕ → Bool
of_index f l i a = index_at f l a == i

abbrev pub between : Shape → PlainLift → ℕ → ℕ → ℕ → Bool
between f l i e a = nat_le i (index_at f l a) && nat_lt (index_at f l a) e

-- the addresses of one channel, and those of all channels below one
abbrev pub of_channel : Shape → ℕ → ℕ → Bool
of_channel f c a = a / f.samples == c

abbrev pub below_channel : Shape → ℕ → ℕ → Bool
below_channel f c a = nat_lt (a / f.samples) c

-- the addresses of both
abbrev pub both : (ℕ → Bool) → (ℕ → Bool) → ℕ → Bool
both v w a = v a && w a
