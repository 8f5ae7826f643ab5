-- Worked samples of the rule on spans.
use Rattle.std.specs.Prelude.{◌≡◌, ℕ, List, [], ◌∷◌, ℤ, pos, negsuc}
use Rattle.sets.specs.declared.bounds.Bounds.{Bounds}
use Rattle.stages.specs.declared.stage.Axis.{Axis}
use Rattle.stages.specs.declared.stage.Axis.TheVariants.{Time, Channel}
use Rattle.stages.specs.declared.stage.Extension.{Extension}
use Rattle.stages.specs.declared.stage.Extension.TheVariants.{Mirrored, Nearest}
use Rattle.stages.specs.declared.stage.Parity.TheVariants.{Odd}
use Rattle.stages.specs.Made.{between}
use Rattle.stages.specs.Plain.{Plain, lift, dep, rct, PlainLift, PlainStep}
use Rattle.stages.specs.Stages.{spans_after}

-- along an axis of n channels from the first on, at level v, odd indices first
abbrev pub along : Axis → Extension → ℕ → ℕ → PlainLift
along x w n v = record { axis = x; first = 0; count = n; level = v; extension = w; parity = Odd }

abbrev pub step : ℤ → ℕ → ℤ → List ℤ → PlainStep
step off e r ts = record { offset = off; exponent = e; residue = r; taps = ts }

-- the 5-3 kernel
abbrev pub five_three : Axis → ℕ → ℕ → Plain
five_three x n v = lift (along x Mirrored n v) (step (pos 0) 1 (pos 1) (negsuc 0 ∷ negsuc 0 ∷ []) ∷ step (negsuc 0) 2 (pos 2) (pos 1 ∷ pos 1 ∷ []) ∷ [])

-- the difference and the mean of pairs
abbrev pub pairs : Axis → ℕ → ℕ → Plain
pairs x n v = lift (along x Nearest n v) (step (pos 0) 0 (pos 0) (negsuc 0 ∷ []) ∷ step (pos 0) 1 (pos 0) (pos 1 ∷ []) ∷ [])

-- y_1 = x_1 - x_0
abbrev pub one_row : Plain
one_row = dep 0 (record { exponent = 0; residue = pos 0; taps = pos 1 ∷ [] } ∷ [])

abbrev pub colours : Plain
colours = rct 0

-- a stage on a set of so many samples a channel and such an origin, with the spans before and after
pub record Sample : Type 0 where
  pub stage : Plain
  pub samples : ℕ
  pub origin : ℕ
  pub before : List Bounds
  pub after : List Bounds

-- what four bits hold
abbrev pub nibble : Bounds
nibble = between (negsuc 7) (pos 7)

abbrev pub table : List Sample
table =
    record { stage = five_three Time 1 0; samples = 4; origin = 0; before = nibble ∷ []; after = between (negsuc 14) (pos 15) ∷ [] }
    ∷ record { stage = five_three Time 1 0; samples = 1; origin = 1; before = nibble ∷ []; after = between (negsuc 15) (pos 14) ∷ [] }
    ∷ record { stage = five_three Time 1 0; samples = 1; origin = 2; before = nibble ∷ []; after = nibble ∷ [] }
    ∷ record { stage = five_three Time 1 1; samples = 1; origin = 1; before = nibble ∷ nibble ∷ []; after = nibble ∷ nibble ∷ [] }
    ∷ record { stage = pairs Time 1 0; samples = 2; origin = 0; before = between (pos 0) (pos 255) ∷ []; after = between (negsuc 254) (pos 382) ∷ [] }
    ∷ record { stage = pairs Channel 3 1; samples = 1; origin = 0; before = between (pos 0) (pos 255) ∷ nibble ∷ between (pos 0) (pos 9) ∷ []; after = between (negsuc 127) (pos 259) ∷ nibble ∷ between (negsuc 254) (pos 9) ∷ [] }
    ∷ record { stage = one_row; samples = 1; origin = 0; before = between (pos 0) (pos 9) ∷ nibble ∷ []; after = between (pos 0) (pos 9) ∷ between (negsuc 16) (pos 7) ∷ [] }
    ∷ record { stage = colours; samples = 1; origin = 0; before = nibble ∷ nibble ∷ nibble ∷ []; after = nibble ∷ between (negsuc 14) (pos 15) ∷ between (negsuc 14) (pos 15) ∷ [] }
    ∷ []

-- each row of a table has the spans after that it says
abbrev pub Right : List Sample → Type 0
Right [] = Unit {0}
Right (s ∷ rest) = (spans_after (record { channels = 1; samples = s.samples; origin = s.origin }) s.stage s.before ≡ s.after) × Right rest

abbrev pub Worked : Type 0
Worked = Right table
