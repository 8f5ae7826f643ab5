-- The stages that are timed, the sets that they are timed on, and an answer as a number.
use Rattle.std.specs.Prelude.{◌≡◌, ℕ, zero, suc, min, List, [], ◌∷◌, take, replicate, ℤ, pos, negsuc, Ok, Err, Result}
use Rattle.sets.specs.declared.bounds.Bounds.{Bounds}
use Rattle.sets.specs.declared.refusal.Refusal.{Refusal}
use Rattle.sets.specs.declared.shape.Shape.{Shape}
use Rattle.sets.specs.Refusals.{number_of}
use Rattle.stages.specs.declared.stage.Axis.TheVariants.{Time, Channel}
use Rattle.stages.specs.Made.{between}
use Rattle.stages.specs.Plain.{Plain, rct, dep, PlainRow}
use Rattle.stages.specs.Worked.{five_three}
use Rattle.rack.specs.Meanings.{Meaning}
use Rattle.rules.specs.Samples.{bank}

-- a row of n small taps
abbrev pub small_row : ℕ → PlainRow
small_row n = record { exponent = 2; residue = pos 2; taps = take n (pos 1 ∷ negsuc 0 ∷ pos 2 ∷ negsuc 1 ∷ pos 3 ∷ negsuc 2 ∷ pos 1 ∷ pos 0 ∷ []) }

-- rows of 1 to 7 taps: each reads all channels before its own
abbrev pub small_rows : Plain
small_rows = dep 0 (small_row 1 ∷ small_row 2 ∷ small_row 3 ∷ small_row 4 ∷ small_row 5 ∷ small_row 6 ∷ small_row 7 ∷ [])

-- 0: 5-3 along the samples of all channels; 1: 5-3 along all channels; 2: RCT on channels 0 to 2; 3: seven dependency rows on channels 0 to 7
abbrev pub timed_stage : ℕ → ℕ → Plain
timed_stage c zero = five_three Time (min c 64) 0
timed_stage c (suc zero) = five_three Channel (min c 64) 0
timed_stage c (suc (suc zero)) = rct 0
timed_stage c (suc (suc (suc k))) = small_rows

abbrev pub timed_rack : Meaning
timed_rack = bank 4 timed_stage

abbrev pub timed_shape : ℕ → ℕ → Shape
timed_shape c t = record { channels = c; samples = t; origin = 0 }

-- 24 bits for each channel (a set has at most 64)
abbrev pub timed_spans : ℕ → List Bounds
timed_spans c = replicate (min c 64) (between (negsuc 8388607) (pos 8388607))

-- 0, or the number of the refusal
abbrev pub answer_number : Result Unit Refusal → ℕ
answer_number (Ok _) = 0
answer_number (Err e) = number_of e

-- a call with this number for an answer leaves these samples
abbrev pub Numbered : (Result Unit Refusal → List ℤ → Type 0) → ℕ → List ℤ → Type 0
Numbered Call n after = (r : Result Unit Refusal) × (answer_number r ≡ n) × Call r after
