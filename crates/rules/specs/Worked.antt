-- Worked samples: what stages make of samples and of spans, what is foreign to them, and what is read outside a line.
use Rattle.std.specs.Prelude.{◌≡◌, ℕ, List, [], ◌∷◌, ℤ, pos, negsuc, ◌≢◌}
use Rattle.sets.specs.declared.bounds.Bounds.{Bounds}
use Rattle.sets.specs.declared.shape.Shape.{Shape}
use Rattle.sets.specs.Areas.{Within}
use Rattle.stages.specs.declared.stage.Axis.TheVariants.{Time}
use Rattle.stages.specs.declared.stage.Extension.{Extension}
use Rattle.stages.specs.declared.stage.Extension.TheVariants.{Mirrored, Nearest}
use Rattle.stages.specs.Lines.{extended}
use Rattle.stages.specs.Made.{between}
use Rattle.stages.specs.Plain.{Plain, lift, dep, rct}
use Rattle.stages.specs.Stages.{spans_after}
use Rattle.stages.specs.Worked.{along, step, five_three, nibble}
use Rattle.rules.specs.Samples.{samples_after}

-- 5-3 and Haar along the samples of one channel, odd indices first, mirrored at the ends
abbrev pub five_three_line : Plain
five_three_line = five_three Time 1 0

abbrev pub haar_line : Plain
haar_line = lift (along Time Mirrored 1 0) (step (pos 0) 0 (pos 0) (negsuc 0 ∷ []) ∷ step (pos 0) 1 (pos 0) (pos 1 ∷ []) ∷ [])

-- rows (e 1; 1) and (e 2; 3 -1)
abbrev pub two_rows : Plain
two_rows = dep 0 (record { exponent = 1; residue = pos 1; taps = pos 1 ∷ [] } ∷ record { exponent = 2; residue = pos 2; taps = pos 3 ∷ negsuc 0 ∷ [] } ∷ [])

abbrev pub line : ℕ → ℕ → Shape
line n u = record { channels = 1; samples = n; origin = u }

abbrev pub instant : Shape
instant = record { channels = 3; samples = 1; origin = 0 }

pub data Sample : Type 0 where
  gives : Plain → Shape → List ℤ → List ℤ → Sample
  foreign : Plain → Shape → List Bounds → List ℤ → Sample
  widens : Plain → Shape → List Bounds → List Bounds → Sample
  reads : Extension → ℕ → ℤ → ℕ → Sample

-- a stage gives samples of samples; no set within the spans gives an area; a stage makes spans of spans; an inside index is read for an index of a line of n
abbrev pub Right : Sample → Type 0
Right (gives s f xs ys) = samples_after f s xs ≡ ys
Right (foreign s f bs ys) = (xs : List ℤ) → Within f bs xs → samples_after f s xs ≢ ys
Right (widens s f bs cs) = spans_after f s bs ≡ cs
Right (reads e n z i) = extended e n z ≡ i

abbrev pub table : List Sample
table =
    gives five_three_line (line 4 0) (pos 10 ∷ pos 12 ∷ pos 15 ∷ pos 11 ∷ []) (pos 10 ∷ pos 0 ∷ pos 14 ∷ negsuc 3 ∷ [])
    ∷ gives five_three_line (line 3 1) (pos 10 ∷ pos 12 ∷ pos 15 ∷ []) (negsuc 1 ∷ pos 12 ∷ pos 3 ∷ [])
    ∷ gives haar_line (line 2 0) (pos 7 ∷ pos 4 ∷ []) (pos 5 ∷ negsuc 2 ∷ [])
    ∷ gives haar_line (line 3 0) (pos 7 ∷ pos 4 ∷ pos 9 ∷ []) (pos 5 ∷ negsuc 2 ∷ pos 7 ∷ [])
    ∷ gives five_three_line (line 1 5) (pos 9 ∷ []) (pos 18 ∷ [])
    ∷ foreign five_three_line (line 1 5) (between (negsuc 99) (pos 99) ∷ []) (pos 17 ∷ [])
    ∷ gives (rct 0) instant (pos 10 ∷ pos 20 ∷ pos 31 ∷ []) (pos 20 ∷ pos 11 ∷ negsuc 9 ∷ [])
    ∷ foreign (rct 0) instant (nibble ∷ nibble ∷ nibble ∷ []) (pos 7 ∷ pos 15 ∷ pos 15 ∷ [])
    ∷ gives two_rows instant (pos 5 ∷ pos 8 ∷ pos 6 ∷ []) (pos 5 ∷ pos 5 ∷ pos 4 ∷ [])
    ∷ widens five_three_line (line 4 0) (nibble ∷ []) (between (negsuc 14) (pos 15) ∷ [])
    ∷ reads Mirrored 4 (negsuc 1) 2
    ∷ reads Nearest 4 (negsuc 1) 0
    ∷ []

abbrev pub AllRight : List Sample → Type 0
AllRight [] = Unit {0}
AllRight (s ∷ rest) = Right s × AllRight rest

abbrev pub Worked : Type 0
Worked = AllRight table
