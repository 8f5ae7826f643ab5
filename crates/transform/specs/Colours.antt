-- How the code carries out the colour transform: in place, in signed 32 bits that wrap.
use Rattle.std.specs.Prelude.{◌≡◌, ℕ, ◌+◌, ◌*◌, ◌<◌, Bool, true, false, List, length, ℤ, pos, ◌+ℤ◌, ◌-ℤ◌, ◌*ℤ◌, FitsSigned, ◌≢◌}
use Rattle.std.specs.Int.{int_wrap, w32}
use Rattle.sets.specs.declared.shape.Shape.{Shape}
use Rattle.sets.specs.Areas.{at}
use Rattle.stages.specs.Floors.{floor_over}
use Rattle.transform.specs.declared.rct.Colours.{Colours}

-- what the transform makes of three samples a, b and c, and what undoing it does: with b found first, the others follow
abbrev pub recoloured : Bool → ℤ → ℤ → ℤ → Colours
recoloured false a b c = record {
  first = int_wrap w32 (floor_over (a +ℤ (pos 2 *ℤ b +ℤ c)) 2);
  second = int_wrap w32 (c -ℤ b);
  third = int_wrap w32 (a -ℤ b);
}
recoloured true a b c =
    let middle = int_wrap w32 (a -ℤ floor_over (b +ℤ c) 2) in
    record { first = int_wrap w32 (c +ℤ middle); second = middle; third = int_wrap w32 (b +ℤ middle) }

-- the three samples at t, where the channels start at p, q and r
abbrev pub coloured_at : Bool → ℕ → ℕ → ℕ → List ℤ → ℕ → Colours
coloured_at undo p q r xs t = recoloured undo (at xs (p + t)) (at xs (q + t)) (at xs (r + t))

-- the first n samples of three channels are recoloured, from the old samples, and all else is kept
pub record Recoloured (undo : Bool) (p q r n : ℕ) (xs ys : List ℤ) : Type 0 where
  pub long : length ys ≡ length xs
  pub fits : (t : ℕ) → t < n → FitsSigned w32 (at xs (p + t)) × FitsSigned w32 (at xs (q + t)) × FitsSigned w32 (at xs (r + t))
  pub first : (t : ℕ) → t < n → at ys (p + t) ≡ (coloured_at undo p q r xs t).first
  pub second : (t : ℕ) → t < n → at ys (q + t) ≡ (coloured_at undo p q r xs t).second
  pub third : (t : ℕ) → t < n → at ys (r + t) ≡ (coloured_at undo p q r xs t).third
  pub kept : (a : ℕ) → ((t : ℕ) → t < n → (a ≢ p + t) × (a ≢ q + t) × (a ≢ r + t)) → at ys a ≡ at xs a

-- three channels of a set, from the first on, in whole
abbrev pub RctTurned : Bool → Shape → ℕ → List ℤ → List ℤ → Type 0
RctTurned undo f first xs ys = Recoloured undo (first * f.samples) ((first + 1) * f.samples) ((first + 2) * f.samples) f.samples xs ys
