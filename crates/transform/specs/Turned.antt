-- How the code carries out a pass: in place, in signed 32 bits that wrap. To undo a pass, the amounts are taken away.
use Rattle.std.specs.Prelude.{◌≡◌, ℕ, ◌<◌, Bool, true, false, List, [], ◌∷◌, length, ℤ, ◌+ℤ◌, ◌-ℤ◌, FitsSigned}
use Rattle.std.specs.Int.{int_wrap, w32}
use Rattle.sets.specs.Areas.{at}
use Rattle.rules.specs.Passes.{Pass}

-- a sample and an amount: added, or to undo taken away
abbrev pub turned_by : Bool → ℤ → ℤ → ℤ
turned_by false x q = x +ℤ q
turned_by true x q = x -ℤ q

-- ys is what a pass, or its undoing, makes of the area xs
pub record Turned (undo : Bool) (p : Pass) (xs ys : List ℤ) : Type 0 where
  pub long : length ys ≡ length xs
  pub hit : (a : ℕ) → a < length xs → p.hits a ≡ true → FitsSigned w32 (at xs a) × (at ys a ≡ int_wrap w32 (turned_by undo (at xs a) (p.amount xs a)))
  pub kept : (a : ℕ) → p.hits a ≡ false → at ys a ≡ at xs a

-- the passes of a list in order
pub data Forth : List Pass → List ℤ → List ℤ → Type 0 where
  none : {xs : List ℤ} → Forth [] xs xs
  more : {p : Pass} {ps : List Pass} {xs ys zs : List ℤ} → Turned false p xs ys → Forth ps ys zs → Forth (p ∷ ps) xs zs

-- the passes of a list undone, the last first
pub data Back : List Pass → List ℤ → List ℤ → Type 0 where
  none : {xs : List ℤ} → Back [] xs xs
  more : {p : Pass} {ps : List Pass} {xs ys zs : List ℤ} → Back ps xs ys → Turned true p ys zs → Back (p ∷ ps) xs zs
