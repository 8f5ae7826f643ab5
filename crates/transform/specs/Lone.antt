-- Lines of just one index, where that is odd: what the code does to their samples, by place.
use Rattle.std.specs.Prelude.{◌≡◌, ℕ, ◌+◌, ◌*◌, ◌/◌, ◌%◌, ◌<◌, true, false, List, length, ℤ, ◌+ℤ◌, FitsSigned, ◌≢◌}
use Rattle.std.specs.Int.{int_wrap, w32}
use Rattle.sets.specs.declared.shape.Shape.{Shape}
use Rattle.sets.specs.Areas.{at}
use Rattle.stages.specs.Plain.{PlainLift}
use Rattle.rules.specs.Lifted.{touched}

-- each touched sample x becomes a y with R x y, and the others stay
pub record Touched (f : Shape) (l : PlainLift) (R : ℤ → ℤ → Type 0) (xs ys : List ℤ) : Type 0 where
  pub long : length ys ≡ length xs
  pub hit : (a : ℕ) → a < length xs → touched f l (a / f.samples) (a % f.samples) ≡ true → R (at xs a) (at ys a)
  pub kept : (a : ℕ) → touched f l (a / f.samples) (a % f.samples) ≡ false → at ys a ≡ at xs a

-- its double, in signed 32 bits that wrap
abbrev pub Double : ℤ → ℤ → Type 0
Double x y = FitsSigned w32 x × (y ≡ int_wrap w32 (x +ℤ x))

-- its half
abbrev pub Half : ℤ → ℤ → Type 0
Half x y = FitsSigned w32 x × (y +ℤ y ≡ x)

abbrev pub Doubled : Shape → PlainLift → List ℤ → List ℤ → Type 0
Doubled f l xs ys = Touched f l Double xs ys

abbrev pub Halved : Shape → PlainLift → List ℤ → List ℤ → Type 0
Halved f l xs ys = Touched f l Half xs ys

-- the samples at start + i * by, for i below n, are changed by R, and the others stay
pub record Spaced (R : ℤ → ℤ → Type 0) (start by n : ℕ) (xs ys : List ℤ) : Type 0 where
  pub long : length ys ≡ length xs
  pub hit : (i : ℕ) → i < n → R (at xs (start + i * by)) (at ys (start + i * by))
  pub kept : (a : ℕ) → ((i : ℕ) → i < n → a ≢ start + i * by) → at ys a ≡ at xs a

-- one of them is the double of no number
pub record OddAt (start by n : ℕ) (xs : List ℤ) : Type 0 where
  pub line : ℕ
  pub below : line < n
  pub odd : (y : ℤ) → y +ℤ y ≢ at xs (start + line * by)

-- a touched sample is the double of no number
pub record NoHalf (f : Shape) (l : PlainLift) (xs : List ℤ) : Type 0 where
  pub address : ℕ
  pub below : address < length xs
  pub hit : touched f l (address / f.samples) (address % f.samples) ≡ true
  pub odd : (y : ℤ) → y +ℤ y ≢ at xs address
