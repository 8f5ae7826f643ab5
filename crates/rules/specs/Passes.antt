-- Passes. A pass adds to some samples of an area amounts that the samples before the pass give.
use Rattle.std.specs.Prelude.{◌≡◌, ℕ, ◌<◌, Bool, true, false, cond, List, [], ◌∷◌, map, length, ℤ, ◌+ℤ◌, FitsSigned}
use Rattle.std.specs.Int.{w32}
use Rattle.std.specs.List.{range_with_len}
use Rattle.sets.specs.Areas.{at}

-- whether the sample at an address is changed, and what is added to it
pub record Pass : Type 0 where
  pub hits : ℕ → Bool
  pub amount : List ℤ → ℕ → ℤ

abbrev pub passed_at : Pass → List ℤ → ℕ → ℤ
passed_at p xs a = cond (p.hits a) (at xs a +ℤ p.amount xs a) (at xs a)

unfoldable pub passed : Pass → List ℤ → List ℤ
passed p xs = map (passed_at p xs) (range_with_len 0 (length xs))

-- the passes of a list in order
unfoldable pub ran : List Pass → List ℤ → List ℤ
ran [] xs = xs
ran (p ∷ ps) xs = ran ps (passed p xs)

-- in areas of n samples, what a pass adds depends on samples alone that it does not change
abbrev pub Blind : ℕ → Pass → Type 0
Blind n p =
    (xs ys : List ℤ) → length xs ≡ n → length ys ≡ n → ((a : ℕ) → a < n → p.hits a ≡ false → at xs a ≡ at ys a) →
    (a : ℕ) → a < n → p.hits a ≡ true → p.amount xs a ≡ p.amount ys a

pub data AllBlind (n : ℕ) : List Pass → Type 0 where
  none : AllBlind n []
  more : {p : Pass} {ps : List Pass} → Blind n p → AllBlind n ps → AllBlind n (p ∷ ps)

-- each sample that a pass changes is a signed 32-bit number before it and after it
pub record FitsAt (p : Pass) (xs : List ℤ) : Type 0 where
  pub before : (a : ℕ) → a < length xs → p.hits a ≡ true → FitsSigned w32 (at xs a)
  pub after : (a : ℕ) → a < length xs → p.hits a ≡ true → FitsSigned w32 (at xs a +ℤ p.amount xs a)

-- the same for every pass of a list, each on what those before it made
pub data Fitting : List Pass → List ℤ → Type 0 where
  none : {xs : List ℤ} → Fitting [] xs
  more : {p : Pass} {ps : List Pass} {xs : List ℤ} → FitsAt p xs → Fitting ps (passed p xs) → Fitting (p ∷ ps) xs
