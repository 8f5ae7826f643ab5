-- A row that is pushed to a list of spans, and two equal rows.
use Rattle.std.proofs.Common.{◌≡◌, ◌<◌, true, cond, ◌&&◌, ltb, List, [], ◌∷◌, ◌++◌, length, is_ok, Ok, Err, Result, refl, arith}
use Rattle.std.proofs.lemmas.Bool.{and_from}
use Rattle.std.proofs.lemmas.Bool.Decides.{nat_tests}
use Rattle.sets.specs.declared.bounds.Bounds.{Bounds}
use Rattle.sets.specs.declared.refusal.Refusal.{Refusal}
use Rattle.sets.specs.declared.refusal.Refusal.TheVariants.{SpanCount}
use Rattle.stages.specs.Ranges.{fits, all_fit}

-- there is room for it
pub pushed : (rows after : List Bounds) (b : Bounds) (r : Result Unit Refusal) → length rows < 64 → r ≡ cond (ltb (length rows) 64) (Ok tt) (Err SpanCount) → after ≡ cond (is_ok r) (rows ++ b ∷ []) rows → after ≡ rows ++ b ∷ []
pushed rows after b r room answer e = grind (arith, nat_tests)

pub two_fit : (b : Bounds) → fits b ≡ true → all_fit (b ∷ b ∷ []) ≡ true
two_fit b f = and_from (fits b) (fits b && true) f (and_from (fits b) true f refl)
