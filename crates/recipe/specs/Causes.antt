-- The causes of a text fault and their numbers.
use Rattle.std.specs.Prelude.{ℕ}
use Rattle.recipe.specs.declared.fault.Cause.{Cause}
use Rattle.recipe.specs.declared.fault.Cause.TheVariants.{WordDue, FieldCount, NotListed, OutsideLimit, StageCount, EndsInside, TooLong}

abbrev pub number_of : Cause → ℕ
number_of WordDue = 20
number_of FieldCount = 21
number_of NotListed = 22
number_of OutsideLimit = 23
number_of StageCount = 24
number_of EndsInside = 25
number_of TooLong = 26
