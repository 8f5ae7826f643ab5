-- The refusals and their numbers.
use Rattle.std.specs.Prelude.{ℕ}
use Rattle.sets.specs.declared.refusal.Refusal.{Refusal}
use Rattle.sets.specs.declared.refusal.Refusal.TheVariants.{BadShape, SpanCount, NoSet, AreaLength, LedgerFull, LedgerEmpty, NoSuchStage, DoesNotFit, TooWide, OutsideSpan, Foreign, SpanOrder, BadPicks}

abbrev pub number_of : Refusal → ℕ
number_of BadShape = 1
number_of SpanCount = 2
number_of NoSet = 3
number_of AreaLength = 4
number_of LedgerFull = 5
number_of LedgerEmpty = 6
number_of NoSuchStage = 7
number_of DoesNotFit = 8
number_of TooWide = 9
number_of OutsideSpan = 10
number_of Foreign = 11
number_of SpanOrder = 12
number_of BadPicks = 13
