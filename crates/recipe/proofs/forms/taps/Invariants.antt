use Rattle.std.proofs.Common.{◌≡◌, ◌+◌, ◌-◌, length, take, replicate}
use Rattle.recipe.specs.Grammar.{numbers}
use Rattle.recipe.specs.Promises.{fields_in}
use Rattle.recipe.specs.Rules.{first_wrong, tap_rule}
use Rattle.recipe.proofs.forms.taps.Given as goal

abbrev pub invariant-loop-i : goal.invariant-loop-i
invariant-loop-i l =
    (length l.tap-items ≡ l.n)
    × (take l.i l.tap-items ≡ numbers (fields_in l.line) l.from l.i)
    × (first_wrong l.line.number (fields_in l.line) l.from (replicate l.n tap_rule) ≡ first_wrong l.line.number (fields_in l.line) (l.from + l.i) (replicate (l.n - l.i) tap_rule))
