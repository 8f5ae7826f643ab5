use Rattle.std.proofs.Common.{◌≡◌, ◌++◌, drop, replicate, vec_items}
use Rattle.sets.specs.Sets.{rows_of, bounds_of}
use Rattle.recipe.specs.Tables.{table_of}
use Rattle.reporting.specs.Lines.{stage_lines}
use Rattle.reporting.proofs.report.add_stages.Given as goal

-- what is written and what is left make the whole
abbrev pub invariant-loop-k : goal.invariant-loop-k
invariant-loop-k l = vec_items l.lines ++ stage_lines l.request.shape l.k (drop l.k (table_of l.request.recipe)) (rows_of l.spans) ≡ vec_items l.initial.lines ++ stage_lines l.request.shape 0 (table_of l.request.recipe) (replicate l.request.shape.channels (bounds_of l.request.span))
