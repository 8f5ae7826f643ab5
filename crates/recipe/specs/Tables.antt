-- The stages that a recipe's table has.
use Rattle.std.specs.Prelude.{List, map, take}
use Rattle.stages.specs.declared.stage.Stage.{Stage}
use Rattle.stages.specs.Plain.{Plain, plain}
use Rattle.recipe.specs.declared.table.Recipe.{Recipe}

abbrev pub stages_of : Recipe → List Stage
stages_of r = take r.len r.stages

-- the same by their words and numbers
abbrev pub table_of : Recipe → List Plain
table_of r = map plain (stages_of r)
