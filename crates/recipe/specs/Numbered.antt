-- The stages of a recipe, by number.
use Rattle.std.specs.Prelude.{ℕ, slice_index_or}
use Rattle.recipe.specs.declared.table.Recipe.{Recipe}
use Rattle.recipe.specs.Tables.{table_of}
use Rattle.stages.specs.Plain.{Plain, rct}

-- stage k of a recipe; past its last stage stands nothing of meaning
abbrev pub recipe_stage : Recipe → ℕ → Plain
recipe_stage r k = slice_index_or (table_of r) k (rct 0)
