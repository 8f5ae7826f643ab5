-- A stage that a recipe hands out, by the table's plain stages.
use Rattle.std.proofs.Common.{◌≡◌, ℕ, ◌<◌, List, length, get_or, Some, None, ap, ◌∙◌, arith}
use Rattle.std.proofs.lemmas.Option.{get_or_from_slice_get, slice_get-map, slice_get_within, gets}
use Rattle.std.specs.List.{slice_get}
use Rattle.std.specs.Option.{option_map}
use Rattle.stages.specs.declared.stage.Stage.{Stage}
use Rattle.stages.specs.Plain.{Plain, plain}
use Rattle.recipe.specs.declared.table.Recipe.{Recipe}
use Rattle.recipe.specs.Tables.{stages_of, table_of}

pub table_at : (r : Recipe) (k : ℕ) (s : Stage) (d : Plain) → slice_get (stages_of r) k ≡ Some s → (k < length (table_of r)) × (get_or (table_of r) k d ≡ plain s)
table_at r k s d e =
    let at : slice_get (table_of r) k ≡ Some (plain s) = slice_get-map plain (stages_of r) k ∙ ap (option_map plain) e in
    (slice_get_within (table_of r) k (plain s) at, get_or_from_slice_get (table_of r) k (plain s) d at)

pub nth_inside : {A : Type 0} (xs : List A) (k : ℕ) → k < length xs → slice_get xs k ≡ None → ⊥
nth_inside xs k h e = grind (arith, gets)
