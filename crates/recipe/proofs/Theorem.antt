-- The laws of the reading, over every text.
use Rattle.std.proofs.Common.{◌≡◌, ℕ, List, Err, sym, ◌∙◌}
use Rattle.recipe.specs.declared.fault.Fault.{Fault}
use Rattle.recipe.specs.Fields.{lines_of, tail_of}
use Rattle.recipe.specs.Grammar.{reading}
use Rattle.stages.specs.Plain.{Plain}
use Rattle.recipe.specs.Written.{IsRecipe, SomeRecipe, PointsAtFirst, ReadingLaws}
use Rattle.recipe.proofs.Parting.{free_lines}
use Rattle.recipe.proofs.Accepting.{accepted, same_ok}
use Rattle.recipe.proofs.Completing.{complete}
use Rattle.recipe.proofs.Refusing.{refuses_from_err, points_from_refuses}

unique : (text : List ℕ) (ts us : List Plain) → IsRecipe text ts → IsRecipe text us → ts ≡ us
unique text ts us h k = same_ok ts us (sym (complete text ts h) ∙ complete text us k)

refused : (text : List ℕ) (f : Fault) → reading text ≡ Err f → PointsAtFirst SomeRecipe text f
refused text f h = points_from_refuses SomeRecipe text f (refuses_from_err 1 (lines_of text) (tail_of text) f (free_lines text) h)

pub reading_laws : ReadingLaws
reading_laws = record { accepted = accepted; complete = complete; unique = unique; refused = refused }
