-- A refusal by the lines that are read, whatever the number of the first.
use Rattle.std.proofs.Common.{◌≡◌, ℕ, ◌+◌, ◌-◌, ◌<◌, ◌≤◌, List, [], length, get_or, take, Err, sym, subst, arith}
use Rattle.std.specs.List.{AllByRecursion}
use Rattle.recipe.specs.declared.fault.Cause.TheVariants.{EndsInside, FieldCount}
use Rattle.recipe.specs.declared.fault.Fault.{Fault}
use Rattle.recipe.specs.Fields.{fields_of, lines_of, tail_of}
use Rattle.recipe.specs.Grammar.{begun, read_from}
use Rattle.recipe.specs.Written.{SomeRecipe, Begun, PointsAtFirst}
use Rattle.recipe.proofs.Parting.{Free}
use Rattle.recipe.proofs.Places.{between, sofar}
use Rattle.recipe.proofs.Accepting.{nothing_sound}
use Rattle.recipe.proofs.Completing.{ok_from_recipe}
use Rattle.recipe.proofs.Pointing.{stops_from_err, begun-before, none_with, goes_on}
use Rattle.recipe.proofs.Deciding.{field-decides}

-- k lines begin a text of the kind, and then comes the fault
pub record Refuses (Kind : List ℕ → Type 0) (first : ℕ) (ls : List (List ℕ)) (f : Fault) : Type 0 where
  pub k : ℕ
  pub line-is : f.line ≡ first + k
  pub within : k ≤ length ls
  pub before : Begun Kind (take k ls)
  pub here : k < length ls → Begun Kind (take (k + 1) ls) → ⊥
  pub field : k < length ls → (f.cause ≡ FieldCount → ⊥) → (other : List ℕ) → k < length (lines_of other) → take k (lines_of other) ≡ take k ls → take f.field (fields_of (get_or (lines_of other) k [])) ≡ take f.field (fields_of (get_or ls k [])) → Kind other → ⊥
  pub past : length ls ≤ k → (f.cause ≡ EndsInside) × (f.field ≡ 0)

pub refuses_from_err : (first : ℕ) (ls : List (List ℕ)) (tail : List ℕ) (f : Fault) → AllByRecursion (Free 10) ls → read_from begun first ls tail ≡ Err f → Refuses SomeRecipe first ls f
refuses_from_err first ls tail f free h =
    let s = stops_from_err (between []) first ls tail f nothing_sound h in
    let k = s.k in
    record {
      k = k;
      line-is = s.line-is;
      within = s.within;
      before = begun-before first ls f s;
      here = λ l b. none_with first ls f s free l b;
      field = λ l but other long lines fields recipe.
          let none = goes_on first ls (lines_of other) f s (tail_of other) recipe.0 lines long (ok_from_recipe first other recipe.0 recipe.1) in
          field-decides (sofar s.at) (first + k) (fields_of (get_or ls k [])) (fields_of (get_or (lines_of other) k [])) f but fields (s.fault l) none;
      past = s.past;
    }

pub points_from_refuses : (Kind : List ℕ → Type 0) (text : List ℕ) (f : Fault) → Refuses Kind 1 (lines_of text) f → PointsAtFirst Kind text f
points_from_refuses Kind text f r =
    let ls = lines_of text in
    let k = r.k in
    let line = r.line-is in
    let before : f.line - 1 ≡ k = omega arith in
    let here : f.line ≡ k + 1 = omega arith in
    record {
      from_one = omega arith;
      before = subst (λ n. Begun Kind (take n ls)) (sym before) r.before;
      here = λ l b. r.here (omega arith) (subst (λ n. Begun Kind (take n ls)) here b);
      field = λ l but other same kind.
          r.field (omega arith) but other (omega (arith, same.long))
          (subst (λ n. take n (lines_of other) ≡ take n ls) before same.lines)
          (subst (λ n. take f.field (fields_of (get_or (lines_of other) n [])) ≡ take f.field (fields_of (get_or ls n []))) before same.fields)
          kind;
      past = λ l. let ends = r.past (omega arith) in (ends.0, ends.1, omega (arith, r.within));
    }
