-- A table by its front and its last stage.
use Rattle.std.proofs.Common.{◌≡◌, ℕ, zero, suc, ◌+◌, ◌-◌, ◌<◌, ◌≤◌, min, cond, List, [], ◌∷◌, ◌++◌, map, length, get_or, take, set, Some, None, codes, refl, ap, ◌∙◌, arith}
use Rattle.std.proofs.lemmas.List.{map_more, map_push, take_more_set, length-map, length-take}
use Rattle.stages.specs.declared.stage.Dep.{Dep}
use Rattle.stages.specs.declared.stage.Lift.{Lift}
use Rattle.stages.specs.declared.stage.Rct.{Rct}
use Rattle.stages.specs.declared.stage.Stage.{Stage}
use Rattle.stages.specs.declared.stage.Stage.TheVariants.{Lift as in_lift, Dep as in_dep, Rct as in-rct}
use Rattle.stages.specs.Plain.{steps_of}
use Rattle.recipe.specs.declared.table.Recipe.{Recipe}
use Rattle.recipe.specs.Grammar.{at_hand, form_inside, with_step, with_row}
use Rattle.stages.specs.Plain.{Plain, PlainStep, PlainRow, PlainLift, lift, dep, rct, plain, plain_step, plain_row}
use Rattle.recipe.specs.Tables.{table_of}
use Rattle.recipe.specs.Room.{room_in}
use Rattle.recipe.specs.Rules.{step, row, same}

-- all stages but the last
abbrev pub front : List Stage → ℕ → List Plain
front xs n = map plain (take (n - 1) xs)

pub last_of : (xs : List Stage) (n : ℕ) (d : Stage) → 0 < n → n ≤ length xs → map plain (take n xs) ≡ front xs n ++ plain (get_or xs (n - 1) d) ∷ []
last_of xs n d some h =
    let e : n ≡ n - 1 + 1 = omega arith in
    ap (λ m. map plain (take m xs)) e ∙ map_more plain xs (n - 1) d (omega arith)

pub set_last : (xs : List Stage) (n : ℕ) (s : Stage) → 0 < n → n ≤ length xs → map plain (take n (set xs (n - 1) s)) ≡ front xs n ++ plain s ∷ []
set_last xs n s some h =
    let e : n ≡ n - 1 + 1 = omega arith in
    ap (λ m. map plain (take m (set xs (n - 1) s))) e ∙ ap (map plain) (take_more_set xs (n - 1) s (omega arith)) ∙ map_push plain (take (n - 1) xs) s

pub at_hand-last : (ts : List Plain) (s : Plain) → at_hand (ts ++ s ∷ []) ≡ Some s
at_hand-last [] s = refl
at_hand-last (t ∷ []) s = refl
at_hand-last (t ∷ u ∷ ts) s = at_hand-last (u ∷ ts) s

-- the room in the last stage of a table
pub room_last : (us ts : List Plain) (s : Plain) → us ≡ ts ++ s ∷ [] → room_in (at_hand us) ≡ room_in (Some s)
room_last us ts s e = ap room_in (ap at_hand e ∙ at_hand-last ts s)

pub with_step-lift : (x : PlainStep) (ts : List Plain) (l : PlainLift) (ss : List PlainStep) → with_step x (ts ++ lift l ss ∷ []) ≡ ts ++ lift l (ss ++ x ∷ []) ∷ []
with_step-lift x [] l ss = refl
with_step-lift x (t ∷ []) l ss = refl
with_step-lift x (t ∷ u ∷ ts) l ss = ap (λ r. t ∷ r) (with_step-lift x (u ∷ ts) l ss)

with_step-last : (x : PlainStep) (ts : List Plain) (s : Plain) → with_step x (ts ++ s ∷ []) ≡ ts ++ with_step x (s ∷ [])
with_step-last x [] s = refl
with_step-last x (t ∷ []) s = refl
with_step-last x (t ∷ u ∷ ts) s = ap (λ r. t ∷ r) (with_step-last x (u ∷ ts) s)

pub with_step-other : (x : PlainStep) (ts : List Plain) (s : Stage) → ((l : Lift) → s ≡ in_lift l → ⊥) → with_step x (ts ++ plain s ∷ []) ≡ ts ++ plain s ∷ []
unfolding plain
with_step-other x ts (in_lift l) other = absurd (other l refl)
with_step-other x ts (in_dep d) other = with_step-last x ts _
with_step-other x ts (in-rct r) other = with_step-last x ts _

pub with_row_dep : (x : PlainRow) (ts : List Plain) (f : ℕ) (rs : List PlainRow) → with_row x (ts ++ dep f rs ∷ []) ≡ ts ++ dep f (rs ++ x ∷ []) ∷ []
with_row_dep x [] f rs = refl
with_row_dep x (t ∷ []) f rs = refl
with_row_dep x (t ∷ u ∷ ts) f rs = ap (λ r. t ∷ r) (with_row_dep x (u ∷ ts) f rs)

with_row_last : (x : PlainRow) (ts : List Plain) (s : Plain) → with_row x (ts ++ s ∷ []) ≡ ts ++ with_row x (s ∷ [])
with_row_last x [] s = refl
with_row_last x (t ∷ []) s = refl
with_row_last x (t ∷ u ∷ ts) s = ap (λ r. t ∷ r) (with_row_last x (u ∷ ts) s)

pub with_row_other : (x : PlainRow) (ts : List Plain) (s : Stage) → ((d : Dep) → s ≡ in_dep d → ⊥) → with_row x (ts ++ plain s ∷ []) ≡ ts ++ plain s ∷ []
unfolding plain
with_row_other x ts (in_lift l) other = with_row_last x ts _
with_row_other x ts (in_dep d) other = absurd (other d refl)
with_row_other x ts (in-rct r) other = with_row_last x ts _

-- the room for steps and rows
pub room_lift : (l : Lift) → room_in (Some (plain (in_lift l))) ≡ 4 - l.step_count
unfolding plain
room_lift l =
    let e = length-map (steps_of l) plain_step ∙ length-take l.step_count l.steps ∙ ap (min l.step_count) l.full in
    let few = l.few in
    omega arith

pub room_dep : (d : Dep) → room_in (Some (plain (in_dep d))) ≡ min (8 - d.count) (64 - (d.first + d.count))
unfolding plain
room_dep d =
    let e = length-map (take (d.count - 1) d.rows) plain_row ∙ length-take (d.count - 1) d.rows ∙ ap (min (d.count - 1)) d.full in
    let few = d.few in
    let some = d.some in
    omega arith

-- a table with room for a line has a stage at hand
pub some_at_hand : (r : Recipe) → 0 < room_in (at_hand (table_of r)) → 0 < r.len
some_at_hand r h = by r.len h
  where
    by : (k : ℕ) → 0 < room_in (at_hand (map plain (take k r.stages))) → 0 < k
    by zero h = absurd (omega arith)
    by (suc k) h = omega arith

module _ (r : Recipe) (due : 0 < room_in (at_hand (table_of r))) (s d : Stage) (is : get_or r.stages (r.len - 1) d ≡ s) where
  pub ends : table_of r ≡ front r.stages r.len ++ plain s ∷ []
  ends =
      let some = some_at_hand r due in
      let full = r.full in
      let short = r.short in
      last_of r.stages r.len d some (omega arith) ∙ ap (λ s. front r.stages r.len ++ plain s ∷ []) is

  pub at-hand : at_hand (table_of r) ≡ Some (plain s)
  at-hand = ap at_hand ends ∙ at_hand-last (front r.stages r.len) (plain s)

-- the form of a line of a lifting, and of dependency rows
pub step-form : (l : Lift) (v : List ℕ) → form_inside (Some (plain (in_lift l))) v ≡ cond (same v (codes "STEP")) (Some step) None
unfolding plain
step-form l v = refl

pub row_form : (d : Dep) (v : List ℕ) → form_inside (Some (plain (in_dep d))) v ≡ cond (same v (codes "ROW")) (Some (row d.count)) None
unfolding plain
row_form d v =
    let few = d.few in
    let some = d.some in
    let n = length-map (take (d.count - 1) d.rows) plain_row ∙ length-take (d.count - 1) d.rows ∙ ap (min (d.count - 1)) d.full in
    let m : length (map plain_row (take (d.count - 1) d.rows)) + 1 ≡ d.count = omega arith in
    ap (λ k. cond (same v (codes "ROW")) (Some (row k)) None) m

pub rct_plain : (r : Rct) → plain (in-rct r) ≡ rct r.first
unfolding plain
rct_plain r = refl

-- no stage more or less
pub length-with_step : (x : PlainStep) (ts : List Plain) → length (with_step x ts) ≡ length ts
length-with_step x [] = refl
length-with_step x (lift l ss ∷ []) = refl
length-with_step x (dep f rs ∷ []) = refl
length-with_step x (rct f ∷ []) = refl
length-with_step x (s ∷ t ∷ ts) = ap suc (length-with_step x (t ∷ ts))

pub length-with_row : (x : PlainRow) (ts : List Plain) → length (with_row x ts) ≡ length ts
length-with_row x [] = refl
length-with_row x (lift l ss ∷ []) = refl
length-with_row x (dep f rs ∷ []) = refl
length-with_row x (rct f ∷ []) = refl
length-with_row x (s ∷ t ∷ ts) = ap suc (length-with_row x (t ∷ ts))
