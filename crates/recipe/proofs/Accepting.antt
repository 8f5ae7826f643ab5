-- What the reading accepts is the text of its answer.
use Rattle.std.proofs.Common.{◌≡◌, ℕ, ◌+◌, ◌≤◌, Bool, true, false, cond, ◌&&◌, eqb, List, [], ◌∷◌, ◌++◌, map, length, Some, None, Ok, Err, Option, Result, sym, refl, ap, ◌∙◌, subst, append_assoc, arith}
use Rattle.std.proofs.Math.Dec.{eqb-suc-zero}
use Rattle.std.specs.List.{flat_map}
use Rattle.std.proofs.lemmas.List.{append-nil}
use Rattle.std.proofs.lemmas.Bool.{and_parts, both_ways}
use Rattle.recipe.specs.declared.fault.Fault.{Fault}
use Rattle.recipe.specs.Fields.{empty, fields_of, lines_of, tail_of}
use Rattle.recipe.specs.Grammar.{line_fault, taken, begun, read_from, reading}
use Rattle.stages.specs.Plain.{Plain}
use Rattle.recipe.specs.Written.{commas, ended, recipe_lines, stage_lines, LawfulStages, IsRecipe}
use Rattle.recipe.proofs.Parting.{text_lines, line-fields, fields_some}
use Rattle.recipe.proofs.Places.{Place, between, in_lift, in_dep, sofar, lines_read, Sound, Adds, adds_from_none}

-- the fault of a line, or else what the next lines come to
abbrev pub answer : Option Fault → Result (List Plain) Fault → Result (List Plain) Fault
answer o next = elim o [ None ↦ next | Some f ↦ Err f ]

pub ok_err : {A : Type 0} (us : List Plain) (f : Fault) → Ok us ≡ Err f → A
ok_err us f h = let z : ◌≡◌ {A = ℕ} 0 1 = cc in absurd (omega arith)

pub same_ok : (us ts : List Plain) → ◌≡◌ {A = Result (List Plain) Fault} (Ok us) (Ok ts) → us ≡ ts
same_ok us ts h = cc

pub nothing_sound : Sound (between [])
nothing_sound = record { each = tt; few = omega arith }

ok_cond : (b : Bool) (ts us : List Plain) (f : Fault) → cond b (Ok ts) (Err f) ≡ Ok us → (b ≡ true) × (us ≡ ts)
ok_cond true ts us f h = (refl, sym (same_ok ts us h))
ok_cond false ts us f h = ok_err us f (sym h)

no_bytes : (bs : List ℕ) → empty bs ≡ true → bs ≡ []
no_bytes [] h = refl
no_bytes (b ∷ bs) h = absurd (both_ways _ refl h)

-- any line without fault leads on
pub adds_some : (p : Place) (line : ℕ) (fs : List (List ℕ)) → 1 ≤ length fs → Sound p → line_fault (sofar p) line fs ≡ None → Adds p fs
adds_some p line [] some sound h = absurd (omega arith)
adds_some p line (f ∷ fs) some sound h = adds_from_none p line f fs sound h

-- the rest of the lines from a place on makes the stages us
pub record Ends (p : Place) (ls : List (List ℕ)) (bs : List ℕ) (us : List Plain) : Type 0 where
  pub lawful : LawfulStages us
  pub lines : flat_map stage_lines us ≡ lines_read p ++ map fields_of ls
  pub tail : bs ≡ []

ends_here : (p : Place) (tail : List ℕ) (us : List Plain) → Sound p → (empty tail && eqb (sofar p).left 0) ≡ true → us ≡ (sofar p).stages → Ends p [] tail us
ends_here (between ts) tail us sound h e =
    record { lawful = subst LawfulStages (sym e) sound; lines = ap (flat_map stage_lines) e ∙ sym (append-nil _); tail = no_bytes tail (and_parts (empty tail) _ h).0 }
ends_here (in_lift ts l ss n) tail us sound h e = absurd (both_ways _ (eqb-suc-zero n) (and_parts (empty tail) _ h).1)
ends_here (in_dep ts first rs n) tail us sound h e = absurd (both_ways _ (eqb-suc-zero n) (and_parts (empty tail) _ h).1)

ends_from_ok : (p : Place) (line : ℕ) (ls : List (List ℕ)) (tail : List ℕ) (us : List Plain) → Sound p → read_from (sofar p) line ls tail ≡ Ok us → Ends p ls tail us
unfolding read_from
ends_from_ok p line [] tail us sound h =
    let ok = ok_cond (empty tail && eqb (sofar p).left 0) (sofar p).stages us _ h in
    ends_here p tail us sound ok.0 ok.1
ends_from_ok p line (l ∷ ls) tail us sound h = by (line_fault (sofar p) line (fields_of l)) refl h (λ q sq k. ends_from_ok q (line + 1) ls tail us sq k)
  where
    by : (o : Option Fault) → line_fault (sofar p) line (fields_of l) ≡ o → answer o (read_from (taken (sofar p) (fields_of l)) (line + 1) ls tail) ≡ Ok us → ((q : Place) → Sound q → read_from (sofar q) (line + 1) ls tail ≡ Ok us → Ends q ls tail us) → Ends p (l ∷ ls) tail us
    by None e k more =
        let step = adds_some p line (fields_of l) (fields_some l) sound e in
        let rest = more step.next step.sound (ap (λ s. read_from s (line + 1) ls tail) (sym step.taken) ∙ k) in
        record {
          lawful = rest.lawful;
          lines = rest.lines ∙ ap (λ r. r ++ map fields_of ls) step.lines ∙ append_assoc (lines_read p) (fields_of l ∷ []) (map fields_of ls);
          tail = rest.tail;
        }
    by (Some f) e k more = ok_err us f (sym k)

pub commas-fields : (ls : List (List ℕ)) → map commas (map fields_of ls) ≡ ls
commas-fields [] = refl
commas-fields (l ∷ ls) = λ i. line-fields l i ∷ commas-fields ls i

-- lines that are read, from whatever line number on, are those of a recipe
pub recipe_from_ok : (line : ℕ) (ls : List (List ℕ)) (tail : List ℕ) (ts : List Plain) → read_from begun line ls tail ≡ Ok ts → IsRecipe (flat_map ended ls ++ tail) ts
recipe_from_ok line ls tail ts h =
    let ends = ends_from_ok (between []) line ls tail ts nothing_sound h in
    let lines : recipe_lines ts ≡ ls = ap (map commas) ends.lines ∙ commas-fields ls in
    record { lawful = ends.lawful; written = ap (λ r. flat_map ended ls ++ r) ends.tail ∙ append-nil (flat_map ended ls) ∙ ap (flat_map ended) (sym lines) }

pub accepted : (text : List ℕ) (ts : List Plain) → reading text ≡ Ok ts → IsRecipe text ts
accepted text ts h = subst (λ t. IsRecipe t ts) (sym (text_lines text)) (recipe_from_ok 1 (lines_of text) (tail_of text) ts h)
