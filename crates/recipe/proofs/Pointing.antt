-- Where a refused text goes wrong: what was read up to the fault begins a recipe.
use Rattle.std.proofs.Common.{◌≡◌, ℕ, zero, suc, ◌+◌, ◌<◌, ◌≤◌, Bool, true, false, cond, ◌&&◌, eqb, List, [], ◌∷◌, ◌++◌, map, length, get_or, take, drop, replicate, pos, Some, None, Ok, Err, Option, Result, sym, refl, ap, ◌∙◌, subst, append_assoc, arith}
use Rattle.std.specs.List.{flat_map, AllByRecursion}
use Rattle.std.proofs.ByRecursion.{All-take}
use Rattle.std.proofs.lemmas.List.{append-nil, map-append, length-replicate, length-append, length-take-le, take-append-le, take-take, take-append-drop, drop_more, get_or_append_left, get_or-take}
use Rattle.std.proofs.lemmas.Int.{ints}
use Rattle.std.proofs.lemmas.Bool.{cond_both}
use Rattle.std.proofs.lemmas.Option.{none-some}
use Rattle.recipe.specs.declared.fault.Cause.{Cause}
use Rattle.recipe.specs.declared.fault.Cause.TheVariants.{EndsInside}
use Rattle.recipe.specs.declared.fault.Fault.{Fault}
use Rattle.recipe.specs.Fields.{empty, fields_of, lines_of, tail_of}
use Rattle.recipe.specs.Grammar.{Sofar, form_due, has_space, form_fault, line_fault, taken, begun, read_from}
use Rattle.stages.specs.Plain.{Plain, PlainStep, PlainRow, PlainLift}
use Rattle.recipe.specs.Rules.{Form, Rule, wrong, field, first_wrong, has_fields, rules_of}
use Rattle.recipe.specs.Written.{commas, ended, stage_lines, LawfulTap, LawfulStep, LawfulRow, LawfulStages, SomeRecipe, Begun}
use Rattle.recipe.proofs.Parting.{Free, fields_some, lines_first}
use Rattle.recipe.proofs.Rulings.{onward}
use Rattle.recipe.proofs.Places.{Place, between, in_lift, in_dep, sofar, lines_read, Sound, stepped, rowed, step-sound, row_sound, step_lines, row_lines}
use Rattle.recipe.proofs.Accepting.{answer, ok_err, adds_some, commas-fields}
use Rattle.recipe.proofs.Completing.{ok_from_recipe}

-- a place can always be completed
record Completed (p : Place) : Type 0 where
  stages : List Plain
  lawful : LawfulStages stages
  more : List (List (List ℕ))
  lines : flat_map stage_lines stages ≡ lines_read p ++ more

still_step : PlainStep
still_step = record { offset = pos 0; exponent = 0; residue = pos 0; taps = pos 0 ∷ [] }

still-step : LawfulStep still_step
unfolding still_step
still-step = record { left = omega (arith, ints); right = omega (arith, ints); exponent = omega arith; low = omega (arith, ints); high = omega (arith, ints); some = omega arith; few = omega arith; taps = ((omega (arith, ints), omega (arith, ints)), tt) }

still_row : ℕ → PlainRow
still_row n = record { exponent = 0; residue = pos 0; taps = replicate n (pos 0) }

still_taps : (n : ℕ) → AllByRecursion LawfulTap (replicate n (pos 0))
still_taps zero = tt
still_taps (suc n) = ((omega (arith, ints), omega (arith, ints)), still_taps n)

still-row : (n : ℕ) → LawfulRow n (still_row n)
unfolding still_row
still-row n = record { exponent = omega arith; residue = refl; count = length-replicate n (pos 0); taps = still_taps n }

completed_by : (p q : Place) (fs : List (List ℕ)) → lines_read q ≡ lines_read p ++ fs ∷ [] → Completed q → Completed p
completed_by p q fs e c =
    record { stages = c.stages; lawful = c.lawful; more = fs ∷ c.more; lines = c.lines ∙ ap (λ r. r ++ c.more) e ∙ append_assoc (lines_read p) (fs ∷ []) c.more }

completed_between : (ts : List Plain) → LawfulStages ts → Completed (between ts)
completed_between ts h = record { stages = ts; lawful = h; more = []; lines = sym (append-nil (flat_map stage_lines ts)) }

completed_lift : (ts : List Plain) (l : PlainLift) (n : ℕ) (ss : List PlainStep) → Sound (in_lift ts l ss n) → Completed (in_lift ts l ss n)
completed_lift ts l zero ss h =
    completed_by (in_lift ts l ss 0) (stepped ts l (ss ++ still_step ∷ []) 0) _ (step_lines ts l ss 0 still_step)
    (completed_between _ (step-sound ts l ss 0 still_step h still-step))
completed_lift ts l (suc n) ss h =
    completed_by (in_lift ts l ss (suc n)) (in_lift ts l (ss ++ still_step ∷ []) n) _ (step_lines ts l ss (suc n) still_step)
    (completed_lift ts l n (ss ++ still_step ∷ []) (step-sound ts l ss (suc n) still_step h still-step))

completed_dep : (ts : List Plain) (first n : ℕ) (rs : List PlainRow) → Sound (in_dep ts first rs n) → Completed (in_dep ts first rs n)
completed_dep ts first zero rs h =
    let x = still_row (length rs + 1) in
    completed_by (in_dep ts first rs 0) (rowed ts first (rs ++ x ∷ []) 0) _ (row_lines ts first rs 0 x)
    (completed_between _ (row_sound ts first rs 0 x h (still-row (length rs + 1))))
completed_dep ts first (suc n) rs h =
    let x = still_row (length rs + 1) in
    completed_by (in_dep ts first rs (suc n)) (in_dep ts first (rs ++ x ∷ []) n) _ (row_lines ts first rs (suc n) x)
    (completed_dep ts first n (rs ++ x ∷ []) (row_sound ts first rs (suc n) x h (still-row (length rs + 1))))

completed : (p : Place) → Sound p → Completed p
completed (between ts) h = completed_between ts h
completed (in_lift ts l ss n) h = completed_lift ts l n ss h
completed (in_dep ts first rs n) h = completed_dep ts first n rs h

-- a fault names its line, and one of its fields
abbrev Named : ℕ → Option Fault → Type 0
Named line None = Unit {0}
Named line (Some f) = (f.line ≡ line) × (1 ≤ f.field)

rules_named : (line : ℕ) (fs : List (List ℕ)) (k : ℕ) (rs : List Rule) → Named line (first_wrong line fs k rs)
unfolding first_wrong
rules_named line fs k [] = tt
rules_named line fs k (r ∷ rs) = by (wrong r (field fs k)) (rules_named line fs (k + 1) rs)
  where
    by : (o : Option Cause) → Named line (first_wrong line fs (k + 1) rs) → Named line (onward line k (first_wrong line fs (k + 1) rs) o)
    by None h = h
    by (Some c) h = (refl, omega arith)

form_named : (s : Sofar) (line : ℕ) (fs : List (List ℕ)) (o : Option Form) → Named line (form_fault s line fs o)
form_named s line fs None = (refl, omega arith)
form_named s line fs (Some g) =
    cond_both (has_space s) _ _ (Named line)
    (λ _. cond_both (has_fields g (length fs)) _ _ (Named line) (λ _. rules_named line fs 1 (rules_of g fs)) (λ _. (refl, omega arith)))
    (λ _. (refl, omega arith))

pub named_line : (s : Sofar) (line : ℕ) (fs : List (List ℕ)) (f : Fault) (o : Option Form) → form_fault s line fs o ≡ Some f → (f.line ≡ line) × (1 ≤ f.field)
named_line s line fs f o h = subst (Named line) h (form_named s line fs o)

pub fault_named : (s : Sofar) (line : ℕ) (fs : List (List ℕ)) (f : Fault) → line_fault s line fs ≡ Some f → (f.line ≡ line) × (1 ≤ f.field)
unfolding line_fault
fault_named s line fs f h = named_line s line fs f (form_due s (field fs 0)) h

-- a refused reading: k lines are read, and then comes the fault
pub record Stops (p : Place) (line : ℕ) (ls : List (List ℕ)) (f : Fault) : Type 0 where
  pub k : ℕ
  pub line-is : f.line ≡ line + k
  pub within : k ≤ length ls
  pub at : Place
  pub sound : Sound at
  pub lines : lines_read at ≡ lines_read p ++ map fields_of (take k ls)
  pub reaches : (more : List (List ℕ)) (tail : List ℕ) → read_from (sofar p) line (take k ls ++ more) tail ≡ read_from (sofar at) (line + k) more tail
  pub fault : k < length ls → line_fault (sofar at) (line + k) (fields_of (get_or ls k [])) ≡ Some f
  pub past : length ls ≤ k → (f.cause ≡ EndsInside) × (f.field ≡ 0)

same-err : (e f : Fault) → ◌≡◌ {A = Result (List Plain) Fault} (Err e) (Err f) → e ≡ f
same-err e f h = cc

err_cond : (b : Bool) (ts : List Plain) (e f : Fault) → cond b (Ok ts) (Err e) ≡ Err f → e ≡ f
err_cond true ts e f h = ok_err ts f h
err_cond false ts e f h = same-err e f h

no_more : (p : Place) (line : ℕ) (ls : List (List ℕ)) → (more : List (List ℕ)) (tail : List ℕ) → read_from (sofar p) line (take 0 ls ++ more) tail ≡ read_from (sofar p) (line + 0) more tail
no_more p line ls more tail = ap (λ n. read_from (sofar p) n more tail) (let e : line ≡ line + 0 = omega arith in e)

pub stops_from_err : (p : Place) (line : ℕ) (ls : List (List ℕ)) (tail : List ℕ) (f : Fault) → Sound p → read_from (sofar p) line ls tail ≡ Err f → Stops p line ls f
unfolding read_from
stops_from_err p line [] tail f sound h =
    let is = err_cond (empty tail && eqb (sofar p).left 0) (sofar p).stages _ f h in
    record {
      k = 0;
      line-is = sym (ap (λ (x : Fault). x.line) is) ∙ (let e : line ≡ line + 0 = omega arith in e);
      within = omega arith;
      at = p;
      sound = sound;
      lines = sym (append-nil (lines_read p));
      reaches = no_more p line [];
      fault = λ l. absurd (omega arith);
      past = λ l. (sym (ap (λ (x : Fault). x.cause) is), sym (ap (λ (x : Fault). x.field) is));
    }
stops_from_err p line (l ∷ ls) tail f sound h = by (line_fault (sofar p) line (fields_of l)) refl h (λ q sq k. stops_from_err q (line + 1) ls tail f sq k)
  where
    by : (o : Option Fault) → line_fault (sofar p) line (fields_of l) ≡ o → answer o (read_from (taken (sofar p) (fields_of l)) (line + 1) ls tail) ≡ Err f → ((q : Place) → Sound q → read_from (sofar q) (line + 1) ls tail ≡ Err f → Stops q (line + 1) ls f) → Stops p line (l ∷ ls) f
    by None e k more =
        let step = adds_some p line (fields_of l) (fields_some l) sound e in
        let rest = more step.next step.sound (ap (λ s. read_from s (line + 1) ls tail) (sym step.taken) ∙ k) in
        let n = rest.k in
        let is : line + 1 + n ≡ line + suc n = omega arith in
        record {
          k = suc n;
          line-is = rest.line-is ∙ is;
          within = omega (arith, rest.within);
          at = rest.at;
          sound = rest.sound;
          lines = rest.lines ∙ ap (λ r. r ++ map fields_of (take n ls)) step.lines ∙ append_assoc (lines_read p) (fields_of l ∷ []) (map fields_of (take n ls));
          reaches = λ xs bs.
              ap (λ o. answer o (read_from (taken (sofar p) (fields_of l)) (line + 1) (take n ls ++ xs) bs)) e
              ∙ ap (λ s. read_from s (line + 1) (take n ls ++ xs) bs) step.taken
              ∙ rest.reaches xs bs
              ∙ ap (λ m. read_from (sofar rest.at) m xs bs) is;
          fault = λ lt. ap (λ m. line_fault (sofar rest.at) m (fields_of (get_or ls n []))) (sym is) ∙ rest.fault (omega arith);
          past = λ le. rest.past (omega arith);
        }
    by (Some g) e k more =
        let is = same-err g f k in
        let found = e ∙ ap Some is in
        record {
          k = 0;
          line-is = (fault_named (sofar p) line (fields_of l) f found).0 ∙ (let e : line ≡ line + 0 = omega arith in e);
          within = omega arith;
          at = p;
          sound = sound;
          lines = sym (append-nil (lines_read p));
          reaches = no_more p line (l ∷ ls);
          fault = λ lt. ap (λ m. line_fault (sofar p) m (fields_of l)) (let e : line + 0 ≡ line = omega arith in e) ∙ found;
          past = λ le. absurd (omega arith);
        }

joined_append : (ls ms : List (List ℕ)) → flat_map ended (ls ++ ms) ≡ flat_map ended ls ++ flat_map ended ms
joined_append [] ms = refl
joined_append (l ∷ ls) ms = ap (λ r. ended l ++ r) (joined_append ls ms) ∙ sym (append_assoc (ended l) (flat_map ended ls) (flat_map ended ms))

-- the lines before a fault begin a recipe
pub begun-before : (first : ℕ) (ls : List (List ℕ)) (f : Fault) (s : Stops (between []) first ls f) → Begun SomeRecipe (take s.k ls)
begun-before first ls f s =
    let c = completed s.at s.sound in
    let before = take s.k ls in
    let lines : map commas (flat_map stage_lines c.stages) ≡ before ++ map commas c.more =
    ap (map commas) (c.lines ∙ ap (λ r. r ++ c.more) s.lines) ∙ map-append commas (map fields_of before) c.more ∙ ap (λ r. r ++ map commas c.more) (commas-fields before) in
    record {
      more = flat_map ended (map commas c.more);
      whole = (c.stages, record { lawful = c.lawful; written = sym (joined_append before (map commas c.more)) ∙ ap (flat_map ended) (sym lines) });
    }

-- a recipe with the same lines before has no fault in the next line
pub goes_on : (first : ℕ) (ls ms : List (List ℕ)) (f : Fault) (s : Stops (between []) first ls f) (tail : List ℕ) (us : List Plain) → take s.k ms ≡ take s.k ls → s.k < length ms → read_from begun first ms tail ≡ Ok us → line_fault (sofar s.at) (first + s.k) (fields_of (get_or ms s.k [])) ≡ None
unfolding read_from
goes_on first ls ms f s tail us same long h =
    let k = s.k in
    let line = get_or ms k [] in
    let rest = drop (k + 1) ms in
    let split : ms ≡ take k ls ++ line ∷ rest = sym (take-append-drop k ms) ∙ (λ i. same i ++ drop_more ms k [] long i) in
    let there = sym (s.reaches (line ∷ rest) tail) ∙ ap (λ x. read_from begun first x tail) (sym split) ∙ h in
    by (line_fault (sofar s.at) (first + k) (fields_of line)) (read_from (taken (sofar s.at) (fields_of line)) (first + k + 1) rest tail) there
  where
    by : (o : Option Fault) (next : Result (List Plain) Fault) → answer o next ≡ Ok us → o ≡ None
    by None next e = refl
    by (Some g) next e = ok_err us g (sym e)

-- with the line at fault they begin none
pub none_with : (from : ℕ) (ls : List (List ℕ)) (f : Fault) (s : Stops (between []) from ls f) → AllByRecursion (Free 10) ls → s.k < length ls → Begun SomeRecipe (take (s.k + 1) ls) → ⊥
none_with from ls f s free long b =
    let k = s.k in
    let some : k + 1 ≤ length ls = omega arith in
    let first = take (k + 1) ls in
    let lines = lines_first first b.more (All-take (Free 10) (k + 1) ls free) in
    let read = ap (λ x. read_from begun from x (tail_of (flat_map ended first ++ b.more))) (sym lines) ∙ ok_from_recipe from _ b.whole.0 b.whole.1 in
    let full = length-take-le (k + 1) ls some in
    let fits = length-append first (lines_of b.more) in
    let same = take-append-le k first (lines_of b.more) (omega arith) ∙ take-take k (k + 1) ls (omega arith) in
    let here = get_or_append_left first (lines_of b.more) [] k (omega arith) ∙ get_or-take (k + 1) ls k [] (omega arith) in
    let none = goes_on from ls (first ++ lines_of b.more) f s _ b.whole.0 same (omega arith) read in
    none-some f (sym (sym (s.fault long) ∙ ap (λ x. line_fault (sofar s.at) (from + k) (fields_of x)) (sym here) ∙ none))
