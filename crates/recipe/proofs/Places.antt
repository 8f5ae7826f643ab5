-- Where a reading stands, and what one line more makes of it.
use Rattle.std.proofs.Common.{◌≡◌, ℕ, zero, suc, ◌+◌, ◌-◌, ◌<◌, ◌≤◌, Bool, true, false, cond, eqb, List, [], ◌∷◌, ◌++◌, map, length, Some, None, codes, sym, refl, ap, ◌∙◌, subst, append_assoc, arith}
use Rattle.std.proofs.Math.Dec.{eqb-suc-zero}
use Rattle.std.specs.List.{flat_map, AllByRecursion}
use Rattle.std.proofs.ByRecursion.{All-push}
use Rattle.std.proofs.lemmas.List.{flat_map_more, length_push, map_push}
use Rattle.std.proofs.lemmas.Bool.{ltb-true, cond-true, cond-false}
use Rattle.std.proofs.lemmas.Option.{none-some}
use Rattle.recipe.specs.Grammar.{Sofar, natural, lift_from, step_from, row_from, form_inside, form_due, has_space, form_fault, line_fault, form_taken, taken}
use Rattle.stages.specs.Plain.{Plain, PlainStep, PlainRow, PlainLift, lift as a-lift, dep as a-dep, rct as an-rct}
use Rattle.recipe.specs.Rules.{Form, lift, step, dep, row, rct, same, has_fields}
use Rattle.recipe.specs.Written.{lift_line, step_line, dep_line, row_line, stage_lines, LawfulStep, LawfulLift, LawfulRow, LawfulRows, Lawful, LawfulStages}
use Rattle.recipe.proofs.Figures.{none_cond, same_true}
use Rattle.recipe.proofs.LineForms.{Kept, lift_from_kept, step-from-kept, row_from_kept, dep_from_kept, rct_from_kept}
use Rattle.recipe.proofs.Tables.{at_hand-last, with_step-lift, with_row_dep}

-- between two stages, or inside the last, with n lines due behind the next one
pub data Place : Type 0 where
  between : List Plain → Place
  in_lift : List Plain → PlainLift → List PlainStep → ℕ → Place
  in_dep : List Plain → ℕ → List PlainRow → ℕ → Place

abbrev pub sofar : Place → Sofar
sofar (between ts) = record { stages = ts; left = 0 }
sofar (in_lift ts l ss n) = record { stages = ts ++ a-lift l ss ∷ []; left = suc n }
sofar (in_dep ts first rs n) = record { stages = ts ++ a-dep first rs ∷ []; left = suc n }

-- the lines that were read to come there
abbrev pub lines_read : Place → List (List (List ℕ))
lines_read (between ts) = flat_map stage_lines ts
lines_read (in_lift ts l ss n) = flat_map stage_lines ts ++ (lift_line l (length ss + suc n) ∷ map step_line ss)
lines_read (in_dep ts first rs n) = flat_map stage_lines ts ++ (dep_line first (1 + (length rs + suc n)) ∷ map row_line rs)

-- the limits so far
abbrev pub Sound : Place → Type 0
Sound (between ts) = LawfulStages ts
Sound (in_lift ts l ss n) = AllByRecursion Lawful ts × (length ts < 16) × LawfulLift l × (length ss + suc n ≤ 4) × AllByRecursion LawfulStep ss
Sound (in_dep ts first rs n) = AllByRecursion Lawful ts × (length ts < 16) × (first + (1 + (length rs + suc n)) ≤ 64) × (length rs + suc n ≤ 7) × LawfulRows 1 rs

-- behind a step, or a row
abbrev pub stepped : List Plain → PlainLift → List PlainStep → ℕ → Place
stepped ts l ss zero = between (ts ++ a-lift l ss ∷ [])
stepped ts l ss (suc n) = in_lift ts l ss n

abbrev pub rowed : List Plain → ℕ → List PlainRow → ℕ → Place
rowed ts first rs zero = between (ts ++ a-dep first rs ∷ [])
rowed ts first rs (suc n) = in_dep ts first rs n

-- a line of a form that is due has no fault just if there is room and the form is kept
pub kept_from_none : (s : Sofar) (line : ℕ) (fs : List (List ℕ)) (g : Form) → form_fault s line fs (Some g) ≡ None → (has_space s ≡ true) × Kept g line fs
kept_from_none s line fs g h =
    let room = none_cond (has_space s) _ _ h in
    let many = none_cond (has_fields g (length fs)) _ _ room.1 in
    (room.0, record { fields = many.0; rules = many.1 })

pub none_from_kept : (s : Sofar) (line : ℕ) (fs : List (List ℕ)) (g : Form) → has_space s ≡ true → Kept g line fs → form_fault s line fs (Some g) ≡ None
none_from_kept s line fs g room h = cond-true (has_space s) _ _ room ∙ (cond-true (has_fields g (length fs)) _ _ h.fields ∙ h.rules)

-- the form that is due inside a stage
pub due_step : (ts : List Plain) (l : PlainLift) (ss : List PlainStep) (n : ℕ) (w : List ℕ) → form_due (sofar (in_lift ts l ss n)) w ≡ cond (same w (codes "STEP")) (Some step) None
due_step ts l ss n w = cond-false (eqb (suc n) 0) _ _ (eqb-suc-zero n) ∙ ap (λ o. form_inside o w) (at_hand-last ts (a-lift l ss))

pub due_row : (ts : List Plain) (first : ℕ) (rs : List PlainRow) (n : ℕ) (w : List ℕ) → form_due (sofar (in_dep ts first rs n)) w ≡ cond (same w (codes "ROW")) (Some (row (length rs + 1))) None
due_row ts first rs n w = cond-false (eqb (suc n) 0) _ _ (eqb-suc-zero n) ∙ ap (λ o. form_inside o w) (at_hand-last ts (a-dep first rs))

pub inside_room : (ts : List Plain) (n : ℕ) → has_space (record { stages = ts; left = suc n }) ≡ true
inside_room ts n = cond-false (eqb (suc n) 0) _ _ (eqb-suc-zero n)

pub step-taken : (ts : List Plain) (l : PlainLift) (ss : List PlainStep) (n : ℕ) (gs : List (List ℕ)) → taken (sofar (in_lift ts l ss n)) (codes "STEP" ∷ gs) ≡ sofar (stepped ts l (ss ++ step_from (codes "STEP" ∷ gs) ∷ []) n)
unfolding taken
step-taken ts l ss n gs =
    let fs = codes "STEP" ∷ gs in
    ap (form_taken (sofar (in_lift ts l ss n)) fs) (due_step ts l ss n (codes "STEP")) ∙ by n
  where
    by : (k : ℕ) → form_taken (sofar (in_lift ts l ss k)) (codes "STEP" ∷ gs) (Some step) ≡ sofar (stepped ts l (ss ++ step_from (codes "STEP" ∷ gs) ∷ []) k)
    by zero = λ i. record { stages = with_step-lift (step_from (codes "STEP" ∷ gs)) ts l ss i; left = 0 }
    by (suc k) = let e : suc (suc k) - 1 ≡ suc k = omega arith in λ i. record { stages = with_step-lift (step_from (codes "STEP" ∷ gs)) ts l ss i; left = e i }

pub row_taken : (ts : List Plain) (first : ℕ) (rs : List PlainRow) (n : ℕ) (gs : List (List ℕ)) → taken (sofar (in_dep ts first rs n)) (codes "ROW" ∷ gs) ≡ sofar (rowed ts first (rs ++ row_from (codes "ROW" ∷ gs) ∷ []) n)
unfolding taken
row_taken ts first rs n gs =
    let fs = codes "ROW" ∷ gs in
    ap (form_taken (sofar (in_dep ts first rs n)) fs) (due_row ts first rs n (codes "ROW")) ∙ by n
  where
    by : (k : ℕ) → form_taken (sofar (in_dep ts first rs k)) (codes "ROW" ∷ gs) (Some (row (length rs + 1))) ≡ sofar (rowed ts first (rs ++ row_from (codes "ROW" ∷ gs) ∷ []) k)
    by zero = λ i. record { stages = with_row_dep (row_from (codes "ROW" ∷ gs)) ts first rs i; left = 0 }
    by (suc k) = let e : suc (suc k) - 1 ≡ suc k = omega arith in λ i. record { stages = with_row_dep (row_from (codes "ROW" ∷ gs)) ts first rs i; left = e i }

-- where a line without fault leads
pub record Adds (p : Place) (fs : List (List ℕ)) : Type 0 where
  pub next : Place
  pub taken : taken (sofar p) fs ≡ sofar next
  pub sound : Sound next
  pub lines : lines_read next ≡ lines_read p ++ fs ∷ []

pub joined_push : (ts : List Plain) (t : Plain) → flat_map stage_lines (ts ++ t ∷ []) ≡ flat_map stage_lines ts ++ stage_lines t
joined_push ts t = sym (flat_map_more stage_lines [] ts t)

lawful_push : (ts : List Plain) (t : Plain) → AllByRecursion Lawful ts → length ts < 16 → Lawful t → LawfulStages (ts ++ t ∷ [])
lawful_push ts t all few one = let count = length_push ts t in record { each = All-push Lawful ts t all one; few = omega arith }

module _ (ts : List Plain) (line : ℕ) (gs : List (List ℕ)) (sound : LawfulStages ts) where
  lift_begins : line_fault (sofar (between ts)) line (codes "LIFT" ∷ gs) ≡ None → Adds (between ts) (codes "LIFT" ∷ gs)
  unfolding line_fault taken
  lift_begins h =
      let fs = codes "LIFT" ∷ gs in
      let kept = kept_from_none (sofar (between ts)) line fs lift h in
      let got = lift_from_kept line gs kept.1 in
      let k = natural fs 7 in
      let some = got.some in
      let e : k ≡ suc (k - 1) = omega arith in
      let again : 0 + suc (k - 1) ≡ k = omega arith in
      let room : length ts < 16 = ltb-true (length ts) 16 kept.0 in
      record {
        next = in_lift ts (lift_from fs) [] (k - 1);
        taken = λ i. record { stages = ts ++ a-lift (lift_from fs) [] ∷ []; left = e i };
        sound = (sound.each, room, got.lawful, omega (arith, got.few), tt);
        lines = ap (λ r. flat_map stage_lines ts ++ r ∷ []) (ap (lift_line (lift_from fs)) again ∙ sym got.text);
      }

  dep_begins : line_fault (sofar (between ts)) line (codes "DEP" ∷ gs) ≡ None → Adds (between ts) (codes "DEP" ∷ gs)
  unfolding line_fault taken
  dep_begins h =
      let fs = codes "DEP" ∷ gs in
      let kept = kept_from_none (sofar (between ts)) line fs dep h in
      let got = dep_from_kept line gs kept.1 in
      let k = natural fs 2 in
      let some = got.some in
      let e : k - 1 ≡ suc (k - 2) = omega arith in
      let again : 1 + (0 + suc (k - 2)) ≡ k = omega arith in
      let room : length ts < 16 = ltb-true (length ts) 16 kept.0 in
      record {
        next = in_dep ts (natural fs 1) [] (k - 2);
        taken = λ i. record { stages = ts ++ a-dep (natural fs 1) [] ∷ []; left = e i };
        sound = (sound.each, room, omega (arith, got.inside), omega (arith, got.few), tt);
        lines = ap (λ r. flat_map stage_lines ts ++ r ∷ []) (ap (dep_line (natural fs 1)) again ∙ sym got.text);
      }

  rct_begins : line_fault (sofar (between ts)) line (codes "RCT" ∷ gs) ≡ None → Adds (between ts) (codes "RCT" ∷ gs)
  unfolding line_fault taken
  rct_begins h =
      let fs = codes "RCT" ∷ gs in
      let kept = kept_from_none (sofar (between ts)) line fs rct h in
      let got = rct_from_kept line gs kept.1 in
      let room : length ts < 16 = ltb-true (length ts) 16 kept.0 in
      record {
        next = between (ts ++ an-rct (natural fs 1) ∷ []);
        taken = refl;
        sound = lawful_push ts (an-rct (natural fs 1)) sound.each room got.inside;
        lines = joined_push ts (an-rct (natural fs 1)) ∙ ap (λ r. flat_map stage_lines ts ++ r ∷ []) (sym got.text);
      }

  stage_begins : (w : List ℕ) → line_fault (sofar (between ts)) line (w ∷ gs) ≡ None → Adds (between ts) (w ∷ gs)
  unfolding line_fault
  stage_begins w none = by (same w (codes "LIFT")) (same w (codes "DEP")) (same w (codes "RCT")) refl refl refl none
    where
      known : (v : List ℕ) → same w v ≡ true → (line_fault (sofar (between ts)) line (v ∷ gs) ≡ None → Adds (between ts) (v ∷ gs)) → Adds (between ts) (w ∷ gs)
      known v e go = subst (λ u. line_fault (sofar (between ts)) line (u ∷ gs) ≡ None → Adds (between ts) (u ∷ gs)) (sym (same_true w v e)) go none

      by : (a b c : Bool) → same w (codes "LIFT") ≡ a → same w (codes "DEP") ≡ b → same w (codes "RCT") ≡ c → form_fault (sofar (between ts)) line (w ∷ gs) (cond a (Some lift) (cond b (Some dep) (cond c (Some rct) None))) ≡ None → Adds (between ts) (w ∷ gs)
      by true b c e f g h = known (codes "LIFT") e lift_begins
      by false true c e f g h = known (codes "DEP") f dep_begins
      by false false true e f g h = known (codes "RCT") g rct_begins
      by false false false e f g h = absurd (none-some _ (sym h))

-- the lines of a stage with one more
lines_more : (js : List (List (List ℕ))) (a b x : List (List ℕ)) (xs ys : List (List (List ℕ))) → a ≡ b → ys ≡ xs ++ x ∷ [] → js ++ (a ∷ ys) ≡ (js ++ (b ∷ xs)) ++ x ∷ []
lines_more js a b x xs ys e f = (λ i. js ++ (e i ∷ f i)) ∙ sym (append_assoc js (b ∷ xs) (x ∷ []))

pub step_lines : (ts : List Plain) (l : PlainLift) (ss : List PlainStep) (n : ℕ) (x : PlainStep) → lines_read (stepped ts l (ss ++ x ∷ []) n) ≡ lines_read (in_lift ts l ss n) ++ step_line x ∷ []
step_lines ts l ss zero x =
    joined_push ts (a-lift l (ss ++ x ∷ []))
    ∙ lines_more (flat_map stage_lines ts) _ _ (step_line x) (map step_line ss) _ (ap (lift_line l) (length_push ss x)) (map_push step_line ss x)
step_lines ts l ss (suc n) x =
    let count = length_push ss x in
    let same : length (ss ++ x ∷ []) + suc n ≡ length ss + suc (suc n) = omega arith in
    lines_more (flat_map stage_lines ts) _ _ (step_line x) (map step_line ss) _ (ap (lift_line l) same) (map_push step_line ss x)

pub row_lines : (ts : List Plain) (first : ℕ) (rs : List PlainRow) (n : ℕ) (x : PlainRow) → lines_read (rowed ts first (rs ++ x ∷ []) n) ≡ lines_read (in_dep ts first rs n) ++ row_line x ∷ []
row_lines ts first rs zero x =
    joined_push ts (a-dep first (rs ++ x ∷ []))
    ∙ lines_more (flat_map stage_lines ts) _ _ (row_line x) (map row_line rs) _ (ap (λ k. dep_line first (1 + k)) (length_push rs x)) (map_push row_line rs x)
row_lines ts first rs (suc n) x =
    let count = length_push rs x in
    let same : length (rs ++ x ∷ []) + suc n ≡ length rs + suc (suc n) = omega arith in
    lines_more (flat_map stage_lines ts) _ _ (row_line x) (map row_line rs) _ (ap (λ k. dep_line first (1 + k)) same) (map_push row_line rs x)

pub rows_push : (i : ℕ) (rs : List PlainRow) (x : PlainRow) → LawfulRows i rs → LawfulRow (i + length rs) x → LawfulRows i (rs ++ x ∷ [])
rows_push i [] x h one = (subst (λ k. LawfulRow k x) (let e : i + 0 ≡ i = omega arith in e) one, tt)
rows_push i (r ∷ rs) x h one =
    (h.0, rows_push (i + 1) rs x h.1 (subst (λ k. LawfulRow k x) (let e : i + suc (length rs) ≡ i + 1 + length rs = omega arith in e) one))

pub step-sound : (ts : List Plain) (l : PlainLift) (ss : List PlainStep) (n : ℕ) (x : PlainStep) → Sound (in_lift ts l ss n) → LawfulStep x → Sound (stepped ts l (ss ++ x ∷ []) n)
step-sound ts l ss zero x h one =
    let count = length_push ss x in
    lawful_push ts (a-lift l (ss ++ x ∷ [])) h.0 h.1 (h.2, omega arith, omega (arith, h.3), All-push LawfulStep ss x h.4 one)
step-sound ts l ss (suc n) x h one =
    let count = length_push ss x in
    (h.0, h.1, h.2, omega (arith, h.3), All-push LawfulStep ss x h.4 one)

pub row_sound : (ts : List Plain) (first : ℕ) (rs : List PlainRow) (n : ℕ) (x : PlainRow) → Sound (in_dep ts first rs n) → LawfulRow (length rs + 1) x → Sound (rowed ts first (rs ++ x ∷ []) n)
row_sound ts first rs n x h one = by n h
  where
    rows : LawfulRows 1 rs → LawfulRows 1 (rs ++ x ∷ [])
    rows k = rows_push 1 rs x k (subst (λ k. LawfulRow k x) (let e : length rs + 1 ≡ 1 + length rs = omega arith in e) one)

    by : (n : ℕ) → Sound (in_dep ts first rs n) → Sound (rowed ts first (rs ++ x ∷ []) n)
    by zero g = lawful_push ts (a-dep first (rs ++ x ∷ [])) g.0 g.1 (omega (arith, g.2, length_push rs x), omega (arith, length_push rs x), omega (arith, g.3, length_push rs x), rows g.4)
    by (suc n) g = (g.0, g.1, omega (arith, g.2, length_push rs x), omega (arith, g.3, length_push rs x), rows g.4)

step-adds : (ts : List Plain) (l : PlainLift) (ss : List PlainStep) (n line : ℕ) (gs : List (List ℕ)) → Sound (in_lift ts l ss n) → Kept step line (codes "STEP" ∷ gs) → Adds (in_lift ts l ss n) (codes "STEP" ∷ gs)
step-adds ts l ss n line gs sound kept =
    let fs = codes "STEP" ∷ gs in
    let got = step-from-kept line gs kept in
    record {
      next = stepped ts l (ss ++ step_from fs ∷ []) n;
      taken = step-taken ts l ss n gs;
      sound = step-sound ts l ss n (step_from fs) sound got.lawful;
      lines = step_lines ts l ss n (step_from fs) ∙ ap (λ r. lines_read (in_lift ts l ss n) ++ r ∷ []) (sym got.text);
    }

row_adds : (ts : List Plain) (first : ℕ) (rs : List PlainRow) (n line : ℕ) (gs : List (List ℕ)) → Sound (in_dep ts first rs n) → Kept (row (length rs + 1)) line (codes "ROW" ∷ gs) → Adds (in_dep ts first rs n) (codes "ROW" ∷ gs)
row_adds ts first rs n line gs sound kept =
    let fs = codes "ROW" ∷ gs in
    let got = row_from_kept (length rs + 1) line gs kept in
    record {
      next = rowed ts first (rs ++ row_from fs ∷ []) n;
      taken = row_taken ts first rs n gs;
      sound = row_sound ts first rs n (row_from fs) sound got.lawful;
      lines = row_lines ts first rs n (row_from fs) ∙ ap (λ r. lines_read (in_dep ts first rs n) ++ r ∷ []) (sym got.text);
    }

step-goes-on : (ts : List Plain) (l : PlainLift) (ss : List PlainStep) (n line : ℕ) (w : List ℕ) (gs : List (List ℕ)) → Sound (in_lift ts l ss n) → line_fault (sofar (in_lift ts l ss n)) line (w ∷ gs) ≡ None → Adds (in_lift ts l ss n) (w ∷ gs)
unfolding line_fault
step-goes-on ts l ss n line w gs sound none =
    by (same w (codes "STEP")) refl (sym (ap (form_fault s line (w ∷ gs)) (due_step ts l ss n w)) ∙ none)
  where
    s : Sofar
    s = sofar (in_lift ts l ss n)

    by : (b : Bool) → same w (codes "STEP") ≡ b → form_fault (sofar (in_lift ts l ss n)) line (w ∷ gs) (cond b (Some step) None) ≡ None → Adds (in_lift ts l ss n) (w ∷ gs)
    by true e h =
        subst (λ u. Kept step line (u ∷ gs) → Adds (in_lift ts l ss n) (u ∷ gs)) (sym (same_true w (codes "STEP") e))
        (step-adds ts l ss n line gs sound) (kept_from_none s line (w ∷ gs) step h).1
    by false e h = absurd (none-some _ (sym h))

row_goes_on : (ts : List Plain) (first : ℕ) (rs : List PlainRow) (n line : ℕ) (w : List ℕ) (gs : List (List ℕ)) → Sound (in_dep ts first rs n) → line_fault (sofar (in_dep ts first rs n)) line (w ∷ gs) ≡ None → Adds (in_dep ts first rs n) (w ∷ gs)
unfolding line_fault
row_goes_on ts first rs n line w gs sound none =
    by (same w (codes "ROW")) refl (sym (ap (form_fault s line (w ∷ gs)) (due_row ts first rs n w)) ∙ none)
  where
    s : Sofar
    s = sofar (in_dep ts first rs n)

    by : (b : Bool) → same w (codes "ROW") ≡ b → form_fault (sofar (in_dep ts first rs n)) line (w ∷ gs) (cond b (Some (row (length rs + 1))) None) ≡ None → Adds (in_dep ts first rs n) (w ∷ gs)
    by true e h =
        subst (λ u. Kept (row (length rs + 1)) line (u ∷ gs) → Adds (in_dep ts first rs n) (u ∷ gs)) (sym (same_true w (codes "ROW") e))
        (row_adds ts first rs n line gs sound) (kept_from_none s line (w ∷ gs) (row (length rs + 1)) h).1
    by false e h = absurd (none-some _ (sym h))

-- a line without fault goes on with a recipe
pub adds_from_none : (p : Place) (line : ℕ) (f : List ℕ) (fs : List (List ℕ)) → Sound p → line_fault (sofar p) line (f ∷ fs) ≡ None → Adds p (f ∷ fs)
adds_from_none (between ts) line f fs sound h = stage_begins ts line fs sound f h
adds_from_none (in_lift ts l ss n) line f fs sound h = step-goes-on ts l ss n line f fs sound h
adds_from_none (in_dep ts first rs n) line f fs sound h = row_goes_on ts first rs n line f fs sound h
