-- The text of lawful stages is read as those stages.
use Rattle.std.proofs.Common.{◌≡◌, ℕ, zero, suc, ◌+◌, ◌-◌, ◌<◌, ◌≤◌, true, leb, List, [], ◌∷◌, ◌++◌, map, length, ℤ, pos, negsuc, None, Ok, codes, sym, refl, ap, ◌∙◌, subst, append_assoc, arith}
use Rattle.std.specs.List.{list_all, flat_map, AllByRecursion}
use Rattle.std.specs.Fmt.{signed_decimal}
use Rattle.std.proofs.ByRecursion.{All-append}
use Rattle.std.proofs.lemmas.List.{append-nil, map-append, length_push}
use Rattle.std.proofs.lemmas.Bool.{and_parts, leb-true, lt-ltb, ne_eqb}
use Rattle.stages.specs.declared.stage.Axis.{Axis}
use Rattle.stages.specs.declared.stage.Axis.TheVariants.{Time, Channel}
use Rattle.stages.specs.declared.stage.Extension.{Extension}
use Rattle.stages.specs.declared.stage.Extension.TheVariants.{Mirrored, Nearest}
use Rattle.recipe.specs.Fields.{is_letter, lines_of, tail_of}
use Rattle.recipe.specs.Grammar.{form_fault, line_fault, taken, begun, read_from, reading, natural}
use Rattle.stages.specs.Plain.{Plain, PlainStep, PlainRow, PlainLift, lift as a-lift, dep as a-dep, rct as an-rct}
use Rattle.recipe.specs.Rules.{lift, step, dep, row, rct}
use Rattle.recipe.specs.Written.{axis_word, extension_word, parity_number, lift_line, step_line, dep_line, row_line, rct_line, stage_lines, commas, ended, recipe_lines, LawfulTap, LawfulStep, LawfulLift, LawfulRow, LawfulRows, Lawful, IsRecipe}
use Rattle.recipe.proofs.Parting.{Free, free_parted, lines_first, tail_last, fields_line}
use Rattle.recipe.proofs.Figures.{within-free, tap_small, offset_small, residue_small, free_natural}
use Rattle.recipe.proofs.LineForms.{kept_from_lift, lift_of_line, kept_from_step, step-of-line, kept_from_row, row_of_line, kept_from_dep, dep_of_line, kept_from_rct, rct_of_line, parity_few}
use Rattle.recipe.proofs.Places.{Place, between, in_lift, in_dep, sofar, stepped, rowed, none_from_kept, due_step, due_row, inside_room, step-taken, row_taken}
use Rattle.recipe.proofs.Accepting.{answer}

-- no separator stands in a word
pub free_word : (s : ℕ) (w : List ℕ) → s < 45 → list_all is_letter w ≡ true → Free s w
free_word s [] l h = tt
free_word s (b ∷ bs) l h =
    let parts = and_parts (is_letter b) (list_all is_letter bs) h in
    let low = leb-true 65 b (and_parts (leb 65 b) _ parts.0).0 in
    (ne_eqb b s (λ e. omega arith), free_word s bs l parts.1)

module _ (s : ℕ) (low : s < 45) where
  free_taps : (zs : List ℤ) → AllByRecursion LawfulTap zs → AllByRecursion (Free s) (map signed_decimal zs)
  free_taps [] h = tt
  free_taps (z ∷ zs) h = (within-free s (negsuc 32767) (pos 32767) z low tap_small h.0.0 h.0.1, free_taps zs h.1)

  free_axis : (a : Axis) → Free s (axis_word a)
  free_axis Time = free_word s (codes "T") low refl
  free_axis Channel = free_word s (codes "C") low refl

  free_extension : (a : Extension) → Free s (extension_word a)
  free_extension Mirrored = free_word s (codes "WS") low refl
  free_extension Nearest = free_word s (codes "CON") low refl

  pub free_lift : (l : PlainLift) (n : ℕ) → LawfulLift l → n ≤ 4 → AllByRecursion (Free s) (lift_line l n)
  free_lift l n h few =
      let some = h.some in
      let inside = h.inside in
      let shallow = h.shallow in
      let parity = parity_few l.parity in
      (free_word s (codes "LIFT") low refl, (free_axis l.axis, (free_natural s l.first low (omega arith), (free_natural s l.count low (omega arith), (free_natural s l.level low (omega arith), (free_extension l.extension, (free_natural s (parity_number l.parity) low (omega arith), (free_natural s n low (omega arith), tt))))))))

  pub free_step : (x : PlainStep) → LawfulStep x → AllByRecursion (Free s) (step_line x)
  free_step x h =
      (free_word s (codes "STEP") low refl, (within-free s (negsuc 7) (pos 8) x.offset low offset_small h.left h.right, (free_natural s x.exponent low (omega (arith, h.exponent)), (within-free s (negsuc 65535) (pos 65536) x.residue low residue_small h.low h.high, free_taps x.taps h.taps))))

  pub free_dep : (first n : ℕ) → first ≤ 64 → n ≤ 8 → AllByRecursion (Free s) (dep_line first n)
  free_dep first n small few = (free_word s (codes "DEP") low refl, (free_natural s first low (omega arith), (free_natural s n low (omega arith), tt)))

  pub free_row : (n : ℕ) (x : PlainRow) → LawfulRow n x → AllByRecursion (Free s) (row_line x)
  free_row n x h = (free_word s (codes "ROW") low refl, (free_natural s x.exponent low (omega (arith, h.exponent)), free_taps x.taps h.taps))

  pub free_rct : (first : ℕ) → first ≤ 61 → AllByRecursion (Free s) (rct_line first)
  free_rct first h = (free_word s (codes "RCT") low refl, (free_natural s first low (omega arith), tt))

  free_steps : (xs : List PlainStep) → AllByRecursion LawfulStep xs → AllByRecursion (AllByRecursion (Free s)) (map step_line xs)
  free_steps [] h = tt
  free_steps (x ∷ xs) h = (free_step x h.0, free_steps xs h.1)

  free_rows : (i : ℕ) (rs : List PlainRow) → LawfulRows i rs → AllByRecursion (AllByRecursion (Free s)) (map row_line rs)
  free_rows i [] h = tt
  free_rows i (r ∷ rs) h = (free_row i r h.0, free_rows (i + 1) rs h.1)

  free_stage : (t : Plain) → Lawful t → AllByRecursion (AllByRecursion (Free s)) (stage_lines t)
  free_stage (a-lift l ss) h = (free_lift l (length ss) h.0 h.2, free_steps ss h.3)
  free_stage (a-dep first rs) h = (free_dep first (1 + length rs) (omega (arith, h.0)) (omega (arith, h.2)), free_rows 1 rs h.3)
  free_stage (an-rct first) h = (free_rct first h, tt)

  pub free_stages : (ts : List Plain) → AllByRecursion Lawful ts → AllByRecursion (AllByRecursion (Free s)) (flat_map stage_lines ts)
  free_stages [] h = tt
  free_stages (t ∷ ts) h = All-append (AllByRecursion (Free s)) (stage_lines t) (flat_map stage_lines ts) (free_stage t h.0) (free_stages ts h.1)

-- the lines ls lead from the place p to q
abbrev Reaches : Place → List (List ℕ) → Place → Type 0
Reaches p ls q = (line : ℕ) (rest : List (List ℕ)) (tail : List ℕ) → (k : ℕ) × (read_from (sofar p) line (ls ++ rest) tail ≡ read_from (sofar q) k rest tail)

reach_more : (p q r : Place) (ls ms : List (List ℕ)) → Reaches p ls q → Reaches q ms r → Reaches p (ls ++ ms) r
reach_more p q r ls ms f g line rest tail =
    let one = f line (ms ++ rest) tail in
    let two = g one.0 rest tail in
    (two.0, ap (λ x. read_from (sofar p) line x tail) (append_assoc ls ms rest) ∙ one.1 ∙ two.1)

reach_one : (p q : Place) (fs : List (List ℕ)) → 1 ≤ length fs → AllByRecursion (Free 44) fs → ((line : ℕ) → line_fault (sofar p) line fs ≡ None) → taken (sofar p) fs ≡ sofar q → Reaches p (commas fs ∷ []) q
unfolding read_from
reach_one p q fs some free none to line rest tail = (
  line + 1,
  ap (λ gs. answer (line_fault (sofar p) line gs) (read_from (taken (sofar p) gs) (line + 1) rest tail)) (fields_line fs some free)
      ∙ ap (λ o. answer o (read_from (taken (sofar p) fs) (line + 1) rest tail)) (none line)
      ∙ ap (λ s. read_from s (line + 1) rest tail) to,
)

reach_step : (ts : List Plain) (l : PlainLift) (ss : List PlainStep) (n : ℕ) (x : PlainStep) → LawfulStep x → Reaches (in_lift ts l ss n) (commas (step_line x) ∷ []) (stepped ts l (ss ++ x ∷ []) n)
unfolding line_fault
reach_step ts l ss n x h =
    let p = in_lift ts l ss n in
    reach_one p (stepped ts l (ss ++ x ∷ []) n) (step_line x) (omega arith) (free_step 44 (omega arith) x h)
    (λ line. ap (form_fault (sofar p) line (step_line x)) (due_step ts l ss n (codes "STEP")) ∙ none_from_kept (sofar p) line (step_line x) step (inside_room (sofar p).stages n) (kept_from_step line x h))
    (step-taken ts l ss n _ ∙ ap (λ y. sofar (stepped ts l (ss ++ y ∷ []) n)) (step-of-line x h))

reach_row : (ts : List Plain) (first : ℕ) (rs : List PlainRow) (n : ℕ) (x : PlainRow) → LawfulRow (length rs + 1) x → Reaches (in_dep ts first rs n) (commas (row_line x) ∷ []) (rowed ts first (rs ++ x ∷ []) n)
unfolding line_fault
reach_row ts first rs n x h =
    let p = in_dep ts first rs n in
    reach_one p (rowed ts first (rs ++ x ∷ []) n) (row_line x) (omega arith) (free_row 44 (omega arith) (length rs + 1) x h)
    (λ line. ap (form_fault (sofar p) line (row_line x)) (due_row ts first rs n (codes "ROW")) ∙ none_from_kept (sofar p) line (row_line x) (row (length rs + 1)) (inside_room (sofar p).stages n) (kept_from_row (length rs + 1) line x h))
    (row_taken ts first rs n _ ∙ ap (λ y. sofar (rowed ts first (rs ++ y ∷ []) n)) (row_of_line (length rs + 1) x h))

reach_steps : (ts : List Plain) (l : PlainLift) (ss xs : List PlainStep) (n : ℕ) → length xs ≡ suc n → AllByRecursion LawfulStep xs → Reaches (in_lift ts l ss n) (map commas (map step_line xs)) (between (ts ++ a-lift l (ss ++ xs) ∷ []))
reach_steps ts l ss [] n e h = absurd (omega arith)
reach_steps ts l ss (x ∷ []) zero e h = reach_step ts l ss 0 x h.0
reach_steps ts l ss (x ∷ []) (suc n) e h = absurd (omega arith)
reach_steps ts l ss (x ∷ y ∷ ys) zero e h = absurd (omega arith)
reach_steps ts l ss (x ∷ y ∷ ys) (suc n) e h =
    subst (λ zs. Reaches (in_lift ts l ss (suc n)) (map commas (map step_line (x ∷ y ∷ ys))) (between (ts ++ a-lift l zs ∷ []))) (append_assoc ss (x ∷ []) (y ∷ ys))
    (reach_more (in_lift ts l ss (suc n)) (in_lift ts l (ss ++ x ∷ []) n) (between (ts ++ a-lift l ((ss ++ x ∷ []) ++ (y ∷ ys)) ∷ [])) (commas (step_line x) ∷ []) (map commas (map step_line (y ∷ ys)))
    (reach_step ts l ss (suc n) x h.0) (reach_steps ts l (ss ++ x ∷ []) (y ∷ ys) n (omega arith) h.1))

reach_rows : (ts : List Plain) (first : ℕ) (rs xs : List PlainRow) (n : ℕ) → length xs ≡ suc n → LawfulRows (length rs + 1) xs → Reaches (in_dep ts first rs n) (map commas (map row_line xs)) (between (ts ++ a-dep first (rs ++ xs) ∷ []))
reach_rows ts first rs [] n e h = absurd (omega arith)
reach_rows ts first rs (x ∷ []) zero e h = reach_row ts first rs 0 x h.0
reach_rows ts first rs (x ∷ []) (suc n) e h = absurd (omega arith)
reach_rows ts first rs (x ∷ y ∷ ys) zero e h = absurd (omega arith)
reach_rows ts first rs (x ∷ y ∷ ys) (suc n) e h =
    let count = length_push rs x in
    let i : length rs + 1 + 1 ≡ length (rs ++ x ∷ []) + 1 = omega arith in
    subst (λ zs. Reaches (in_dep ts first rs (suc n)) (map commas (map row_line (x ∷ y ∷ ys))) (between (ts ++ a-dep first zs ∷ []))) (append_assoc rs (x ∷ []) (y ∷ ys))
    (reach_more (in_dep ts first rs (suc n)) (in_dep ts first (rs ++ x ∷ []) n) (between (ts ++ a-dep first ((rs ++ x ∷ []) ++ (y ∷ ys)) ∷ [])) (commas (row_line x) ∷ []) (map commas (map row_line (y ∷ ys)))
    (reach_row ts first rs (suc n) x h.0) (reach_rows ts first (rs ++ x ∷ []) (y ∷ ys) n (omega arith) (subst (λ k. LawfulRows k (y ∷ ys)) i h.1)))

reach_stage : (ts : List Plain) (t : Plain) → length ts < 16 → Lawful t → Reaches (between ts) (map commas (stage_lines t)) (between (ts ++ t ∷ []))
unfolding line_fault taken
reach_stage ts (a-lift l []) room h = absurd (omega (arith, h.1))
reach_stage ts (a-lift l (x ∷ xs)) room h =
    let n = length (x ∷ xs) in
    let read = lift_of_line n l h.0 h.2 in
    reach_more (between ts) (in_lift ts l [] (length xs)) (between (ts ++ a-lift l (x ∷ xs) ∷ [])) (commas (lift_line l n) ∷ []) (map commas (map step_line (x ∷ xs)))
    (reach_one (between ts) (in_lift ts l [] (length xs)) (lift_line l n) (omega arith) (free_lift 44 (omega arith) l n h.0 h.2)
    (λ line. none_from_kept (sofar (between ts)) line (lift_line l n) lift (lt-ltb (length ts) 16 room) (kept_from_lift line n l h.0 h.1 h.2))
    (λ i. record { stages = ts ++ a-lift (read.0 i) [] ∷ []; left = read.1 i }))
    (reach_steps ts l [] (x ∷ xs) (length xs) refl h.3)
reach_stage ts (a-dep first []) room h = absurd (omega (arith, h.1))
reach_stage ts (a-dep first (x ∷ xs)) room h =
    let n = 1 + length (x ∷ xs) in
    let small : first ≤ 64 = omega (arith, h.0) in
    let few : n ≤ 8 = omega (arith, h.2) in
    let read = dep_of_line first n small few in
    let due : natural (dep_line first n) 2 - 1 ≡ suc (length xs) = omega (arith, read.1) in
    reach_more (between ts) (in_dep ts first [] (length xs)) (between (ts ++ a-dep first (x ∷ xs) ∷ [])) (commas (dep_line first n) ∷ []) (map commas (map row_line (x ∷ xs)))
    (reach_one (between ts) (in_dep ts first [] (length xs)) (dep_line first n) (omega arith) (free_dep 44 (omega arith) first n small few)
    (λ line. none_from_kept (sofar (between ts)) line (dep_line first n) dep (lt-ltb (length ts) 16 room) (kept_from_dep line first n h.0 (omega arith) few))
    (λ i. record { stages = ts ++ a-dep (read.0 i) [] ∷ []; left = due i }))
    (reach_rows ts first [] (x ∷ xs) (length xs) refl h.3)
reach_stage ts (an-rct first) room h =
    reach_one (between ts) (between (ts ++ an-rct first ∷ [])) (rct_line first) (omega arith) (free_rct 44 (omega arith) first h)
    (λ line. none_from_kept (sofar (between ts)) line (rct_line first) rct (lt-ltb (length ts) 16 room) (kept_from_rct line first h))
    (λ i. record { stages = ts ++ an-rct (rct_of_line first h i) ∷ []; left = 0 })

reach_stages : (ts us : List Plain) → length ts + length us ≤ 16 → AllByRecursion Lawful us → Reaches (between ts) (recipe_lines us) (between (ts ++ us))
reach_stages ts [] few h = λ line rest tail. (line, ap (λ xs. read_from (sofar (between xs)) line rest tail) (sym (append-nil ts)))
reach_stages ts (u ∷ us) few h =
    let count = length_push ts u in
    let split = sym (map-append commas (stage_lines u) (flat_map stage_lines us)) in
    subst (λ ls. Reaches (between ts) ls (between (ts ++ (u ∷ us)))) split
    (subst (λ xs. Reaches (between ts) (map commas (stage_lines u) ++ recipe_lines us) (between xs)) (append_assoc ts (u ∷ []) us)
    (reach_more (between ts) (between (ts ++ u ∷ [])) (between ((ts ++ u ∷ []) ++ us)) (map commas (stage_lines u)) (recipe_lines us)
    (reach_stage ts u (omega arith) h.0) (reach_stages (ts ++ u ∷ []) us (omega arith) h.1)))

free_commas : (fss : List (List (List ℕ))) → AllByRecursion (AllByRecursion (Free 10)) fss → AllByRecursion (Free 10) (map commas fss)
free_commas [] h = tt
free_commas (fs ∷ fss) h = (free_parted 10 44 fs refl h.0, free_commas fss h.1)

pub free_recipe : (ts : List Plain) → AllByRecursion Lawful ts → AllByRecursion (Free 10) (recipe_lines ts)
free_recipe ts h = free_commas (flat_map stage_lines ts) (free_stages 10 (omega arith) ts h)

-- a recipe's text as lines
pub recipe_whole : (text : List ℕ) (ts : List Plain) → IsRecipe text ts → (lines_of text ≡ recipe_lines ts) × (tail_of text ≡ [])
unfolding lines_of tail_of
recipe_whole text ts h =
    let ls = recipe_lines ts in
    let free = free_recipe ts h.lawful.each in
    let whole = h.written ∙ sym (append-nil (flat_map ended ls)) in
    (ap lines_of whole ∙ lines_first ls [] free ∙ append-nil ls, ap tail_of whole ∙ tail_last ls [] free)

-- and it is read from whatever line number on
pub ok_from_recipe : (line : ℕ) (text : List ℕ) (ts : List Plain) → IsRecipe text ts → read_from begun line (lines_of text) (tail_of text) ≡ Ok ts
unfolding read_from
ok_from_recipe line text ts h =
    let parts = recipe_whole text ts h in
    let lines = parts.0 ∙ sym (append-nil (recipe_lines ts)) in
    (λ i. read_from begun line (lines i) (parts.1 i)) ∙ (reach_stages [] ts (omega (arith, h.lawful.few)) h.lawful.each line [] []).1

pub complete : (text : List ℕ) (ts : List Plain) → IsRecipe text ts → reading text ≡ Ok ts
complete text ts h = ok_from_recipe 1 text ts h
