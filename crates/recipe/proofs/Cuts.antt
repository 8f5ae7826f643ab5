-- The parts of a text between separators, as a search for the first separator finds them.
use Rattle.std.proofs.Common.{◌≡◌, ℕ, zero, suc, ◌+◌, ◌-◌, ◌<◌, ◌≤◌, Bool, cond, eqb, List, [], ◌∷◌, length, get_or, take, drop, sym, refl, ap, ◌∙◌, ⊎_elim, arith}
use Rattle.std.proofs.lemmas.List.{drop-drop, get_or-drop, get_or_past, length-drop, take_all}
use Rattle.std.proofs.lemmas.List.Splits.{slice_split-cons_yes, slice_split-cons_no, length-slice_split}
use Rattle.std.proofs.lemmas.List.Sums.{sum_by-cons}
use Rattle.std.proofs.lemmas.Bool.{eq-eqb, ne_eqb, cases_lt}
use Rattle.std.specs.List.{onto_first}
use Rattle.recipe.specs.Fields.{cut}

-- the byte c is not among the first j
abbrev pub Free : ℕ → List ℕ → ℕ → Type 0
Free c bs j = (k : ℕ) → k < j → get_or bs k 0 ≡ c → ⊥

free_rest : (c b : ℕ) (bs : List ℕ) (j : ℕ) → Free c (b ∷ bs) (suc j) → Free c bs j
free_rest c b bs j free k h e = free (suc k) (omega arith) e

-- up to the first separator
pub cut_at : (c : ℕ) (bs : List ℕ) (j : ℕ) → j < length bs → Free c bs j → get_or bs j 0 ≡ c → cut c bs ≡ take j bs ∷ cut c (drop (j + 1) bs)
cut_at c [] j h free found = absurd (omega arith)
cut_at c (b ∷ bs) zero h free found = slice_split-cons_yes _ b bs (eq-eqb b c found)
cut_at c (b ∷ bs) (suc j) h free found =
    let e : cut c bs ≡ take j bs ∷ cut c (drop (j + 1) bs) = cut_at c bs j (omega arith) (free_rest c b bs j free) found in
    let s : suc j + 1 ≡ suc (j + 1) = omega arith in
    slice_split-cons_no (λ (x : ℕ). eqb x c) b bs (ne_eqb b c (free 0 (omega arith))) ∙ rw (s, e)

-- where there is none
pub cut-none : (c : ℕ) (bs : List ℕ) → Free c bs (length bs) → cut c bs ≡ bs ∷ []
cut-none c [] free = refl
cut-none c (b ∷ bs) free = slice_split-cons_no _ b bs (ne_eqb b c (free 0 (omega arith))) ∙ ap (onto_first b) (cut-none c bs (free_rest c b bs (length bs) free))

pub length-cut-here : (c b : ℕ) (bs : List ℕ) → b ≡ c → length (cut c (b ∷ bs)) ≡ 1 + length (cut c bs)
length-cut-here c b bs e = ap length (slice_split-cons_yes (λ (x : ℕ). eqb x c) b bs (eq-eqb b c e)) ∙ omega arith

pub length-cut-other : (c b : ℕ) (bs : List ℕ) → (b ≡ c → ⊥) → length (cut c (b ∷ bs)) ≡ length (cut c bs)
length-cut-other c b bs ne =
    let p : ℕ → Bool = λ x. eqb x c in
    grind (arith, length-slice_split p (b ∷ bs), length-slice_split p bs, sum_by-cons (λ x. cond (p x) 1 0) b bs, ne_eqb b c ne)

module _ (c : ℕ) (bs : List ℕ) (ps : List (List ℕ)) (i : ℕ) (at : drop i ps ≡ cut c bs) where
  -- past the first separator the next part begins
  pub drop-more-cut : (j : ℕ) → j < length bs → Free c bs j → get_or bs j 0 ≡ c → drop (i + 1) ps ≡ cut c (drop (j + 1) bs)
  drop-more-cut j h free found = sym (drop-drop 1 i ps) ∙ ap (drop 1) (at ∙ cut_at c bs j h free found)

  -- the part at hand ends before the first separator
  pub get_or-cut : (j : ℕ) → j ≤ length bs → Free c bs j → (j < length bs → get_or bs j 0 ≡ c) → get_or ps i [] ≡ take j bs
  get_or-cut j h free found =
      let here : get_or ps i [] ≡ get_or (cut c bs) 0 [] = sym (get_or-drop-0 ps) ∙ ap (λ r. get_or r 0 []) at in
      ⊎_elim (λ lt. here ∙ ap (λ r. get_or r 0 []) (cut_at c bs j lt free (found lt)))
      (λ ge. let e : j ≡ length bs = omega arith in
      let free_all : Free c bs (length bs) = λ k lt. free k (omega arith) in
      here ∙ ap (λ r. get_or r 0 []) (cut-none c bs free_all) ∙ sym (take_all j bs (omega arith)))
      (cases_lt j (length bs))
    where
      get_or-drop-0 : (ps : List (List ℕ)) → get_or (drop i ps) 0 [] ≡ get_or ps i []
      get_or-drop-0 ps = let z : i + 0 ≡ i = omega arith in get_or-drop i ps 0 [] ∙ ap (λ n. get_or ps n []) z

  -- without a separator the part at hand is the last
  pub get_or-cut-past : Free c bs (length bs) → (k : ℕ) → i < k → get_or ps k [] ≡ []
  get_or-cut-past free k h =
      let e : length (drop i ps) ≡ 1 = ap length (at ∙ cut-none c bs free) in
      let n : length ps - i ≡ 1 = sym (length-drop i ps) ∙ e in
      get_or_past ps k [] (omega arith)
