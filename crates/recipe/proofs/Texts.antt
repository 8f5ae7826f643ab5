-- The reading of a text, line by line, as a search for the next line feed finds them.
use Rattle.std.proofs.Common.{◌≡◌, ℕ, ◌+◌, ◌<◌, ◌≤◌, Bool, true, false, not, ltb, cond, ◌&&◌, eqb, List, [], ◌∷◌, length, take, drop, Some, None, Ok, Err, Option, Result, sym, refl, ap, ◌∙◌, arith}
use Rattle.std.proofs.lemmas.List.{nil_from_length, length-drop}
use Rattle.std.proofs.lemmas.List.Splits.{slice_split_first}
use Rattle.std.specs.List.{onto_first, position, position_or_len, prefix_len}
use Rattle.std.proofs.lemmas.Bool.{and_from, ltb-true, ltb-false, cond-true, cond-false, eq-eqb, ne_eqb}
use Rattle.recipe.specs.declared.fault.Cause.TheVariants.{EndsInside}
use Rattle.recipe.specs.declared.fault.Fault.{Fault}
use Rattle.recipe.specs.Fields.{cut, heads, final, lines_of, tail_of, fields_of, empty}
use Rattle.recipe.specs.Grammar.{Sofar, line_fault, taken, read_from}
use Rattle.stages.specs.Plain.{Plain}
use Rattle.recipe.specs.Promises.{FirstLine, NoLine, fields_in}
use Rattle.recipe.specs.declared.line.Line.{Line}
use Rattle.recipe.specs.declared.lines.Lines.{Lines}
use Rattle.recipe.specs.Readings.{LinesEnd, NextLine, reading_from}
use Rattle.std.specs.Result.{IsErr, IsErrAnd}
use Rattle.recipe.specs.Replies.{Reads}
use Rattle.recipe.proofs.Faults.{some_from_cond, none_from_cond}
use Rattle.recipe.proofs.Parting.{cut-some, heads-cons, final-cons}

pub past-line : (s : Sofar) (line : ℕ) (l : List ℕ) (ls : List (List ℕ)) (tail : List ℕ) → line_fault s line (fields_of l) ≡ None → read_from s line (l ∷ ls) tail ≡ read_from (taken s (fields_of l)) (line + 1) ls tail
unfolding read_from
past-line s line l ls tail e = rw (e, read_from)

pub at-line : (s : Sofar) (line : ℕ) (l : List ℕ) (ls : List (List ℕ)) (tail : List ℕ) (f : Fault) → line_fault s line (fields_of l) ≡ Some f → read_from s line (l ∷ ls) tail ≡ Err f
unfolding read_from
at-line s line l ls tail f e = rw (e, read_from)

-- where the search for a line feed ends
pub line-found : (t : List ℕ) (i : ℕ) → Some i ≡ position (λ b. eqb b 10) t → FirstLine t (take i t) (drop (i + 1) t)
unfolding lines_of tail_of
line-found t i e =
    let p = some_from_cond (ltb (position_or_len (λ b. eqb b 10) t) (length t)) i _ e in
    let h : i < length t = omega (arith, ltb-true _ _ p.0, p.1) in
    let cuts : cut 10 t ≡ take i t ∷ cut 10 (drop (i + 1) t) = rw p.1 (slice_split_first (λ b. eqb b 10) t 0 (ltb-true _ _ p.0)) in
    record {
      lines = ap heads cuts ∙ heads-cons _ (cut 10 (drop (i + 1) t)) (cut-some 10 (drop (i + 1) t));
      tail = ap final cuts ∙ final-cons _ (cut 10 (drop (i + 1) t)) (cut-some 10 (drop (i + 1) t));
      shorter = simp length-drop (omega arith);
    }

pub line-none : (t : List ℕ) → None ≡ position (λ b. eqb b 10) t → NoLine t
unfolding lines_of tail_of
line-none t e =
    let cuts = uncut t (ltb-false _ _ (none_from_cond (ltb (position_or_len (λ b. eqb b 10) t) (length t)) _ e)) in
    record { lines = ap heads cuts; tail = ap final cuts }
  where
    uncut : (t : List ℕ) → length t ≤ position_or_len (λ b. eqb b 10) t → cut 10 t ≡ t ∷ []
    uncut [] h = refl
    uncut (b ∷ bs) h = by (eqb b 10) refl (λ k. uncut bs k)
      where
        by : (x : Bool) → eqb b 10 ≡ x → (length bs ≤ position_or_len (λ b. eqb b 10) bs → cut 10 bs ≡ bs ∷ []) → cut 10 (b ∷ bs) ≡ (b ∷ bs) ∷ []
        by true q more = let z = ap (λ y. cond (not y) (1 + prefix_len (λ b. not (eqb b 10)) bs) 0) q in absurd (omega arith)
        by false q more =
            let z = ap (λ y. cond (not y) (1 + prefix_len (λ b. not (eqb b 10)) bs) 0) q in
            cond-false _ _ _ q ∙ ap (onto_first b) (more (omega arith))

-- lines that are read one after the other
module _ (s : Sofar) (a : Lines) (l : Line) (b : Lines) (h : NextLine a l b) where
  split : reading_from s a ≡ read_from s a.number (l.bytes.now ∷ lines_of b.rest.now) (tail_of b.rest.now)
  split = ap (λ ls. read_from s a.number ls (tail_of a.rest.now)) h.first.lines ∙ ap (read_from s a.number (l.bytes.now ∷ lines_of b.rest.now)) h.first.tail

  here : (o : Option Fault) → line_fault s l.number (fields_in l) ≡ o → line_fault s a.number (fields_in l) ≡ o
  here o e = ap (λ n. line_fault s n (fields_in l)) (sym h.here) ∙ e

  pub next-kept : line_fault s l.number (fields_in l) ≡ None → reading_from s a ≡ reading_from (taken s (fields_in l)) b
  next-kept e = split ∙ past-line s a.number _ _ _ (here _ e) ∙ ap (λ n. read_from (taken s (fields_in l)) n (lines_of b.rest.now) (tail_of b.rest.now)) (sym h.next)

  pub next-broken : (f : Fault) → line_fault s l.number (fields_in l) ≡ Some f → reading_from s a ≡ Err f
  next-broken f e = split ∙ at-line s a.number _ _ _ f (here _ e)

module _ (s : Sofar) (a b : Lines) (h : LinesEnd a b) where
  ended : reading_from s a ≡ cond (empty b.rest.now && eqb s.left 0) (Ok s.stages) (Err (record { cause = EndsInside; line = b.number; field = 0 }))
  unfolding read_from
  ended =
      ap (λ ls. read_from s a.number ls (tail_of a.rest.now)) h.none.lines ∙ ap (read_from s a.number []) h.none.tail
      ∙ ap (λ (l : Lines). cond (empty l.rest.now && eqb s.left 0) (Ok s.stages) (Err (record { cause = EndsInside; line = l.number; field = 0 }))) (sym h.same)

  pub end-done : length b.rest.now ≡ 0 → s.left ≡ 0 → reading_from s a ≡ Ok s.stages
  end-done e z = ended ∙ cond-true _ _ _ (and_from _ _ (ap empty (nil_from_length b.rest.now e)) (eq-eqb s.left 0 z))

  pub end-short : (length b.rest.now ≡ 0 → s.left ≡ 0 → ⊥) → reading_from s a ≡ Err (record { cause = EndsInside; line = b.number; field = 0 })
  end-short ne = ended ∙ cond-false _ _ _ (short b.rest.now ne)
    where
      short : (t : List ℕ) → (length t ≡ 0 → s.left ≡ 0 → ⊥) → (empty t && eqb s.left 0) ≡ false
      short [] ne = ne_eqb s.left 0 (ne refl)
      short (b ∷ bs) ne = refl

-- a fault that is passed on
pub reads_err : (o : Result (List Plain) Fault) (held : List Plain) (r : Result Unit Fault) (f : Fault) → IsErr r × IsErrAnd r (λ x. x ≡ f) → o ≡ Err f → Reads o held r
reads_err o held (Ok x) f p e = absurd p.1
reads_err o held (Err x) f p e = e ∙ sym (ap Err p.1)
