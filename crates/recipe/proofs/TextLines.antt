-- The reading of a text, line by line, by the place of its first line feed.
use Rattle.std.proofs.Common.{◌≡◌, ℕ, ◌+◌, ◌<◌, false, cond, ◌&&◌, eqb, List, [], ◌∷◌, length, get_or, take, drop, Some, None, Ok, Err, refl, ap, ◌∙◌}
use Rattle.std.proofs.lemmas.List.{nil_from_length}
use Rattle.std.proofs.lemmas.Bool.{cond-true, cond-false, and_left, and_right, eq-eqb, ne_eqb}
use Rattle.recipe.specs.declared.fault.Cause.TheVariants.{EndsInside}
use Rattle.recipe.specs.declared.fault.Fault.{Fault}
use Rattle.recipe.specs.Fields.{cut, heads, final, lines_of, tail_of, fields_of, empty}
use Rattle.recipe.specs.Grammar.{Sofar, line_fault, taken, read_from}
use Rattle.recipe.proofs.Cuts.{Free, cut_at, cut-none}
use Rattle.recipe.proofs.Parting.{cut-some, heads-cons, final-cons}
use Rattle.recipe.proofs.Texts.{past-line, at-line}

-- a text with a line feed at j, and none before
module _ (t : List ℕ) (j : ℕ) (h : j < length t) (free : Free 10 t j) (found : get_or t j 0 ≡ 10) where
  pub lines_more : lines_of t ≡ take j t ∷ lines_of (drop (j + 1) t)
  unfolding lines_of
  lines_more = ap heads (cut_at 10 t j h free found) ∙ heads-cons (take j t) (cut 10 (drop (j + 1) t)) (cut-some 10 (drop (j + 1) t))

  pub tail_more : tail_of t ≡ tail_of (drop (j + 1) t)
  unfolding tail_of
  tail_more = ap final (cut_at 10 t j h free found) ∙ final-cons (take j t) (cut 10 (drop (j + 1) t)) (cut-some 10 (drop (j + 1) t))

  split : (s : Sofar) (line : ℕ) → read_from s line (lines_of t) (tail_of t) ≡ read_from s line (take j t ∷ lines_of (drop (j + 1) t)) (tail_of (drop (j + 1) t))
  split s line = ap (λ ls. read_from s line ls (tail_of t)) lines_more ∙ ap (read_from s line (take j t ∷ lines_of (drop (j + 1) t))) tail_more

  pub read_next : (s : Sofar) (line : ℕ) → line_fault s line (fields_of (take j t)) ≡ None → read_from s line (lines_of t) (tail_of t) ≡ read_from (taken s (fields_of (take j t))) (line + 1) (lines_of (drop (j + 1) t)) (tail_of (drop (j + 1) t))
  read_next s line e = split s line ∙ past-line s line (take j t) _ _ e

  pub read_fault : (s : Sofar) (line : ℕ) (f : Fault) → line_fault s line (fields_of (take j t)) ≡ Some f → read_from s line (lines_of t) (tail_of t) ≡ Err f
  read_fault s line f e = split s line ∙ at-line s line (take j t) _ _ f e

-- a text without a line feed
module _ (t : List ℕ) (free : Free 10 t (length t)) (s : Sofar) (line : ℕ) where
  pub lines_none : lines_of t ≡ []
  unfolding lines_of
  lines_none = ap heads (cut-none 10 t free)

  tail_none : tail_of t ≡ t
  unfolding tail_of
  tail_none = ap final (cut-none 10 t free)

  ended : read_from s line (lines_of t) (tail_of t) ≡ cond (empty t && eqb s.left 0) (Ok s.stages) (Err (record { cause = EndsInside; line = line; field = 0 }))
  unfolding read_from
  ended = ap (λ ls. read_from s line ls (tail_of t)) lines_none ∙ ap (read_from s line []) tail_none

  pub read_done : length t ≡ 0 → s.left ≡ 0 → read_from s line (lines_of t) (tail_of t) ≡ Ok s.stages
  read_done e z = ended ∙ ap (λ t. cond (empty t && eqb s.left 0) (Ok s.stages) (Err (record { cause = EndsInside; line = line; field = 0 }))) (nil_from_length t e) ∙ cond-true _ _ _ (eq-eqb s.left 0 z)

  pub read_due : (s.left ≡ 0 → ⊥) → read_from s line (lines_of t) (tail_of t) ≡ Err (record { cause = EndsInside; line = line; field = 0 })
  read_due ne = ended ∙ cond-false _ _ _ (and_right (empty t) _ (ne_eqb s.left 0 ne))

  pub read_tail : (length t ≡ 0 → ⊥) → read_from s line (lines_of t) (tail_of t) ≡ Err (record { cause = EndsInside; line = line; field = 0 })
  read_tail ne = ended ∙ cond-false _ _ _ (and_left (empty t) _ (not_empty t ne))
    where
      not_empty : (t : List ℕ) → (length t ≡ 0 → ⊥) → empty t ≡ false
      not_empty [] ne = absurd (ne refl)
      not_empty (b ∷ bs) ne = refl
