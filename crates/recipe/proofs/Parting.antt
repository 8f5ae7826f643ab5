-- A text cut at a separator and put together again.
use Rattle.std.proofs.Common.{◌≡◌, ℕ, ◌+◌, ◌%◌, ◌^◌, ◌<◌, ◌≤◌, Bool, true, false, cond, eqb, List, [], ◌∷◌, ◌++◌, length, sym, refl, ap, ◌∙◌, append_assoc, arith}
use Rattle.std.specs.List.{flat_map, fold, count_by, onto_first, join_with_byte, AllByRecursion}
use Rattle.std.proofs.ByRecursion.{All-append}
use Rattle.std.proofs.lemmas.List.Splits.{length-slice_split, join_with_byte-slice_split}
use Rattle.std.proofs.lemmas.List.Sums.{sum_by-cons}
use Rattle.std.proofs.Math.Nat.{mod-eq_of_lt}
use Rattle.std.proofs.lemmas.Bool.{cond-true, cond-false, eq-eqb}
use Rattle.recipe.specs.Fields.{cut, heads, final, lines_of, tail_of, fields_of}
use Rattle.recipe.specs.Written.{ended}

-- no byte of a part is the separator
abbrev pub Free : ℕ → List ℕ → Type 0
Free s bs = AllByRecursion (λ b. eqb b s ≡ false) bs

-- there is always a first part
pub cut-some : (s : ℕ) (bs : List ℕ) → 1 ≤ length (cut s bs)
cut-some s bs = omega (arith, length-slice_split (λ b. eqb b s) bs)

free_onto : (s b : ℕ) (ps : List (List ℕ)) → eqb b s ≡ false → AllByRecursion (Free s) ps → AllByRecursion (Free s) (onto_first b ps)
free_onto s b [] e h = ((e, tt), tt)
free_onto s b (p ∷ ps) e h = ((e, h.0), h.1)

pub cut-free : (s : ℕ) (bs : List ℕ) → AllByRecursion (Free s) (cut s bs)
cut-free s [] = (tt, tt)
cut-free s (b ∷ bs) = by (eqb b s) refl (cut-free s bs)
  where
    by : (t : Bool) → eqb b s ≡ t → AllByRecursion (Free s) (cut s bs) → AllByRecursion (Free s) (cond t ([] ∷ cut s bs) (onto_first b (cut s bs)))
    by true e h = (tt, h)
    by false e h = free_onto s b (cut s bs) e h

-- a part before its separator is cut off
pub cut-part : (s : ℕ) (p r : List ℕ) → Free s p → cut s (p ++ s ∷ r) ≡ p ∷ cut s r
cut-part s [] r h = cond-true (eqb s s) _ _ (eq-eqb s s refl)
cut-part s (b ∷ p) r h = cond-false (eqb b s) _ _ h.0 ∙ ap (onto_first b) (cut-part s p r h.1)

cut-whole : (s : ℕ) (p : List ℕ) → Free s p → cut s p ≡ p ∷ []
cut-whole s [] h = refl
cut-whole s (b ∷ p) h = cond-false (eqb b s) _ _ h.0 ∙ ap (onto_first b) (cut-whole s p h.1)

pub cut-parted : (s : ℕ) (p : List ℕ) (ps : List (List ℕ)) → AllByRecursion (Free s) (p ∷ ps) → cut s (join_with_byte s (p ∷ ps)) ≡ p ∷ ps
cut-parted s p [] h = cut-whole s p h.0
cut-parted s p (q ∷ ps) h = cut-part s p (join_with_byte s (q ∷ ps)) h.0 ∙ ap (λ r. p ∷ r) (cut-parted s q ps h.1)

pub free_parted : (s c : ℕ) (ps : List (List ℕ)) → eqb c s ≡ false → AllByRecursion (Free s) ps → Free s (join_with_byte c ps)
free_parted s c [] e h = tt
free_parted s c (p ∷ []) e h = h.0
free_parted s c (p ∷ q ∷ ps) e h = All-append (λ b. eqb b s ≡ false) p (c ∷ join_with_byte c (q ∷ ps)) h.0 (e, free_parted s c (q ∷ ps) e h.1)

pub heads-cons : (p : List ℕ) (ps : List (List ℕ)) → 1 ≤ length ps → heads (p ∷ ps) ≡ p ∷ heads ps
heads-cons p [] h = absurd (omega arith)
heads-cons p (q ∷ ps) h = refl

pub final-cons : (p : List ℕ) (ps : List (List ℕ)) → 1 ≤ length ps → final (p ∷ ps) ≡ final ps
final-cons p [] h = absurd (omega arith)
final-cons p (q ∷ ps) h = refl

free_heads : (s : ℕ) (ps : List (List ℕ)) → AllByRecursion (Free s) ps → AllByRecursion (Free s) (heads ps)
free_heads s [] h = tt
free_heads s (p ∷ []) h = tt
free_heads s (p ∷ q ∷ ps) h = (h.0, free_heads s (q ∷ ps) h.1)

parted-heads : (ps : List (List ℕ)) → join_with_byte 10 ps ≡ flat_map ended (heads ps) ++ final ps
parted-heads [] = refl
parted-heads (p ∷ []) = refl
parted-heads (p ∷ q ∷ ps) =
    ap (λ r. p ++ 10 ∷ r) (parted-heads (q ∷ ps))
    ∙ sym (append_assoc p (10 ∷ []) (flat_map ended (heads (q ∷ ps)) ++ final (q ∷ ps)))
    ∙ sym (append_assoc (ended p) (flat_map ended (heads (q ∷ ps))) (final (q ∷ ps)))

-- a text is its lines and what follows the last line feed
pub text_lines : (text : List ℕ) → text ≡ flat_map ended (lines_of text) ++ tail_of text
unfolding lines_of tail_of
text_lines text = sym (join_with_byte-slice_split 10 text) ∙ parted-heads (cut 10 text)

pub free_lines : (text : List ℕ) → AllByRecursion (Free 10) (lines_of text)
unfolding lines_of
free_lines text = free_heads 10 (cut 10 text) (cut-free 10 text)

pub line_first : (line more : List ℕ) → Free 10 line → lines_of (line ++ 10 ∷ more) ≡ line ∷ lines_of more
unfolding lines_of
line_first line more h = ap heads (cut-part 10 line more h) ∙ heads-cons line (cut 10 more) (cut-some 10 more)

pub tail_first : (line more : List ℕ) → Free 10 line → tail_of (line ++ 10 ∷ more) ≡ tail_of more
unfolding tail_of
tail_first line more h = ap final (cut-part 10 line more h) ∙ final-cons line (cut 10 more) (cut-some 10 more)

joined_cons : (line : List ℕ) (ls : List (List ℕ)) (more : List ℕ) → flat_map ended (line ∷ ls) ++ more ≡ line ++ 10 ∷ (flat_map ended ls ++ more)
joined_cons line ls more = append_assoc (ended line) (flat_map ended ls) more ∙ append_assoc line (10 ∷ []) (flat_map ended ls ++ more)

pub lines_first : (ls : List (List ℕ)) (more : List ℕ) → AllByRecursion (Free 10) ls → lines_of (flat_map ended ls ++ more) ≡ ls ++ lines_of more
lines_first [] more h = refl
lines_first (l ∷ ls) more h = ap lines_of (joined_cons l ls more) ∙ line_first l (flat_map ended ls ++ more) h.0 ∙ ap (λ r. l ∷ r) (lines_first ls more h.1)

pub tail_last : (ls : List (List ℕ)) (more : List ℕ) → AllByRecursion (Free 10) ls → tail_of (flat_map ended ls ++ more) ≡ tail_of more
tail_last [] more h = refl
tail_last (l ∷ ls) more h = ap tail_of (joined_cons l ls more) ∙ tail_first l (flat_map ended ls ++ more) h.0 ∙ tail_last ls more h.1

-- a line is its fields parted by commas
pub line-fields : (line : List ℕ) → join_with_byte 44 (fields_of line) ≡ line
unfolding fields_of
line-fields line = join_with_byte-slice_split 44 line

pub fields_line : (fs : List (List ℕ)) → 1 ≤ length fs → AllByRecursion (Free 44) fs → fields_of (join_with_byte 44 fs) ≡ fs
unfolding fields_of
fields_line [] some h = absurd (omega arith)
fields_line (f ∷ fs) some h = cut-parted 44 f fs h

pub fields_some : (line : List ℕ) → 1 ≤ length (fields_of line)
unfolding fields_of
fields_some line = cut-some 44 line

-- a count that wraps is the count where there are not too many
pub counted : (p : ℕ → Bool) (n : ℕ) (bs : List ℕ) → n + length bs < 2 ^ 64 → fold (λ m b. (m + cond (p b) 1 0) % 2 ^ 64) n bs ≡ n + count_by p bs
counted p n [] h = omega arith
counted p n (b ∷ bs) h =
    let one : cond (p b) 1 0 ≤ 1 = small (p b) in
    ap (λ m. fold (λ m b. (m + cond (p b) 1 0) % 2 ^ 64) m bs) (mod-eq_of_lt (omega arith)) ∙ counted p (n + cond (p b) 1 0) bs (omega arith)
    ∙ omega (arith, sum_by-cons (λ b. cond (p b) 1 0) b bs)
  where
    small : (x : Bool) → cond x 1 0 ≤ 1
    small true = omega arith
    small false = omega arith
