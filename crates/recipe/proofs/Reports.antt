-- The text of a report by its first line and what follows.
use Rattle.std.proofs.Common.{◌≡◌, ℕ, ◌+◌, ◌<◌, ◌≤◌, leb, List, ◌∷◌, length, Some, None, Ok, Err, codes, Option, Result, sym, refl, ap, ◌∙◌}
use Rattle.std.proofs.lemmas.Bool.{cond-true, cond-false, le-leb, lt-leb}
use Rattle.recipe.specs.declared.fault.Cause.TheVariants.{EndsInside, TooLong}
use Rattle.recipe.specs.declared.fault.Fault.{Fault}
use Rattle.recipe.specs.declared.request.Request.{Request}
use Rattle.std.specs.Result.{IsErr, IsErrAnd}
use Rattle.recipe.specs.Fields.{fields_of, lines_of, tail_of}
use Rattle.recipe.specs.Grammar.{begun, read_from}
use Rattle.recipe.specs.Promises.{NoLine, fields_in, headed}
use Rattle.recipe.specs.declared.line.Line.{Line}
use Rattle.recipe.specs.declared.lines.Lines.{Lines}
use Rattle.recipe.specs.Readings.{NextLine, reading_from}
use Rattle.recipe.specs.Replies.{Answers, answered}
use Rattle.recipe.specs.Requests.{PlainRequest, set_fault, asked, request_from, requested}
use Rattle.recipe.specs.Rules.{set}
use Rattle.stages.specs.Plain.{Plain}

pub too_long : (t : List ℕ) → 65536 < length t → requested t ≡ Err (record { cause = TooLong; line = 0; field = 0 })
unfolding requested
too_long t h = cond-false (leb (length t) 65536) _ _ (lt-leb (length t) 65536 h)

short : (t : List ℕ) → length t ≤ 65536 → requested t ≡ request_from (lines_of t) (tail_of t)
unfolding requested
short t h = cond-true (leb (length t) 65536) _ _ (le-leb (length t) 65536 h)

pub no_line : (t : List ℕ) → length t ≤ 65536 → NoLine t → requested t ≡ Err (record { cause = EndsInside; line = 1; field = 0 })
no_line t h none = short t h ∙ ap (λ ls. request_from ls (tail_of t)) none.lines

set_headed : (fs : List (List ℕ)) → headed (codes "SET") set 1 fs ≡ set_fault fs
unfolding set_fault
set_headed fs = refl

wrong-set : (l : List ℕ) (ls : List (List ℕ)) (tail : List ℕ) (f : Fault) → set_fault (fields_of l) ≡ Some f → request_from (l ∷ ls) tail ≡ Err f
wrong-set l ls tail f e = rw (e, request_from)

right_set : (l : List ℕ) (ls : List (List ℕ)) (tail : List ℕ) → set_fault (fields_of l) ≡ None → request_from (l ∷ ls) tail ≡ asked (fields_of l) (read_from begun 2 ls tail)
right_set l ls tail e = rw (e, request_from)

-- a text whose first line is l
module _ (a : Lines) (one : a.number ≡ 1) (few : length a.rest.now ≤ 65536) (l : Line) (b : Lines) (h : NextLine a l b) where
  split : requested a.rest.now ≡ request_from (l.bytes.now ∷ lines_of b.rest.now) (tail_of b.rest.now)
  split = short _ few ∙ ap (λ ls. request_from ls (tail_of a.rest.now)) h.first.lines ∙ ap (request_from (l.bytes.now ∷ lines_of b.rest.now)) h.first.tail

  set-first : (o : Option Fault) → headed (codes "SET") set l.number (fields_in l) ≡ o → set_fault (fields_in l) ≡ o
  set-first o e = sym (set_headed _) ∙ ap (λ n. headed (codes "SET") set n (fields_in l)) (sym (h.here ∙ one)) ∙ e

  pub set_wrong : (f : Fault) → headed (codes "SET") set l.number (fields_in l) ≡ Some f → requested a.rest.now ≡ Err f
  set_wrong f e = split ∙ wrong-set _ _ _ f (set-first _ e)

  pub set_right : headed (codes "SET") set l.number (fields_in l) ≡ None → requested a.rest.now ≡ asked (fields_in l) (reading_from begun b)
  set_right e =
      split ∙ right_set _ _ _ (set-first _ e)
      ∙ ap (λ n. asked (fields_in l) (read_from begun n (lines_of b.rest.now) (tail_of b.rest.now))) (sym (h.next ∙ ap (λ n. n + 1) one))

-- what a filled table says of the text
pub answers_err : (o : Result (List Plain) Fault) (f : Fault) (held : List Plain) → Answers o (Err f) held → o ≡ Err f
answers_err (Ok ts) f held h = let e = h.0 in cc
answers_err (Err g) f held h = let e = h.0 in cc

pub answers_ok : (o : Result (List Plain) Fault) (held : List Plain) → Answers o (Ok tt) held → o ≡ Ok held
answers_ok (Ok ts) held h = ap Ok (sym h.1)
answers_ok (Err g) held h = let e = h.0 in cc

-- a fault that is passed on
pub answered-err : (r : Result Request Fault) (o : Result PlainRequest Fault) (f : Fault) → IsErr r × IsErrAnd r (λ x. x ≡ f) → o ≡ Err f → answered r ≡ o
answered-err (Ok x) o f p e = absurd p.1
answered-err (Err x) o f p e = ap Err p.1 ∙ sym e
