-- The text of a report is read as what it asks, and nothing else is.
use Rattle.std.proofs.Common.{◌≡◌, ℕ, Bool, true, false, cond, leb, List, [], ◌∷◌, ◌++◌, length, Some, None, Ok, Err, Option, Result, sym, refl, ap, ◌∙◌, subst, append_assoc, arith}
use Rattle.std.specs.List.{flat_map}
use Rattle.std.proofs.lemmas.Bool.{leb-true, le-leb, cond-true}
use Rattle.sets.specs.Sets.{in_limits}
use Rattle.recipe.specs.declared.fault.Cause.TheVariants.{TooLong}
use Rattle.recipe.specs.declared.fault.Fault.{Fault}
use Rattle.recipe.specs.Fields.{fields_of, lines_of, tail_of}
use Rattle.recipe.specs.Grammar.{begun, read_from}
use Rattle.stages.specs.Plain.{Plain}
use Rattle.recipe.specs.Requests.{PlainRequest, set_fault, shape_from, span_from, asked, request_from, requested}
use Rattle.recipe.specs.RequestLaws.{set_line, LawfulBounds, IsRequestText, IsRequest}
use Rattle.recipe.specs.Written.{commas, ended, text_of, IsRecipe}
use Rattle.recipe.proofs.Parting.{free_parted, text_lines, line-fields, fields_line, fields_some, line_first, tail_first}
use Rattle.recipe.proofs.Accepting.{recipe_from_ok}
use Rattle.recipe.proofs.Completing.{ok_from_recipe}
use Rattle.recipe.proofs.SetLines.{SetRead, set_from_none, none_from_set, shape_of_line, span_of_line, free_set}

-- the fault of the SET line, or else what the recipe comes to
abbrev pub onwards : Option Fault → Result PlainRequest Fault → Result PlainRequest Fault
onwards o next = elim o [ None ↦ next | Some f ↦ Err f ]

pub answered : (q : PlainRequest) (f : Fault) → Ok q ≡ Err f → ⊥
answered q f h = let z : ◌≡◌ {A = ℕ} 0 1 = cc in omega arith

pub same-request : (q r : PlainRequest) → ◌≡◌ {A = Result PlainRequest Fault} (Ok q) (Ok r) → q ≡ r
same-request q r h = cc

asked-ok : (fs : List (List ℕ)) (r : Result (List Plain) Fault) (q : PlainRequest) → asked fs r ≡ Ok q → (r ≡ Ok q.stages) × (shape_from fs ≡ q.shape) × (span_from fs ≡ q.span)
asked-ok fs (Ok ts) q h =
    let is = same-request _ q h in
    (ap (λ (x : PlainRequest). Ok x.stages) is, ap (λ (x : PlainRequest). x.shape) is, ap (λ (x : PlainRequest). x.span) is)
asked-ok fs (Err f) q h = absurd (answered q f (sym h))

-- a SET line, and a recipe behind it
pub request_from_parts : (l : List ℕ) (rest : List ℕ) (q : PlainRequest) → SetRead (fields_of l) → shape_from (fields_of l) ≡ q.shape → span_from (fields_of l) ≡ q.span → IsRecipe rest q.stages → IsRequestText (ended l ++ rest) q
request_from_parts l rest q s f b r =
    let line : l ≡ commas (set_line q.shape q.span) = sym (line-fields l) ∙ ap commas s.text ∙ (λ i. commas (set_line (f i) (b i))) in
    record {
      lawful = record { shape = subst (λ x. in_limits x ≡ true) f s.shape; span = subst LawfulBounds b s.span; stages = r.lawful };
      written = λ i. ended (line i) ++ r.written i;
    }

from_ok : (ls : List (List ℕ)) (tail : List ℕ) (q : PlainRequest) → request_from ls tail ≡ Ok q → IsRequestText (flat_map ended ls ++ tail) q
from_ok [] tail q h = absurd (answered q _ (sym h))
from_ok (l ∷ ls) tail q h = by (set_fault (fields_of l)) refl h
  where
    by : (o : Option Fault) → set_fault (fields_of l) ≡ o → onwards o (asked (fields_of l) (read_from begun 2 ls tail)) ≡ Ok q → IsRequestText (flat_map ended (l ∷ ls) ++ tail) q
    by None e k =
        let got = asked-ok (fields_of l) (read_from begun 2 ls tail) q k in
        subst (λ t. IsRequestText t q) (sym (append_assoc (ended l) (flat_map ended ls) tail))
        (request_from_parts l (flat_map ended ls ++ tail) q (set_from_none (fields_of l) (fields_some l) e) got.1 got.2 (recipe_from_ok 2 ls tail q.stages got.0))
    by (Some f) e k = absurd (answered q f (sym k))

pub accepted : (text : List ℕ) (q : PlainRequest) → requested text ≡ Ok q → IsRequest text q
unfolding requested
accepted text q h = by (leb (length text) 65536) refl h
  where
    by : (b : Bool) → leb (length text) 65536 ≡ b → cond b (request_from (lines_of text) (tail_of text)) (Err (record { cause = TooLong; line = 0; field = 0 })) ≡ Ok q → IsRequest text q
    by true e k = record { request = subst (λ t. IsRequestText t q) (sym (text_lines text)) (from_ok (lines_of text) (tail_of text) q k); short = leb-true (length text) 65536 e }
    by false e k = absurd (answered q _ (sym k))

-- the first line of a request's text, and the lines behind it
pub record Parts (text : List ℕ) (q : PlainRequest) : Type 0 where
  pub first : List ℕ
  pub written : text ≡ ended first ++ text_of q.stages
  pub fields : fields_of first ≡ set_line q.shape q.span
  pub lines : lines_of text ≡ first ∷ lines_of (text_of q.stages)
  pub tail : tail_of text ≡ tail_of (text_of q.stages)
  pub none : set_fault (fields_of first) ≡ None

pub parts_from_request : (text : List ℕ) (q : PlainRequest) → IsRequestText text q → Parts text q
parts_from_request text q h =
    let fs = set_line q.shape q.span in
    let shape = h.lawful.shape in
    let span = h.lawful.span in
    let recipe = text_of q.stages in
    let fields = fields_line fs (omega arith) (free_set q.shape q.span shape span 44 (omega arith)) in
    let free = free_parted 10 44 fs refl (free_set q.shape q.span shape span 10 (omega arith)) in
    let whole = h.written ∙ append_assoc (commas fs) (10 ∷ []) recipe in
    record {
      first = commas fs;
      written = h.written;
      fields = fields;
      lines = ap lines_of whole ∙ line_first (commas fs) recipe free;
      tail = ap tail_of whole ∙ tail_first (commas fs) recipe free;
      none = ap set_fault fields ∙ none_from_set q.shape q.span shape span;
    }

pub recipe_behind : (text : List ℕ) (q : PlainRequest) → IsRequestText text q → IsRecipe (text_of q.stages) q.stages
recipe_behind text q h = record { lawful = h.lawful.stages; written = refl }

ok_from_request : (text : List ℕ) (q : PlainRequest) → IsRequestText text q → request_from (lines_of text) (tail_of text) ≡ Ok q
ok_from_request text q h =
    let p = parts_from_request text q h in
    let rest = text_of q.stages in
    let fs = fields_of p.first in
    let read = ok_from_recipe 2 rest q.stages (recipe_behind text q h) in
    let f = ap shape_from p.fields ∙ shape_of_line q.shape q.span h.lawful.shape h.lawful.span in
    let b = ap span_from p.fields ∙ span_of_line q.shape q.span h.lawful.shape h.lawful.span in
    (λ i. request_from (p.lines i) (p.tail i))
    ∙ ap (λ o. onwards o (asked fs (read_from begun 2 (lines_of rest) (tail_of rest)))) p.none
    ∙ ap (asked fs) read
    ∙ (λ i. Ok (record { shape = f i; span = b i; stages = q.stages }))

pub complete : (text : List ℕ) (q : PlainRequest) → IsRequest text q → requested text ≡ Ok q
unfolding requested
complete text q h = cond-true (leb (length text) 65536) _ _ (le-leb (length text) 65536 h.short) ∙ ok_from_request text q h.request

pub unique : (text : List ℕ) (q r : PlainRequest) → IsRequest text q → IsRequest text r → q ≡ r
unique text q r h k = same-request q r (sym (complete text q h) ∙ complete text r k)
