-- Where the text of a report goes wrong, and the laws of its reading.
use Rattle.std.proofs.Common.{◌≡◌, ℕ, suc, ◌+◌, ◌<◌, Bool, true, false, cond, leb, ◌⊎◌, List, [], ◌∷◌, ◌++◌, length, get_or, take, drop, pos, Some, None, Ok, Err, Option, Result, sym, refl, ap, ◌∙◌, subst, inl, inr, append_assoc, arith}
use Rattle.std.specs.List.{flat_map, AllByRecursion}
use Rattle.std.proofs.ByRecursion.{All-take}
use Rattle.std.proofs.lemmas.List.{append_cancel_left}
use Rattle.std.proofs.lemmas.Int.{ints}
use Rattle.std.proofs.lemmas.Bool.{leb-true, leb-false}
use Rattle.std.proofs.lemmas.Option.{none-some}
use Rattle.recipe.specs.declared.fault.Cause.TheVariants.{EndsInside, TooLong}
use Rattle.recipe.specs.declared.fault.Fault.{Fault}
use Rattle.recipe.specs.Fields.{fields_of, lines_of, tail_of}
use Rattle.recipe.specs.Grammar.{begun, read_from}
use Rattle.stages.specs.Plain.{Plain}
use Rattle.recipe.specs.Requests.{PlainRequest, set_fault, shape_from, span_from, asked, request_from, requested}
use Rattle.recipe.specs.RequestLaws.{set_line, IsRequestText, SomeRequest, RefusedAsLong, RefusedAtPlace, RequestLaws}
use Rattle.recipe.specs.Written.{commas, ended, text_of, IsRecipe, SomeRecipe, Begun}
use Rattle.recipe.proofs.Parting.{Free, free_lines, lines_first, fields_some}
use Rattle.recipe.proofs.Accepting.{nothing_sound}
use Rattle.recipe.proofs.Refusing.{Refuses, refuses_from_err, points_from_refuses}
use Rattle.recipe.proofs.SetLines.{set_from_none, set_named, set_decides}
use Rattle.recipe.proofs.Requesting.{onwards, answered, request_from_parts, parts_from_request, recipe_behind, accepted, complete, unique}

same-fault : (e f : Fault) → ◌≡◌ {A = Result PlainRequest Fault} (Err e) (Err f) → e ≡ f
same-fault e f h = cc

asked-err : (fs : List (List ℕ)) (r : Result (List Plain) Fault) (f : Fault) → asked fs r ≡ Err f → r ≡ Err f
asked-err fs (Ok ts) f h = absurd (answered _ f h)
asked-err fs (Err e) f h = ap Err (same-fault e f h)

-- one sample, and no stages
smallest : PlainRequest
smallest = record { shape = record { channels = 1; samples = 1; origin = 0 }; span = record { least = pos 0; greatest = pos 0 }; stages = [] }

-- no lines begin a request
nothing_begun : Begun SomeRequest []
unfolding smallest
nothing_begun = record {
  more = ended (commas (set_line smallest.shape smallest.span)) ++ [];
  whole = (smallest, record { lawful = record { shape = refl; span = record { low = omega (arith, ints); ordered = omega (arith, ints); high = omega (arith, ints) }; stages = nothing_sound }; written = refl });
}

-- a SET line before lines that begin a recipe
set_before : (l : List ℕ) (ms : List (List ℕ)) → set_fault (fields_of l) ≡ None → Begun SomeRecipe ms → Begun SomeRequest (l ∷ ms)
set_before l ms none b =
    let q : PlainRequest = record { shape = shape_from (fields_of l); span = span_from (fields_of l); stages = b.whole.0 } in
    record {
      more = b.more;
      whole = (q, subst (λ t. IsRequestText t q) (sym (append_assoc (ended l) (flat_map ended ms) b.more)) (request_from_parts l _ q (set_from_none (fields_of l) (fields_some l) none) refl refl b.whole.1));
    }

first_same : (l m : List ℕ) (ls ms : List (List ℕ)) → ◌≡◌ {A = List (List ℕ)} (l ∷ ls) (m ∷ ms) → (l ≡ m) × (ls ≡ ms)
first_same l m ls ms h = (ap (λ (xs : List (List ℕ)). get_or xs 0 []) h, ap (λ (xs : List (List ℕ)). drop 1 xs) h)

-- what begins a request is a SET line and what begins a recipe
request_begun : (l : List ℕ) (ms : List (List ℕ)) → AllByRecursion (Free 10) (l ∷ ms) → Begun SomeRequest (l ∷ ms) → (set_fault (fields_of l) ≡ None) × Begun SomeRecipe ms
request_begun l ms free b =
    let q = b.whole.0 in
    let text = flat_map ended (l ∷ ms) ++ b.more in
    let p = parts_from_request text q b.whole.1 in
    let is = first_same l p.first (ms ++ lines_of b.more) _ (sym (lines_first (l ∷ ms) b.more free) ∙ p.lines) in
    let rest : flat_map ended ms ++ b.more ≡ text_of q.stages =
    append_cancel_left (ended l) _ _ (sym (append_assoc (ended l) (flat_map ended ms) b.more) ∙ p.written ∙ ap (λ x. ended x ++ text_of q.stages) (sym is.0)) in (
      ap (λ x. set_fault (fields_of x)) is.0 ∙ p.none,
      record { more = b.more; whole = (q.stages, subst (λ t. IsRecipe t q.stages) (sym rest) (recipe_behind text q b.whole.1)) },
    )

set_refuses : (l : List ℕ) (ls : List (List ℕ)) (f : Fault) → AllByRecursion (Free 10) (l ∷ ls) → set_fault (fields_of l) ≡ Some f → Refuses SomeRequest 1 (l ∷ ls) f
set_refuses l ls f free h = record {
  k = 0;
  line-is = (set_named (fields_of l) f h).0;
  within = omega arith;
  before = nothing_begun;
  here = λ lt b. none-some f (sym (sym h ∙ (request_begun l [] (free.0, tt) b).0));
  field = λ lt but other long lines fields request.
      let p = parts_from_request other request.0 request.1 in
      set_decides (fields_of l) (fields_of (get_or (lines_of other) 0 [])) f but fields h (ap (λ (xs : List (List ℕ)). set_fault (fields_of (get_or xs 0 []))) p.lines ∙ p.none);
  past = λ le. absurd (omega arith);
}

recipe_refuses : (l : List ℕ) (ls : List (List ℕ)) (f : Fault) → AllByRecursion (Free 10) (l ∷ ls) → set_fault (fields_of l) ≡ None → Refuses SomeRecipe 2 ls f → Refuses SomeRequest 1 (l ∷ ls) f
recipe_refuses l ls f free none r =
    let k = r.k in
    record {
      k = suc k;
      line-is = omega (arith, r.line-is);
      within = omega (arith, r.within);
      before = set_before l (take k ls) none r.before;
      here = λ lt b.
          let e : suc k + 1 ≡ suc (k + 1) = omega arith in
          let first = subst (λ n. Begun SomeRequest (take n (l ∷ ls))) e b in
          r.here (omega arith) (request_begun l (take (k + 1) ls) (free.0, All-take (Free 10) (k + 1) ls free.1) first).1;
      field = λ lt but other long lines fields request.
          let q = request.0 in
          let p = parts_from_request other q request.1 in
          let ms = lines_of (text_of q.stages) in
          let more : suc k < length (p.first ∷ ms) = subst (λ (xs : List (List ℕ)). suc k < length xs) p.lines long in
          let before = first_same p.first l (take k ms) (take k ls) (ap (take (suc k)) (sym p.lines) ∙ lines) in
          r.field (omega arith) but (text_of q.stages) (omega arith) before.1
          (ap (λ (xs : List (List ℕ)). take f.field (fields_of (get_or xs (suc k) []))) (sym p.lines) ∙ fields)
          (q.stages, recipe_behind other q request.1);
      past = λ le. r.past (omega arith);
    }

no_lines : (f : Fault) → record { cause = EndsInside; line = 1; field = 0 } ≡ f → Refuses SomeRequest 1 [] f
no_lines f is = record {
  k = 0;
  line-is = sym (ap (λ (x : Fault). x.line) is);
  within = omega arith;
  before = nothing_begun;
  here = λ lt. absurd (omega arith);
  field = λ lt. absurd (omega arith);
  past = λ le. (sym (ap (λ (x : Fault). x.cause) is), sym (ap (λ (x : Fault). x.field) is));
}

request_refuses : (ls : List (List ℕ)) (tail : List ℕ) (f : Fault) → AllByRecursion (Free 10) ls → request_from ls tail ≡ Err f → Refuses SomeRequest 1 ls f
request_refuses [] tail f free h = no_lines f (same-fault _ f h)
request_refuses (l ∷ ls) tail f free h = by (set_fault (fields_of l)) refl h
  where
    by : (o : Option Fault) → set_fault (fields_of l) ≡ o → onwards o (asked (fields_of l) (read_from begun 2 ls tail)) ≡ Err f → Refuses SomeRequest 1 (l ∷ ls) f
    by None e k = recipe_refuses l ls f free e (refuses_from_err 2 ls tail f free.1 (asked-err (fields_of l) _ f k))
    by (Some g) e k = set_refuses l ls f free (e ∙ ap Some (same-fault g f k))

refused : (text : List ℕ) (f : Fault) → requested text ≡ Err f → RefusedAsLong text f ⊎ RefusedAtPlace text f
unfolding requested
refused text f h = by (leb (length text) 65536) refl h
  where
    by : (b : Bool) → leb (length text) 65536 ≡ b → cond b (request_from (lines_of text) (tail_of text)) (Err (record { cause = TooLong; line = 0; field = 0 })) ≡ Err f → RefusedAsLong text f ⊎ RefusedAtPlace text f
    by true e k = inr (record { short = leb-true (length text) 65536 e; points = points_from_refuses SomeRequest text f (request_refuses (lines_of text) (tail_of text) f (free_lines text) k) })
    by false e k =
        let is = same-fault _ f k in
        inl (record { long = leb-false (length text) 65536 e; cause = sym (ap (λ (x : Fault). x.cause) is); line = sym (ap (λ (x : Fault). x.line) is); field = sym (ap (λ (x : Fault). x.field) is) })

pub request_laws : RequestLaws
request_laws = record { accepted = accepted; complete = complete; unique = unique; refused = refused }
