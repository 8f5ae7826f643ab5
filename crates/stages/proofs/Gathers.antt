-- Lists of spans that calls made, one call after another.
use Rattle.std.proofs.Common.{◌≡◌, ℕ, ◌+◌, ◌<◌, ◌≤◌, Bool, cond, ltb, [], ◌∷◌, ◌++◌, map, length, is_ok, Ok, Err, Result, None, Some, Option, MatchOption, refl, sym, ap, ◌∙◌, subst, arith, length-append, below_more}
use Rattle.std.specs.List.{range_with_len}
use Rattle.std.proofs.lemmas.Bool.{cond_below}
use Rattle.std.proofs.lemmas.List.{get_or_append_left, get_or_push}
use Rattle.std.proofs.lemmas.List.FromFn.{fill_by_all}
use Rattle.sets.specs.declared.bounds.Bounds.{Bounds}
use Rattle.sets.specs.declared.refusal.Refusal.{Refusal}
use Rattle.sets.specs.declared.refusal.Refusal.TheVariants.{SpanCount}
use Rattle.sets.specs.declared.span.Span.{Span}
use Rattle.sets.specs.declared.span_list.SpanList.{SpanList}
use Rattle.sets.specs.Ordered.{no_bounds}
use Rattle.sets.specs.Sets.{bounds_of, rows_of}
use Rattle.stages.specs.Made.{MadeSpan, MadeList, Listed, Gathered, every}
use Rattle.stages.specs.Ranges.{at}
use Rattle.stages.proofs.Every.{every-false, all_every}

module _ (returned : ℕ → Span → Type 0) where
  pub listed_none : (l : SpanList) → rows_of l ≡ [] → Listed returned 0 l
  listed_none l e = record { count = ap length e; rows = λ i h. absurd (omega arith) }

  -- one more, for which there is room
  pub listed_more : (n : ℕ) (l m : SpanList) (s : Span) (r : Result Unit Refusal) → n < 64 → Listed returned n l → returned n s → r ≡ cond (ltb (length (rows_of l)) 64) (Ok tt) (Err SpanCount) → rows_of m ≡ cond (is_ok r) (rows_of l ++ bounds_of s ∷ []) (rows_of l) → Listed returned (n + 1) m
  listed_more n l m s r room h new answer e =
      let ok : r ≡ Ok tt = answer ∙ sym (cond_below (length (rows_of l)) 64 (Ok tt) (Err SpanCount) (omega (arith, h.count))) in
      let rows : rows_of m ≡ rows_of l ++ bounds_of s ∷ [] = e ∙ ap (λ (x : Result Unit Refusal). cond (is_ok x) (rows_of l ++ bounds_of s ∷ []) (rows_of l)) ok in
      record {
        count = ap length rows ∙ simp length-append (omega (arith, h.count));
        rows = below_more _ _
            (λ i k. let old = h.rows i k in (old.0, old.1, ap (λ x. at x i) rows ∙ get_or_append_left (rows_of l) _ no_bounds i (omega (arith, h.count)) ∙ old.2))
            (s, new, ap (λ x. at x n) rows ∙ get_or_push (rows_of l) (bounds_of s) no_bounds n h.count);
      }

  pub listed_all : (n k : ℕ) (l : SpanList) → n ≤ k → k ≤ n → Listed returned k l → Listed returned n l
  listed_all n k l h g r = let e : k ≡ n = omega arith in subst (λ x. Listed returned x l) e r

  -- what each call returned, said in another way
  pub listed_as : (other : ℕ → Span → Type 0) (n : ℕ) (l : SpanList) → Listed returned n l → ((i : ℕ) → i < n → (s : Span) → returned i s → other i s) → Listed other n l
  listed_as other n l h known = record { count = h.count; rows = λ i k. let row = h.rows i k in (row.0, known i k row.0 row.1, row.2) }

  -- the rows, where it is known what each call returns
  pub listed_rows : (n : ℕ) (l : SpanList) → Listed returned n l → (after : ℕ → Bounds) → ((i : ℕ) → i < n → (s : Span) → returned i s → bounds_of s ≡ after i) → (m : ℕ) → n ≡ m → rows_of l ≡ map after (range_with_len 0 m)
  listed_rows n l h after known m e = fill_by_all after (rows_of l) n no_bounds h.count (λ i k. let row = h.rows i k in row.2 ∙ known i k row.0 row.1) ∙ ap (λ k. map after (range_with_len 0 k)) e

made_list : (returned : ℕ → Option Span → Type 0) (n : ℕ) (r : Option SpanList) (test : ℕ → Bool) (after : ℕ → Bounds) → ((i : ℕ) → i < n → (o : Option Span) → returned i o → MadeSpan o (test i) (after i)) → MatchOption r ((i : ℕ) × (i < n) × returned i None) (Listed (λ i s. returned i (Some s)) n) → MadeList r (every test (range_with_len 0 n)) (map after (range_with_len 0 n))
made_list returned n None test after known h = every-false test 0 n h.0 h.0 h.1 (omega arith) (known h.0 h.1 None h.2)
made_list returned n (Some l) test after known h = (
  all_every test 0 n (λ i g k. let row = h.rows i (omega arith) in (known i (omega arith) (Some row.0) row.1).0),
  listed_rows (λ i s. returned i (Some s)) n l h after (λ i k s c. (known i k (Some s) c).1) n refl,
)

-- the list, or none, where it is known what each call returns
pub gathered_list : (returned : ℕ → Option Span → Type 0) (n : ℕ) (r : Option SpanList) → Gathered returned n r → (test : ℕ → Bool) (after : ℕ → Bounds) → ((i : ℕ) → i < n → (o : Option Span) → returned i o → MadeSpan o (test i) (after i)) → (m : ℕ) (t : Bool) → n ≡ m → every test (range_with_len 0 m) ≡ t → MadeList r t (map after (range_with_len 0 m))
gathered_list returned n r h test after known m t e f =
    let made : MadeList r (every test (range_with_len 0 m)) (map after (range_with_len 0 m)) = subst (λ k. MadeList r (every test (range_with_len 0 k)) (map after (range_with_len 0 k))) e (made_list returned n r test after known h.outcome) in
    subst (λ x. MadeList r x (map after (range_with_len 0 m))) f made
