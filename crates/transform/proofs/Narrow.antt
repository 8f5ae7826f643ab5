-- The bounds of a list of spans are signed 32-bit numbers.
use Rattle.std.proofs.Common.{◌≡◌, ℕ, suc, ◌<◌, true, List, [], ◌∷◌, length, get_or, pos, negsuc, ◌≤ℤ◌, sym, refl, subst, arith}
use Rattle.std.proofs.lemmas.List.{get_or-take, length-take}
use Rattle.std.proofs.lemmas.Int.{ints}
use Rattle.std.proofs.lemmas.Bool.{and_from}
use Rattle.sets.specs.declared.bounds.Bounds.{Bounds}
use Rattle.sets.specs.declared.span_list.SpanList.{SpanList}
use Rattle.sets.specs.Ordered.{no_bounds}
use Rattle.sets.specs.Sets.{rows_of}
use Rattle.stages.specs.Ranges.{fits, all_fit, at}

between-fits : (b : Bounds) → b.least ≤ℤ b.greatest → negsuc 2147483647 ≤ℤ b.least → b.greatest ≤ℤ pos 2147483647 → fits b ≡ true
between-fits b ordered low high = grind (arith, ints)

each_fits : (bs : List Bounds) → ((c : ℕ) → c < length bs → fits (at bs c) ≡ true) → all_fit bs ≡ true
each_fits [] h = refl
each_fits (b ∷ bs) h = and_from _ _ (h 0 (omega arith)) (each_fits bs (λ c l. h (suc c) (omega arith)))

pub rows_fit : (l : SpanList) → all_fit (rows_of l) ≡ true
rows_fit l =
    each_fits (rows_of l)
    (λ c h.
    let below : c < l.len = omega (arith, length-take l.len l.rows) in
    subst (λ (b : Bounds). fits b ≡ true) (sym (get_or-take l.len l.rows c no_bounds below)) (between-fits (get_or l.rows c no_bounds) (l.ordered c below) (l.low c below) (l.high c below)))
