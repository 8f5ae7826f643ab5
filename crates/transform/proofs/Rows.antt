-- A row by its places: evenly spaced, so that a change at one leaves the others.
use Rattle.std.proofs.Common.{◌≡◌, ℕ, suc, ◌+◌, ◌*◌, ◌<◌, ◌≤◌, Bool, ◌≢◌, List, map, length, get_or, set, ℤ, pos, sym, refl, ap, ◌∙◌, subst, add-mul, add-one, arith, w32, SFits, below_more}
use Rattle.std.specs.List.{range_with_len}
use Rattle.std.specs.Int.{int_wrap}
use Rattle.std.proofs.lemmas.Nat.{mul-le}
use Rattle.std.proofs.lemmas.List.FromFn.{fill_by_all, length-map-range_with_len, get_or-map-range_with_len}
use Rattle.std.proofs.lemmas.List.{get_or-set_same, get_or-set_other, length-set}
use Rattle.sets.specs.Areas.{at}
use Rattle.stages.specs.declared.quotient.Quotient.{Quotient}
use Rattle.stages.specs.Plain.{taps_of}
use Rattle.stages.specs.Quotients.{quotient_of}
use Rattle.transform.specs.declared.row.Row.{Row}
use Rattle.transform.specs.Rowed.{place, quotient_at, turned_at, Rowed, Fitted}
use Rattle.transform.specs.Turned.{turned_by}

-- the samples that a quotient reads
abbrev pub reads_at : Quotient → List ℤ → List ℕ → ℕ → List ℤ
reads_at q xs from shift = map (λ k. at xs (get_or from k 0 + shift)) (range_with_len 0 q.tap_count)

pub places_rise : (i j by : ℕ) → 1 ≤ by → i < j → i * by < j * by
places_rise i j by p h = let m : suc i * by ≤ j * by = mul-le (suc i) by j by h (omega arith) in omega (arith, add-mul i 1 by, add-one i)

-- a quotient depends on the samples that it reads alone
pub same-quotient : (q : Quotient) (xs ys : List ℤ) (from : List ℕ) (shift : ℕ) → ((k : ℕ) → k < q.tap_count → at xs (get_or from k 0 + shift) ≡ at ys (get_or from k 0 + shift)) → quotient_at q xs from shift ≡ quotient_at q ys from shift
same-quotient q xs ys from shift same =
    ap (quotient_of (taps_of q) q.residue q.exponent)
    (fill_by_all (λ k. at ys (get_or from k 0 + shift)) (reads_at q xs from shift) q.tap_count (pos 0) (length-map-range_with_len _ 0 q.tap_count)
    (λ k h. get_or-map-range_with_len (λ k. at xs (get_or from k 0 + shift)) 0 q.tap_count k k (pos 0) h (omega arith) ∙ same k h))

module _ (undo : Bool) (r : Row) (xs : List ℤ) where
  pub rowed-none : Rowed undo r 0 xs xs
  rowed-none = record { long = refl; hit = λ i h. absurd (omega arith); kept = λ a h. refl }

  module _ (i : ℕ) (ys : List ℤ) (below : i < r.count) (d : Rowed undo r i xs ys) where
    rise : (j : ℕ) → j < i → place r j < place r i
    rise j h = omega (arith, places_rise j i r.by r.spaced h)

    -- what the turn at i reads stood there from the start
    pub row_old : at ys (place r i) ≡ at xs (place r i)
    row_old = d.kept (place r i) (λ j h e. omega (arith, rise j h))

    pub row_reads : quotient_at r.quotient ys r.from (i * r.by) ≡ quotient_at r.quotient xs r.from (i * r.by)
    row_reads = same-quotient r.quotient ys xs r.from (i * r.by) (λ k h. d.kept _ (λ j g e. r.apart k i j h below (omega arith) e))

    pub rowed-more : (v : ℤ) → Fitted r (length xs) → SFits w32 (at ys (place r i)) → v ≡ turned_at undo r ys i → Rowed undo r (i + 1) xs (set ys (place r i) v)
    rowed-more v f fits e =
        let inside : place r i < length ys = omega (arith, f.inside i below, d.long) in
        record {
          long = length-set ys (place r i) v ∙ d.long;
          hit = below_more _ _
              (λ j h. let ne : place r j ≢ place r i = (λ x. omega (arith, rise j h)) in ((d.hit j h).0, rw get_or-set_other (d.hit j h).1))
              (rw row_old at fits, rw get_or-set_same (e ∙ (λ t. int_wrap w32 (turned_by undo (row_old t) (row_reads t)))));
          kept = λ a h. let ne : a ≢ place r i = h i (omega arith) in rw get_or-set_other (d.kept a (λ j l. h j (omega arith)));
        }

    -- the same for an area that is known to be so changed
    pub rowed-one-more : (zs : List ℤ) → Fitted r (length xs) → SFits w32 (at ys (place r i)) → zs ≡ set ys (place r i) (turned_at undo r ys i) → Rowed undo r (i + 1) xs zs
    rowed-one-more zs f fits e = subst (Rowed undo r (i + 1) xs) (sym e) (rowed-more _ f fits refl)
