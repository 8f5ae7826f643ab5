-- A dependency row as one call of the inner loop, over the whole of its channel.
use Rattle.std.proofs.Common.{◌≡◌, ℕ, ◌+◌, ◌-◌, ◌*◌, ◌/◌, ◌%◌, ◌<◌, ◌≤◌, min, Bool, true, false, not, List, length, get_or, take, ℤ, pos, ◌+ℤ◌, neg_ℤ, sym, ap, ◌∙◌, subst, ⊎_elim, mul-one, arith, w32, SFits}
use Rattle.std.specs.Int.{int_wrap}
use Rattle.std.proofs.lemmas.Nat.{div-mul-add}
use Rattle.std.proofs.lemmas.List.FromFn.{fill_by_all, length-map-range_with_len, get_or-map-range_with_len, take-map-range_with_len}
use Rattle.std.proofs.lemmas.List.{length-take, take_all, take-take}
use Rattle.std.proofs.lemmas.Int.{ints}
use Rattle.std.proofs.lemmas.Bool.{eqb-true, eqb-false, cases_lt}
use Rattle.sets.specs.declared.shape.Shape.{Shape}
use Rattle.sets.specs.Areas.{size_of, at, sample_at}
use Rattle.stages.specs.declared.quotient.Quotient.{Quotient}
use Rattle.stages.specs.Channels.{no_row}
use Rattle.stages.specs.Floors.{floor_over}
use Rattle.stages.specs.Plain.{PlainRow, taps_of}
use Rattle.stages.specs.Quotients.{sum_of, quotient_of}
use Rattle.rules.specs.Mixed.{before, row_quotient, row_pass}
use Rattle.rules.proofs.Places.{address_below, address_split, time_below}
use Rattle.transform.specs.declared.row.Row.{Row}
use Rattle.transform.specs.Apart.{Apart}
use Rattle.transform.specs.DepRows.{CutTo}
use Rattle.transform.specs.Rowed.{place, quotient_at, Rowed, Fitted}
use Rattle.transform.specs.Turned.{turned_by, Turned}
use Rattle.transform.proofs.Rows.{reads_at}
use Rattle.transform.proofs.Sums.{sum_cut, sum_short}

-- to take q away is to add its opposite
turned_opposite : (take : Bool) (x q : ℤ) → turned_by take x q ≡ turned_by (not take) x (neg_ℤ q)
turned_opposite true x q = omega (arith, ints)
turned_opposite false x q = omega (arith, ints)

-- the taps that have one of i samples to read
pub taps_cut : (ts : List ℤ) (n i m : ℕ) → m ≡ min n i → take m ts ≡ take i (take n ts)
taps_cut ts n i m e = ⊎_elim
    (λ (h : n < i). let k : m ≡ n = omega arith in ap (λ x. take x ts) k ∙ sym (take_all i (take n ts) (simp length-take (omega arith))))
    (λ (h : i ≤ n). let k : m ≡ i = omega arith in ap (λ x. take x ts) k ∙ sym (take-take i n ts h))
    (cases_lt n i)

taps_counted : (q : Quotient) → length (taps_of q) ≡ q.tap_count
taps_counted q = let f = q.full in let n = q.few in simp length-take (omega arith)

module _ (f : Shape) (first : ℕ) (rows : List PlainRow) (i : ℕ) (q : Quotient) (from : List ℕ) (cut : CutTo i (get_or rows (i - 1) no_row) q)
    (starts : (j : ℕ) → j < i → get_or from j 0 ≡ (first + j) * f.samples) where
  -- the samples that are read stand in the channels before the row's
  reads_before : (xs : List ℤ) (t : ℕ) → reads_at q xs from (t * 1) ≡ take q.tap_count (before f first xs i t)
  reads_before xs t =
      let few = cut.few in
      fill_by_all (λ j. sample_at f xs (first + j) t) (reads_at q xs from (t * 1)) q.tap_count (pos 0) (length-map-range_with_len _ 0 q.tap_count)
      (λ j h. get_or-map-range_with_len (λ k. at xs (get_or from k 0 + t * 1)) 0 q.tap_count j j (pos 0) h (omega arith) ∙ (λ d. at xs (starts j (omega arith) d + mul-one t d)))
      ∙ sym (take-map-range_with_len (λ j. sample_at f xs (first + j) t) 0 i q.tap_count few)

  row_sum : (xs : List ℤ) (t : ℕ) → sum_of (taps_of q) (reads_at q xs from (t * 1)) ≡ sum_of (get_or rows (i - 1) no_row).taps (before f first xs i t)
  row_sum xs t =
      ap (sum_of (taps_of q)) (reads_before xs t) ∙ sum_short (taps_of q) (before f first xs i t) q.tap_count (omega (arith, taps_counted q))
      ∙ ap (λ ts. sum_of ts (before f first xs i t)) cut.taps ∙ sum_cut _ (before f first xs i t) i (omega (arith, length-map-range_with_len (λ j. sample_at f xs (first + j) t) 0 i))

  row-quotient : (xs : List ℤ) (t : ℕ) → quotient_at q xs from (t * 1) ≡ row_quotient f first rows xs i t
  unfolding quotient_of
  row-quotient xs t = λ d. floor_over (row_sum xs t d +ℤ cut.residue d) (cut.exponent d)

  module _ (inside : first + i < f.channels) where
    pub row_apart : Apart q from ((first + i) * f.samples) 1 f.samples
    row_apart k s t h g m e =
        let few = cut.few in
        let there = div-mul-add (first + k) f.samples s g in
        let here = div-mul-add (first + i) f.samples t m in
        let same : (first + k) * f.samples + s ≡ (first + i) * f.samples + t = omega (arith, starts k (omega arith)) in
        omega (arith, ap (λ a. a / f.samples) same)

    -- the call over the whole of the row's channel
    pub record Runs (r : Row) : Type 0 where
      pub quotient : r.quotient ≡ q
      pub reads : r.from ≡ from
      pub to : r.to ≡ (first + i) * f.samples
      pub by : r.by ≡ 1
      pub count : r.count ≡ f.samples

    module _ (r : Row) (e : Runs r) where
      place_at : (t : ℕ) → place r t ≡ (first + i) * f.samples + t
      place_at t = (λ d. e.to d + t * e.by d) ∙ (λ d. (first + i) * f.samples + mul-one t d)

      pub row_fits : (size : ℕ) → size ≡ size_of f → Fitted r size
      row_fits size l =
          let few = cut.few in record {
            inside = λ t h. omega (arith, place_at t, address_below f (first + i) t inside (omega (arith, e.count)));
            sources = λ k t h g.
                let below : k < i = omega (arith, ap (λ x. x.tap_count) e.quotient) in
                let at : get_or r.from k 0 + t * r.by ≡ (first + k) * f.samples + t = (λ d. get_or (e.reads d) k 0 + t * e.by d) ∙ (λ d. starts k below d + mul-one t d) in
                omega (arith, at, address_below f (first + k) t (omega arith) (omega (arith, e.count)));
          }

      pub row_turned : (take : Bool) (xs ys : List ℤ) → length xs ≡ size_of f → Rowed take r r.count xs ys → Turned (not take) (row_pass f first rows i) xs ys
      row_turned take xs ys l d = record {
        long = d.long;
        hit = λ a h hit.
            let t = a % f.samples in
            let here : place r t ≡ a = omega (arith, place_at t, address_split f a, ap (λ c. c * f.samples) (eqb-true _ _ hit)) in
            let old = d.hit t (omega (arith, e.count, time_below f a (omega arith))) in
            let amount : quotient_at r.quotient xs r.from (t * r.by) ≡ row_quotient f first rows xs i t = (λ u. quotient_at (e.quotient u) xs (e.reads u) (t * e.by u)) ∙ row-quotient xs t in (
              subst (λ b. SFits w32 (at xs b)) here old.0,
              subst (λ b. at ys b ≡ int_wrap w32 (turned_by take (at xs b) (quotient_at r.quotient xs r.from (t * r.by)))) here old.1
                  ∙ ap (λ z. int_wrap w32 (turned_by take (at xs a) z)) amount ∙ ap (int_wrap w32) (turned_opposite take (at xs a) (row_quotient f first rows xs i t)),
            );
        kept = λ a miss. d.kept a (λ t h o. eqb-false _ _ miss (ap (λ b. b / f.samples) (o ∙ place_at t) ∙ div-mul-add (first + i) f.samples t (omega (arith, e.count))));
      }
