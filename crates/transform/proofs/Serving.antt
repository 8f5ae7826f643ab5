-- One call of the inner loop that serves positions of lines: it carries out a part of a step.
use Rattle.std.proofs.Common.{◌≡◌, ℕ, ◌+◌, ◌-◌, ◌*◌, ◌/◌, ◌%◌, ◌<◌, ◌≤◌, Bool, true, ◌&&◌, List, map, length, get_or, ℤ, pos, ◌-ℤ◌, sym, refl, ap, ◌∙◌, subst, arith, w32, SFits}
use Rattle.std.specs.List.{range_with_len}
use Rattle.std.specs.Int.{int_wrap}
use Rattle.std.proofs.lemmas.List.FromFn.{fill_by_all, length-map-range_with_len, get_or-map-range_with_len}
use Rattle.std.proofs.lemmas.List.{length-take-le}
use Rattle.std.proofs.lemmas.Bool.{and_parts, and_from, eq-eqb, eqb-true, both_ways}
use Rattle.sets.specs.declared.shape.Shape.{Shape}
use Rattle.sets.specs.Areas.{size_of, at}
use Rattle.stages.specs.declared.stage.Parity.{Parity}
use Rattle.stages.specs.declared.stage.Step.{Step}
use Rattle.stages.specs.Lifting.{parity_of, source_index}
use Rattle.stages.specs.Lines.{extended}
use Rattle.stages.specs.Plain.{PlainLift, plain_step, taps_of}
use Rattle.stages.specs.Quotients.{quotient_of}
use Rattle.rules.specs.Lifted.{address_of, inside_of, changes, lift_pass}
use Rattle.rules.specs.Passes.{Pass}
use Rattle.rules.proofs.LiftIndices.{extended-below, extended-from-parity, source_parity}
use Rattle.transform.specs.declared.lines.Lines.{Lines}
use Rattle.transform.specs.declared.row.Row.{Row}
use Rattle.transform.specs.Apart.{Apart}
use Rattle.transform.specs.Lined.{spot, Spot, line_at, Lined}
use Rattle.transform.specs.Parts.{part_of, index_at, of_index}
use Rattle.transform.specs.Rowed.{place, quotient_at, Rowed, Fitted}
use Rattle.transform.specs.Turned.{Turned, turned_by}

module _ (f : Shape) (l : PlainLift) (n : Lines) (m : Parity) (s : Step) where
  -- the position that tap k reads for position j
  abbrev pub read_index_at : ℕ → ℕ → ℕ
  read_index_at j k = extended l.extension n.count (source_index (parity_of m) (n.first + j) s.offset k -ℤ pos n.first)

  -- A call with these arguments serves the addresses that w tells: sample i of the call is a position of a line.
  pub record Served (w : ℕ → Bool) (to by count : ℕ) (from : List ℕ) : Type 0 where
    pub line : ℕ → ℕ
    pub position : ℕ → ℕ
    pub on : (i : ℕ) → i < count → line i < n.line_count
    pub below : (i : ℕ) → i < count → position i < n.count
    pub parity : (i : ℕ) → i < count → (n.first + position i) % 2 ≡ parity_of m
    pub place : (i : ℕ) → i < count → to + i * by ≡ spot n (line i) (position i)
    pub reads : (i k : ℕ) → i < count → k < s.quotient.tap_count → get_or from k 0 + i * by ≡ spot n (line i) (read_index_at (position i) k)
    pub told : (i : ℕ) → i < count → w (to + i * by) ≡ true
    pub all : (a : ℕ) → a < size_of f → changes f l m (a / f.samples) (a % f.samples) ≡ true → w a ≡ true → (i : ℕ) × (i < count) × (a ≡ to + i * by)

  module _ (lined : Lined f l n) (many : 2 ≤ n.count) where
    abbrev pass : Pass
    pass = lift_pass f l m (plain_step s)

    pub read_below : (j k : ℕ) → read_index_at j k < n.count
    read_below j k = extended-below l.extension n.count _ many

    -- the addresses that the step reads for a position, as the rule writes them
    pub spot-reads : (r j a k : ℕ) → Spot f l n r j a → address_of f l (a / f.samples) (a % f.samples) (inside_of f l (source_index (parity_of m) (index_at f l a) s.offset k)) ≡ spot n r (read_index_at j k)
    spot-reads r j a k o =
        let index : inside_of f l (source_index (parity_of m) (index_at f l a) s.offset k) ≡ n.first + read_index_at j k = λ i.
        sym lined.first i + extended l.extension (sym lined.count i) (source_index (parity_of m) (o.index i) s.offset k -ℤ pos (sym lined.first i)) in
        ap (address_of f l (a / f.samples) (a % f.samples)) index ∙ o.line (read_index_at j k) (read_below j k)

    module _ (w : ℕ → Bool) (to by count : ℕ) (from : List ℕ) (v : Served w to by count from) where
      spot-at : (i : ℕ) → i < count → Spot f l n (v.line i) (v.position i) (to + i * by)
      spot-at i h = subst (Spot f l n (v.line i) (v.position i)) (sym (v.place i h)) (lined.here (v.line i) (v.position i) (v.on i h) (v.below i h))

      read_spot : (i k : ℕ) → i < count → k < s.quotient.tap_count → Spot f l n (v.line i) (read_index_at (v.position i) k) (get_or from k 0 + i * by)
      read_spot i k h g =
          subst (Spot f l n (v.line i) (read_index_at (v.position i) k)) (sym (v.reads i k h g))
          (lined.here (v.line i) (read_index_at (v.position i) k) (v.on i h) (read_below (v.position i) k))

      -- what is read has the other parity
      read_other : (j k : ℕ) → (n.first + read_index_at j k) % 2 ≡ 1 - parity_of m
      read_other j k = extended-from-parity l.extension n.count n.first _ many ∙ source_parity m (n.first + j) s.offset k

      pub served_apart : Apart s.quotient from to by count
      served_apart k i j g h b e =
          let same : n.first + read_index_at (v.position i) k ≡ n.first + v.position j = sym (read_spot i k h g).index ∙ ap (index_at f l) e ∙ (spot-at j b).index in
          omega (arith, read_other (v.position i) k, v.parity j b, ap (λ x. x % 2) same)

      hit_at : (i : ℕ) → i < count → changes f l m ((to + i * by) / f.samples) ((to + i * by) % f.samples) ≡ true
      hit_at i h = let o = spot-at i h in and_from _ _ o.hit (eq-eqb _ _ (ap (λ x. x % 2) o.index ∙ v.parity i h))

      -- the amount of the rule is the quotient that the call works out
      amount_at : (xs : List ℤ) (i : ℕ) → i < count → quotient_at s.quotient xs from (i * by) ≡ pass.amount xs (to + i * by)
      amount_at xs i h =
          let q = s.quotient in
          let a = to + i * by in
          let taps : length (taps_of q) ≡ q.tap_count = length-take-le q.tap_count q.taps (omega (arith, q.full, q.few)) in
          let reads : ℕ → ℤ = λ k. at xs (address_of f l (a / f.samples) (a % f.samples) (inside_of f l (source_index (parity_of m) (index_at f l a) s.offset k))) in
          let each : (k : ℕ) → k < q.tap_count → at xs (get_or from k 0 + i * by) ≡ reads k = λ k g.
          ap (at xs) (v.reads i k h g ∙ sym (spot-reads (v.line i) (v.position i) a k (spot-at i h))) in
          ap (quotient_of (taps_of q) q.residue q.exponent)
          (fill_by_all reads (map (λ k. at xs (get_or from k 0 + i * by)) (range_with_len 0 q.tap_count)) q.tap_count (pos 0) (length-map-range_with_len _ 0 q.tap_count)
          (λ k g. get_or-map-range_with_len (λ k. at xs (get_or from k 0 + i * by)) 0 q.tap_count k k (pos 0) g (omega arith) ∙ each k g)
          ∙ ap (λ c. map reads (range_with_len 0 c)) (sym taps))

    -- the call as a row
    module _ (w : ℕ → Bool) (r : Row) (v : Served w r.to r.by r.count r.from) (same : r.quotient ≡ s.quotient) where
      pub served_fits : (size : ℕ) → size ≡ size_of f → Fitted r size
      served_fits size long = record {
        inside = λ i h. omega (arith, (spot-at w r.to r.by r.count r.from v i h).below);
        sources = λ k i g h. omega (arith, (read_spot w r.to r.by r.count r.from v i k h (subst (λ q. k < q.tap_count) same g)).below);
      }

      module _ (undo : Bool) (xs ys : List ℤ) (long : length xs ≡ size_of f) (d : Rowed undo r r.count xs ys) where
        abbrev Made : ℕ → Type 0
        Made a = SFits w32 (at xs a) × (at ys a ≡ int_wrap w32 (turned_by undo (at xs a) (pass.amount xs a)))

        made_at : (i : ℕ) → i < r.count → Made (place r i)
        made_at i h = (
          (d.hit i h).0,
          (d.hit i h).1 ∙ ap (λ x. int_wrap w32 (turned_by undo (at xs (place r i)) x)) (ap (λ q. quotient_at q xs r.from (i * r.by)) same ∙ amount_at w r.to r.by r.count r.from v xs i h),
        )

        pub served_turned : Turned undo (part_of pass w) xs ys
        served_turned = record {
          long = d.long;
          hit = λ a h t.
              let b = and_parts (pass.hits a) (w a) t in
              let found = v.all a (omega arith) b.0 b.1 in
              subst Made (sym found.2) (made_at found.0 found.1);
          kept = λ a t. d.kept a (λ i h e. both_ways _ t (subst (λ x. (pass.hits x && w x) ≡ true) (sym e) (and_from _ _ (hit_at w r.to r.by r.count r.from v i h) (v.told i h))));
        }

-- a call across the lines serves one position of each
pub position_served : (f : Shape) (l : PlainLift) (n : Lines) (m : Parity) (s : Step) (j : ℕ) (from : List ℕ) → Lined f l n → j < n.count → (n.first + j) % 2 ≡ parity_of m →
    ((k : ℕ) → k < s.quotient.tap_count → get_or from k 0 ≡ spot n 0 (read_index_at f l n m s j k)) → Served f l n m s (of_index f l (n.first + j)) (n.start + j * n.by) n.apart n.line_count from
position_served f l n m s j from lined h p e = record {
  line = λ i. i;
  position = λ i. j;
  on = λ i b. b;
  below = λ i b. h;
  parity = λ i b. p;
  place = λ i b. refl;
  reads = λ i k b g. omega (arith, e k g);
  told = λ i b. eq-eqb _ _ (lined.here i j b h).index;
  all = λ a b t w.
      let found = lined.all a b (and_parts _ _ t).0 in
      let at : index_at f l a - n.first ≡ j = omega (arith, eqb-true (index_at f l a) (n.first + j) w) in
      (line_at f l a, found.0, found.1 ∙ ap (spot n (line_at f l a)) at);
}
