-- Runs along the samples of a channel: one call of the inner loop serves positions inside a line, and the channels follow each other.
use Rattle.std.proofs.Common.{◌≡◌, ℕ, ◌+◌, ◌-◌, ◌*◌, ◌/◌, ◌%◌, ◌<◌, ◌≤◌, Bool, true, false, ◌&&◌, eqb, ltb, leb, List, length, get_or, ℤ, sym, ap, ◌∙◌, subst, mul_assoc, add-mul, arith}
use Rattle.std.proofs.lemmas.Bool.{and_parts, and_from, eq-eqb, eqb-true, le-leb, leb-true, lt-ltb, ltb-true}
use Rattle.std.proofs.lemmas.Bool.Decides.{nat_tests}
use Rattle.sets.specs.declared.shape.Shape.{Shape}
use Rattle.sets.specs.Areas.{size_of}
use Rattle.stages.specs.declared.stage.Axis.TheVariants.{Time}
use Rattle.stages.specs.declared.stage.Parity.{Parity}
use Rattle.stages.specs.declared.stage.Step.{Step}
use Rattle.stages.specs.Lifting.{parity_of}
use Rattle.stages.specs.Plain.{PlainLift, PlainStep}
use Rattle.rules.specs.Lifted.{touched, changes, lift_pass}
use Rattle.rules.specs.Passes.{Pass, Blind}
use Rattle.rules.proofs.LiftPlaces.{touched-index}
use Rattle.rules.proofs.LiftReads.{lift_blind}
use Rattle.rules.proofs.Places.{time_below}
use Rattle.transform.specs.declared.lines.Lines.{Lines}
use Rattle.transform.specs.Lined.{spot, Spot, line_at, Lined}
use Rattle.transform.specs.Near.{Near}
use Rattle.transform.specs.Parts.{part_of, index_at, between, of_channel, below_channel, both}
use Rattle.transform.specs.Turned.{Turned}
use Rattle.transform.proofs.Inside.{read_moves}
use Rattle.transform.proofs.Joining.{part_none, part_same, parts_joined}
use Rattle.transform.proofs.Serving.{read_index_at, Served}

-- a position further on by 2i, at twice the distance of positions
spot-moves : (n : Lines) (r j i : ℕ) → spot n r j + i * (2 * n.by) ≡ spot n r (j + 2 * i)
spot-moves n r j i = omega (arith, add-mul j (2 * i) n.by, mul_assoc i 2 n.by, mul_assoc 2 i n.by)

module _ (f : Shape) (l : PlainLift) (n : Lines) (lined : Lined f l n) (time : l.axis ≡ Time) where
  -- the line of a touched sample is its channel
  channel_line : (a : ℕ) → a < size_of f → (m : Parity) → changes f l m (a / f.samples) (a % f.samples) ≡ true →
      (r : ℕ) × (r < n.line_count) × (a ≡ spot n r (index_at f l a - n.first)) × (a / f.samples ≡ l.first + r) × (n.first ≤ index_at f l a)
  channel_line a h m t =
      let hit = (and_parts _ _ t).0 in
      let found = lined.all a h hit in
      let index = touched-index f l (a / f.samples) (a % f.samples) (time_below f a h) hit in
      let low : n.first ≤ index_at f l a = omega (arith, index.from, lined.first) in
      let here = lined.here (line_at f l a) (index_at f l a - n.first) found.0 (omega (arith, index.until, lined.first, lined.count)) in
      (line_at f l a, found.0, found.1, ap (λ x. x / f.samples) found.1 ∙ here.channel time, low)

  -- a call along line r serves count positions from j on, all of them inside
  pub run_served : (m : Parity) (s : Step) → Near s → (r j count : ℕ) (from : List ℕ) → r < n.line_count → (n.first + j) % 2 ≡ parity_of m → 17 ≤ j → j + 2 * count + 30 ≤ n.count →
      ((k : ℕ) → k < s.quotient.tap_count → get_or from k 0 ≡ spot n r (read_index_at f l n m s j k)) →
      Served f l n m s (both (between f l (n.first + j) (n.first + (j + 2 * count))) (of_channel f (l.first + r))) (spot n r j) (2 * n.by) count from
  run_served m s near r j count from on p low high e =
      let here : (i : ℕ) → i < count → Spot f l n r (j + 2 * i) (spot n r j + i * (2 * n.by)) = λ i h.
      subst (Spot f l n r (j + 2 * i)) (sym (spot-moves n r j i)) (lined.here r (j + 2 * i) on (omega arith)) in
      record {
        line = λ i. r;
        position = λ i. j + 2 * i;
        on = λ i h. on;
        below = λ i h. omega arith;
        parity = λ i h. omega arith;
        place = λ i h. spot-moves n r j i;
        reads = λ i k h g.
            let moves = read_moves f l n m s near (omega arith) j i k p (omega (arith, s.quotient.few)) low (omega arith) in
            ap (λ x. x + i * (2 * n.by)) (e k g) ∙ spot-moves n r (read_index_at f l n m s j k) i ∙ ap (spot n r) (sym moves);
        told = λ i h.
            let o = here i h in
            let x = index_at f l (spot n r j + i * (2 * n.by)) in
            and_from _ _ (and_from _ _ (le-leb (n.first + j) x (omega (arith, o.index))) (lt-ltb x (n.first + (j + 2 * count)) (omega (arith, o.index)))) (eq-eqb _ _ (o.channel time));
        all = λ a h t w.
            let ws = and_parts (between f l (n.first + j) (n.first + (j + 2 * count)) a) _ w in
            let bs = and_parts (leb (n.first + j) (index_at f l a)) _ ws.0 in
            let found = channel_line a h m t in
            let same : found.0 ≡ r = omega (arith, found.3, eqb-true _ _ ws.1) in
            let x = index_at f l a in
            let from-j : n.first + j ≤ x = leb-true _ _ bs.0 in
            let until : x < n.first + (j + 2 * count) = ltb-true _ _ bs.1 in
            let odd : x % 2 ≡ parity_of m = eqb-true _ _ (and_parts (touched f l (a / f.samples) (a % f.samples)) _ t).1 in
            let i = (x - n.first - j) / 2 in
            let at : x - n.first ≡ j + 2 * i = omega arith in
            (i, omega arith, found.2 ∙ (λ y. spot n (same y) (at y)) ∙ sym (spot-moves n r j i));
      }

  -- the channels of the lines, one after another
  module _ (m : Parity) (s : PlainStep) (i e : ℕ) where
    abbrev pass : Pass
    pass = lift_pass f l m s

    pub runs_none : (undo : Bool) (xs : List ℤ) → length xs ≡ size_of f → Turned undo (part_of pass (both (between f l i e) (below_channel f (l.first + 0)))) xs xs
    runs_none undo xs long = part_none undo pass _ xs (λ a h t. let found = channel_line a (omega arith) m t in grind (arith, nat_tests, found.3))

    pub runs_more : (undo : Bool) (r : ℕ) (xs ys zs : List ℤ) → l.first + l.count ≤ f.channels → 2 ≤ n.count → length xs ≡ size_of f →
        Turned undo (part_of pass (both (between f l i e) (below_channel f (l.first + r)))) xs ys → Turned undo (part_of pass (both (between f l i e) (of_channel f (l.first + r)))) ys zs →
        Turned undo (part_of pass (both (between f l i e) (below_channel f (l.first + (r + 1))))) xs zs
    runs_more undo r xs ys zs fits many long d b =
        let blind = subst (λ n. Blind n pass) (sym long) (lift_blind f l fits (subst (λ x. 2 ≤ x) lined.count many) m s) in
        parts_joined undo pass _ _ _ xs ys zs blind
        (λ a t. apart (between f l i e a) (a / f.samples))
        (λ a t. left (between f l i e a) (a / f.samples))
        (λ a t. right (between f l i e a) (a / f.samples))
        (λ a h t. whole (between f l i e a) (a / f.samples)) d b
      where
        apart : (w : Bool) (c : ℕ) → (w && ltb c (l.first + r)) ≡ true → (w && eqb c (l.first + r)) ≡ false
        apart w c h = grind (arith, nat_tests)

        left : (w : Bool) (c : ℕ) → (w && ltb c (l.first + r)) ≡ true → (w && ltb c (l.first + (r + 1))) ≡ true
        left w c h = grind (arith, nat_tests)

        right : (w : Bool) (c : ℕ) → (w && eqb c (l.first + r)) ≡ true → (w && ltb c (l.first + (r + 1))) ≡ true
        right w c h = grind (arith, nat_tests)

        whole : (w : Bool) (c : ℕ) → (w && ltb c (l.first + (r + 1))) ≡ true → (w && ltb c (l.first + r)) ≡ false → (w && eqb c (l.first + r)) ≡ true
        whole w c h g = grind (arith, nat_tests)

    pub runs_all : (undo : Bool) (xs ys : List ℤ) → length xs ≡ size_of f → Turned undo (part_of pass (both (between f l i e) (below_channel f (l.first + n.line_count)))) xs ys →
        Turned undo (part_of pass (between f l i e)) xs ys
    runs_all undo xs ys long d = part_same undo pass _ _ xs ys (λ a h t.
        let found = channel_line a (omega arith) m t in
        and_true (between f l i e a) _ (lt-ltb (a / f.samples) (l.first + n.line_count) (omega (arith, found.1, found.3)))) d
      where
        and_true : (x y : Bool) → y ≡ true → (x && y) ≡ x
        and_true x y h = grind arith
