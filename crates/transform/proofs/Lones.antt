-- Lines of just one index: their samples are evenly spaced, and changed one after another.
use Rattle.std.proofs.Common.{◌≡◌, ℕ, ◌+◌, ◌-◌, ◌*◌, ◌/◌, ◌%◌, ◌<◌, ◌≤◌, true, ◌≢◌, List, length, set, ℤ, sym, refl, ap, ◌∙◌, subst, arith, below_more}
use Rattle.std.proofs.lemmas.List.{get_or-set_same, get_or-set_other, length-set}
use Rattle.std.proofs.lemmas.Bool.{and_parts, eqb-true, both_ways}
use Rattle.std.proofs.lemmas.Bool.Decides.{nat_tests}
use Rattle.sets.specs.declared.shape.Shape.{Shape}
use Rattle.sets.specs.Areas.{size_of, at}
use Rattle.stages.specs.declared.stage.Axis.{Axis}
use Rattle.stages.specs.declared.stage.Axis.TheVariants.{Time, Channel}
use Rattle.stages.specs.Plain.{PlainLift}
use Rattle.rules.specs.Lifted.{count_of, touched, lone_odd}
use Rattle.rules.proofs.LiftPlaces.{along, touched-index}
use Rattle.rules.proofs.Places.{time_below}
use Rattle.transform.specs.declared.lines.Lines.{Lines}
use Rattle.transform.specs.Lined.{spot, Spot, line_at, Lined}
use Rattle.transform.specs.Lone.{Spaced, OddAt, Touched, NoHalf}
use Rattle.transform.specs.Parts.{index_at}
use Rattle.transform.proofs.Rows.{places_rise}
use Rattle.transform.proofs.Spots.{first_at_zero}

lone_along : (x : Axis) (f : Shape) (l : PlainLift) → lone_odd f (along x l) ≡ true → x ≡ Time
lone_along Time f l h = refl
lone_along Channel f l h = grind (arith, nat_tests, first_at_zero l.level)

-- a line along the channels begins with index 0, which is even
pub lone_time : (f : Shape) (l : PlainLift) → lone_odd f l ≡ true → l.axis ≡ Time
lone_time f l h = lone_along l.axis f l h

pub lone_count : (f : Shape) (l : PlainLift) → lone_odd f l ≡ true → count_of f l ≡ 1
lone_count f l h = eqb-true _ _ (and_parts _ _ h).0

module _ (R : ℤ → ℤ → Type 0) (start by : ℕ) (xs : List ℤ) where
  pub spaced_none : Spaced R start by 0 xs xs
  spaced_none = record { long = refl; hit = λ i h. absurd (omega arith); kept = λ a h. refl }

  module _ (n : ℕ) (ys : List ℤ) (step : 1 ≤ by) (d : Spaced R start by n xs ys) where
    -- the next sample still stands as it did
    pub spaced_old : at ys (start + n * by) ≡ at xs (start + n * by)
    spaced_old = d.kept (start + n * by) (λ i h e. omega (arith, places_rise i n by step h))

    pub spaced_more : (v : ℤ) → start + n * by < length xs → R (at ys (start + n * by)) v → Spaced R start by (n + 1) xs (set ys (start + n * by) v)
    spaced_more v h r =
        let inside : start + n * by < length ys = omega (arith, d.long) in
        record {
          long = length-set ys (start + n * by) v ∙ d.long;
          hit = below_more _ _
              (λ i b. let ne : start + i * by ≢ start + n * by = (λ x. omega (arith, places_rise i n by step b)) in rw get_or-set_other (d.hit i b))
              (rw get_or-set_same (subst (λ x. R x v) spaced_old r));
          kept = λ a o. let ne : a ≢ start + n * by = o n (omega arith) in rw get_or-set_other (d.kept a (λ i b. o i (omega arith)));
        }

-- the one position of a line
module _ (f : Shape) (l : PlainLift) (n : Lines) (lined : Lined f l n) (one : count_of f l ≡ 1) where
  lone_spot : (r : ℕ) → spot n r 0 ≡ n.start + r * n.apart
  lone_spot r = omega arith

  pub lone_at : (r : ℕ) → r < n.line_count → Spot f l n r 0 (n.start + r * n.apart)
  lone_at r h = subst (Spot f l n r 0) (lone_spot r) (lined.here r 0 h (omega (arith, lined.count)))

  pub lone_touched : (R : ℤ → ℤ → Type 0) (xs ys : List ℤ) → length xs ≡ size_of f → Spaced R n.start n.apart n.line_count xs ys → Touched f l R xs ys
  lone_touched R xs ys long d = record {
    long = d.long;
    hit = λ a h t.
        let found = lined.all a (omega arith) t in
        let index = touched-index f l (a / f.samples) (a % f.samples) (time_below f a (omega arith)) t in
        let none : index_at f l a - n.first ≡ 0 = omega (arith, lined.first, index.until) in
        let r = line_at f l a in
        let place : a ≡ n.start + r * n.apart = found.1 ∙ ap (spot n r) none ∙ lone_spot r in
        subst (λ x. R (at xs x) (at ys x)) (sym place) (d.hit r found.0);
    kept = λ a t. d.kept a (λ r h e. both_ways _ t (subst (λ x. touched f l (x / f.samples) (x % f.samples) ≡ true) (sym e) (lone_at r h).hit));
  }

  -- a line whose sample has no half
  pub lone-odd : (xs : List ℤ) → length xs ≡ size_of f → OddAt n.start n.apart n.line_count xs → NoHalf f l xs
  lone-odd xs long o =
      let spot = lone_at o.line o.below in
      record { address = n.start + o.line * n.apart; below = omega (arith, spot.below); hit = spot.hit; odd = o.odd }

-- the samples of such lines lie in the area
pub lone_below : (f : Shape) (l : PlainLift) (n : Lines) (i : ℕ) → Lined f l n → lone_odd f l ≡ true → i < n.line_count → n.start + i * n.apart < size_of f
lone_below f l n i lined odd h = (lone_at f l n lined (lone_count f l odd) i h).below
