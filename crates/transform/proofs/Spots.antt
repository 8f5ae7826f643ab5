-- The lines of a lifting: their positions are the touched samples.
use Rattle.std.proofs.Common.{◌≡◌, ℕ, ◌+◌, ◌-◌, ◌*◌, ◌/◌, ◌%◌, ◌^◌, ◌<◌, ◌≤◌, true, sym, refl, ap, ◌∙◌, subst, mul_assoc, add-mul, arith}
use native.Mathlib.Nat.{div-eq_of_lt}
use Rattle.std.proofs.lemmas.Nat.{pow_pos}
use Rattle.std.proofs.lemmas.Bool.{and_from, le-leb, lt-ltb}
use Rattle.sets.specs.declared.shape.Shape.{Shape}
use Rattle.stages.specs.declared.stage.Axis.TheVariants.{Time, Channel}
use Rattle.stages.specs.Lifting.{lists_channel}
use Rattle.stages.specs.Lines.{first_index, index_count}
use Rattle.stages.specs.Plain.{PlainLift}
use Rattle.rules.specs.Lifted.{on_axis, first_of, count_of, address_of}
use Rattle.rules.proofs.LiftLines.{place_from}
use Rattle.rules.proofs.LiftPlaces.{along, channel_is_not_time, source_at, touched-index, listed_below, listed_from}
use Rattle.rules.proofs.Places.{address_split, time_below}
use Rattle.transform.specs.declared.lines.Lines.{Lines}
use Rattle.transform.specs.Lined.{spot, Spot, Lined}
use Rattle.transform.specs.Parts.{index_at}

-- line r runs through sample t of channel c
pub record Through (f : Shape) (l : PlainLift) (n : Lines) (r c t : ℕ) : Type 0 where
  pub listed : lists_channel l c ≡ true
  pub sample : t < f.samples
  pub spots : (j : ℕ) → address_of f l c t (n.first + j) ≡ spot n r j
  pub channel : l.axis ≡ Time → c ≡ l.first + r

-- each line runs through a listed channel, and a line runs through each sample of one
module _ (f : Shape) (l : PlainLift) (n : Lines) (fits : l.first + l.count ≤ f.channels) (first : n.first ≡ first_of f l) (count : n.count ≡ count_of f l) (apart : 1 ≤ n.apart)
    (each : (r : ℕ) → r < n.line_count → (c : ℕ) × (t : ℕ) × Through f l n r c t)
    (through : (c t : ℕ) → lists_channel l c ≡ true → t < f.samples → (on_axis l.axis (c - l.first) t < n.line_count) × Through f l n (on_axis l.axis (c - l.first) t) c t) where
  spot_of : (r j : ℕ) → r < n.line_count → j < n.count → Spot f l n r j (spot n r j)
  spot_of r j h k =
      let w = each r h in
      let o = w.2 in
      let s = source_at f l w.0 w.1 (n.first + j) fits o.sample o.listed (omega arith) (omega arith) in
      subst (Spot f l n r j) (o.spots j)
      (record { below = s.below; hit = s.hit; index = s.index; channel = λ e. s.along-time e ∙ o.channel e; line = λ i m. s.same_line (n.first + i) ∙ o.spots i })

  pub lined_from : Lined f l n
  lined_from = record {
    first = first;
    count = count;
    apart = apart;
    here = spot_of;
    all = λ a h hit.
        let s = touched-index f l (a / f.samples) (a % f.samples) (time_below f a h) hit in
        let w = through (a / f.samples) (a % f.samples) s.listed (time_below f a h) in
        let index : n.first + (index_at f l a - n.first) ≡ index_at f l a = omega (arith, s.from) in
        (w.0, sym (address_split f a) ∙ sym s.address ∙ ap (address_of f l (a / f.samples) (a % f.samples)) (sym index) ∙ w.1.spots (index_at f l a - n.first));
  }

-- a line from place 0 on has its first index there
pub first_at_zero : (v : ℕ) → first_index v 0 ≡ 0
first_at_zero v = div-eq_of_lt (omega (arith, pow_pos v))

-- address of an index of a channel, by how far it is from the first channel and the first index
time_spot : (w d u base first r j : ℕ) → u ≤ first * d → (base + r) * w + ((first + j) * d - u) ≡ base * w + (first * d - u) + j * d + r * w
time_spot w d u base first r j h = omega (arith, add-mul base r w, add-mul first j d)

channel_spot : (w d base first j t : ℕ) → first ≡ 0 → (base + (first + j) * d) * w + t ≡ base * w + j * (d * w) + t * 1
channel_spot w d base first j t e = rw e (omega (arith, add-mul base ((0 + j) * d) w, add-mul 0 j d, mul_assoc j d w))

lined_time : (f : Shape) (l : PlainLift) (n : Lines) → l.first + l.count ≤ f.channels → 1 ≤ f.samples → n.first ≡ first_of f (along Time l) → n.count ≡ count_of f (along Time l) →
    n.line_count ≡ l.count → n.start ≡ l.first * f.samples + (n.first * 2 ^ l.level - f.origin) → n.by ≡ 2 ^ l.level → n.apart ≡ f.samples → Lined f (along Time l) n
lined_time f l n fits some first count lines start by apart =
    let w = f.samples in
    let d = 2 ^ l.level in
    let from : f.origin ≤ n.first * d = place_from l.level f.origin n.first (omega arith) in
    let spots : (c r t j : ℕ) → c ≡ l.first + r → address_of f (along Time l) c t (n.first + j) ≡ spot n r j = λ c r t j e.
    ap (λ x. x * w + ((n.first + j) * d - f.origin)) e ∙ time_spot w d f.origin l.first n.first r j from
    ∙ (λ i. sym start i + j * sym by i + r * sym apart i) in
    lined_from f (along Time l) n fits first count (omega arith)
    (λ r h. (
      l.first + r,
      0,
      record {
        listed = and_from _ _ (le-leb l.first (l.first + r) (omega arith)) (lt-ltb (l.first + r) (l.first + l.count) (omega arith));
        sample = some;
        spots = λ j. spots (l.first + r) r 0 j refl;
        channel = λ e. refl;
      },
    ))
    (λ c t on h. (
      omega (arith, listed_from l c on, listed_below l c on),
      record {
        listed = on;
        sample = h;
        spots = λ j. spots c (c - l.first) t j (omega (arith, listed_from l c on));
        channel = λ e. omega (arith, listed_from l c on);
      },
    ))

lined_channel : (f : Shape) (l : PlainLift) (n : Lines) → l.first + l.count ≤ f.channels → 1 ≤ l.count → n.first ≡ first_of f (along Channel l) → n.count ≡ count_of f (along Channel l) →
    n.line_count ≡ f.samples → n.start ≡ l.first * f.samples → n.by ≡ 2 ^ l.level * f.samples → n.apart ≡ 1 → Lined f (along Channel l) n
lined_channel f l n fits some first count lines start by apart =
    let w = f.samples in
    let d = 2 ^ l.level in
    let none : n.first ≡ 0 = first ∙ first_at_zero l.level in
    let spots : (c t j : ℕ) → address_of f (along Channel l) c t (n.first + j) ≡ spot n t j = λ c t j.
    channel_spot w d l.first n.first j t none ∙ (λ i. sym start i + j * sym by i + t * sym apart i) in
    lined_from f (along Channel l) n fits first count (omega arith)
    (λ r h. (
      l.first,
      r,
      record {
        listed = and_from _ _ (le-leb l.first l.first (omega arith)) (lt-ltb l.first (l.first + l.count) (omega arith));
        sample = omega arith;
        spots = λ j. spots l.first r j;
        channel = λ e. absurd (channel_is_not_time e);
      },
    ))
    (λ c t on h. (omega arith, record { listed = on; sample = h; spots = λ j. spots c t j; channel = λ e. absurd (channel_is_not_time e) }))

pub time_lined : (f : Shape) (l : PlainLift) (n : Lines) → l.axis ≡ Time → l.first + l.count ≤ f.channels → 1 ≤ f.samples → n.first ≡ first_index l.level f.origin → n.count ≡ index_count l.level f.origin f.samples →
    n.line_count ≡ l.count → n.start ≡ l.first * f.samples + (n.first * 2 ^ l.level - f.origin) → n.by ≡ 2 ^ l.level → n.apart ≡ f.samples → Lined f l n
time_lined f l n axis fits some first count lines start by apart = subst (λ x. Lined f (along x l) n) (sym axis) (lined_time f l n fits some first count lines start by apart)

pub channel_lined : (f : Shape) (l : PlainLift) (n : Lines) → l.axis ≡ Channel → l.first + l.count ≤ f.channels → 1 ≤ l.count → n.first ≡ first_index l.level 0 → n.count ≡ index_count l.level 0 l.count →
    n.line_count ≡ f.samples → n.start ≡ l.first * f.samples → n.by ≡ 2 ^ l.level * f.samples → n.apart ≡ 1 → Lined f l n
channel_lined f l n axis fits some first count lines start by apart = subst (λ x. Lined f (along x l) n) (sym axis) (lined_channel f l n fits some first count lines start by apart)
