-- The geometry of lines: the addresses of the indices of a line, and which line and index an address has.
use Rattle.std.proofs.Common.{◌≡◌, ℕ, ◌+◌, ◌-◌, ◌*◌, ◌/◌, ◌%◌, ◌^◌, ◌<◌, ◌≤◌, true, ℤ, pos, ◌-ℤ◌, sym, refl, ap, ◌∙◌, subst, mul-div_cancel, arith}
use native.Mathlib.Nat.{mul-mod_left}
use Rattle.std.proofs.lemmas.Nat.{pow_pos, div-add-mod', div-mul-add, mod-mul-add}
use Rattle.std.proofs.lemmas.Bool.{leb-true, ltb-true, eqb-true, le-leb, lt-ltb, eq-eqb, and_parts, and_from}
use Rattle.sets.specs.declared.shape.Shape.{Shape}
use Rattle.sets.specs.Areas.{size_of}
use Rattle.stages.specs.declared.stage.Axis.{Axis}
use Rattle.stages.specs.declared.stage.Axis.TheVariants.{Time, Channel}
use Rattle.stages.specs.declared.stage.Parity.{Parity}
use Rattle.stages.specs.Lifting.{parity_of, source_index, lists_channel}
use Rattle.stages.specs.Plain.{PlainLift}
use Rattle.rules.specs.Lifted.{first_of, count_of, place_of, line_index, touched, address_of, inside_of}
use Rattle.rules.proofs.LiftIndices.{extended-below, extended-from-parity, source_parity}
use Rattle.rules.proofs.LiftLines.{place_from, place_until, index_from, index_until}
use Rattle.rules.proofs.Places.{address_below}

-- What is known of address a, where index i of the line through sample t of channel c stands
pub record Source (f : Shape) (l : PlainLift) (c t i a : ℕ) : Type 0 where
  pub below : a < size_of f
  pub channel : a / f.samples < f.channels
  pub sample : a % f.samples < f.samples
  pub listed : lists_channel l (a / f.samples) ≡ true
  pub hit : touched f l (a / f.samples) (a % f.samples) ≡ true
  pub index : line_index f l (a / f.samples) (a % f.samples) ≡ i
  pub same_line : (j : ℕ) → address_of f l (a / f.samples) (a % f.samples) j ≡ address_of f l c t j
  pub along-time : l.axis ≡ Time → a / f.samples ≡ c
  pub along-channels : l.axis ≡ Channel → (a / f.samples ≡ l.first + i * 2 ^ l.level) × (a % f.samples ≡ t)

-- the same lifting along an axis
abbrev pub along : Axis → PlainLift → PlainLift
along x l = record { axis = x; first = l.first; count = l.count; level = l.level; extension = l.extension; parity = l.parity }

-- what holds of a channel and a sample holds of their address taken apart
pub at_address : (P : ℕ → ℕ → Type 0) (w c t : ℕ) → t < w → P c t → P ((c * w + t) / w) ((c * w + t) % w)
at_address P w c t h p = subst (λ y. P ((c * w + t) / w) y) (sym (mod-mul-add c w t h)) (subst (λ x. P x t) (sym (div-mul-add c w t h)) p)

pub listed_below : (l : PlainLift) (c : ℕ) → lists_channel l c ≡ true → c < l.first + l.count
listed_below l c h = ltb-true _ _ (and_parts _ _ h).1

pub listed_from : (l : PlainLift) (c : ℕ) → lists_channel l c ≡ true → l.first ≤ c
listed_from l c h = leb-true _ _ (and_parts _ _ h).0

pub channel_is_not_time : Channel ≡ Time → ⊥
channel_is_not_time e = cc

-- the facts about an address from those about its channel c' and its sample t'
source_made : (f : Shape) (l : PlainLift) (c t i c' t' : ℕ) → c' < f.channels → t' < f.samples → lists_channel l c' ≡ true → place_of f l c' t' ≡ i * 2 ^ l.level →
    ((j : ℕ) → address_of f l c' t' j ≡ address_of f l c t j) → (l.axis ≡ Time → c' ≡ c) → (l.axis ≡ Channel → (c' ≡ l.first + i * 2 ^ l.level) × (t' ≡ t)) →
    Source f l c t i (c' * f.samples + t')
source_made f l c t i c' t' h k on place same time channel =
    let w = f.samples in
    let d = 2 ^ l.level in
    record {
      below = address_below f c' t' h k;
      channel = at_address (λ a b. a < f.channels) w c' t' k h;
      sample = at_address (λ a b. b < w) w c' t' k k;
      listed = at_address (λ a b. lists_channel l a ≡ true) w c' t' k on;
      hit = at_address (λ a b. touched f l a b ≡ true) w c' t' k (and_from _ _ on (eq-eqb _ _ (ap (λ y. y % d) place ∙ mul-mod_left i d)));
      index = at_address (λ a b. line_index f l a b ≡ i) w c' t' k (ap (λ y. y / d) place ∙ mul-div_cancel i (pow_pos l.level));
      same_line = λ j. at_address (λ a b. address_of f l a b j ≡ address_of f l c t j) w c' t' k (same j);
      along-time = λ e. at_address (λ a b. a ≡ c) w c' t' k (time e);
      along-channels = λ e. at_address (λ a b. (a ≡ l.first + i * d) × (b ≡ t)) w c' t' k (channel e);
    }

source_along : (x : Axis) (f : Shape) (l : PlainLift) (c t i : ℕ) → l.first + l.count ≤ f.channels → t < f.samples → lists_channel l c ≡ true →
    first_of f (along x l) ≤ i → i < first_of f (along x l) + count_of f (along x l) → Source f (along x l) c t i (address_of f (along x l) c t i)
source_along Time f l c t i fits h on lo hi =
    let from = place_from l.level f.origin i lo in
    let until = place_until l.level f.origin f.samples i (omega arith) lo hi in
    source_made f (along Time l) c t i c (i * 2 ^ l.level - f.origin) (omega (arith, listed_below l c on)) (omega arith) on (omega arith) (λ j. refl) (λ e. refl) (λ e. absurd (channel_is_not_time (sym e)))
source_along Channel f l c t i fits h on lo hi =
    let one : 1 ≤ l.count = omega (arith, listed_below l c on, listed_from l c on) in
    let until = place_until l.level 0 l.count i one lo hi in
    let r = l.first + i * 2 ^ l.level in
    let on' : lists_channel l r ≡ true = and_from _ _ (le-leb l.first r (omega arith)) (lt-ltb r (l.first + l.count) (omega arith)) in
    source_made f (along Channel l) c t i r t (omega arith) h on' (omega arith) (λ j. refl) (λ e. absurd (channel_is_not_time e)) (λ e. (refl, refl))

pub source_at : (f : Shape) (l : PlainLift) (c t i : ℕ) → l.first + l.count ≤ f.channels → t < f.samples → lists_channel l c ≡ true →
    first_of f l ≤ i → i < first_of f l + count_of f l → Source f l c t i (address_of f l c t i)
source_at f l c t i fits h on lo hi = source_along l.axis f l c t i fits h on lo hi

-- a touched sample has an index inside its line, and stands at the address of that index
pub record Indexed (f : Shape) (l : PlainLift) (c t : ℕ) : Type 0 where
  pub listed : lists_channel l c ≡ true
  pub from : first_of f l ≤ line_index f l c t
  pub until : line_index f l c t < first_of f l + count_of f l
  pub address : address_of f l c t (line_index f l c t) ≡ c * f.samples + t

indexed_along : (x : Axis) (f : Shape) (l : PlainLift) (c t : ℕ) → t < f.samples → touched f (along x l) c t ≡ true → Indexed f (along x l) c t
indexed_along Time f l c t h hit =
    let d = 2 ^ l.level in
    let on = (and_parts (lists_channel l c) _ hit).0 in
    let whole : (f.origin + t) % d ≡ 0 = eqb-true _ _ (and_parts (lists_channel l c) _ hit).1 in
    record {
      listed = on;
      from = index_from l.level f.origin (f.origin + t) (omega arith) whole;
      until = index_until l.level f.origin f.samples (f.origin + t) (omega arith) (omega arith) whole;
      address = ap (λ y. c * f.samples + y) (omega (arith, div-add-mod' (f.origin + t) d));
    }
indexed_along Channel f l c t h hit =
    let d = 2 ^ l.level in
    let on = (and_parts (lists_channel l c) _ hit).0 in
    let whole : (c - l.first) % d ≡ 0 = eqb-true _ _ (and_parts (lists_channel l c) _ hit).1 in
    record {
      listed = on;
      from = index_from l.level 0 (c - l.first) (omega arith) whole;
      until = index_until l.level 0 l.count (c - l.first) (omega arith) (omega (arith, listed_below l c on, listed_from l c on)) whole;
      address = ap (λ y. y * f.samples + t) (omega (arith, div-add-mod' (c - l.first) d, listed_from l c on));
    }

pub touched-index : (f : Shape) (l : PlainLift) (c t : ℕ) → t < f.samples → touched f l c t ≡ true → Indexed f l c t
touched-index f l c t h hit = indexed_along l.axis f l c t h hit

-- the index that is read for any index is inside the line
pub inside_of_from : (f : Shape) (l : PlainLift) (z : ℤ) → first_of f l ≤ inside_of f l z
inside_of_from f l z = omega arith

pub inside_of_until : (f : Shape) (l : PlainLift) (z : ℤ) → 2 ≤ count_of f l → inside_of f l z < first_of f l + count_of f l
inside_of_until f l z h = let b = extended-below l.extension (count_of f l) (z -ℤ pos (first_of f l)) h in omega arith

-- a step never reads an index that it changes: what it reads has the other parity
pub read_parity : (f : Shape) (l : PlainLift) (m : Parity) (i : ℕ) (off : ℤ) (k : ℕ) → 2 ≤ count_of f l →
    inside_of f l (source_index (parity_of m) i off k) % 2 ≡ 1 - parity_of m
read_parity f l m i off k h = extended-from-parity l.extension (count_of f l) (first_of f l) _ h ∙ source_parity m i off k

-- where the taps of a step read for an index of a line
pub read_source : (f : Shape) (l : PlainLift) (c t : ℕ) (z : ℤ) → l.first + l.count ≤ f.channels → 2 ≤ count_of f l → t < f.samples → lists_channel l c ≡ true →
    Source f l c t (inside_of f l z) (address_of f l c t (inside_of f l z))
read_source f l c t z fits many h on = source_at f l c t (inside_of f l z) fits h on (inside_of_from f l z) (inside_of_until f l z many)
