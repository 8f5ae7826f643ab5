-- Parts of a step by indices: some indices of its parity after others.
use Rattle.std.proofs.Common.{◌≡◌, ℕ, ◌+◌, ◌/◌, ◌%◌, ◌≤◌, Bool, true, false, ◌&&◌, eqb, ltb, leb, List, length, ℤ, sym, ◌∙◌, subst, arith}
use Rattle.std.proofs.lemmas.Bool.{and_parts, and_from, eqb-true, le-leb, lt-ltb}
use Rattle.std.proofs.lemmas.Bool.Decides.{nat_tests}
use Rattle.sets.specs.declared.shape.Shape.{Shape}
use Rattle.sets.specs.Areas.{size_of}
use Rattle.stages.specs.declared.stage.Parity.{Parity}
use Rattle.stages.specs.Lifting.{parity_of}
use Rattle.stages.specs.Plain.{PlainLift, PlainStep, plain_lift, plain_step}
use Rattle.rules.specs.Lifted.{first_of, count_of, touched, lift_pass}
use Rattle.rules.specs.Passes.{Pass, Blind}
use Rattle.rules.proofs.LiftPlaces.{touched-index}
use Rattle.rules.proofs.LiftReads.{lift_blind}
use Rattle.rules.proofs.Places.{time_below}
use Rattle.transform.specs.declared.lines.Lines.{Lines}
use Rattle.transform.specs.declared.turn.Turn.{Turn}
use Rattle.transform.specs.Lined.{Lined}
use Rattle.transform.specs.Parts.{part_of, index_at, of_index, between}
use Rattle.transform.specs.Turned.{Turned}
use Rattle.transform.specs.Turns.{Sized, Hits, TurnedAt, pass_of, at_position, from_to}
use Rattle.transform.proofs.Joining.{part_none, part_same, part_whole, parts_joined}

-- numbers from i on and below e
abbrev within : ℕ → ℕ → ℕ → Bool
within i e x = leb i x && ltb x e

-- of the numbers that p allows, u has those of v and those of w, which share none
pub record Joined (p : ℕ → Type 0) (v w u : ℕ → Bool) : Type 0 where
  pub apart : (x : ℕ) → p x → v x ≡ true → w x ≡ false
  pub left : (x : ℕ) → p x → v x ≡ true → u x ≡ true
  pub right : (x : ℕ) → p x → w x ≡ true → u x ≡ true
  pub whole : (x : ℕ) → p x → u x ≡ true → v x ≡ false → w x ≡ true

abbrev Alike : ℕ → ℕ → Type 0
Alike j x = x % 2 ≡ j % 2

one_more : (i j : ℕ) → i ≤ j → Joined (Alike j) (within i j) (λ x. eqb x j) (within i (j + 2))
one_more i j h = record {
  apart = λ x e t. grind (arith, nat_tests);
  left = λ x e t. grind (arith, nat_tests);
  right = λ x e t. grind (arith, nat_tests);
  whole = λ x e t n. grind (arith, nat_tests);
}

runs_joined : (i j e : ℕ) → i ≤ j → j ≤ e → (p : ℕ → Type 0) → Joined p (within i j) (within j e) (within i e)
runs_joined i j e h g p = record {
  apart = λ x _ t. grind (arith, nat_tests);
  left = λ x _ t. grind (arith, nat_tests);
  right = λ x _ t. grind (arith, nat_tests);
  whole = λ x _ t n. grind (arith, nat_tests);
}

module _ (f : Shape) (l : PlainLift) (m : Parity) (s : PlainStep) where
  abbrev pass : Pass
  pass = lift_pass f l m s

  hit_parity : (a : ℕ) → pass.hits a ≡ true → index_at f l a % 2 ≡ parity_of m
  hit_parity a t = eqb-true _ _ (and_parts (touched f l (a / f.samples) (a % f.samples)) _ t).1

  -- a part of no index
  pub window_none : (undo : Bool) (i : ℕ) (xs : List ℤ) → Turned undo (part_of pass (between f l i i)) xs xs
  window_none undo i xs = part_none undo pass _ xs (λ a h t. grind (arith, nat_tests))

  -- an end that has not the parity of the step may be put off by one
  pub window_end : (undo : Bool) (i j e : ℕ) (xs ys : List ℤ) → j % 2 ≡ parity_of m → e ≤ j → j ≤ e + 1 → Turned undo (part_of pass (between f l i j)) xs ys → Turned undo (part_of pass (between f l i e)) xs ys
  window_end undo i j e xs ys q low high d = part_same undo pass _ _ xs ys (λ a h t. same (index_at f l a) (hit_parity a t)) d
    where
      same : (x : ℕ) → x % 2 ≡ parity_of m → within i j x ≡ within i e x
      same x p = grind (arith, nat_tests)

  -- all indices of the lines
  window_whole : (undo : Bool) (i : ℕ) (xs ys : List ℤ) → length xs ≡ size_of f → i % 2 ≡ parity_of m → i ≤ first_of f l + 1 →
      Turned undo (part_of pass (between f l i (first_of f l + count_of f l))) xs ys → Turned undo pass xs ys
  window_whole undo i xs ys long q near d = part_whole undo pass _ xs ys
      (λ a h t.
      let index = touched-index f l (a / f.samples) (a % f.samples) (time_below f a (omega arith)) (and_parts _ _ t).0 in
      and_from _ _ (le-leb i (index_at f l a) (omega (arith, index.from, hit_parity a t))) (lt-ltb (index_at f l a) _ index.until)) d

  -- from the first position of the parity on, as the code counts them
  pub window_lines : (n : Lines) (p : ℕ) (undo : Bool) (xs ys : List ℤ) → Lined f l n → length xs ≡ size_of f → p ≡ parity_of m → p ≤ 1 →
      Turned undo (part_of pass (between f l (n.first + (n.first + p) % 2) (n.first + n.count))) xs ys → Turned undo pass xs ys
  window_lines n p undo xs ys lined long e small d =
      let end : n.first + n.count ≡ first_of f l + count_of f l = λ i. lined.first i + lined.count i in
      window_whole undo (n.first + (n.first + p) % 2) xs ys long (omega arith) (omega (arith, lined.first))
      (subst (λ x. Turned undo (part_of pass (between f l (n.first + (n.first + p) % 2) x)) xs ys) end d)

  module _ (fits : l.first + l.count ≤ f.channels) (many : 2 ≤ count_of f l) (undo : Bool) (xs ys zs : List ℤ) (long : length xs ≡ size_of f) where
    windows_joined : (v w u : ℕ → Bool) (p : ℕ → Type 0) → ((x : ℕ) → x % 2 ≡ parity_of m → p x) → Joined p v w u →
        Turned undo (part_of pass (λ a. v (index_at f l a))) xs ys → Turned undo (part_of pass (λ a. w (index_at f l a))) ys zs → Turned undo (part_of pass (λ a. u (index_at f l a))) xs zs
    windows_joined v w u p of j d e =
        let ok : (a : ℕ) → pass.hits a ≡ true → p (index_at f l a) = λ a t. of (index_at f l a) (hit_parity a t) in
        parts_joined undo pass _ _ _ xs ys zs (subst (λ n. Blind n pass) (sym long) (lift_blind f l fits many m s))
        (λ a t. j.apart (index_at f l a) (ok a t)) (λ a t. j.left (index_at f l a) (ok a t)) (λ a t. j.right (index_at f l a) (ok a t)) (λ a h t. j.whole (index_at f l a) (ok a t)) d e

    -- one index more, which is that of the next position of the parity
    pub window_more : (i j k : ℕ) → i ≤ j → k ≡ j + 2 → j % 2 ≡ parity_of m →
        Turned undo (part_of pass (between f l i j)) xs ys → Turned undo (part_of pass (of_index f l j)) ys zs → Turned undo (part_of pass (between f l i k)) xs zs
    window_more i j k h n q d e =
        subst (λ x. Turned undo (part_of pass (between f l i x)) xs zs) (sym n)
        (windows_joined (within i j) (λ x. eqb x j) (within i (j + 2)) (Alike j) (λ x p. p ∙ sym q) (one_more i j h) d e)

    pub window_joined : (i j e : ℕ) → i ≤ j → j ≤ e →
        Turned undo (part_of pass (between f l i j)) xs ys → Turned undo (part_of pass (between f l j e)) ys zs → Turned undo (part_of pass (between f l i e)) xs zs
    window_joined i j e h g d b = windows_joined (within i j) (within j e) (within i e) (λ x. Unit {0}) (λ x p. tt) (runs_joined i j e h g _) d b

-- the same of a step that is carried out, by positions
module _ (undo : Bool) (t : Turn) (xs ys zs : List ℤ) (long : Sized t xs) where
  many : 2 ≤ count_of t.on_lines.lifting.shape (plain_lift t.on_lines.lifting.lift)
  many = subst (λ n. 2 ≤ n) t.on_lines.lined.count t.on_lines.many

  pub positions_more : (i j : ℕ) → i ≤ j → Hits t j → TurnedAt undo t (from_to t i j) xs ys → TurnedAt undo t (at_position t j) ys zs → TurnedAt undo t (from_to t i (j + 2)) xs zs
  positions_more i j h q d e =
      window_more t.on_lines.lifting.shape (plain_lift t.on_lines.lifting.lift) t.parity (plain_step t.step) t.on_lines.lifting.room many undo xs ys zs long (t.on_lines.lines.first + i) (t.on_lines.lines.first + j) (t.on_lines.lines.first + (j + 2))
      (omega arith) (omega arith) q d e

  pub positions_joined : (i j e : ℕ) → i ≤ j → j ≤ e → TurnedAt undo t (from_to t i j) xs ys → TurnedAt undo t (from_to t j e) ys zs → TurnedAt undo t (from_to t i e) xs zs
  positions_joined i j e h g d b =
      window_joined t.on_lines.lifting.shape (plain_lift t.on_lines.lifting.lift) t.parity (plain_step t.step) t.on_lines.lifting.room many undo xs ys zs long (t.on_lines.lines.first + i) (t.on_lines.lines.first + j) (t.on_lines.lines.first + e)
      (omega arith) (omega arith) d b

-- an end that has not the parity of the step may be put off by one
pub positions_end : (undo : Bool) (t : Turn) (xs ys : List ℤ) (i j e : ℕ) → Hits t j → e ≤ j → j ≤ e + 1 → TurnedAt undo t (from_to t i j) xs ys → TurnedAt undo t (from_to t i e) xs ys
positions_end undo t xs ys i j e q low high d =
    window_end t.on_lines.lifting.shape (plain_lift t.on_lines.lifting.lift) t.parity (plain_step t.step) undo (t.on_lines.lines.first + i) (t.on_lines.lines.first + j) (t.on_lines.lines.first + e) xs ys q (omega arith) (omega arith) d

-- all positions, from the first of the parity on
pub positions_all : (undo : Bool) (t : Turn) (p : ℕ) (xs ys : List ℤ) → Sized t xs → p ≡ parity_of t.parity → p ≤ 1 → TurnedAt undo t (from_to t ((t.on_lines.lines.first + p) % 2) t.on_lines.lines.count) xs ys → Turned undo (pass_of t) xs ys
positions_all undo t p xs ys long e small d = window_lines t.on_lines.lifting.shape (plain_lift t.on_lines.lifting.lift) t.parity (plain_step t.step) t.on_lines.lines p undo xs ys t.on_lines.lined long e small d
