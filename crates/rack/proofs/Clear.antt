-- What is known where a call is refused nothing, and where a stage is ready.
use Rattle.std.proofs.Common.{◌≡◌, ℕ, ◌≤◌, true, List, length, None, Option, mul-le-mul, arith}
use Rattle.std.specs.Prelude.{unwrap_or}
use Rattle.std.proofs.lemmas.Bool.Decides.{nat_tests}
use Rattle.sets.specs.declared.bounds.Bounds.{Bounds}
use Rattle.sets.specs.declared.refusal.Refusal.{Refusal}
use Rattle.sets.specs.declared.shape.Shape.{Shape}
use Rattle.sets.specs.Areas.{size_of}
use Rattle.sets.specs.Sets.{in_limits}
use Rattle.rack.specs.Calls.{stage_refused, width_refused, list_refused, spans_refused, area_refused}
use Rattle.rack.specs.Meanings.{Meaning, Suits, Ready}

-- the limits of a shape
pub record Limits (f : Shape) : Type 0 where
  pub some : 1 ≤ f.channels
  pub channels : f.channels ≤ 64
  pub long : 1 ≤ f.samples
  pub samples : f.samples ≤ 1048576
  pub origin : f.origin ≤ 1048575

pub limits : (f : Shape) → in_limits f ≡ true → Limits f
limits f e = record {
  some = grind (arith, nat_tests);
  channels = grind (arith, nat_tests);
  long = grind (arith, nat_tests);
  samples = grind (arith, nat_tests);
  origin = grind (arith, nat_tests);
}

pub limits_from : (f : Shape) → Limits f → in_limits f ≡ true
limits_from f l = grind (arith, nat_tests, l.some, l.channels, l.long, l.samples, l.origin)

pub size_limit : (f : Shape) → in_limits f ≡ true → size_of f ≤ 67108864
size_limit f e = let l = limits f e in mul-le-mul {n₂ = 64} l.channels l.samples

-- a stage that is not refused can be asked for, and the other way round
pub suits_from_none : (m : Meaning) (f : Shape) (k : ℕ) (rest : Option Refusal) → in_limits f ≡ true → stage_refused m f k rest ≡ None → Suits m f k × (rest ≡ None)
suits_from_none m f k rest shape h = (record { shape = shape; below = grind (arith, nat_tests); fit = grind (arith, nat_tests) }, grind (arith, nat_tests))

pub stage_unrefused : (m : Meaning) (f : Shape) (k : ℕ) (rest : Option Refusal) → Suits m f k → stage_refused m f k rest ≡ rest
stage_unrefused m f k rest s = grind (arith, nat_tests, s.below, s.fit)

-- the stage and the width of its spans refuse nothing
ready_from_none : (m : Meaning) (f : Shape) (k : ℕ) (bs : List Bounds) → in_limits f ≡ true → length bs ≡ f.channels → stage_refused m f k (width_refused m f k bs) ≡ None → Ready m f k bs (unwrap_or (m.widened f k bs) bs)
ready_from_none m f k bs shape many h =
    let suits = suits_from_none m f k (width_refused m f k bs) shape h in
    record { suits = suits.0; many = many; makes = grind (arith, suits.1) }

-- where list, spans, apply or undo are refused nothing, what they ask for holds
pub list_clear : (m : Meaning) (f : Shape) (k : ℕ) → list_refused m f k ≡ None → Suits m f k
unfolding list_refused
list_clear m f k h = (suits_from_none m f k None (grind arith) (grind arith)).0

pub spans_clear : (m : Meaning) (f : Shape) (k : ℕ) (bs : List Bounds) → spans_refused m f k bs ≡ None → Ready m f k bs (unwrap_or (m.widened f k bs) bs)
unfolding spans_refused
spans_clear m f k bs h = ready_from_none m f k bs (grind arith) (grind (arith, nat_tests)) (grind arith)

pub record AreaClear (m : Meaning) (f : Shape) (k : ℕ) (bs : List Bounds) (n : ℕ) : Type 0 where
  pub ready : Ready m f k bs (unwrap_or (m.widened f k bs) bs)
  pub long : n ≡ size_of f

pub area_clear : (m : Meaning) (f : Shape) (k : ℕ) (bs : List Bounds) (n : ℕ) → area_refused m f k bs n ≡ None → AreaClear m f k bs n
unfolding area_refused
area_clear m f k bs n h = record {
  ready = record {
    suits = record { shape = grind (arith, nat_tests); below = grind (arith, nat_tests); fit = grind (arith, nat_tests) };
    many = grind (arith, nat_tests);
    makes = grind (arith, nat_tests);
  };
  long = grind (arith, nat_tests);
}

-- and where it holds they are refused nothing
pub list_unrefused : (m : Meaning) (f : Shape) (k : ℕ) → Suits m f k → list_refused m f k ≡ None
unfolding list_refused
list_unrefused m f k s = rw s.shape (stage_unrefused m f k None s)

pub spans_unrefused : (m : Meaning) (f : Shape) (k : ℕ) (bs cs : List Bounds) → Ready m f k bs cs → spans_refused m f k bs ≡ None
unfolding spans_refused
spans_unrefused m f k bs cs r = grind (arith, nat_tests, r.suits.shape, r.suits.below, r.suits.fit, r.many, r.makes)

pub area_unrefused : (m : Meaning) (f : Shape) (k : ℕ) (bs cs : List Bounds) (n : ℕ) → Ready m f k bs cs → n ≡ size_of f → area_refused m f k bs n ≡ None
unfolding area_refused
area_unrefused m f k bs cs n r long = grind (arith, nat_tests, r.suits.shape, r.suits.below, r.suits.fit, r.many, r.makes)
