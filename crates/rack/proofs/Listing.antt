-- The list of a stage's channels, one channel after another.
use Rattle.std.proofs.Common.{◌≡◌, ℕ, ◌+◌, ◌<◌, true, false, List, length, set, refl, inl, inr, arith}
use Rattle.std.proofs.lemmas.Bool.{cases_eq}
use Rattle.std.proofs.lemmas.Grind.{common_steps}
use Rattle.sets.specs.declared.shape.Shape.{Shape}
use Rattle.rack.specs.Calls.{Listed}
use Rattle.rack.specs.Meanings.{Meaning}

pub listed_none : (m : Meaning) (f : Shape) (k : ℕ) (before : List ℕ) → Listed m f k 0 before before 0
listed_none m f k before =
    record {
      few = omega arith;
      listed = λ i h. absurd (omega arith);
      once = λ i j h l. absurd (omega arith);
      all = λ c h. absurd (omega arith);
      rest = λ i h. refl;
    }

-- a channel that is not listed
pub listed_skip : (m : Meaning) (f : Shape) (k c : ℕ) (before after : List ℕ) (n : ℕ) → Listed m f k c before after n → false ≡ m.listed f k c → Listed m f k (c + 1) before after n
listed_skip m f k c before after n l e =
    record {
      few = omega (arith, l.few);
      listed = λ i h. grind (arith, l.listed i h);
      once = l.once;
      all = λ d h y. l.all d (grind arith) y;
      rest = l.rest;
    }

-- a channel that is listed, written after the others
pub listed_more : (m : Meaning) (f : Shape) (k c : ℕ) (before after : List ℕ) (n : ℕ) → n < length after → Listed m f k c before after n → true ≡ m.listed f k c → Listed m f k (c + 1) before (set after n c) (n + 1)
listed_more m f k c before after n room l e =
    record {
      few = omega (arith, l.few);
      listed = λ i h. grind (arith, common_steps, l.listed i);
      once = λ i j h g. grind (arith, common_steps, l.once i j, l.listed i);
      all = λ d h y. elim (cases_eq d c) [
        | inl q ↦ (n, omega arith, grind (arith, common_steps))
        | inr q ↦ let p = l.all d (omega (arith, q)) y in (p.0, omega (arith, p.1), grind (arith, common_steps))
      ];
      rest = λ i h. grind (arith, common_steps, l.rest i);
    }
