-- What sums and hulls of bounds hold, and sets within spans by address.
use Rattle.std.proofs.Common.{◌≡◌, ℕ, zero, suc, ◌/◌, ◌<◌, List, length, ℤ, ◌+ℤ◌, sym, refl, ap, arith}
use Rattle.std.proofs.lemmas.Int.{ints, clamps}
use Rattle.sets.specs.declared.bounds.Bounds.{Bounds}
use Rattle.sets.specs.declared.shape.Shape.{Shape}
use Rattle.sets.specs.Areas.{In, Within, size_of, span_at, at}
use Rattle.stages.specs.Ranges.{raised, hull}
use Rattle.rules.proofs.ByPlace.{same_in}
use Rattle.rules.proofs.Places.{address_below, address_channel, channel_below, time_below, at-sample}

pub raised-in : (b d : Bounds) (x y : ℤ) → In b x → In d y → In (raised b d) (x +ℤ y)
raised-in b d x y i j = record { low = omega (arith, ints); high = omega (arith, ints) }

pub hull-left : (b d : Bounds) (x : ℤ) → In b x → In (hull b d) x
hull-left b d x i = record { low = omega (arith, ints, clamps); high = omega (arith, ints, clamps) }

pub hull-right : (b d : Bounds) (x : ℤ) → In d x → In (hull b d) x
hull-right b d x i = record { low = omega (arith, ints, clamps); high = omega (arith, ints, clamps) }

-- the hull of two slots holds what either does
pub two_hold : (bs : List Bounds) (j : ℕ) (x : ℤ) → j < 2 → In (span_at bs j) x → In (hull (span_at bs 0) (span_at bs 1)) x
two_hold bs zero x h i = hull-left _ _ x i
two_hold bs (suc zero) x h i = hull-right (span_at bs 0) (span_at bs 1) x i
two_hold bs (suc (suc j)) x h i = absurd (omega arith)

module _ (f : Shape) (bs : List Bounds) (xs : List ℤ) where
  pub within-at : Within f bs xs → (a : ℕ) → a < size_of f → In (span_at bs (a / f.samples)) (at xs a)
  within-at w a h = same_in _ _ _ _ refl (sym (at-sample f a xs)) (w.inside (a / f.samples) _ (channel_below f a h) (time_below f a h))

  pub within-from : length xs ≡ size_of f → ((a : ℕ) → a < size_of f → In (span_at bs (a / f.samples)) (at xs a)) → Within f bs xs
  within-from e i = record {
    long = e;
    inside = λ c t h k. same_in _ _ _ _ (sym (ap (span_at bs) (address_channel f c t h k))) refl (i _ (address_below f c t h k));
  }
