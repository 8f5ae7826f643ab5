-- Areas by place: an address is a channel and a time, and an area is known by its samples.
use Rattle.std.proofs.Common.{◌≡◌, ℕ, zero, suc, ◌+◌, ◌*◌, ◌/◌, ◌%◌, ◌<◌, List, length, ℤ, pos, sym, ap, ◌∙◌, mul-zero, arith}
use Rattle.std.proofs.lemmas.Nat.{mul-add-lt, div-mul-add, mod-mul-add, div-add-mod', div_below, mod_below}
use Rattle.std.proofs.lemmas.List.FromFn.{length-map-range_with_len, get_or-map-range_with_len}
use Rattle.std.proofs.lemmas.List.{ext_get_or}
use Rattle.sets.specs.declared.shape.Shape.{Shape}
use Rattle.sets.specs.Areas.{size_of, at, sample_at, area_of}

-- the address of sample t of channel c
module _ (f : Shape) (c t : ℕ) (h : c < f.channels) (k : t < f.samples) where
  pub address_below : c * f.samples + t < size_of f
  address_below = omega (arith, mul-add-lt c f.samples t f.channels h k)

  pub address_channel : (c * f.samples + t) / f.samples ≡ c
  address_channel = div-mul-add c f.samples t k

  pub address_time : (c * f.samples + t) % f.samples ≡ t
  address_time = mod-mul-add c f.samples t k

factor_some : (n m a : ℕ) → a < n * m → 0 < m
factor_some n zero a h = absurd (omega (arith, mul-zero n))
factor_some n (suc m) a h = omega arith

-- the channel and the time of an address
module _ (f : Shape) (a : ℕ) where
  pub address_split : (a / f.samples) * f.samples + a % f.samples ≡ a
  address_split = div-add-mod' a f.samples

  pub some_samples : a < size_of f → 0 < f.samples
  some_samples h = factor_some f.channels f.samples a h

  pub channel_below : a < size_of f → a / f.samples < f.channels
  channel_below h = div_below a f.samples f.channels (some_samples h) h

  pub time_below : a < size_of f → a % f.samples < f.samples
  time_below h = mod_below a f.samples (some_samples h)

  -- what stands at an address is a sample
  pub at-sample : (xs : List ℤ) → sample_at f xs (a / f.samples) (a % f.samples) ≡ at xs a
  at-sample xs = ap (at xs) address_split

-- the area of a function
module _ (f : Shape) (g : ℕ → ℕ → ℤ) where
  pub length-area : length (area_of f g) ≡ size_of f
  unfolding area_of
  length-area = length-map-range_with_len _ 0 (size_of f)

  pub at-area : (a : ℕ) → a < size_of f → at (area_of f g) a ≡ g (a / f.samples) (a % f.samples)
  unfolding area_of
  at-area a h = get_or-map-range_with_len _ 0 (size_of f) a a (pos 0) h (omega arith)

  pub sample_area : (c t : ℕ) → c < f.channels → t < f.samples → sample_at f (area_of f g) c t ≡ g c t
  sample_area c t h k = at-area (c * f.samples + t) (address_below f c t h k) ∙ (λ i. g (address_channel f c t h k i) (address_time f c t h k i))

-- two areas with the same samples are equal
pub same-areas : (f : Shape) (xs ys : List ℤ) → length xs ≡ size_of f → length ys ≡ size_of f → ((c t : ℕ) → c < f.channels → t < f.samples → sample_at f xs c t ≡ sample_at f ys c t) → xs ≡ ys
same-areas f xs ys l m same =
    ext_get_or (pos 0) xs ys (l ∙ sym m)
    (λ a h. let b : a < size_of f = omega arith in
    sym (at-sample f a xs) ∙ same (a / f.samples) (a % f.samples) (channel_below f a b) (time_below f a b) ∙ at-sample f a ys)
