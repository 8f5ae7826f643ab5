-- Rows, steps, liftings, shapes, bounds and requests with the same numbers are the same.
use Rattle.std.proofs.Common.{◌≡◌, ℕ, List, [], ℤ}
use Rattle.sets.specs.declared.bounds.Bounds.{Bounds}
use Rattle.sets.specs.declared.shape.Shape.{Shape}
use Rattle.stages.specs.declared.stage.Axis.{Axis}
use Rattle.stages.specs.declared.stage.Extension.{Extension}
use Rattle.stages.specs.declared.stage.Parity.{Parity}
use Rattle.recipe.specs.Requests.{PlainRequest}
use Rattle.stages.specs.Plain.{Plain, PlainStep, PlainRow, lift}

pub alike_rows : {e e' : ℕ} {r r' : ℤ} {ts ts' : List ℤ} → e ≡ e' → r ≡ r' → ts ≡ ts' → ◌≡◌ {A = PlainRow} (record { exponent = e; residue = r; taps = ts }) (record { exponent = e'; residue = r'; taps = ts' })
alike_rows p q t = cc

pub alike_steps : {o o' : ℤ} {e e' : ℕ} {r r' : ℤ} {ts ts' : List ℤ} → o ≡ o' → e ≡ e' → r ≡ r' → ts ≡ ts' → ◌≡◌ {A = PlainStep} (record { offset = o; exponent = e; residue = r; taps = ts }) (record { offset = o'; exponent = e'; residue = r'; taps = ts' })
alike_steps s p q t = cc

pub alike_lifts : {a a' : Axis} {f f' c c' l l' : ℕ} {x x' : Extension} {p p' : Parity} → a ≡ a' → f ≡ f' → c ≡ c' → l ≡ l' → x ≡ x' → p ≡ p' → ◌≡◌ {A = Plain} (lift (record { axis = a; first = f; count = c; level = l; extension = x; parity = p }) []) (lift (record { axis = a'; first = f'; count = c'; level = l'; extension = x'; parity = p' }) [])
alike_lifts h1 h2 h3 h4 h5 h6 = cc

pub alike_shapes : {c c' s s' o o' : ℕ} → c ≡ c' → s ≡ s' → o ≡ o' → ◌≡◌ {A = Shape} (record { channels = c; samples = s; origin = o }) (record { channels = c'; samples = s'; origin = o' })
alike_shapes h1 h2 h3 = cc

pub alike_bounds : {l l' g g' : ℤ} → l ≡ l' → g ≡ g' → ◌≡◌ {A = Bounds} (record { least = l; greatest = g }) (record { least = l'; greatest = g' })
alike_bounds h1 h2 = cc

pub alike_requests : {f f' : Shape} {b b' : Bounds} {ts : List Plain} → f ≡ f' → b ≡ b' → ◌≡◌ {A = PlainRequest} (record { shape = f; span = b; stages = ts }) (record { shape = f'; span = b'; stages = ts })
alike_requests h1 h2 = cc
