-- The SET line, from its text and back.
use Rattle.std.proofs.Common.{◌≡◌, ℕ, suc, ◌<◌, ◌≤◌, Bool, true, false, cond, leb, List, [], ◌∷◌, length, take, ℤ, pos, negsuc, ◌≤ℤ◌, Some, None, codes, decimal, Option, sym, refl, ap, ◌∙◌, subst, arith}
use Rattle.std.specs.Fmt.{signed_decimal}
use Rattle.std.specs.List.{AllByRecursion}
use Rattle.std.proofs.lemmas.Int.{ints}
use Rattle.std.proofs.lemmas.Bool.{eqb-true, leb-true, le-leb, and_parts, and_from}
use Rattle.sets.specs.declared.bounds.Bounds.{Bounds}
use Rattle.sets.specs.declared.shape.Shape.{Shape}
use Rattle.sets.specs.Sets.{in_limits}
use Rattle.std.proofs.lemmas.Option.{none-some}
use Rattle.recipe.specs.declared.fault.Cause.TheVariants.{WordDue, FieldCount}
use Rattle.recipe.specs.declared.fault.Fault.{Fault}
use Rattle.recipe.specs.Fields.{value_of}
use Rattle.recipe.specs.Grammar.{fault_at, form_fault, begun}
use Rattle.recipe.specs.Requests.{set_fault, shape_from, span_from}
use Rattle.recipe.specs.Rules.{Form, set, between, same, wrong, field, first_wrong, has_fields, rules_of}
use Rattle.recipe.specs.RequestLaws.{set_line, LawfulBounds}
use Rattle.recipe.proofs.Parting.{Free}
use Rattle.recipe.proofs.Figures.{Small, within-from-fits, fits-from-within, within-value, within-free, natural-from-fits, fits-from-natural, free_natural, same_true}
use Rattle.recipe.proofs.Rulings.{Fits}
use Rattle.recipe.proofs.LineForms.{Kept, kept_from_fits, fits-from-kept, number_of}
use Rattle.recipe.proofs.Places.{kept_from_none, none_from_kept}
use Rattle.recipe.proofs.Completing.{free_word}
use Rattle.recipe.proofs.Pointing.{named_line}
use Rattle.recipe.proofs.Deciding.{form_decides, fields_alike}

-- the form of the first line, if it begins with the word that is due
abbrev set_due : List ℕ → Option Form
set_due w = cond (same w (codes "SET")) (Some set) None

-- the fault of the SET line is that of a line of its form
set_is_form : (fs : List (List ℕ)) → set_fault fs ≡ form_fault begun 1 fs (set_due (field fs 0))
unfolding set_fault
set_is_form fs = by (same (field fs 0) (codes "SET"))
  where
    by : (b : Bool) → cond b (cond (has_fields set (length fs)) (first_wrong 1 fs 1 (rules_of set fs)) (fault_at FieldCount 1)) (fault_at WordDue 1) ≡ form_fault begun 1 fs (cond b (Some set) None)
    by true = refl
    by false = refl

-- the limits of a shape, one by one
pub record Limits (f : Shape) : Type 0 where
  pub channel : 1 ≤ f.channels
  pub channels : f.channels ≤ 64
  pub sample : 1 ≤ f.samples
  pub samples : f.samples ≤ 1048576
  pub origin : f.origin ≤ 1048575

in-limits : (f : Shape) → Limits f → in_limits f ≡ true
in-limits f h =
    and_from (leb 1 f.channels) _ (le-leb 1 f.channels h.channel)
    (and_from (leb f.channels 64) _ (le-leb f.channels 64 h.channels)
    (and_from (leb 1 f.samples) _ (le-leb 1 f.samples h.sample)
    (and_from (leb f.samples 1048576) _ (le-leb f.samples 1048576 h.samples) (le-leb f.origin 1048575 h.origin))))

limits_in : (f : Shape) → in_limits f ≡ true → Limits f
limits_in f h =
    let a = and_parts (leb 1 f.channels) _ h in
    let b = and_parts (leb f.channels 64) _ a.1 in
    let c = and_parts (leb 1 f.samples) _ b.1 in
    let d = and_parts (leb f.samples 1048576) (leb f.origin 1048575) c.1 in
    record {
      channel = leb-true 1 f.channels a.0;
      channels = leb-true f.channels 64 b.0;
      sample = leb-true 1 f.samples c.0;
      samples = leb-true f.samples 1048576 d.0;
      origin = leb-true f.origin 1048575 d.1;
    }

pub record SetRead (fs : List (List ℕ)) : Type 0 where
  pub shape : in_limits (shape_from fs) ≡ true
  pub span : LawfulBounds (span_from fs)
  pub text : fs ≡ set_line (shape_from fs) (span_from fs)

least_small : Small (negsuc 2147483647) (pos 2147483647)
least_small = record { low = omega (arith, ints); high = omega (arith, ints) }

greatest_small : (z : ℤ) → negsuc 2147483647 ≤ℤ z → Small z (pos 2147483647)
greatest_small z h = record { low = h; high = omega (arith, ints) }

set_read : (gs : List (List ℕ)) → Fits (rules_of set (codes "SET" ∷ gs)) gs → SetRead (codes "SET" ∷ gs)
set_read [] h = absurd h
set_read (c ∷ []) h = absurd h.1
set_read (c ∷ t ∷ []) h = absurd h.1.1
set_read (c ∷ t ∷ u ∷ []) h = absurd h.1.1.1
set_read (c ∷ t ∷ u ∷ l ∷ []) h = absurd h.1.1.1.1
set_read (c ∷ t ∷ u ∷ l ∷ g ∷ x ∷ xs) h = absurd h.1.1.1.1.1
set_read (c ∷ t ∷ u ∷ l ∷ g ∷ []) h =
    let pc = natural-from-fits 1 64 c (omega arith) h.0 in
    let pt = natural-from-fits 1 1048576 t (omega arith) h.1.0 in
    let pu = natural-from-fits 0 1048575 u (omega arith) h.1.1.0 in
    let pl = within-from-fits (negsuc 2147483647) (pos 2147483647) l least_small h.1.1.1.0 in
    let pg = within-from-fits (value_of l) (pos 2147483647) g (greatest_small (value_of l) pl.low) h.1.1.1.1.0 in
    record {
      shape = in-limits _ (record { channel = pc.low; channels = pc.high; sample = pt.low; samples = pt.high; origin = pu.high });
      span = record { low = pl.low; ordered = pg.low; high = pg.high };
      text = λ i. codes "SET" ∷ pc.text i ∷ pt.text i ∷ pu.text i ∷ pl.text i ∷ pg.text i ∷ [];
    }

set_from_kept : (gs : List (List ℕ)) → Kept set 1 (codes "SET" ∷ gs) → SetRead (codes "SET" ∷ gs)
set_from_kept gs h =
    let many = eqb-true (suc (length gs)) 6 h.fields in
    set_read gs (fits-from-kept set 1 (codes "SET") gs (omega arith) h)

-- a first line without fault is a SET line
pub set_from_none : (fs : List (List ℕ)) → 1 ≤ length fs → set_fault fs ≡ None → SetRead fs
set_from_none [] some h = absurd (omega arith)
set_from_none (w ∷ gs) some none = by (same w (codes "SET")) refl (sym (set_is_form (w ∷ gs)) ∙ none)
  where
    by : (b : Bool) → same w (codes "SET") ≡ b → form_fault begun 1 (w ∷ gs) (cond b (Some set) None) ≡ None → SetRead (w ∷ gs)
    by true e h = subst (λ v. Kept set 1 (v ∷ gs) → SetRead (v ∷ gs)) (sym (same_true w (codes "SET") e)) (set_from_kept gs) (kept_from_none begun 1 (w ∷ gs) set h).1
    by false e h = absurd (none-some _ (sym h))

module _ (f : Shape) (b : Bounds) (shape : in_limits f ≡ true) (span : LawfulBounds b) where
  least_most : b.least ≤ℤ pos 2147483647
  least_most = omega (arith, ints, span.ordered, span.high)

  least_value : value_of (signed_decimal b.least) ≡ b.least
  least_value = within-value (negsuc 2147483647) (pos 2147483647) b.least least_small span.low least_most

  pub none_from_set : set_fault (set_line f b) ≡ None
  none_from_set =
      let s = limits_in f shape in
      let pg = fits-from-within b.least (pos 2147483647) b.greatest (greatest_small b.least span.low) span.ordered span.high in
      let kept = kept_from_fits set 1 (codes "SET") (decimal f.channels ∷ decimal f.samples ∷ decimal f.origin ∷ signed_decimal b.least ∷ signed_decimal b.greatest ∷ []) refl (
        fits-from-natural 1 64 f.channels (omega arith) s.channel s.channels,
        (
          fits-from-natural 1 1048576 f.samples (omega arith) s.sample s.samples,
          (
            fits-from-natural 0 1048575 f.origin (omega arith) (omega arith) s.origin,
            (
              fits-from-within (negsuc 2147483647) (pos 2147483647) b.least least_small span.low least_most,
              (subst (λ z. wrong (between z (pos 2147483647)) (signed_decimal b.greatest) ≡ None) (sym least_value) pg, tt),
            ),
          ),
        ),
      ) in
      set_is_form (set_line f b) ∙ none_from_kept begun 1 (set_line f b) set refl kept

  pub shape_of_line : shape_from (set_line f b) ≡ f
  shape_of_line =
      let s = limits_in f shape in
      let pc = number_of f.channels (omega (arith, s.channels)) in
      let pt = number_of f.samples (omega (arith, s.samples)) in
      let pu = number_of f.origin (omega (arith, s.origin)) in
      λ i. record { channels = pc i; samples = pt i; origin = pu i }

  pub span_of_line : span_from (set_line f b) ≡ b
  span_of_line =
      let pg = within-value b.least (pos 2147483647) b.greatest (greatest_small b.least span.low) span.ordered span.high in
      λ i. record { least = least_value i; greatest = pg i }

  pub free_set : (s : ℕ) → s < 45 → AllByRecursion (Free s) (set_line f b)
  free_set s low =
      let l = limits_in f shape in
      (free_word s (codes "SET") low refl, (free_natural s f.channels low (omega (arith, l.channels)), (free_natural s f.samples low (omega (arith, l.samples)), (free_natural s f.origin low (omega (arith, l.origin)), (within-free s (negsuc 2147483647) (pos 2147483647) b.least low least_small span.low least_most, (within-free s b.least (pos 2147483647) b.greatest low (greatest_small b.least span.low) span.ordered span.high, tt))))))

-- the fault names line 1 and one of its fields
pub set_named : (fs : List (List ℕ)) (f : Fault) → set_fault fs ≡ Some f → (f.line ≡ 1) × (1 ≤ f.field)
set_named fs f h = named_line begun 1 fs f (set_due (field fs 0)) (sym (set_is_form fs) ∙ h)

-- a first line that goes alike up to the field at fault is at fault too
pub set_decides : (fs gs : List (List ℕ)) (f : Fault) → (f.cause ≡ FieldCount → ⊥) → take f.field gs ≡ take f.field fs → set_fault fs ≡ Some f → set_fault gs ≡ None → ⊥
set_decides fs gs f but same h k =
    let named = (set_named fs f h).1 in
    let word = fields_alike fs gs f.field 0 same (omega arith) in
    form_decides begun 1 fs gs f (set_due (field fs 0)) but same (sym (set_is_form fs) ∙ h) (ap (λ w. form_fault begun 1 gs (set_due w)) word ∙ sym (set_is_form gs) ∙ k)
