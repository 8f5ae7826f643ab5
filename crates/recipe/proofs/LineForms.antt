-- The fields of each form of a line, from the text and back.
use Rattle.std.proofs.Common.{◌≡◌, ℕ, zero, suc, ◌+◌, ◌-◌, ◌≤◌, min, true, leb, ◌⊎◌, List, [], ◌∷◌, map, length, replicate, pos, negsuc, nat_abs, None, codes, decimal, sym, refl, ap, ◌∙◌, subst, inl, inr, arith}
use Rattle.std.specs.Fmt.{signed_decimal}
use Rattle.std.specs.List.{AllByRecursion}
use Rattle.std.proofs.lemmas.List.{length-map, length-replicate}
use Rattle.std.proofs.lemmas.Bool.{eqb-true, eq-eqb, leb-true, le-leb, and_parts, and_from}
use Rattle.stages.specs.Channels.{half_of}
use Rattle.stages.specs.declared.stage.Axis.{Axis}
use Rattle.stages.specs.declared.stage.Axis.TheVariants.{Time, Channel}
use Rattle.stages.specs.declared.stage.Extension.{Extension}
use Rattle.stages.specs.declared.stage.Extension.TheVariants.{Mirrored, Nearest}
use Rattle.stages.specs.declared.stage.Parity.{Parity}
use Rattle.stages.specs.declared.stage.Parity.TheVariants.{Even, Odd}
use Rattle.recipe.specs.Fields.{is_word, value_of}
use Rattle.recipe.specs.Grammar.{natural, axis_of, extension_of, parity_from, numbers, lift_from, step_from, row_from}
use Rattle.stages.specs.Plain.{PlainStep, PlainRow, PlainLift}
use Rattle.recipe.specs.Rules.{Form, lift, step, dep, row, rct, between, listed, wrong, number, first_wrong, has_fields, rules_of, tap_rule}
use Rattle.recipe.specs.Written.{axis_word, extension_word, parity_number, lift_line, step_line, dep_line, row_line, rct_line, LawfulTap, LawfulStep, LawfulLift, LawfulRow}
use Rattle.recipe.proofs.Limits.{rest_limit, dep_limit}
use Rattle.recipe.proofs.Figures.{within-from-fits, fits-from-within, within-value, natural-from-fits, fits-from-natural, decimal_natural, listed_from_fits, offset_small, residue_small}
use Rattle.recipe.proofs.Rulings.{Fits, from_one, from_next, fits-from-none, none_from_fits, numbers-from, taps_from_fits, fits-from-taps, taps_values}

-- a line of the form g without fault
pub record Kept (g : Form) (line : ℕ) (fs : List (List ℕ)) : Type 0 where
  pub fields : has_fields g (length fs) ≡ true
  pub rules : first_wrong line fs 1 (rules_of g fs) ≡ None

pub kept_from_fits : (g : Form) (line : ℕ) (w : List ℕ) (gs : List (List ℕ)) → has_fields g (suc (length gs)) ≡ true → Fits (rules_of g (w ∷ gs)) gs → Kept g line (w ∷ gs)
kept_from_fits g line w gs e h = record { fields = e; rules = none_from_fits line (w ∷ gs) 1 (rules_of g (w ∷ gs)) gs (from_one w gs) h }

pub fits-from-kept : (g : Form) (line : ℕ) (w : List ℕ) (gs : List (List ℕ)) → length gs ≡ length (rules_of g (w ∷ gs)) → Kept g line (w ∷ gs) → Fits (rules_of g (w ∷ gs)) gs
fits-from-kept g line w gs e h = fits-from-none line (w ∷ gs) 1 (rules_of g (w ∷ gs)) gs (from_one w gs) e h.rules

axis_text : (a : List ℕ) → (a ≡ codes "T") ⊎ (a ≡ codes "C") → a ≡ axis_word (axis_of a)
axis_text a (inl e) = e ∙ ap (λ x. axis_word (axis_of x)) (sym e)
axis_text a (inr e) = e ∙ ap (λ x. axis_word (axis_of x)) (sym e)

extension_text : (a : List ℕ) → (a ≡ codes "WS") ⊎ (a ≡ codes "CON") → a ≡ extension_word (extension_of a)
extension_text a (inl e) = e ∙ ap (λ x. extension_word (extension_of x)) (sym e)
extension_text a (inr e) = e ∙ ap (λ x. extension_word (extension_of x)) (sym e)

parity-number : (n : ℕ) → n ≤ 1 → n ≡ parity_number (parity_from n)
parity-number zero h = refl
parity-number (suc zero) h = refl
parity-number (suc (suc n)) h = absurd (omega arith)

pub record LiftRead (fs : List (List ℕ)) : Type 0 where
  pub lawful : LawfulLift (lift_from fs)
  pub some : 1 ≤ natural fs 7
  pub few : natural fs 7 ≤ 4
  pub text : fs ≡ lift_line (lift_from fs) (natural fs 7)

lift_read : (gs : List (List ℕ)) → Fits (rules_of lift (codes "LIFT" ∷ gs)) gs → LiftRead (codes "LIFT" ∷ gs)
lift_read [] h = absurd h
lift_read (a ∷ []) h = absurd h.1
lift_read (a ∷ f ∷ []) h = absurd h.1.1
lift_read (a ∷ f ∷ c ∷ []) h = absurd h.1.1.1
lift_read (a ∷ f ∷ c ∷ v ∷ []) h = absurd h.1.1.1.1
lift_read (a ∷ f ∷ c ∷ v ∷ e ∷ []) h = absurd h.1.1.1.1.1
lift_read (a ∷ f ∷ c ∷ v ∷ e ∷ m ∷ []) h = absurd h.1.1.1.1.1.1
lift_read (a ∷ f ∷ c ∷ v ∷ e ∷ m ∷ n ∷ x ∷ xs) h = absurd h.1.1.1.1.1.1.1
lift_read (a ∷ f ∷ c ∷ v ∷ e ∷ m ∷ n ∷ []) h =
    let pa = axis_text a (listed_from_fits (codes "T") (codes "C") a h.0) in
    let pf = natural-from-fits 0 63 f (omega arith) h.1.0 in
    let left = rest_limit (value_of f) (nat_abs (value_of f)) pf.value (omega arith) in
    let pc = natural-from-fits 1 (64 - nat_abs (value_of f)) c (omega arith) (subst (λ z. wrong (between (pos 1) z) c ≡ None) left h.1.1.0) in
    let pv = natural-from-fits 0 15 v (omega arith) h.1.1.1.0 in
    let pe = extension_text e (listed_from_fits (codes "WS") (codes "CON") e h.1.1.1.1.0) in
    let pm = natural-from-fits 0 1 m (omega arith) h.1.1.1.1.1.0 in
    let pp = pm.text ∙ ap decimal (parity-number (nat_abs (value_of m)) pm.high) in
    let pn = natural-from-fits 1 4 n (omega arith) h.1.1.1.1.1.1.0 in
    record {
      lawful = record { some = pc.low; inside = omega (arith, pc.high, pf.high); shallow = pv.high };
      some = pn.low;
      few = pn.high;
      text = λ i. codes "LIFT" ∷ pa i ∷ pf.text i ∷ pc.text i ∷ pv.text i ∷ pe i ∷ pp i ∷ pn.text i ∷ [];
    }

pub lift_from_kept : (line : ℕ) (gs : List (List ℕ)) → Kept lift line (codes "LIFT" ∷ gs) → LiftRead (codes "LIFT" ∷ gs)
lift_from_kept line gs h =
    let many = eqb-true (suc (length gs)) 8 h.fields in
    lift_read gs (fits-from-kept lift line (codes "LIFT") gs (omega arith) h)

axis_listed : (a : Axis) → wrong (listed (codes "T" ∷ codes "C" ∷ [])) (axis_word a) ≡ None
unfolding wrong is_word
axis_listed Time = refl
axis_listed Channel = refl

extension_listed : (a : Extension) → wrong (listed (codes "WS" ∷ codes "CON" ∷ [])) (extension_word a) ≡ None
unfolding wrong is_word
extension_listed Mirrored = refl
extension_listed Nearest = refl

axis-of : (a : Axis) → axis_of (axis_word a) ≡ a
axis-of Time = refl
axis-of Channel = refl

extension-of : (a : Extension) → extension_of (extension_word a) ≡ a
extension-of Mirrored = refl
extension-of Nearest = refl

pub parity_few : (p : Parity) → parity_number p ≤ 1
parity_few Even = omega arith
parity_few Odd = omega arith

parity-of : (p : Parity) → parity_from (parity_number p) ≡ p
parity-of Even = refl
parity-of Odd = refl

-- the number of a written natural
pub number_of : (n : ℕ) → n ≤ 2147483647 → nat_abs (value_of (decimal n)) ≡ n
number_of n h = ap nat_abs (decimal_natural n h)

pub kept_from_lift : (line n : ℕ) (l : PlainLift) → LawfulLift l → 1 ≤ n → n ≤ 4 → Kept lift line (lift_line l n)
kept_from_lift line n l h some few =
    let fs = lift_line l n in
    let inside = h.inside in
    let left = rest_limit (number fs 2) l.first (decimal_natural l.first (omega (arith, h.inside))) (omega (arith, h.inside)) in
    let pc = fits-from-natural 1 (64 - l.first) l.count (omega arith) h.some (omega (arith, h.inside, h.some)) in
    kept_from_fits lift line (codes "LIFT") (axis_word l.axis ∷ decimal l.first ∷ decimal l.count ∷ decimal l.level ∷ extension_word l.extension ∷ decimal (parity_number l.parity) ∷ decimal n ∷ []) refl (
      axis_listed l.axis,
      (
        fits-from-natural 0 63 l.first (omega arith) (omega arith) (omega (arith, h.inside, h.some)),
        (
          subst (λ z. wrong (between (pos 1) z) (decimal l.count) ≡ None) (sym left) pc,
          (
            fits-from-natural 0 15 l.level (omega arith) (omega arith) h.shallow,
            (
              extension_listed l.extension,
              (
                fits-from-natural 0 1 (parity_number l.parity) (omega arith) (omega arith) (parity_few l.parity),
                (fits-from-natural 1 4 n (omega arith) some few, tt),
              ),
            ),
          ),
        ),
      ),
    )

pub lift_of_line : (n : ℕ) (l : PlainLift) → LawfulLift l → n ≤ 4 → (lift_from (lift_line l n) ≡ l) × (natural (lift_line l n) 7 ≡ n)
lift_of_line n l h few =
    let inside = h.inside in
    let pf = number_of l.first (omega (arith, h.inside)) in
    let pc = number_of l.count (omega (arith, h.inside)) in
    let pv = number_of l.level (omega (arith, h.shallow)) in
    let pp = ap parity_from (number_of (parity_number l.parity) (omega (arith, parity_few l.parity))) ∙ parity-of l.parity in (
      λ i. record { axis = axis-of l.axis i; first = pf i; count = pc i; level = pv i; extension = extension-of l.extension i; parity = pp i },
      number_of n (omega arith),
    )

pub record StepRead (fs : List (List ℕ)) : Type 0 where
  pub lawful : LawfulStep (step_from fs)
  pub text : fs ≡ step_line (step_from fs)

step-taps : (w o e r : List ℕ) (ts : List (List ℕ)) → numbers (w ∷ o ∷ e ∷ r ∷ ts) 4 (length (w ∷ o ∷ e ∷ r ∷ ts) - 4) ≡ map value_of ts
step-taps w o e r ts =
    let fs = w ∷ o ∷ e ∷ r ∷ ts in
    let n : length fs - 4 ≡ length ts = omega arith in
    ap (numbers fs 4) n ∙ numbers-from fs 4 ts (from_next fs 3 r ts (from_next fs 2 e (r ∷ ts) (from_next fs 1 o (e ∷ r ∷ ts) (from_one w (o ∷ e ∷ r ∷ ts)))))

step-read : (gs : List (List ℕ)) → has_fields step (suc (length gs)) ≡ true → Fits (rules_of step (codes "STEP" ∷ gs)) gs → StepRead (codes "STEP" ∷ gs)
step-read [] many h = absurd h
step-read (o ∷ []) many h = absurd h.1
step-read (o ∷ e ∷ []) many h = absurd h.1.1
step-read (o ∷ e ∷ r ∷ ts) many h =
    let fs = codes "STEP" ∷ o ∷ e ∷ r ∷ ts in
    let parts = and_parts (leb 5 (length fs)) (leb (length fs) 12) many in
    let least = leb-true 5 (length fs) parts.0 in
    let most = leb-true (length fs) 12 parts.1 in
    let po = within-from-fits (negsuc 7) (pos 8) o offset_small h.0 in
    let pe = natural-from-fits 0 16 e (omega arith) h.1.0 in
    let pr = within-from-fits (negsuc 65535) (pos 65536) r residue_small h.1.1.0 in
    let pt = taps_from_fits (length fs - 4) ts h.1.1.1 in
    let is = sym (step-taps (codes "STEP") o e r ts) in
    let count = length-map ts value_of in
    let some : 1 ≤ length (map value_of ts) = omega arith in
    let few : length (map value_of ts) ≤ 8 = omega arith in
    record {
      lawful = record {
        left = po.low;
        right = po.high;
        exponent = pe.high;
        low = pr.low;
        high = pr.high;
        some = subst (λ zs. 1 ≤ length zs) is some;
        few = subst (λ zs. length zs ≤ 8) is few;
        taps = subst (AllByRecursion LawfulTap) is pt.limits;
      };
      text = λ i. codes "STEP" ∷ po.text i ∷ pe.text i ∷ pr.text i ∷ (pt.text ∙ ap (map signed_decimal) is) i;
    }

pub step-from-kept : (line : ℕ) (gs : List (List ℕ)) → Kept step line (codes "STEP" ∷ gs) → StepRead (codes "STEP" ∷ gs)
step-from-kept line gs h =
    let least = leb-true 5 (suc (length gs)) (and_parts (leb 5 (suc (length gs))) _ h.fields).0 in
    let many = length-replicate (suc (length gs) - 4) tap_rule in
    step-read gs h.fields (fits-from-kept step line (codes "STEP") gs (omega arith) h)

pub kept_from_step : (line : ℕ) (s : PlainStep) → LawfulStep s → Kept step line (step_line s)
kept_from_step line s h =
    let some = h.some in
    let few = h.few in
    let fs = step_line s in
    let count = length-map s.taps signed_decimal in
    let n : length s.taps ≡ length fs - 4 = omega arith in
    kept_from_fits step line (codes "STEP") (signed_decimal s.offset ∷ decimal s.exponent ∷ signed_decimal s.residue ∷ map signed_decimal s.taps)
    (and_from (leb 5 (length fs)) (leb (length fs) 12) (le-leb 5 (length fs) (omega arith)) (le-leb (length fs) 12 (omega arith))) (
      fits-from-within (negsuc 7) (pos 8) s.offset offset_small h.left h.right,
      (
        fits-from-natural 0 16 s.exponent (omega arith) (omega arith) h.exponent,
        (
          fits-from-within (negsuc 65535) (pos 65536) s.residue residue_small h.low h.high,
          subst (λ k. Fits (replicate k tap_rule) (map signed_decimal s.taps)) n (fits-from-taps s.taps h.taps),
        ),
      ),
    )

pub step-of-line : (s : PlainStep) → LawfulStep s → step_from (step_line s) ≡ s
step-of-line s h =
    let po = within-value (negsuc 7) (pos 8) s.offset offset_small h.left h.right in
    let pe = number_of s.exponent (omega (arith, h.exponent)) in
    let pr = within-value (negsuc 65535) (pos 65536) s.residue residue_small h.low h.high in
    let pt = step-taps (codes "STEP") (signed_decimal s.offset) (decimal s.exponent) (signed_decimal s.residue) (map signed_decimal s.taps) ∙ taps_values s.taps h.taps in
    λ i. record { offset = po i; exponent = pe i; residue = pr i; taps = pt i }

pub record RowRead (n : ℕ) (fs : List (List ℕ)) : Type 0 where
  pub lawful : LawfulRow n (row_from fs)
  pub text : fs ≡ row_line (row_from fs)

row_taps : (w e : List ℕ) (ts : List (List ℕ)) → numbers (w ∷ e ∷ ts) 2 (length (w ∷ e ∷ ts) - 2) ≡ map value_of ts
row_taps w e ts =
    let fs = w ∷ e ∷ ts in
    let n : length fs - 2 ≡ length ts = omega arith in
    ap (numbers fs 2) n ∙ numbers-from fs 2 ts (from_next fs 1 e ts (from_one w (e ∷ ts)))

row_read : (n : ℕ) (gs : List (List ℕ)) → Fits (rules_of (row n) (codes "ROW" ∷ gs)) gs → RowRead n (codes "ROW" ∷ gs)
row_read n [] h = absurd h
row_read n (e ∷ ts) h =
    let pe = natural-from-fits 0 16 e (omega arith) h.0 in
    let pt = taps_from_fits n ts h.1 in
    let is = sym (row_taps (codes "ROW") e ts) in
    record {
      lawful = record { exponent = pe.high; residue = refl; count = subst (λ zs. length zs ≡ n) is (length-map ts value_of ∙ pt.count); taps = subst (AllByRecursion LawfulTap) is pt.limits };
      text = λ i. codes "ROW" ∷ pe.text i ∷ (pt.text ∙ ap (map signed_decimal) is) i;
    }

pub row_from_kept : (n line : ℕ) (gs : List (List ℕ)) → Kept (row n) line (codes "ROW" ∷ gs) → RowRead n (codes "ROW" ∷ gs)
row_from_kept n line gs h =
    let count = eqb-true (suc (length gs)) (2 + n) h.fields in
    let many = length-replicate n tap_rule in
    row_read n gs (fits-from-kept (row n) line (codes "ROW") gs (omega arith) h)

pub kept_from_row : (n line : ℕ) (r : PlainRow) → LawfulRow n r → Kept (row n) line (row_line r)
kept_from_row n line r h =
    let fs = row_line r in
    let count = length-map r.taps signed_decimal in
    let is = h.count in
    kept_from_fits (row n) line (codes "ROW") (decimal r.exponent ∷ map signed_decimal r.taps)
    (eq-eqb (length fs) (2 + n) (omega arith)) (
      fits-from-natural 0 16 r.exponent (omega arith) (omega arith) h.exponent,
      subst (λ k. Fits (replicate k tap_rule) (map signed_decimal r.taps)) is (fits-from-taps r.taps h.taps),
    )

pub row_of_line : (n : ℕ) (r : PlainRow) → LawfulRow n r → row_from (row_line r) ≡ r
row_of_line n r h =
    let pe = number_of r.exponent (omega (arith, h.exponent)) in
    let pr = ap (λ k. pos (half_of k)) pe ∙ sym h.residue in
    let pt = row_taps (codes "ROW") (decimal r.exponent) (map signed_decimal r.taps) ∙ taps_values r.taps h.taps in
    λ i. record { exponent = pe i; residue = pr i; taps = pt i }

pub record DepRead (fs : List (List ℕ)) : Type 0 where
  pub inside : natural fs 1 + natural fs 2 ≤ 64
  pub some : 2 ≤ natural fs 2
  pub few : natural fs 2 ≤ 8
  pub text : fs ≡ dep_line (natural fs 1) (natural fs 2)

dep_read : (gs : List (List ℕ)) → Fits (rules_of dep (codes "DEP" ∷ gs)) gs → DepRead (codes "DEP" ∷ gs)
dep_read [] h = absurd h
dep_read (f ∷ []) h = absurd h.1
dep_read (f ∷ n ∷ x ∷ xs) h = absurd h.1.1
dep_read (f ∷ n ∷ []) h =
    let pf = natural-from-fits 0 63 f (omega arith) h.0 in
    let left = dep_limit (value_of f) (nat_abs (value_of f)) _ pf.value (omega (arith, pf.high)) refl in
    let pn = natural-from-fits 2 (min 8 (64 - nat_abs (value_of f))) n (omega arith) (subst (λ z. wrong (between (pos 2) z) n ≡ None) left h.1.0) in
    record { inside = omega (arith, pn.high, pf.high); some = pn.low; few = omega (arith, pn.high); text = λ i. codes "DEP" ∷ pf.text i ∷ pn.text i ∷ [] }

pub dep_from_kept : (line : ℕ) (gs : List (List ℕ)) → Kept dep line (codes "DEP" ∷ gs) → DepRead (codes "DEP" ∷ gs)
dep_from_kept line gs h =
    let many = eqb-true (suc (length gs)) 3 h.fields in
    dep_read gs (fits-from-kept dep line (codes "DEP") gs (omega arith) h)

pub kept_from_dep : (line first n : ℕ) → first + n ≤ 64 → 2 ≤ n → n ≤ 8 → Kept dep line (dep_line first n)
kept_from_dep line first n inside some few =
    let left = dep_limit (value_of (decimal first)) first _ (decimal_natural first (omega arith)) (omega arith) refl in
    let pn = fits-from-natural 2 (min 8 (64 - first)) n (omega arith) some (omega arith) in
    kept_from_fits dep line (codes "DEP") (decimal first ∷ decimal n ∷ []) refl (
      fits-from-natural 0 63 first (omega arith) (omega arith) (omega arith),
      (subst (λ z. wrong (between (pos 2) z) (decimal n) ≡ None) (sym left) pn, tt),
    )

pub dep_of_line : (first n : ℕ) → first ≤ 64 → n ≤ 8 → (natural (dep_line first n) 1 ≡ first) × (natural (dep_line first n) 2 ≡ n)
dep_of_line first n small few = (number_of first (omega arith), number_of n (omega arith))

pub record RctRead (fs : List (List ℕ)) : Type 0 where
  pub inside : natural fs 1 ≤ 61
  pub text : fs ≡ rct_line (natural fs 1)

rct_read : (gs : List (List ℕ)) → Fits (rules_of rct (codes "RCT" ∷ gs)) gs → RctRead (codes "RCT" ∷ gs)
rct_read [] h = absurd h
rct_read (f ∷ x ∷ xs) h = absurd h.1
rct_read (f ∷ []) h =
    let pf = natural-from-fits 0 61 f (omega arith) h.0 in
    record { inside = pf.high; text = λ i. codes "RCT" ∷ pf.text i ∷ [] }

pub rct_from_kept : (line : ℕ) (gs : List (List ℕ)) → Kept rct line (codes "RCT" ∷ gs) → RctRead (codes "RCT" ∷ gs)
rct_from_kept line gs h =
    let many = eqb-true (suc (length gs)) 2 h.fields in
    rct_read gs (fits-from-kept rct line (codes "RCT") gs (omega arith) h)

pub kept_from_rct : (line first : ℕ) → first ≤ 61 → Kept rct line (rct_line first)
kept_from_rct line first h =
    kept_from_fits rct line (codes "RCT") (decimal first ∷ []) refl (fits-from-natural 0 61 first (omega arith) (omega arith) h, tt)

pub rct_of_line : (first : ℕ) → first ≤ 61 → natural (rct_line first) 1 ≡ first
rct_of_line first h = number_of first (omega arith)
