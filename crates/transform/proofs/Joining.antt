-- Parts of a pass that is blind to what it changes: carried out one after another they are their union.
use Rattle.std.proofs.Common.{◌≡◌, ℕ, ◌<◌, Bool, true, false, ◌&&◌, List, length, ℤ, pos, sym, refl, ◌∙◌, subst, ⊎_elim, arith, w32, SFits}
use Rattle.std.specs.Int.{int_wrap}
use Rattle.std.proofs.lemmas.List.{get_or_past}
use Rattle.std.proofs.lemmas.Bool.{cases_Bool, cases_lt, both_ways, and_parts, and_from, and_left, and_right}
use Rattle.sets.specs.Areas.{at}
use Rattle.rules.specs.Passes.{Pass, Blind}
use Rattle.transform.specs.Parts.{part_of}
use Rattle.transform.specs.Turned.{Turned, turned_by}

-- a part without any address that the pass changes
pub part_none : (undo : Bool) (p : Pass) (w : ℕ → Bool) (xs : List ℤ) → ((a : ℕ) → a < length xs → p.hits a ≡ true → w a ≡ false) → Turned undo (part_of p w) xs xs
part_none undo p w xs off = record {
  long = refl;
  hit = λ a h t. let b = and_parts (p.hits a) (w a) t in absurd (both_ways (w a) (off a h b.0) b.1);
  kept = λ a t. refl;
}

-- a part with every address that the pass changes
pub part_whole : (undo : Bool) (p : Pass) (w : ℕ → Bool) (xs ys : List ℤ) → ((a : ℕ) → a < length xs → p.hits a ≡ true → w a ≡ true) → Turned undo (part_of p w) xs ys → Turned undo p xs ys
part_whole undo p w xs ys on d = record {
  long = d.long;
  hit = λ a h t. d.hit a h (and_from (p.hits a) (w a) t (on a h t));
  kept = λ a t. d.kept a (and_left (p.hits a) (w a) t);
}

-- two parts that share what the pass changes
pub part_same : (undo : Bool) (p : Pass) (v w : ℕ → Bool) (xs ys : List ℤ) → ((a : ℕ) → a < length xs → p.hits a ≡ true → v a ≡ w a) → Turned undo (part_of p v) xs ys → Turned undo (part_of p w) xs ys
part_same undo p v w xs ys same d =
    let alike : (a : ℕ) → a < length xs → (p.hits a && v a) ≡ (p.hits a && w a) = λ a h. grind (arith, same a h) in
    record {
      long = d.long;
      hit = λ a h t. d.hit a h (alike a h ∙ t);
      kept = λ a t. ⊎_elim
          (λ h. d.kept a (alike a h ∙ t))
          (λ h. get_or_past ys a (pos 0) (omega (arith, d.long)) ∙ sym (get_or_past xs a (pos 0) h))
          (cases_lt a (length xs));
    }

-- the parts v and w one after another, where they share no address, and u has those of both
module _ (undo : Bool) (p : Pass) (v w u : ℕ → Bool) (xs ys zs : List ℤ) (blind : Blind (length xs) p)
    (apart : (a : ℕ) → p.hits a ≡ true → v a ≡ true → w a ≡ false)
    (of-v : (a : ℕ) → p.hits a ≡ true → v a ≡ true → u a ≡ true)
    (of-w : (a : ℕ) → p.hits a ≡ true → w a ≡ true → u a ≡ true)
    (of-u : (a : ℕ) → a < length xs → p.hits a ≡ true → u a ≡ true → v a ≡ false → w a ≡ true)
    (d : Turned undo (part_of p v) xs ys) (e : Turned undo (part_of p w) ys zs) where
  abbrev Made : ℕ → Type 0
  Made a = SFits w32 (at xs a) × (at zs a ≡ int_wrap w32 (turned_by undo (at xs a) (p.amount xs a)))

  -- an address of v is left alone by w
  made_first : (a : ℕ) → a < length xs → p.hits a ≡ true → v a ≡ true → Made a
  made_first a h t i =
      let r = d.hit a h (and_from (p.hits a) (v a) t i) in
      (r.0, e.kept a (and_right (p.hits a) (w a) (apart a t i)) ∙ r.1)

  -- at an address of w alone the sample and the amount are the same as before v
  made_next : (a : ℕ) → a < length xs → p.hits a ≡ true → v a ≡ false → w a ≡ true → Made a
  made_next a h t off i =
      let b : a < length ys = omega (arith, d.long) in
      let r = e.hit a b (and_from (p.hits a) (w a) t i) in
      let same : at ys a ≡ at xs a = d.kept a (and_right (p.hits a) (v a) off) in
      let amount : p.amount ys a ≡ p.amount xs a = blind ys xs d.long refl (λ x l n. d.kept x (and_left (p.hits x) (v x) n)) a h t in
      (subst (SFits w32) same r.0, r.1 ∙ (λ j. int_wrap w32 (turned_by undo (same j) (amount j))))

  kept_both : (a : ℕ) → (p.hits a && u a) ≡ false → at zs a ≡ at xs a
  kept_both a n = e.kept a (grind (arith, of-w a)) ∙ d.kept a (grind (arith, of-v a))

  pub parts_joined : Turned undo (part_of p u) xs zs
  parts_joined = record {
    long = e.long ∙ d.long;
    hit = λ a h t.
        let b = and_parts (p.hits a) (u a) t in
        ⊎_elim (λ i. made_first a h b.0 i) (λ i. made_next a h b.0 i (of-u a h b.0 b.1 i)) (cases_Bool (v a));
    kept = kept_both;
  }
