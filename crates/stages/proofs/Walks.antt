-- The steps of a lifting, one after another.
use Rattle.std.proofs.Common.{◌≡◌, ℕ, ◌≤◌, true, false, ◌&&◌, List, ◌∷◌, length, drop, ℤ, sym, refl, ap, ◌∙◌}
use Rattle.std.proofs.lemmas.List.{drop_all}
use Rattle.std.proofs.lemmas.Bool.{and_left}
use Rattle.sets.specs.declared.bounds.Bounds.{Bounds}
use Rattle.stages.specs.declared.stage.Parity.{Parity}
use Rattle.stages.specs.Lifting.{other, stepped, walked, ended}
use Rattle.stages.specs.Plain.{PlainStep}
use Rattle.stages.specs.Ranges.{all_fit}
use Rattle.stages.proofs.Every.{all_fit_append}

module _ (slot : ℤ → ℕ) (m : Parity) (s : PlainStep) (ss rest : List PlainStep) (bs : List Bounds) (here : ss ≡ s ∷ rest) where
  -- where the first step makes bounds that do not fit, so does the walk
  pub walk_stops : all_fit (stepped slot m s bs) ≡ false → all_fit (walked slot m ss bs) ≡ false
  unfolding walked
  walk_stops h = rw here (all_fit_append (stepped slot m s bs) _ ∙ and_left _ _ h)

  pub walk_fits : (m' : Parity) (next : List Bounds) → m' ≡ other m → all_fit (stepped slot m s bs) ≡ true → next ≡ stepped slot m s bs → all_fit (walked slot m' rest next) ≡ all_fit (walked slot m ss bs)
  unfolding walked
  walk_fits m' next p h n = (λ i. all_fit (walked slot (p i) rest (n i))) ∙ ap (λ x. x && all_fit (walked slot (other m) rest (stepped slot m s bs))) (sym h) ∙ sym (all_fit_append (stepped slot m s bs) _) ∙ ap (λ x. all_fit (walked slot m x bs)) (sym here)

  pub walk_ends : (m' : Parity) (next : List Bounds) → m' ≡ other m → next ≡ stepped slot m s bs → ended slot m' rest next ≡ ended slot m ss bs
  unfolding ended
  walk_ends m' next p n = (λ i. ended slot (p i) rest (n i)) ∙ ap (λ x. ended slot m x bs) (sym here)

pub walk_none : (slot : ℤ → ℕ) (m : Parity) (k : ℕ) (ss : List PlainStep) (bs : List Bounds) → length ss ≤ k → (all_fit (walked slot m (drop k ss) bs) ≡ true) × (ended slot m (drop k ss) bs ≡ bs)
unfolding walked ended
walk_none slot m k ss bs h = rw (drop_all k ss h) (refl, refl)
