-- A part of a list, by places of the whole.
use Rattle.std.proofs.Common.{◌≡◌, ℕ, ◌+◌, ◌<◌, ◌≤◌, List, ◌∷◌, map, length, get_or, take, drop, sym, ap, ◌∙◌, arith}
use Rattle.std.specs.List.{range_with_len}
use Rattle.std.proofs.lemmas.List.FromFn.{fill_by_all}
use Rattle.std.proofs.lemmas.List.{drop_more, get_or-map, get_or-take, get_or-drop, length-map, length-take, length-drop}
use Rattle.sets.specs.declared.bounds.Bounds.{Bounds}
use Rattle.sets.specs.Ordered.{no_bounds}
use Rattle.stages.specs.Ranges.{at}

-- the first of what is left of a list that is seen through f, by one of an equal list
pub rest-more : {X Y : Type 0} (f : X → Y) (xs ys : List X) (k : ℕ) (x : X) → ys ≡ xs → k < length ys → x ≡ get_or ys k x → drop k (map f xs) ≡ f x ∷ drop (k + 1) (map f xs)
rest-more f xs ys k x e h is =
    rw (sym e) (drop_more (map f ys) k (f x) (simp length-map h) ∙ ap (λ y. y ∷ drop (k + 1) (map f ys)) (get_or-map f ys k x (f x) h ∙ ap f (sym is)))

-- one of a front that is seen through f, and the first of what is left of it
module _ {X Y : Type 0} (f : X → Y) (xs : List X) (n k : ℕ) (d : X) (h : k < n) (l : n ≤ length xs) where
  pub front_at : (e : Y) → get_or (map f (take n xs)) k e ≡ f (get_or xs k d)
  front_at e = get_or-map f (take n xs) k d e (simp length-take (omega arith)) ∙ ap f (get_or-take n xs k d h)

  pub front-more : drop k (map f (take n xs)) ≡ f (get_or xs k d) ∷ drop (k + 1) (map f (take n xs))
  front-more =
      let below : k < length (map f (take n xs)) = simp (length-map, length-take) (omega arith) in
      drop_more (map f (take n xs)) k (f d) below ∙ ap (λ x. x ∷ drop (k + 1) (map f (take n xs))) (front_at (f d))

module _ (bs : List Bounds) (first count : ℕ) where
  pub part_at : (i : ℕ) → i < count → at (take count (drop first bs)) i ≡ at bs (first + i)
  part_at i h = get_or-take count (drop first bs) i no_bounds h ∙ get_or-drop first bs i no_bounds

  pub part_front : (i : ℕ) → i ≤ count → first + count ≤ length bs → map (λ j. at bs (first + j)) (range_with_len 0 i) ≡ take i (take count (drop first bs))
  part_front i h l =
      sym (fill_by_all (λ j. at bs (first + j)) (take i (take count (drop first bs))) i no_bounds (simp (length-take, length-drop) (omega arith))
      (λ k m. get_or-take i (take count (drop first bs)) k no_bounds m ∙ part_at k (omega arith)))
