-- A test at each number of a list.
use Rattle.std.proofs.Common.{◌≡◌, ℕ, zero, suc, ◌+◌, ◌-◌, ◌<◌, ◌≤◌, Bool, true, false, cond, leb, ltb, ◌&&◌, ◌⊎◌, List, [], ◌∷◌, ◌++◌, map, sym, refl, ap, ◌∙◌, subst, inl, inr, ⊎_elim, arith}
use Rattle.std.specs.List.{range_with_len, flat_map}
use Rattle.std.proofs.lemmas.Bool.{and_parts, and_from, and_left, and_right, cases_eq, cases_lt, cond-true, le-leb, lt-ltb, leb-true, ltb-true}
use Rattle.sets.specs.declared.bounds.Bounds.{Bounds}
use Rattle.stages.specs.Made.{every}
use Rattle.stages.specs.Ranges.{fits, all_fit}

pub every_more : (p : ℕ → Bool) (a n j : ℕ) → a + n ≡ j → every p (range_with_len a n) ≡ true → p j ≡ true → every p (range_with_len a (n + 1)) ≡ true
every_more p a zero j e h t = let s : j ≡ a = omega arith in and_from (p a) true (subst (λ x. p x ≡ true) s t) refl
every_more p a (suc n) j e h t =
    let u = and_parts (p a) (every p (range_with_len (a + 1) n)) h in
    let s : suc n + 1 ≡ suc (n + 1) = omega arith in
    rw s (and_from (p a) _ u.0 (every_more p (a + 1) n j (omega arith) u.1 t))

pub every-false : (p : ℕ → Bool) (a n k j : ℕ) → k < n → a + k ≡ j → p j ≡ false → every p (range_with_len a n) ≡ false
every-false p a zero k j h e t = absurd (omega arith)
every-false p a (suc n) zero j h e t = let s : j ≡ a = omega arith in and_left (p a) _ (subst (λ x. p x ≡ false) s t)
every-false p a (suc n) (suc k) j h e t = and_right (p a) _ (every-false p (a + 1) n k j (omega arith) (omega arith) t)

pub every-sure : (p : ℕ → Bool) (is : List ℕ) → ((i : ℕ) → p i ≡ true) → every p is ≡ true
every-sure p [] h = refl
every-sure p (i ∷ is) h = and_from (p i) _ (h i) (every-sure p is h)

pub all_fit_map : (f : ℕ → Bounds) (is : List ℕ) → all_fit (map f is) ≡ every (λ i. fits (f i)) is
all_fit_map f [] = refl
all_fit_map f (i ∷ is) = ap (λ x. fits (f i) && x) (all_fit_map f is)

and_assoc : (x y z : Bool) → ((x && y) && z) ≡ (x && (y && z))
and_assoc true y z = refl
and_assoc false y z = refl

pub all_fit_append : (xs ys : List Bounds) → all_fit (xs ++ ys) ≡ (all_fit xs && all_fit ys)
all_fit_append [] ys = refl
all_fit_append (a ∷ xs) ys = ap (λ x. fits a && x) (all_fit_append xs ys) ∙ sym (and_assoc (fits a) (all_fit xs) (all_fit ys))

pub all_fit_joined : (f : ℕ → List Bounds) (is : List ℕ) → all_fit (flat_map f is) ≡ every (λ i. all_fit (f i)) is
all_fit_joined f [] = refl
all_fit_joined f (i ∷ is) = all_fit_append (f i) (flat_map f is) ∙ ap (λ x. all_fit (f i) && x) (all_fit_joined f is)

pub every-all : (p : ℕ → Bool) (a n : ℕ) → every p (range_with_len a n) ≡ true → (j : ℕ) → a ≤ j → j < a + n → p j ≡ true
every-all p a zero h j l m = absurd (omega arith)
every-all p a (suc n) h j l m =
    let u = and_parts (p a) (every p (range_with_len (a + 1) n)) h in
    ⊎_elim (λ e. subst (λ x. p x ≡ true) (sym e) u.0) (λ ne. every-all p (a + 1) n u.1 j (omega arith) (omega arith)) (cases_eq j a)

pub all_every : (p : ℕ → Bool) (a n : ℕ) → ((j : ℕ) → a ≤ j → j < a + n → p j ≡ true) → every p (range_with_len a n) ≡ true
all_every p a zero h = refl
all_every p a (suc n) h = and_from (p a) _ (h a (omega arith) (omega arith)) (all_every p (a + 1) n (λ j l m. h j (omega arith) (omega arith)))

sure-where : (t x : Bool) → (t ≡ true → x ≡ true) → cond t x true ≡ true
sure-where true x h = h refl
sure-where false x h = refl

same_bool : (x y : Bool) → (x ≡ true → y ≡ true) → (y ≡ true → x ≡ true) → x ≡ y
same_bool true y f g = sym (f refl)
same_bool false true f g = g refl
same_bool false false f g = refl

-- a test q that passes outside a window, and in it says what p says of the place counted from a
pub every-window : (p q : ℕ → Bool) (n a b k : ℕ) → ((i : ℕ) → b ≤ i → i < b + k → a + i < n) → ((i : ℕ) → b ≤ i → i < b + k → q (a + i) ≡ p i) → ((c : ℕ) → (c < a + b) ⊎ (a + (b + k) ≤ c) → q c ≡ true) → every q (range_with_len 0 n) ≡ every p (range_with_len b k)
every-window p q n a b k room into out =
    same_bool _ _
    (λ h. all_every p b k (λ i l m. sym (into i l m) ∙ every-all q 0 n h (a + i) (omega arith) (omega (arith, room i l m))))
    (λ h. all_every q 0 n (λ c l m.
    ⊎_elim (λ low. out c (inl low)) (λ up.
    ⊎_elim (λ here.
    let e : a + (c - a) ≡ c = omega arith in
    subst (λ x. q x ≡ true) e (into (c - a) (omega arith) (omega arith) ∙ every-all p b k h (c - a) (omega arith) (omega arith)))
    (λ high. out c (inr high)) (cases_lt c (a + (b + k)))) (cases_lt c (a + b))))

-- a test that passes outside the k numbers from a on
pub every-within : (p : ℕ → Bool) (n a k : ℕ) → a + k ≤ n → every (λ c. cond (leb a c && ltb c (a + k)) (p c) true) (range_with_len 0 n) ≡ every p (range_with_len a k)
every-within p n a k room =
    let test : ℕ → Bool = λ c. cond (leb a c && ltb c (a + k)) (p c) true in
    let into : (c : ℕ) → a ≤ c → c < a + k → test c ≡ p c = λ c l m. cond-true _ _ _ (and_from _ _ (le-leb a c l) (lt-ltb c (a + k) m)) in
    same_bool _ _
    (λ h. all_every p a k (λ c l m. sym (into c l m) ∙ every-all test 0 n h c (omega arith) (omega arith)))
    (λ h. all_every test 0 n (λ c l m. sure-where _ _ (λ t. let u = and_parts _ _ t in every-all p a k h c (leb-true a c u.0) (ltb-true c (a + k) u.1))))

-- a test of the numbers less d
pub every-shift : (p : ℕ → Bool) (d b k : ℕ) → every (λ c. p (c - d)) (range_with_len (d + b) k) ≡ every p (range_with_len b k)
every-shift p d b zero = refl
every-shift p d b (suc k) =
    let e : d + b - d ≡ b = omega arith in
    let f : d + b + 1 ≡ d + (b + 1) = omega arith in
    (λ i. p (e i) && every (λ c. p (c - d)) (range_with_len (f i) k)) ∙ ap (λ x. p b && x) (every-shift p d (b + 1) k)
