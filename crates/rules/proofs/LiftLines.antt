-- The indices of a line and their places.
use Rattle.std.proofs.Common.{◌≡◌, ℕ, ◌+◌, ◌-◌, ◌*◌, ◌/◌, ◌%◌, ◌^◌, ◌<◌, ◌≤◌, div-lt_iff_lt-mul, add-mul, le-div_iff_mul-le, arith}
use Rattle.std.proofs.lemmas.Nat.{pow_pos, div-add-mod'}
use Rattle.stages.specs.Lines.{first_index, index_count}

-- On a line from place p on, with a distance d between indices: an index from the first one on has its place from p on.
from_first : (d p i : ℕ) → 0 < d → (p + (d - 1)) / d ≤ i → p ≤ i * d
from_first d p i h l = let g : p + (d - 1) < (i + 1) * d = (div-lt_iff_lt-mul h).0 (omega arith) in omega (arith, add-mul i 1 d)

first_from : (d p i : ℕ) → 0 < d → p ≤ i * d → (p + (d - 1)) / d ≤ i
first_from d p i h l = let g : (p + (d - 1)) / d < i + 1 = (div-lt_iff_lt-mul h).1 (omega (arith, add-mul i 1 d)) in omega arith

until_last : (d q i : ℕ) → 0 < d → i ≤ q / d → i * d ≤ q
until_last d q i h l = (le-div_iff_mul-le h).0 l

last_until : (d q i : ℕ) → 0 < d → i * d ≤ q → i ≤ q / d
last_until d q i h l = (le-div_iff_mul-le h).1 l

-- the place of an inside index is on the line
pub place_from : (v p i : ℕ) → first_index v p ≤ i → p ≤ i * 2 ^ v
place_from v p i l = from_first (2 ^ v) p i (pow_pos v) l

pub place_until : (v p n i : ℕ) → 1 ≤ n → first_index v p ≤ i → i < first_index v p + index_count v p n → i * 2 ^ v < p + n
place_until v p n i o l g = let u : i * 2 ^ v ≤ p + n - 1 = until_last (2 ^ v) (p + n - 1) i (pow_pos v) (omega arith) in omega arith

-- a place on the line that is a multiple of the distance has an inside index
pub index_from : (v p x : ℕ) → p ≤ x → x % 2 ^ v ≡ 0 → first_index v p ≤ x / 2 ^ v
index_from v p x l e = first_from (2 ^ v) p (x / 2 ^ v) (pow_pos v) (omega (arith, div-add-mod' x (2 ^ v)))

pub index_until : (v p n x : ℕ) → p ≤ x → x < p + n → x % 2 ^ v ≡ 0 → x / 2 ^ v < first_index v p + index_count v p n
index_until v p n x l g e =
    let a = index_from v p x l e in
    let b : x / 2 ^ v ≤ (p + n - 1) / 2 ^ v = last_until (2 ^ v) (p + n - 1) (x / 2 ^ v) (pow_pos v) (omega (arith, div-add-mod' x (2 ^ v))) in
    omega arith
