-- The indices of a line, and what stands for an index outside it.
use Rattle.std.specs.Prelude.{◌≡◌, ℕ, zero, suc, ◌+◌, ◌-◌, ◌*◌, ◌/◌, ◌%◌, ◌^◌, ◌<◌, ◌≤◌, Bool, true, false, cond, ◌&&◌, ℤ, pos, negsuc, neg_ℤ, ◌-ℤ◌, ◌==◌, nat_le, nat_lt, int_le, unsigned_abs}
use Rattle.stages.specs.declared.indexed.Indexed.{Indexed}
use Rattle.stages.specs.declared.indexed.Indexed.TheVariants.{Many, LoneOdd, Still}
use Rattle.stages.specs.declared.stage.Extension.{Extension}
use Rattle.stages.specs.declared.stage.Extension.TheVariants.{Mirrored, Nearest}

-- A line has the places from p to p + n - 1. Only multiples of 2^v count, and place p has index p / 2^v.
-- The first index of the line:
abbrev pub first_index : ℕ → ℕ → ℕ
first_index v p = (p + (2 ^ v - 1)) / 2 ^ v

-- how many indices the line has
abbrev pub index_count : ℕ → ℕ → ℕ → ℕ
index_count v p n = (p + n - 1) / 2 ^ v + 1 - first_index v p

-- the line has a single index, and that one odd
abbrev pub lone_odd : ℕ → ℕ → ℕ → Bool
lone_odd v p n = index_count v p n == 1 && first_index v p % 2 == 1

-- what a lifting does to the line: its steps, a doubling, or nothing
abbrev pub IndexedAs : ℕ → ℕ → ℕ → Indexed → Type 0
IndexedAs v p n Many = nat_le 2 (index_count v p n) ≡ true
IndexedAs v p n LoneOdd = (nat_le 2 (index_count v p n) ≡ false) × (lone_odd v p n ≡ true)
IndexedAs v p n Still = (nat_le 2 (index_count v p n) ≡ false) × (lone_odd v p n ≡ false)

-- so many indices, two or more, can be a line's
abbrev pub is_line : ℕ → Bool
is_line n = nat_le 2 n && nat_le n 2097152

-- no further off than 2^40 either way, as is every index that a step can read
abbrev pub is_index : ℤ → Bool
is_index z = int_le (neg_ℤ (pos (2 ^ 40))) z && int_le z (pos (2 ^ 40))

-- On a line whose indices are 0 to n - 1, an index outside is mirrored about the first or the last until it is inside.
pub data MirroredTo (n : ℕ) : ℤ → ℕ → Type 0 where
  inside : {i : ℕ} → i < n → MirroredTo n (pos i) i
  below : {k i : ℕ} → MirroredTo n (pos (suc k)) i → MirroredTo n (negsuc k) i
  above : {k i : ℕ} → n ≤ k → MirroredTo n (pos (2 * (n - 1)) -ℤ pos k) i → MirroredTo n (pos k) i

-- the same as a function, by at most f mirrorings
abbrev pub mirror_by : ℕ → ℕ → ℤ → ℕ
mirror_by n zero z = 0
mirror_by n (suc f) (negsuc k) = mirror_by n f (pos (suc k))
mirror_by n (suc f) (pos k) = cond (nat_lt k n) k (mirror_by n f (pos (2 * (n - 1)) -ℤ pos k))

unfoldable pub mirror : ℕ → ℤ → ℕ
mirror n z = mirror_by n (2 * unsigned_abs z + 2) z

-- the nearest inside index of the same parity
unfoldable pub nearest : ℕ → ℤ → ℕ
nearest n (negsuc k) = (k + 1) % 2
nearest n (pos k) = cond (nat_lt k n) k (n - 1 - (k - (n - 1)) % 2)

-- the inside index that is read for any index
abbrev pub extended : Extension → ℕ → ℤ → ℕ
extended Mirrored n z = mirror n z
extended Nearest n z = nearest n z
