-- Sets of cells. A cell is a number from 0 to 63; a set of cells is itself a number, the sum of 2 ^ c over the cells c in it.
use Rattle.std.specs.Prelude.{ℕ, zero, suc, ◌+◌, ◌/◌, ◌%◌, ◌^◌, Bool, true, false, cond, not, ◌&&◌, ◌||◌, ◌==◌, nat_lt}

-- Cell c is in the set s: the sum s holds 2 ^ c.
unfoldable pub has : ℕ → ℕ → Bool
has s c = s / 2 ^ c % 2 == 1

-- The test passes at every number below k.
unfoldable pub all : (ℕ → Bool) → ℕ → Bool
all p zero = true
all p (suc k) = p k && all p k

-- The test passes at some number below k.
unfoldable pub some : (ℕ → Bool) → ℕ → Bool
some p zero = false
some p (suc k) = p k || some p k

-- The set of those cells below k that pass the test.
unfoldable pub set_of : (ℕ → Bool) → ℕ → ℕ
set_of p zero = 0
set_of p (suc k) = set_of p k + cond (p k) (2 ^ k) 0

-- The set s with the cell c added, and with it removed; a number of 64 or more is no cell.
abbrev pub with : ℕ → ℕ → ℕ
with s c = set_of (λ d. has s d || d == c) 64

abbrev pub without : ℕ → ℕ → ℕ
without s c = set_of (λ d. has s d && not (d == c)) 64

-- The cells that are in either of two sets, and those that are in both.
abbrev pub union : ℕ → ℕ → ℕ
union s t = set_of (λ d. has s d || has t d) 64

abbrev pub intersection : ℕ → ℕ → ℕ
intersection s t = set_of (λ d. has s d && has t d) 64

-- The set of all cells below n.
abbrev pub all_below : ℕ → ℕ
all_below n = set_of (λ d. nat_lt d n) 64

-- Two sets meet if they share a cell.
abbrev pub meets : ℕ → ℕ → Bool
meets s t = some (λ c. has s c && has t c) 64
