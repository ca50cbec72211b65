-- What holds of all sets of cells and all grids.
use Rattle.std.specs.Prelude.{◌≡◌, ℕ, ◌+◌, ◌^◌, ◌<◌, ◌≤◌, true, false, not, List, count_ones}
use Rattle.cells.specs.Sets.{has, with, meets}
use Rattle.cells.specs.Grids.{agree, differ}

-- Every cell of s is in t.
abbrev pub Within : ℕ → ℕ → Type 0
Within s t = (c : ℕ) → has s c ≡ true → has t c ≡ true

-- Sets with the same cells are equal.
abbrev pub SameCells : Type 0
SameCells = (s t : ℕ) → s < 2 ^ 64 → t < 2 ^ 64 → ((c : ℕ) → c < 64 → has s c ≡ has t c) → s ≡ t

-- A subset has a lesser or equal number.
abbrev pub SubsetNumber : Type 0
SubsetNumber = (s t : ℕ) → s < 2 ^ 64 → t < 2 ^ 64 → Within s t → s ≤ t

-- With one cell more, one more is counted: `count_ones` is the number of cells in a set.
abbrev pub OneMore : Type 0
OneMore = (s c : ℕ) → s < 2 ^ 64 → c < 64 → has s c ≡ false → count_ones (with s c) ≡ count_ones s + 1

-- Two grids agree on a set exactly when the set does not meet their difference set.
abbrev pub AgreeUnlessMet : Type 0
AgreeUnlessMet = (s : ℕ) (g h : List ℕ) → s < 2 ^ 64 → agree s g h ≡ not (meets s (differ g h))
