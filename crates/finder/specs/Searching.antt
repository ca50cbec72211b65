-- A search that fills a pad, cell 0 first, for rivals that agree on the clues and are near the given grid.
use Rattle.std.specs.Prelude.{◌≡◌, ℕ, ◌+◌, ◌<◌, ◌≤◌, Bool, true, false, cond, not, List, ◌==◌, ◌≢◌, count_ones, slice_index}
use Rattle.cells.specs.Grids.{differ_below, in_strip}
use Rattle.finder.specs.Meaning.{Meaning}
use Rattle.finder.specs.Rivals.{AgreeingRival, AdmitsOnly, NoneNearer, distance}

-- Two grids have the same values in the cells below k.
abbrev pub SameBelow : ℕ → List ℕ → List ℕ → Type 0
SameBelow k g h = (c : ℕ) → c < k → slice_index g c ≡ slice_index h c

-- At most `limit` of the grid's cells from k on differ from the given grid.
abbrev pub NearFrom : Meaning → ℕ → ℕ → List ℕ → Type 0
NearFrom m k limit g = distance m g ≤ count_ones (differ_below k m.given g) + limit

-- What a search looks for that goes on from the pad's first k cells: a rival that agrees on the clues, begins with those cells, and has
-- at most `limit` differing cells from k on.
abbrev pub Sought : Meaning → ℕ → List ℕ → ℕ → ℕ → List ℕ → Type 0
Sought m clues pad k limit g = AgreeingRival m clues g × SameBelow k g pad × NearFrom m k limit g

-- There is no such rival.
abbrev pub DeadEnd : Meaning → ℕ → List ℕ → ℕ → ℕ → Type 0
DeadEnd m clues pad k limit = (g : List ℕ) → Sought m clues pad k limit g → ⊥

-- None has this value in cell k.
abbrev pub NoneWith : Meaning → ℕ → List ℕ → ℕ → ℕ → ℕ → Type 0
NoneWith m clues pad k limit value = (g : List ℕ) → Sought m clues pad k limit g → slice_index g k ≢ value

-- What a value takes of the limit in a cell: 1 if it is not the given one.
abbrev pub mismatch : ℕ → ℕ → ℕ
mismatch given value = cond (not (given == value)) 1 0

-- What that search answers: such a rival was put in the strip; or there is none, and the strip is as it was.
abbrev pub FindsFrom : Meaning → ℕ → List ℕ → ℕ → ℕ → Bool → List ℕ → List ℕ → Type 0
FindsFrom m clues pad k limit true before after = (g : List ℕ) × Sought m clues pad k limit g × (after ≡ in_strip g before)
FindsFrom m clues pad k limit false before after = DeadEnd m clues pad k limit × (after ≡ before)

-- The same of one grid: it is a rival that agrees on the clues, and was put in the strip; or it is none, and the strip is as it was.
abbrev pub Accepts : Meaning → ℕ → List ℕ → Bool → List ℕ → List ℕ → Type 0
Accepts m clues g true before after = AgreeingRival m clues g × (after ≡ in_strip g before)
Accepts m clues g false before after = (AgreeingRival m clues g → ⊥) × (after ≡ before)

-- The same of all grids: some rival that agrees on the clues was put in the strip; or there is none, and the strip is as it was.
abbrev pub FindsAny : Meaning → ℕ → Bool → List ℕ → List ℕ → Type 0
FindsAny m clues true before after = (g : List ℕ) × AgreeingRival m clues g × (after ≡ in_strip g before)
FindsAny m clues false before after = AdmitsOnly m clues × (after ≡ before)

-- Every rival that agrees on the clues differs from the given grid in at least k cells.
abbrev pub NoneBelow : Meaning → ℕ → ℕ → Type 0
NoneBelow m clues k = (g : List ℕ) → AgreeingRival m clues g → k ≤ distance m g

-- A nearest rival that agrees on the clues was put in the strip.
abbrev pub HoldsNearest : Meaning → ℕ → List ℕ → List ℕ → Type 0
HoldsNearest m clues before after =
    (g : List ℕ) × AgreeingRival m clues g × NoneNearer m clues g × (after ≡ in_strip g before)
