-- Rivals, and what a clue set does about them. A clue set is any set of cells; cells that the grids do not have are ignored.
use Rattle.std.specs.Prelude.{◌≡◌, ℕ, ◌^◌, ◌<◌, ◌≤◌, true, List, count_ones}
use Rattle.cells.specs.Sets.{has, without, meets}
use Rattle.cells.specs.Grids.{differ}
use Rattle.cells.specs.Rivals.{Rival as RivalAmong, AgreeingRival as AgreeingRivalAmong, AdmitsOnly as AdmitsOnlyAmong}
use Rattle.finder.specs.Meaning.{Meaning}

-- A rival is a solution other than the given grid.
abbrev pub Rival : Meaning → List ℕ → Type 0
Rival m = RivalAmong m.solves m.given

-- A rival that agrees with the given grid on the clues, so that the clues do not tell the two apart.
abbrev pub AgreeingRival : Meaning → ℕ → List ℕ → Type 0
AgreeingRival m = AgreeingRivalAmong m.solves m.given

-- The clues admit only the given grid: no rival agrees with it on them.
abbrev pub AdmitsOnly : Meaning → ℕ → Type 0
AdmitsOnly m = AdmitsOnlyAmong m.solves m.given

-- A clue can be spared if the clues without it still admit only the given grid.
abbrev pub CanSpare : Meaning → ℕ → ℕ → Type 0
CanSpare m clues cell = (has clues cell ≡ true) × AdmitsOnly m (without clues cell)

-- The clues meet every rival: they share a cell with its difference set.
abbrev pub MeetsEvery : Meaning → ℕ → Type 0
MeetsEvery m clues = (g : List ℕ) → Rival m g → meets clues (differ m.given g) ≡ true

-- Clues admit only the given grid exactly when they meet every rival.
abbrev pub AdmitsIffMeets : Meaning → Type 0
AdmitsIffMeets m = (clues : ℕ) → clues < 2 ^ 64 → (AdmitsOnly m clues → MeetsEvery m clues) × (MeetsEvery m clues → AdmitsOnly m clues)

-- How many cells of a grid differ from the given grid.
abbrev pub distance : Meaning → List ℕ → ℕ
distance m g = count_ones (differ m.given g)

-- Of the rivals that agree on the clues, none differs from the given grid in fewer cells than g.
abbrev pub NoneNearer : Meaning → ℕ → List ℕ → Type 0
NoneNearer m clues g = (h : List ℕ) → AgreeingRival m clues h → distance m g ≤ distance m h
