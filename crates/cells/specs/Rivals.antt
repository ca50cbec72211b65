-- Rivals. A puzzle is its given grid and the test that says which grids are its solutions; the given grid is one of them.
use Rattle.std.specs.Prelude.{◌≡◌, ℕ, Bool, true, List, ◌≢◌}
use Rattle.cells.specs.Grids.{agree}

-- A rival is a solution other than the given grid.
abbrev pub Rival : (List ℕ → Bool) → List ℕ → List ℕ → Type 0
Rival solves given g = (solves g ≡ true) × (g ≢ given)

-- A rival that agrees with the given grid on the clues, so that the clues do not tell the two apart.
abbrev pub AgreeingRival : (List ℕ → Bool) → List ℕ → ℕ → List ℕ → Type 0
AgreeingRival solves given clues g = Rival solves given g × (agree clues given g ≡ true)

-- The clues admit only the given grid: no rival agrees with it on them.
abbrev pub AdmitsOnly : (List ℕ → Bool) → List ℕ → ℕ → Type 0
AdmitsOnly solves given clues = (g : List ℕ) → AgreeingRival solves given clues g → ⊥
