use Rattle.std.proofs.Common.{◌≡◌, ℕ, ◌<◌, true, get_or}
use Rattle.cells.specs.Sets.{has}
use Rattle.cells.proofs.grids.agree.Given as goal

abbrev pub invariant-loop-cell : goal.invariant-loop-cell
invariant-loop-cell l = (c : ℕ) → c < l.cell → has l.set c ≡ true → get_or l.one c 0 ≡ get_or l.other c 0
