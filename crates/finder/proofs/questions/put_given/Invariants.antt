use Rattle.std.proofs.Common.{◌≡◌, take}
use Rattle.cells.specs.Grids.{with_front}
use Rattle.finder.proofs.questions.put_given.Given as goal

abbrev pub invariant-loop-cell : goal.invariant-loop-cell
invariant-loop-cell g l = l.place-items ≡ with_front l.cell (g.F.Finder.meaning l.finder).given (take l.cell-end l.fn.strip)
