use Rattle.std.proofs.Common.{◌≡◌, true, take}
use Rattle.cells.specs.Sets.{set_of}
use Rattle.text.specs.Values.{all_marks, marked}
use Rattle.text.proofs.values.read_marks.Given as goal

abbrev pub invariant-loop-cell : goal.invariant-loop-cell
invariant-loop-cell l = (l.set ≡ set_of (marked l.value) l.cell) × (all_marks (take l.cell l.value) ≡ true)
