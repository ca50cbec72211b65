use Rattle.std.proofs.Common.{◌≡◌, ◌-◌}
use Rattle.latin.specs.Puzzle.{cell_count}
use Rattle.latin.proofs.SearchLaws.{NoneBelow}
use Rattle.latin.proofs.puzzle.Latin.+search.Given as goal

abbrev pub decreases-search : goal.decreases-search
decreases-search l = cell_count l.self.now - l.cell

abbrev pub invariant-loop-value : goal.invariant-loop-value
invariant-loop-value l =
    record {
      pad : l.pad ≡ l.initial.pad;
      strip : l.strip ≡ l.initial.strip;
      none : NoneBelow l.self l.clues l.initial.pad l.cell l.value;
    }
