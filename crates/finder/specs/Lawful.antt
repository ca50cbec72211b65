-- Why a layer of pins keeps the law of a finder.
use Rattle.std.specs.Prelude.{ℕ}
use Rattle.std.proofs.lemmas.Bool.{and_parts, and_from}
use Rattle.cells.specs.Grids.{agree}
use Rattle.cells.proofs.GridLaws.{agree_self}
use Rattle.finder.specs.Meaning.{Meaning, Lawful}
use Rattle.finder.specs.Pinning.{pinned}

pub pinned_lawful : (m : Meaning) (pins : ℕ) → Lawful m → Lawful (pinned pins m)
pinned_lawful m pins law =
    record {
      some = law.some;
      few = law.few;
      solved = and_from (m.solves m.given) (agree pins m.given m.given) law.solved (agree_self pins m.given);
      sized = λ g e. law.sized g (and_parts (m.solves g) (agree pins m.given g) e).0;
      bytes = λ g e. law.bytes g (and_parts (m.solves g) (agree pins m.given g) e).0;
    }
