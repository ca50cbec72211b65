use Rattle.cells.proofs.SetLaws.{same_cells, subset_number, one_more}
use Rattle.cells.proofs.GridLaws.{agree_unmet}
use Rattle.cells.proofs.laws.cell_laws.Goals as goal

pub returns : goal.returns
returns c =
    record {
      same = same_cells 64;
      subset = λ s t p q w. subset_number 64 s t p q (λ c _ h. w c h);
      counted = one_more;
      unmet = agree_unmet;
    }
