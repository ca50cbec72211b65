use Rattle.std.proofs.Common.{Result, sym, subst}
use Rattle.text.specs.Lines.{Fault}
use Rattle.text.specs.Question.{Asked}
use Rattle.text.specs.Form.{TakesExactly}
use Rattle.text.proofs.FormLaws.{takes_exactly}
use Rattle.text.proofs.question.read_question.Goals as goal

pub returns : goal.returns
returns c =
    let text = c.args.text.now in
    record {
      value = c.read_lines.ensures;
      exactly = subst (λ (r : Result Asked Fault). TakesExactly text r) (sym c.read_lines.ensures) (takes_exactly text);
    }
