use Rattle.std.proofs.Common.{arith}
use Rattle.std.proofs.lemmas.Grind.{common_steps}
use Rattle.text.proofs.question.read_lines.Goals as goal

pub returns-in_err-clues : goal.returns-in_err-clues
returns-in_err-clues c = grind (arith, common_steps)
