use Rattle.std.proofs.Common.{refl, arith}
use Rattle.std.proofs.lemmas.Grind.{common_steps}
use Rattle.uniqueness.proofs.ReplyLaws.{grid_read}
use Rattle.uniqueness.proofs.replies.answer_to.Goals as goal

pub returns-in_err-puzzle : goal.returns-in_err-puzzle
returns-in_err-puzzle c =
    let read = grid_read _ _ _ c.in_ok-question.ensures.exactly refl in
    grind (arith, common_steps)
