use Rattle.std.proofs.Common.{length, take, ap, ◌∙◌, inl}
use Rattle.uniqueness.specs.Write.{rival_lines}
use Rattle.uniqueness.proofs.ReplyLaws.{rival_in_front}
use Rattle.uniqueness.proofs.replies.answer.Goals as goal

pub rival_lines-requires : goal.rival_lines-requires
rival_lines-requires c =
    let e = ap length c.given-given.ensures in
    let rival = rival_in_front c.args.puzzle.now c.args.clues _ c.find.new.strip _ e c.in-Rival.ensures.answer in
    record { few = rival.1; digits = rival.2 }

pub returns-in-Rival : goal.returns-in-Rival
returns-in-Rival c =
    let e = ap length c.given-given.ensures in
    let rival = rival_in_front c.args.puzzle.now c.args.clues _ c.find.new.strip _ e c.in-Rival.ensures.answer in
    let front = take (length c.given-given.result.now) c.find.new.strip in
    inl (front, rival.0, c.rival_lines.ensures ∙ ap (λ g. rival_lines g front) c.given-given.ensures)
