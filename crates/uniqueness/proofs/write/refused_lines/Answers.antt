use Rattle.std.proofs.Common.{arith}
use Rattle.std.proofs.lemmas.Grind.{common_steps}
use Rattle.uniqueness.proofs.WriteLaws.{few_digits}
use Rattle.uniqueness.proofs.write.refused_lines.Goals as goal

pub push_number-requires-2 : goal.push_number-requires-2
push_number-requires-2 c =
    let number = few_digits c.from.result (omega arith) in
    let line = few_digits c.args.refused.line (omega arith) in
    grind (arith, common_steps, number, line)

pub push_text-requires-3 : goal.push_text-requires-3
push_text-requires-3 c =
    let number = few_digits c.from.result (omega arith) in
    let line = few_digits c.args.refused.line (omega arith) in
    grind (arith, common_steps, number, line)
