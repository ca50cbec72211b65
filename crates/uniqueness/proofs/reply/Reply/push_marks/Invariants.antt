use Rattle.std.proofs.Common.{◌≡◌, ◌++◌}
use Rattle.text.specs.Values.{marks_of}
use Rattle.uniqueness.specs.Write.{text_of}
use Rattle.uniqueness.proofs.reply.Reply.push_marks.Given as goal

abbrev pub invariant-loop-cell : goal.invariant-loop-cell
invariant-loop-cell l = l.self-inside.text.items ≡ text_of l.fn.self ++ marks_of l.set l.cell
