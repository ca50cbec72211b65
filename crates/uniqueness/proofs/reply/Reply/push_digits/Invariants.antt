use Rattle.std.proofs.Common.{◌≡◌, ◌++◌, take}
use Rattle.uniqueness.specs.Write.{text_of, digits_of}
use Rattle.uniqueness.proofs.reply.Reply.push_digits.Given as goal

abbrev pub invariant-loop-value : goal.invariant-loop-value
invariant-loop-value l = l.self-inside.text.items ≡ text_of l.fn.self ++ digits_of (take l.value-index l.values)
