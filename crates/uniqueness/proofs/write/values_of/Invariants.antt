use Rattle.std.proofs.Common.{◌≡◌, take}
use Rattle.uniqueness.specs.Write.{values_of}
use Rattle.uniqueness.proofs.write.values_of.Given as goal

abbrev pub invariant-loop-digit : goal.invariant-loop-digit
invariant-loop-digit l = l.values.items ≡ values_of (take l.digit-index l.digits)
