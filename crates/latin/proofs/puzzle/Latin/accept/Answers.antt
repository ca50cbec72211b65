use Rattle.std.proofs.Common.{refl, arith}
use Rattle.std.proofs.lemmas.Bool.Decides.{not_from_Decides}
use Rattle.latin.proofs.SearchLaws.{none_filled}
use Rattle.latin.proofs.puzzle.Latin.accept.Goals as goal

pub returns-then-not-is_agreeing_rival : goal.returns-then-not-is_agreeing_rival
returns-then-not-is_agreeing_rival c = (
  none_filled c.args.self.now _ _ _ (omega arith) (omega arith)
      (not_from_Decides _ c.is_agreeing_rival.ensures c.if-not-is_agreeing_rival.true),
  refl,
)
