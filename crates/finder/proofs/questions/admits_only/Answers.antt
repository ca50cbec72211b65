use Rattle.finder.proofs.RivalLaws.{admits_iff_meets}
use Rattle.finder.proofs.questions.admits_only.Goals as goal

-- This clause is a law of every finder: it hangs on no answer.
pub returns-clause-meets : goal.returns-clause-meets
returns-clause-meets g c = admits_iff_meets (g.F.Finder.meaning c.args.finder.now)
