use Rattle.std.proofs.Common.{ap, ◌∙◌, arith}
use Rattle.finder.specs.Pinning.{pinned}
use Rattle.finder.proofs.PinLaws.{pinned_twice}
use Rattle.finder.proofs.pins.one_layer.Goals as goal

pub returns-clause-means : goal.returns-clause-means
returns-clause-means g c =
    ap (λ p. pinned p (g.F.Finder.meaning c.args.below)) c.union-pins.ensures
    ∙ pinned_twice (g.F.Finder.meaning c.args.below) c.args.outer c.args.inner (omega arith) (omega arith)
