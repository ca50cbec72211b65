use Rattle.std.proofs.Common.{◌≡◌, true, false, sym, ◌∙◌, arith}
use Rattle.cells.specs.Grids.{agree}
use Rattle.cells.proofs.Bounded.{fails}
use Rattle.cells.proofs.GridLaws.{agree_decides, agree_unmet}
use Rattle.cells.proofs.grids.agree.Goals as goal

pub returns-then-one-cell : goal.returns-then-one-cell
returns-then-one-cell c =
    let s = c.args.set in
    let g = c.args.one.now in
    let h = c.args.other.now in
    let apart : false ≡ agree s g h =
    fails (agree s g h)
    (λ a. let same = (agree_decides s g h).0 a c.loop-cell.cell (omega arith) (sym c.if-has.ensures) in omega arith) in
    record { value = apart; unmet = apart ∙ agree_unmet s g h (omega arith) }

pub returns : goal.returns
returns c =
    let s = c.args.set in
    let g = c.args.one.now in
    let h = c.args.other.now in
    let same : true ≡ agree s g h = sym ((agree_decides s g h).1 (λ k l i. c.loop-cell.invariant k (omega arith) i)) in
    record { value = same; unmet = same ∙ agree_unmet s g h (omega arith) }
