use Rattle.std.proofs.Common.{refl, arith}
use Rattle.std.proofs.lemmas.Bool.Decides.{nat_tests}
use Rattle.std.proofs.lemmas.Grind.{common_steps}
use Rattle.cells.proofs.SetLaws.{set_of_none, set_of_miss, set_of_hit}
use Rattle.text.specs.Values.{marked}
use Rattle.text.proofs.values.read_marks.Goals as goal

pub loop-cell-init : goal.loop-cell-init
loop-cell-init c = (set_of_none (marked c.args.value.now), refl)

pub loop-cell-preserved : goal.loop-cell-preserved
loop-cell-preserved c =
    let marks = marked c.args.value.now in
    let cell = c.loop-cell.cell in
    (grind (arith, nat_tests, set_of_hit marks cell, set_of_miss marks cell), grind (arith, nat_tests, common_steps))
