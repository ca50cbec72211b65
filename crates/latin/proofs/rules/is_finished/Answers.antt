use Rattle.std.proofs.Common.{◌≡◌, Bool, true, false, leb, cond, get_or, sym, refl, ap, ◌∙◌, arith, below_more}
use Rattle.std.proofs.lemmas.List.{length-set, get_or-replicate}
use Rattle.std.proofs.lemmas.Bool.{and_from, and_parts, le-leb, leb-true, true≢false}
use Rattle.cells.specs.Lines.{is_value}
use Rattle.cells.proofs.Bounded.{fails}
use Rattle.cells.proofs.LineLaws.{count_none, marked_more, marked_again, marked_apart}
use Rattle.latin.specs.Rules.{line_of, finished}
use Rattle.latin.proofs.RuleLaws.{finished_from, finished-length, finished_value, finished_once}
use Rattle.latin.proofs.rules.is_finished.Goals as goal
use Rattle.latin.proofs.rules.is_finished.Goals.{then-not-is_value-via-then-not-is_value, then-not-is_value-via-else-not-is_value+then-seen-value}

pub returns-then-grid-size : goal.returns-then-grid-size
returns-then-grid-size c =
    fails (finished c.args.size c.args.grid.now)
    (λ f. c.if-grid-size.true (finished-length c.args.size c.args.grid.now f))

pub loop-place-init : goal.loop-place-init
loop-place-init c =
    record {
      long = refl;
      values = λ j l. absurd (omega arith);
      marked =
          λ v l. count_none (line_of c.args.size c.loop-line.line) c.args.grid.now v
          ∙ ap (λ (t : Bool). cond t 1 0) (sym (get_or-replicate 7 v false false l));
    }

pub loop-place-preserved : goal.loop-place-preserved
loop-place-preserved c =
    let i = c.loop-place.invariant in
    let value = get_or c.args.grid.now c.cell_at.result 0 in
    let test : is_value c.args.size value ≡ true = sym c.is_value.ensures ∙ c.if-not-is_value.false in
    let most = leb-true value c.args.size (and_parts (leb 1 value) (leb value c.args.size) test).1 in
    record {
      long = length-set c.loop-place.seen _ _ ∙ i.long;
      values =
          below_more _ _ i.values
          (ap (λ p. is_value c.args.size (get_or c.args.grid.now p 0)) (sym c.cell_at.ensures.value) ∙ test);
      marked =
          marked_more (line_of c.args.size c.loop-line.line) c.args.grid.now c.loop-place.seen c.loop-place.place c.cell_at.result
          7 c.cell_at.ensures.value (sym i.long) (omega arith) c.if-seen-value.false i.marked;
    }

pub loop-line-preserved : goal.loop-line-preserved
loop-line-preserved c =
    let i = c.loop-place.invariant in
    below_more _ _ c.loop-line.invariant
    (marked_apart c.args.size (line_of c.args.size c.loop-line.line) c.args.grid.now c.loop-place.seen c.loop-place.place 7
    (omega arith) (omega arith) i.values i.marked)

pub returns-after-loop-line : goal.returns-after-loop-line
returns-after-loop-line c =
    sym (finished_from c.args.size c.args.grid.now c.if-grid-size.false (λ l h. c.loop-line.invariant l (omega arith)))

pub returns-then-not-is_value : goal.returns-then-not-is_value
returns-then-not-is_value c =
    fails (finished c.args.size c.args.grid.now)
    (λ f.
    let r = finished_value c.args.size c.args.grid.now f c.cell_at.result c.cell_at.ensures.within in
    elim c.then-not-is_value.branch [
      | then-not-is_value-via-then-not-is_value w ↦
          true≢false (sym (and_from _ _ (le-leb _ _ r.0) (le-leb _ _ r.1)) ∙ sym w.if-not-is_value.ensures)
      | then-not-is_value-via-else-not-is_value+then-seen-value w ↦
          marked_again (line_of c.args.size c.loop-line.line) c.args.grid.now c.loop-place.seen c.loop-place.place c.args.size
          c.cell_at.result 7 c.cell_at.ensures.value c.loop-place-test.true (omega (arith, r.1)) w.if-seen-value.true
          c.loop-place.invariant.marked (finished_once c.args.size c.args.grid.now f c.loop-line.line c.loop-line-test.true _ r.0 r.1)
    ])
