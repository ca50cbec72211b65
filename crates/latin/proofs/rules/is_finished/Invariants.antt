use Rattle.std.proofs.Common.{◌≡◌, ℕ, ◌<◌, true, false, cond, length, get_or}
use Rattle.cells.specs.Lines.{count, is_value}
use Rattle.cells.proofs.LineLaws.{Apart}
use Rattle.latin.specs.Rules.{line_of}
use Rattle.latin.proofs.rules.is_finished.Given as goal

abbrev pub invariant-loop-line : goal.invariant-loop-line
invariant-loop-line l = (i : ℕ) → i < l.line → Apart l.size (line_of l.size i) l.grid

abbrev pub invariant-loop-place : goal.invariant-loop-place
invariant-loop-place l =
    record {
      long : length l.seen ≡ 7;
      values : (j : ℕ) → j < l.place → is_value l.size (get_or l.grid (line_of l.size l.line j) 0) ≡ true;
      marked : (v : ℕ) → v < 7 → count (line_of l.size l.line) l.grid v l.place ≡ cond (get_or l.seen v false) 1 0;
    }
