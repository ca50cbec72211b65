use Rattle.std.proofs.Common.{◌≡◌, ℕ, ◌+◌, false, List, length, sym, ap, ◌∙◌, subst, arith}
use Rattle.std.proofs.lemmas.Bool.{true≢false}
use Rattle.std.proofs.lemmas.Bool.Decides.{not_from_Decides}
use denote.Enum.Bare.{sameb}
use Rattle.finder.specs.declared.found.Found.{Found}
use Rattle.finder.specs.declared.found.Found.TheVariants.{Rival, NoRival}
use Rattle.finder.specs.contracts.found.Found.{the_type}
use Rattle.latin.specs.declared.puzzle.Latin.{Latin}
use Rattle.latin.specs.Search.{DeadEnd, FindsFrom}
use Rattle.finder.proofs.SearchLaws.{put_back}
use Rattle.latin.proofs.SearchLaws.{NoneBelow, tried, not_tried, exhausted}
use Rattle.latin.proofs.puzzle.Latin.+search.Goals as goal
use Rattle.latin.proofs.puzzle.Latin.+search.Goals.{then-may_stand+else-eq, else-may_stand, Joined-may_stand}

-- What is not `Rival` is `NoRival`.
none_found : (p : Latin) (clues : ℕ) (pad : List ℕ) (k : ℕ) (found : Found) (before after : List ℕ) → sameb the_type found Rival ≡ false
    → FindsFrom p clues pad k found before after → FindsFrom p clues pad k NoRival before after
none_found p clues pad k Rival before after e f = absurd (true≢false e)
none_found p clues pad k NoRival before after e f = f

-- The invariant, for the next value.
tried_one : (t : ℕ) (c : Joined-may_stand t)
    → record {
      pad : c.if-may_stand.pad ≡ c.args.pad.now;
      strip : c.if-may_stand.strip ≡ c.args.strip.now;
      none : NoneBelow c.args.self.now c.args.clues c.args.pad.now c.args.cell (c.loop-value.value + 1);
    }
tried_one t c =
    let p = c.args.self.now in
    let i = c.loop-value.invariant in
    elim c.if-may_stand.branch [
      | then-may_stand+else-eq w ↦
          let h = none_found p _ _ _ _ _ _ (sym w.eq.ensures ∙ w.if-eq.false) w.search.ensures.answer in
          record {
            pad = grind (arith, put_back);
            strip = w.strip-is ∙ h.1 ∙ i.strip;
            none =
                tried p _ _ _ _ _ i.pad i.none
                (subst (λ (x : List ℕ). DeadEnd c.args.self.now c.args.clues x (c.args.cell + 1)) w.new-trial.ensures.pad h.0);
          }
      | else-may_stand w ↦
          record {
            pad = w.pad-is ∙ i.pad;
            strip = w.strip-is ∙ i.strip;
            none =
                not_tried p _ _ _ _ _ i.pad i.none (omega arith) (omega (arith, ap length i.pad))
                (not_from_Decides _ c.may_stand.ensures w.if-may_stand.false);
          }
    ]

pub loop-value-preserved : goal.loop-value-preserved
loop-value-preserved t c = tried_one t (goal.at.loop-value-preserved t c).Joined-may_stand

pub returns-after-may_stand-clause-answer : goal.returns-after-may_stand-clause-answer
returns-after-may_stand-clause-answer t c =
    let i = tried_one t (goal.at.returns-after-may_stand-clause-answer t c).Joined-may_stand in
    (exhausted c.args.self.now _ _ _ (c.loop-value.value + 1) (omega arith) (omega arith) (omega arith) i.none, i.strip)
