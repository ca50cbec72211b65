use Rattle.std.proofs.Common.{◌≡◌, ℕ, ◌<◌, Bool, true, false, cond, not, eqb, ltb, List, [], ◌∷◌, length, get_or, take, Some, None, sym, refl, ap, ◌∙◌, subst, arith, rules}
use Rattle.std.proofs.lemmas.Bool.{and_parts, eqb-true, lt-ltb, both_ways, cond-true, cond-false}
use Rattle.cells.specs.Sets.{has}
use Rattle.cells.specs.Grids.{in_strip}
use Rattle.cells.proofs.GridLaws.{agree_decides}
use Rattle.finder.specs.InTurn.{in_turn}
use Rattle.finder.specs.Rivals.{AgreeingRival, AdmitsOnly}
use Rattle.finder.proofs.tests.InTurnFinder.find.Goals as goal
use Rattle.finder.proofs.tests.InTurnFinder.find.Goals.{then-self, else-self}

one_cell : (g : List ℕ) → length g ≡ 1 → 0 ≡ get_or g 0 0 → g ≡ 0 ∷ []
one_cell [] l e = absurd (omega arith)
one_cell (v ∷ []) l e = ap (λ x. x ∷ []) (sym e)
one_cell (v ∷ (u ∷ g)) l e = absurd (omega arith)

only : (clues : ℕ) → has clues 0 ≡ true → AdmitsOnly in_turn clues
only clues h g a =
    let one = eqb-true (length g) 1 (and_parts (eqb (length g) 1) (ltb (get_or g 0 0) 3) a.0.0).0 in
    a.0.1 (one_cell g one ((agree_decides clues (0 ∷ []) g).0 a.1 0 (omega arith) h))

rival : (clues v : ℕ) → has clues 0 ≡ false → 0 < v → v < 3 → AgreeingRival in_turn clues (v ∷ [])
rival clues v f p l = (
  (lt-ltb v 3 l, λ e. let z : v ≡ 0 = ap (λ g. get_or g 0 0) e in omega arith),
  (agree_decides clues (0 ∷ []) (v ∷ [])).1
      (λ c k h. let z : c ≡ 0 = omega arith in absurd (both_ways (has clues 0) f (ap (has clues) (sym z) ∙ h))),
)

pub returns-then-has : goal.returns-then-has
returns-then-has c =
    let h = sym c.if-has.ensures in
    record {
      answer = only c.args.clues h;
      strip = search rules;
      asked = (sym (cond-true (has c.args.clues 0) _ _ h), sym (cond-true (has c.args.clues 0) _ _ h));
      pad = search rules;
      kept = refl;
    }

pub returns : goal.returns
returns c =
    let clues = c.args.clues in
    let after = c.put_in_strip.new.strip in
    let second = c.args.self.now.second in
    let f = sym c.if-has.ensures in
    let value : c.if-self.value ≡ cond c.args.self.now.second 2 1 =
    elim c.if-self.branch [
      | then-self w ↦ w.value-is ∙ ap (λ (b : Bool). cond b 2 1) (sym w.if-self.true)
      | else-self w ↦ w.value-is ∙ ap (λ (b : Bool). cond b 2 1) (sym w.if-self.false)
    ] in
    let bounds : (0 < c.if-self.value) × (c.if-self.value < 3) =
    elim c.if-self.branch [ then-self w ↦ (omega (arith, w.value-is), omega (arith, w.value-is)) | else-self w ↦ (omega (arith, w.value-is), omega (arith, w.value-is)) ] in
    let front : take 1 after ≡ c.if-self.value ∷ [] = ap (take 1) c.put_in_strip.ensures in
    record {
      answer = subst (λ (g : List ℕ). AgreeingRival in_turn clues g) (sym front) (rival clues c.if-self.value f bounds.0 bounds.1);
      strip = c.put_in_strip.ensures ∙ ap (λ g. in_strip g c.args.strip.now) (sym front);
      asked = (
        ap Some (front ∙ ap (λ v. v ∷ []) value) ∙ sym (cond-false (has clues 0) None _ f),
        sym (cond-false (has clues 0) second (not second) f),
      );
      pad = search rules;
      kept = refl;
    }
