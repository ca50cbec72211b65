-- Why a search that goes on cell by cell finds a rival where there is one, and a nearest one.
use Rattle.std.proofs.Common.{◌≡◌, ℕ, ◌+◌, ◌<◌, ◌≤◌, Bool, true, false, cond, not, List, length, get_or, take, set, sym, refl, ap, ◌∙◌, subst, ap₂, ⊎_elim, arith}
use lib.Count.{ones}
use Rattle.std.proofs.lemmas.List.{set-set, set-get_or, get_or-set_same, get_or-set_other, get_or-take, ext_get_or, length-take-le}
use Rattle.std.proofs.lemmas.Bool.{cases_eq, cases_lt, ne_eqb}
use Rattle.cells.specs.Sets.{set_of}
use Rattle.cells.specs.Grids.{alike, differ_below, in_strip}
use Rattle.cells.proofs.SetLaws.{ones_none, ones_more, ones_most, ones_rise}
use Rattle.cells.proofs.GridLaws.{differ_whole, strip_front, strip_again, strip_same}
use Rattle.finder.specs.Meaning.{Meaning, Lawful, cell_count}
use Rattle.finder.specs.Rivals.{Rival, AgreeingRival, NoneNearer, distance}
use Rattle.finder.specs.Searching.{SameBelow, Sought, DeadEnd, NoneWith, mismatch, FindsFrom, Accepts, FindsAny, NoneBelow, HoldsNearest}

-- After a trial the pad is as it was.
pub put_back : (pad : List ℕ) (cell value : ℕ) → set (set pad cell value) cell (get_or pad cell 0) ≡ pad
put_back pad cell value = set-set pad cell value (get_or pad cell 0) ∙ set-get_or pad cell 0

pub restored : (l m p : List ℕ) (i v : ℕ) → m ≡ set l i v → p ≡ set m i (get_or l i 0) → p ≡ l
restored l m p i v e f = f ∙ ap (λ x. set x i (get_or l i 0)) e ∙ put_back l i v

-- What a grid holds in the cell and before it, if it begins with the pad and the value.
pub at_cell : (g pad : List ℕ) (cell value : ℕ) → cell < length pad → SameBelow (cell + 1) g (set pad cell value) → get_or g cell 0 ≡ value
at_cell g pad cell value l s = s cell (omega arith) ∙ get_or-set_same pad cell value 0 l

pub before_cell : (g pad : List ℕ) (cell value : ℕ) → SameBelow (cell + 1) g (set pad cell value) → SameBelow cell g pad
before_cell g pad cell value s i l =
    let ne : i ≡ cell → ⊥ = omega arith in
    s i (omega arith) ∙ get_or-set_other pad cell i value 0 ne

-- A grid that is the pad below a cell is the pad with the grid's own value in the cell, one cell further.
pub same_more : (g pad : List ℕ) (cell value : ℕ) → cell < length pad → SameBelow cell g pad → get_or g cell 0 ≡ value
    → SameBelow (cell + 1) g (set pad cell value)
same_more g pad cell value l s v i h =
    ⊎_elim
    (λ (e : i ≡ cell).
    ap (λ j. get_or g j 0) e ∙ v ∙ sym (get_or-set_same pad cell value 0 l) ∙ ap (λ j. get_or (set pad cell value) j 0) (sym e))
    (λ (ne : i ≡ cell → ⊥). s i (omega arith) ∙ sym (get_or-set_other pad cell i value 0 ne))
    (cases_eq i cell)

-- One cell further, a value other than the given one makes one more differing cell.
differ_more : (m : Meaning) (g : List ℕ) (cell given value : ℕ) → cell < 64 → get_or m.given cell 0 ≡ given → get_or g cell 0 ≡ value
    → ones (differ_below (cell + 1) m.given g) ≡ ones (differ_below cell m.given g) + mismatch given value
differ_more m g cell given value l e v =
    ones_more (λ c. not (alike m.given g c)) cell l ∙ ap₂ (λ x y. ones (differ_below cell m.given g) + mismatch x y) e v

-- All cells of a solution are below N, so that its distance counts them.
distance_whole : (m : Meaning) → Lawful m → (g : List ℕ) → m.solves g ≡ true → distance m g ≡ ones (differ_below (cell_count m) m.given g)
distance_whole m laws g s = ap ones (differ_whole m.given g (cell_count m) refl (laws.sized g s) laws.few)

-- At a cell of the grid, by the value that is given there.
module _ (m : Meaning) (laws : Lawful m) (clues : ℕ) (pad : List ℕ) (cell limit given : ℕ) (inside : cell < cell_count m)
    (stands : get_or m.given cell 0 ≡ given) where
  low : cell < 64
  low = omega (arith, laws.few)

  -- Nothing has a value that the limit does not allow.
  pub too_far : (value : ℕ) → limit < mismatch given value → NoneWith m clues pad cell limit value
  too_far value short g t v =
      let d = differ_more m g cell given value low stands v in
      let rise = ones_rise (λ c. not (alike m.given g c)) (cell + 1) (cell_count m) (omega arith) laws.few in
      let e = distance_whole m laws g t.0.0.0 in
      omega (arith, t.2)

  module _ (value rest : ℕ) (long : cell < length pad) (paid : rest + mismatch given value ≡ limit) where
    -- What is sought one cell further is sought from the cell on.
    pub leads_on : (g : List ℕ) → Sought m clues (set pad cell value) (cell + 1) rest g → Sought m clues pad cell limit g
    leads_on g t =
        let d = differ_more m g cell given value low stands (at_cell g pad cell value long t.1) in
        (t.0, before_cell g pad cell value t.1, omega (arith, t.2))

    -- If there is nothing one cell further, nothing has the value.
    pub leads_nowhere : DeadEnd m clues (set pad cell value) (cell + 1) rest → NoneWith m clues pad cell limit value
    leads_nowhere none g t v =
        let d = differ_more m g cell given value low stands v in
        none g (t.0, same_more g pad cell value long t.1 v, omega (arith, t.2))

-- What is known of a value at one pad is known at an equal pad of an equal value.
pub none_with_at : (m : Meaning) (clues : ℕ) (pad other : List ℕ) (cell limit value same : ℕ) → pad ≡ other → value ≡ same
    → NoneWith m clues pad cell limit value → NoneWith m clues other cell limit same
none_with_at m clues pad other cell limit value same e f none g t v =
    subst (λ (x : List ℕ). NoneWith m clues x cell limit value) e none g t (v ∙ sym f)

-- If nothing has a value that a solution can have in the cell, there is nothing.
pub exhausted : (m : Meaning) (clues : ℕ) (pad : List ℕ) (cell limit : ℕ)
    → ((g : List ℕ) → m.solves g ≡ true → NoneWith m clues pad cell limit (get_or g cell 0)) → DeadEnd m clues pad cell limit
exhausted m clues pad cell limit none g t = none g t.0.0.0 g t refl

module _ (m : Meaning) (laws : Lawful m) where
  -- A solution has no more differing cells than cells.
  distance_most : (g : List ℕ) → m.solves g ≡ true → distance m g ≤ cell_count m
  distance_most g s =
      omega (arith, distance_whole m laws g s, ones_most (λ c. not (alike m.given g c)) (cell_count m) laws.few)

  -- A rival differs in some cell.
  distance_some : (g : List ℕ) → Rival m g → 1 ≤ distance m g
  distance_some g r =
      ⊎_elim
      (λ (z : distance m g < 1).
      absurd (r.1 (ext_get_or 0 g m.given (laws.sized g r.0) (λ c l.
      ⊎_elim
      (λ (e : get_or g c 0 ≡ get_or m.given c 0). e)
      (λ (ne : get_or g c 0 ≡ get_or m.given c 0 → ⊥). absurd (counted z c (omega (arith, laws.sized g r.0)) (λ e. ne (sym e))))
      (cases_eq (get_or g c 0) (get_or m.given c 0))))))
      (λ (l : 1 ≤ distance m g). l)
      (cases_lt (distance m g) 1)
    where
      counted : distance m g < 1 → (c : ℕ) → c < cell_count m → (get_or m.given c 0 ≡ get_or g c 0 → ⊥) → ⊥
      counted z c l ne =
          let p : ℕ → Bool = λ d. not (alike m.given g d) in
          let k = laws.few in
          let one = ones_more p c (omega arith) ∙ ap (λ b. ones (set_of p c) + cond (not b) 1 0) (ne_eqb (get_or m.given c 0) (get_or g c 0) ne) in
          let rise = ones_rise p (c + 1) (cell_count m) (omega arith) k in
          omega (arith, distance_whole m laws g r.0)

  -- A solution that is the pad in every cell is the pad's front.
  pub whole : (g pad : List ℕ) → m.solves g ≡ true → cell_count m ≤ length pad → SameBelow (cell_count m) g pad → g ≡ take (cell_count m) pad
  whole g pad s l same =
      let e = laws.sized g s in
      let d = length-take-le (cell_count m) pad l in
      ext_get_or 0 g (take (cell_count m) pad) (e ∙ sym d)
      (λ i h. let k : i < cell_count m = omega arith in same i k ∙ sym (get_or-take (cell_count m) pad i 0 k))

  -- In a filled pad there is one grid left to try, its front, whatever the limit is.
  at_end : (clues : ℕ) (pad : List ℕ) (limit : ℕ) (r : Bool) (before after : List ℕ) → cell_count m ≤ length pad
      → Accepts m clues (take (cell_count m) pad) r before after → FindsFrom m clues pad (cell_count m) limit r before after
  at_end clues pad limit true before after l a = (
    take (cell_count m) pad,
    (a.0, (λ c h. get_or-take (cell_count m) pad c 0 h), omega (arith, distance_whole m laws (take (cell_count m) pad) a.0.0.0)),
    a.1,
  )
  at_end clues pad limit false before after l a = (
    λ g t. a.0 (subst (λ (x : List ℕ). AgreeingRival m clues x) (whole g pad t.0.0.0 l t.1) t.0),
    a.1,
  )

  pub filled : (clues : ℕ) (pad : List ℕ) (cell limit : ℕ) (r : Bool) (before after : List ℕ) → cell ≡ cell_count m → cell_count m ≤ length pad
      → Accepts m clues (take (cell_count m) pad) r before after → FindsFrom m clues pad cell limit r before after
  filled clues pad cell limit r before after e l a =
      subst (λ (k : ℕ). FindsFrom m clues pad k limit r before after) (sym e) (at_end clues pad limit r before after l a)

  -- A search from cell 0 on looks for every rival that agrees on the clues and is no further away than the limit.
  from_start : (clues : ℕ) (pad : List ℕ) (limit : ℕ) (g : List ℕ) → AgreeingRival m clues g → distance m g ≤ limit → Sought m clues pad 0 limit g
  from_start clues pad limit g t l = (t, (λ c h. absurd (omega arith)), omega arith)

  -- A limit of N or more excludes no rival.
  pub finds_any : (clues : ℕ) (pad : List ℕ) (limit : ℕ) (r : Bool) (before after : List ℕ) → cell_count m ≤ limit
      → FindsFrom m clues pad 0 limit r before after → FindsAny m clues r before after
  finds_any clues pad limit true before after l f = (f.0, f.1.0, f.2)
  finds_any clues pad limit false before after l f = (
    λ g t. f.0 g (from_start clues pad limit g t (omega (arith, distance_most g t.0.0))),
    f.1,
  )

  -- Limits tried one after the other, from 1 on.
  pub none_below_one : (clues : ℕ) → NoneBelow m clues 1
  none_below_one clues g t = distance_some g t.0

  pub none_below_more : (clues : ℕ) (pad : List ℕ) (k : ℕ) → NoneBelow m clues k → DeadEnd m clues pad 0 k → NoneBelow m clues (k + 1)
  none_below_more clues pad k below none g t =
      ⊎_elim
      (λ (l : k < distance m g). omega arith)
      (λ (l : distance m g ≤ k). absurd (none g (from_start clues pad k g t l)))
      (cases_lt k (distance m g))

  -- The first limit within which there is a rival gives a nearest one; where none below N does, the rival in the strip is one.
  pub nearest_found : (clues : ℕ) (pad : List ℕ) (k : ℕ) (before after : List ℕ) → NoneBelow m clues k
      → FindsFrom m clues pad 0 k true before after → HoldsNearest m clues before after
  nearest_found clues pad k before after below f =
      let z = ones_none (λ c. not (alike m.given f.0 c)) in
      (f.0, f.1.0, (λ h t. omega (arith, below h t, f.1.2)), f.2)

  pub nearest_kept : (clues k : ℕ) (strip : List ℕ) → cell_count m ≤ k → cell_count m ≤ length strip → NoneBelow m clues k
      → AgreeingRival m clues (take (cell_count m) strip) → HoldsNearest m clues strip strip
  nearest_kept clues k strip e l below t = (
    take (cell_count m) strip,
    t,
    (λ h u. omega (arith, below h u, distance_most (take (cell_count m) strip) t.0.0)),
    sym (strip_same strip (cell_count m) l laws.few),
  )

  -- The rival that was put in the strip is in its first N bytes.
  front : (g before after : List ℕ) → m.solves g ≡ true → after ≡ in_strip g before → take (cell_count m) after ≡ g
  front g before after s e =
      strip_front g before after (cell_count m) (sym (laws.sized g s)) (omega (arith, laws.sized g s, laws.few)) e

  pub any_in_front : (clues : ℕ) (before after : List ℕ) → FindsAny m clues true before after → AgreeingRival m clues (take (cell_count m) after)
  any_in_front clues before after f =
      subst (λ (x : List ℕ). AgreeingRival m clues x) (sym (front f.0 before after f.1.0.0 f.2)) f.1

  pub nearest_in_front : (clues : ℕ) (start before after : List ℕ) → FindsAny m clues true start before → HoldsNearest m clues before after
      → AgreeingRival m clues (take (cell_count m) after) × NoneNearer m clues (take (cell_count m) after)
      × (after ≡ in_strip (take (cell_count m) after) start)
  nearest_in_front clues start before after f h =
      let e = front h.0 before after h.1.0.0 h.3 in (
        subst (λ (x : List ℕ). AgreeingRival m clues x) (sym e) h.1,
        subst (λ (x : List ℕ). NoneNearer m clues x) (sym e) h.2,
        h.3 ∙ ap (in_strip h.0) f.2
            ∙ strip_again h.0 f.0 start (laws.sized h.0 h.1.0.0 ∙ sym (laws.sized f.0 f.1.0.0))
            ∙ ap (λ x. in_strip x start) (sym e),
      )
