-- Where two grids agree and differ.
use Rattle.std.proofs.Common.{◌≡◌, ℕ, suc, ◌+◌, ◌^◌, ◌<◌, ◌≤◌, min, Bool, true, false, not, ◌&&◌, ◌||◌, eqb, ltb, List, [], ◌∷◌, ◌++◌, length, get_or, take, drop, set, Decides, sym, refl, ap, ◌∙◌, ⊎_elim, append_assoc, add-one, arith, drop-cons}
use mathlib.Core.Bool.{and-true}
use Rattle.std.proofs.lemmas.List.{take_all, take_at, take_more, take-append-drop, drop_at, set_at, length-take, length-take-le}
use Rattle.std.proofs.lemmas.Bool.{eqb-true, eq-eqb, false≢true, true≢false, both_ways, and_parts, and_from, cases_lt, cases_Bool, lt-ltb}
use Rattle.std.proofs.lemmas.Bool.Decides.{Decides-like, same_from_decides, Decides-not}
use Rattle.cells.specs.Sets.{has, union, intersection, all_below, meets}
use Rattle.cells.specs.Grids.{common, alike, agree, differ_below, differ, with_front, in_strip}
use Rattle.cells.proofs.Bounded.{all_decides, all_same, all_both}
use Rattle.cells.proofs.SetLaws.{has_above, has-set_of, set_of_below, has-union, has-intersection, meets_decides}

-- The test at one cell: the cell is not in the set, or the values are equal.
pub kept_decides : (p : Bool) (x y : ℕ) → Decides (not p || eqb x y) (p ≡ true → x ≡ y)
kept_decides true x y = (λ e _. eqb-true x y e, λ f. eq-eqb x y (f refl))
kept_decides false x y = (λ _ e. absurd (false≢true e), λ _. refl)

-- Agreement is equality in each cell of the set that both grids have.
pub agree_decides : (s : ℕ) (g h : List ℕ)
    → Decides (agree s g h) ((c : ℕ) → c < common g h → has s c ≡ true → get_or g c 0 ≡ get_or h c 0)
agree_decides s g h =
    Decides-like (agree s g h)
    (λ f c l. (kept_decides (has s c) (get_or g c 0) (get_or h c 0)).0 (f c l))
    (λ f c l. (kept_decides (has s c) (get_or g c 0) (get_or h c 0)).1 (f c l))
    (all_decides (λ c. not (has s c) || alike g h c) (common g h))

-- A grid agrees with itself.
pub agree_self : (s : ℕ) (g : List ℕ) → agree s g g ≡ true
agree_self s g = (agree_decides s g g).1 (λ _ _ _. refl)

-- Agreement on the union of two sets is agreement on both.
pub agree-union : (s t : ℕ) (g h : List ℕ) → s < 2 ^ 64 → t < 2 ^ 64 → agree (union s t) g h ≡ (agree s g h && agree t g h)
agree-union s t g h l m =
    all_same (λ c. not (has (union s t) c) || alike g h c) (λ c. (not (has s c) || alike g h c) && (not (has t c) || alike g h c)) (common g h)
    (λ c _. ap (λ b. not b || alike g h c) (has-union s t c l m) ∙ either (has s c) (has t c) (alike g h c))
    ∙ all_both (λ c. not (has s c) || alike g h c) (λ c. not (has t c) || alike g h c) (common g h)
  where
    either : (a b e : Bool) → (not (a || b) || e) ≡ ((not a || e) && (not b || e))
    either true true true = refl
    either true false true = refl
    either true b false = refl
    either false b e = refl

-- Cells that the first grid does not have are ignored.
pub agree_inside : (s : ℕ) (g h : List ℕ) → s < 2 ^ 64 → length g ≤ 64 → agree (intersection s (all_below (length g))) g h ≡ agree s g h
agree_inside s g h l m =
    all_same (λ c. not (has (intersection s (all_below (length g))) c) || alike g h c) (λ c. not (has s c) || alike g h c) (common g h)
    (λ c k.
    ap (λ b. not b || alike g h c)
    (has-intersection s (all_below (length g)) c l (set_of_below (λ d. ltb d (length g)) 64)
    ∙ ap (λ b. has s c && b) (has-set_of (λ d. ltb d (length g)) 64 c (omega arith) ∙ lt-ltb c (length g) (omega arith))
    ∙ and-true (has s c)))

-- A cell below 64 that both grids have is in the difference set if they differ there.
pub has-differ : (g h : List ℕ) (c : ℕ) → c < min (common g h) 64 → has (differ g h) c ≡ not (alike g h c)
has-differ g h c l = has-set_of (λ d. not (alike g h d)) (min (common g h) 64) c l

pub differ_bound : (g h : List ℕ) → differ g h < 2 ^ min (common g h) 64
differ_bound g h = set_of_below (λ d. not (alike g h d)) (min (common g h) 64)

-- Two grids agree on a set exactly when it does not meet their difference set.
pub agree_unmet : (s : ℕ) (g h : List ℕ) → s < 2 ^ 64 → agree s g h ≡ not (meets s (differ g h))
agree_unmet s g h l =
    same_from_decides (agree s g h) (not (meets s (differ g h))) (agree_decides s g h)
    (Decides-like (not (meets s (differ g h))) equal shared (Decides-not (meets s (differ g h)) (meets_decides s (differ g h))))
  where
    inside : (c : ℕ) → c < common g h → has s c ≡ true → c < min (common g h) 64
    inside c k i =
        ⊎_elim
        (λ (m : c < 64). omega arith)
        (λ (m : 64 ≤ c). absurd (both_ways (has s c) (has_above s 64 c l m) i))
        (cases_lt c 64)

    equal : ((c : ℕ) × (c < 64) × ((has s c && has (differ g h) c) ≡ true) → ⊥)
        → (c : ℕ) → c < common g h → has s c ≡ true → get_or g c 0 ≡ get_or h c 0
    equal f c k i =
        let m = inside c k i in
        ⊎_elim
        (λ (e : alike g h c ≡ true). eqb-true (get_or g c 0) (get_or h c 0) e)
        (λ (e : alike g h c ≡ false). absurd (f (c, omega arith, and_from (has s c) (has (differ g h) c) i (has-differ g h c m ∙ ap not e))))
        (cases_Bool (alike g h c))

    shared : ((c : ℕ) → c < common g h → has s c ≡ true → get_or g c 0 ≡ get_or h c 0)
        → (c : ℕ) × (c < 64) × ((has s c && has (differ g h) c) ≡ true) → ⊥
    shared f w =
        let c = w.0 in
        let b = and_parts (has s c) (has (differ g h) c) w.2 in
        ⊎_elim
        (λ (k : c < min (common g h) 64).
        true≢false (sym b.1 ∙ has-differ g h c k ∙ ap not (eq-eqb (get_or g c 0) (get_or h c 0) (f c (omega arith) b.0))))
        (λ (k : min (common g h) 64 ≤ c).
        both_ways (has (differ g h) c) (has_above (differ g h) (min (common g h) 64) c (differ_bound g h) k) b.1)
        (cases_lt c (min (common g h) 64))

-- A strip whose front is a grid's first k values has one more of them after the next was written.
pub front_more : (g strip : List ℕ) (k : ℕ) → k < length g → k < length strip → set (with_front k g strip) k (get_or g k 0) ≡ with_front (k + 1) g strip
front_more g strip k l m =
    ap (λ x. set (take k g ++ x) k (get_or g k 0)) (drop-cons strip k 0 m)
    ∙ set_at (take k g) (get_or strip k 0) (drop (suc k) strip) (get_or g k 0) k (length-take-le k g (omega arith))
    ∙ sym (append_assoc (take k g) (get_or g k 0 ∷ []) (drop (suc k) strip))
    ∙ ap (λ x. x ++ drop (suc k) strip) (sym (take_more g k 0 l))
    ∙ ap (λ x. take (k + 1) g ++ drop x strip) (sym (add-one k))

-- The front of a strip that a grid was put in is the grid again.
pub strip_front : (g before after : List ℕ) (n : ℕ) → n ≡ length g → length g ≤ 64 → after ≡ in_strip g before → take n after ≡ g
strip_front g before after n m h e =
    let k = min (length g) 64 in
    let same : min (length g) 64 ≡ length g = omega arith in
    let whole = ap (λ i. take i g) same ∙ take_all (length g) g (omega arith) in
    ap (take n) e ∙ take_at (take k g) (drop k before) n (ap length whole ∙ sym m) ∙ whole

-- A grid put in a strip covers a grid of as many cells that was there.
pub strip_again : (g h strip : List ℕ) → length g ≡ length h → in_strip g (in_strip h strip) ≡ in_strip g strip
strip_again g h strip e =
    let k = min (length g) 64 in
    let j = min (length h) 64 in
    let same : min (length g) 64 ≡ min (length h) 64 = omega arith in
    let long : length (take j h) ≡ k = length-take j h ∙ omega arith in
    ap (λ x. take k g ++ x) (drop_at (take j h) (drop j strip) k long ∙ ap (λ i. drop i strip) (sym same))

-- A strip whose own front is put in it is as it was.
pub strip_same : (strip : List ℕ) (n : ℕ) → n ≤ length strip → n ≤ 64 → in_strip (take n strip) strip ≡ strip
strip_same strip n l m =
    let long = length-take-le n strip l in
    let same : min (length (take n strip)) 64 ≡ n = omega arith in
    ap (λ k. take k (take n strip) ++ drop k strip) same
    ∙ ap (λ x. x ++ drop n strip) (take_all n (take n strip) (omega arith)) ∙ take-append-drop n strip

-- The difference set of two grids of n cells is over all their cells.
pub differ_whole : (g h : List ℕ) (n : ℕ) → length g ≡ n → length h ≡ n → n ≤ 64 → differ g h ≡ differ_below n g h
differ_whole g h n p q l =
    let e : min (common g h) 64 ≡ n = omega arith in
    ap (λ k. differ_below k g h) e
