-- How often a value stands in a line, and what follows for a grid that keeps the rules.
use Rattle.std.proofs.Common.{◌≡◌, ℕ, zero, suc, ◌+◌, ◌-◌, ◌*◌, ◌<◌, ◌≤◌, Bool, true, false, cond, eqb, leb, List, length, get_or, set, sym, refl, ap, ◌∙◌, ⊎_elim, not-suc-le-zero, zero-add, add-one, arith}
use Rattle.std.proofs.lemmas.List.{get_or-set_same, get_or-set_other}
use Rattle.std.proofs.lemmas.Bool.{eq-eqb, ne_eqb, eqb-true, cases_eq, and_parts, and_from, leb-true}
use Rattle.cells.specs.Sets.{all}
use Rattle.cells.specs.Lines.{count, is_value, holds_each, keeps}
use Rattle.cells.proofs.Bounded.{at_most_one, all_at, all_from}

pub count_none : (line : ℕ → ℕ) (g : List ℕ) (v : ℕ) → count line g v 0 ≡ 0
unfolding count
count_none line g v = refl

count_step : (line : ℕ → ℕ) (g : List ℕ) (v k : ℕ) → count line g v (suc k) ≡ cond (eqb (get_or g (line k) 0) v) 1 0 + count line g v k
unfolding count
count_step line g v k = refl

last : (line : ℕ → ℕ) (g : List ℕ) (v m j : ℕ) → j ≡ m → get_or g (line j) 0 ≡ v → count line g v (suc m) ≡ 1 + count line g v m
last line g v m j e h =
    count_step line g v m
    ∙ ap (λ (b : Bool). cond b 1 0 + count line g v m) (eq-eqb (get_or g (line m) 0) v (ap (λ q. get_or g (line q) 0) (sym e) ∙ h))

-- One more place, at cell c, that holds the value, or does not.
pub count_hit : (line : ℕ → ℕ) (g : List ℕ) (v k c : ℕ) → c ≡ line k → get_or g c 0 ≡ v → count line g v (k + 1) ≡ 1 + count line g v k
count_hit line g v k c e h = ap (count line g v) (add-one k) ∙ last line g v k k refl (ap (λ q. get_or g q 0) (sym e) ∙ h)

pub count_miss : (line : ℕ → ℕ) (g : List ℕ) (v k c : ℕ) → c ≡ line k → (get_or g c 0 ≡ v → ⊥) → count line g v (k + 1) ≡ 0 + count line g v k
unfolding count
count_miss line g v k c e h =
    ap (count line g v) (add-one k)
    ∙ ap (λ (b : Bool). cond b 1 0 + count line g v k) (ne_eqb (get_or g (line k) 0) v (λ d. h (ap (λ q. get_or g q 0) e ∙ d)))

-- A value that stands in a line is counted, and one that stands there twice is counted twice.
once : (line : ℕ → ℕ) (g : List ℕ) (v m j : ℕ) → j < m → get_or g (line j) 0 ≡ v → 1 ≤ count line g v m
once line g v zero j l h = absurd (not-suc-le-zero l)
once line g v (suc m) j l h =
    ⊎_elim
    (λ (e : j ≡ m). omega (arith, last line g v m j e h))
    (λ (ne : j ≡ m → ⊥). let i = once line g v m j (omega arith) h in omega (arith, count_step line g v m))
    (cases_eq j m)

pub twice : (line : ℕ → ℕ) (g : List ℕ) (v m j k : ℕ) → j < m → k < m → (j ≡ k → ⊥) → get_or g (line j) 0 ≡ v → get_or g (line k) 0 ≡ v
    → 2 ≤ count line g v m
twice line g v zero j k a b d p q = absurd (not-suc-le-zero a)
twice line g v (suc m) j k a b d p q =
    ⊎_elim
    (λ (e : j ≡ m). omega (arith, last line g v m j e p, once line g v m k (omega arith) q))
    (λ (ne : j ≡ m → ⊥).
    ⊎_elim
    (λ (e : k ≡ m). omega (arith, last line g v m k e q, once line g v m j (omega arith) p))
    (λ (no : k ≡ m → ⊥). let i = twice line g v m j k (omega arith) (omega arith) d p q in omega (arith, count_step line g v m))
    (cases_eq k m))
    (cases_eq j m)

count_mono : (line : ℕ → ℕ) (g : List ℕ) (v k m : ℕ) → k ≤ m → count line g v k ≤ count line g v m
count_mono line g v k zero l = let e : k ≡ 0 = omega arith in omega (arith, ap (count line g v) e)
count_mono line g v k (suc m) l =
    ⊎_elim
    (λ (e : k ≡ suc m). omega (arith, ap (count line g v) e))
    (λ (ne : k ≡ suc m → ⊥). let i = count_mono line g v k m (omega arith) in omega (arith, count_step line g v m))
    (cases_eq k (suc m))

-- The marks after one more place, at cell c, whose value was not marked.
pub marked_more : (line : ℕ → ℕ) (g : List ℕ) (seen : List Bool) (k c m : ℕ) → c ≡ line k → m ≡ length seen → get_or g c 0 < m
    → get_or seen (get_or g c 0) false ≡ false
    → ((v : ℕ) → v < m → count line g v k ≡ cond (get_or seen v false) 1 0)
    → (v : ℕ) → v < m → count line g v (k + 1) ≡ cond (get_or (set seen (get_or g c 0) true) v false) 1 0
marked_more line g seen k c m e n l f h v b =
    ⊎_elim
    (λ (d : v ≡ get_or g c 0).
    let z : count line g v k ≡ 0 =
    h v b ∙ ap (λ (u : ℕ). cond (get_or seen u false) 1 0) d ∙ ap (λ (t : Bool). cond t 1 0) f in
    let a : count line g v (k + 1) ≡ 1 = omega (arith, count_hit line g v k c e (sym d)) in
    a
    ∙ sym (ap (λ (u : ℕ). cond (get_or (set seen (get_or g c 0) true) u false) 1 0) d
    ∙ ap (λ (t : Bool). cond t 1 0) (get_or-set_same seen (get_or g c 0) true false (omega arith))))
    (λ (d : v ≡ get_or g c 0 → ⊥).
    count_miss line g v k c e (λ q. d (sym q)) ∙ zero-add (count line g v k) ∙ h v b
    ∙ sym (ap (λ (t : Bool). cond t 1 0) (get_or-set_other seen (get_or g c 0) v true false d)))
    (cases_eq v (get_or g c 0))

-- A marked value that comes once more is there twice.
pub marked_again : (line : ℕ → ℕ) (g : List ℕ) (seen : List Bool) (k n c m : ℕ) → c ≡ line k → k < n → get_or g c 0 < m
    → get_or seen (get_or g c 0) false ≡ true
    → ((v : ℕ) → v < m → count line g v k ≡ cond (get_or seen v false) 1 0) → count line g (get_or g c 0) n ≡ 1 → ⊥
marked_again line g seen k n c m e l b f h one =
    let a : count line g (get_or g c 0) k ≡ 1 = h (get_or g c 0) b ∙ ap (λ (t : Bool). cond t 1 0) f in
    omega (arith, count_hit line g (get_or g c 0) k c e refl, count_mono line g (get_or g c 0) (k + 1) n (omega arith))

-- A line of n places that are all values, none of them twice, holds each of the values 1 to n once.
abbrev total : (ℕ → ℕ) → ℕ → ℕ
total f zero = 0
total f (suc m) = f m + total f m

total_none : (n : ℕ) → total (λ _. 0) n ≡ 0
total_none zero = refl
total_none (suc n) = omega (arith, total_none n)

total_same : (f h : ℕ → ℕ) (n : ℕ) → ((v : ℕ) → f v ≡ h v) → total f n ≡ total h n
total_same f h zero e = refl
total_same f h (suc n) e = let i = total_same f h n e in let d = e n in omega arith

total_add : (f h : ℕ → ℕ) (n : ℕ) → total (λ v. f v + h v) n ≡ total f n + total h n
total_add f h zero = refl
total_add f h (suc n) = let i = total_add f h n in omega arith

-- how often a value is v + 1: once or never
abbrev hit : ℕ → ℕ → ℕ
hit x v = cond (eqb x (v + 1)) 1 0

hit_none : (x n : ℕ) → n < x → total (hit x) n ≡ 0
hit_none x zero l = refl
hit_none x (suc n) l =
    let e : hit x n ≡ 0 = ap (λ (b : Bool). cond b 1 0) (ne_eqb x (n + 1) (λ h. omega arith)) in
    let i = hit_none x n (omega arith) in
    omega arith

hit_one : (x n : ℕ) → 0 < x → x ≤ n → total (hit x) n ≡ 1
hit_one x zero p l = omega arith
hit_one x (suc n) p l =
    ⊎_elim
    (λ (h : x ≡ n + 1).
    let e : hit x n ≡ 1 = ap (λ (b : Bool). cond b 1 0) (eq-eqb x (n + 1) h) in
    let i = hit_none x n (omega arith) in
    omega arith)
    (λ (h : x ≡ n + 1 → ⊥).
    let e : hit x n ≡ 0 = ap (λ (b : Bool). cond b 1 0) (ne_eqb x (n + 1) h) in
    let i = hit_one x n p (omega arith) in
    omega arith)
    (cases_eq x (n + 1))

-- the counts of the values of a line's first k places add up to k
counts : (line : ℕ → ℕ) (g : List ℕ) (n k : ℕ) → ((j : ℕ) → j < k → is_value n (get_or g (line j) 0) ≡ true)
    → total (λ v. count line g (v + 1) k) n ≡ k
counts line g n zero h = total_same (λ v. count line g (v + 1) 0) (λ _. 0) n (λ v. count_none line g (v + 1)) ∙ total_none n
counts line g n (suc k) h =
    let r = and_parts (leb 1 (get_or g (line k) 0)) (leb (get_or g (line k) 0) n) (h k (omega arith)) in
    let i = counts line g n k (λ j l. h j (omega arith)) in
    let s =
    total_same (λ v. count line g (v + 1) (suc k)) (λ v. hit (get_or g (line k) 0) v + count line g (v + 1) k) n
    (λ v. count_step line g (v + 1) k) in
    let e = total_add (hit (get_or g (line k) 0)) (λ v. count line g (v + 1) k) n in
    let o = hit_one (get_or g (line k) 0) n (leb-true 1 _ r.0) (leb-true _ n r.1) in
    s ∙ e ∙ omega arith

total_below : (f : ℕ → ℕ) (n : ℕ) → ((v : ℕ) → v < n → f v ≤ 1) → total f n ≤ n
total_below f zero h = omega arith
total_below f (suc n) h = omega (arith, h n (omega arith), total_below f n (λ v l. h v (omega arith)))

full : (f : ℕ → ℕ) (n : ℕ) → ((v : ℕ) → v < n → f v ≤ 1) → total f n ≡ n → (v : ℕ) → v < n → f v ≡ 1
full f zero h e v l = absurd (not-suc-le-zero l)
full f (suc n) h e v l =
    let a = h n (omega arith) in
    let b = total_below f n (λ u k. h u (omega arith)) in
    ⊎_elim
    (λ (d : v ≡ n). ap f d ∙ omega arith)
    (λ (d : v ≡ n → ⊥). full f n (λ u k. h u (omega arith)) (omega arith) v (omega arith))
    (cases_eq v n)

-- What is known of a line that was gone through: all its places hold values, and no value stands there twice.
abbrev pub Apart : ℕ → (ℕ → ℕ) → List ℕ → Type 0
Apart n line g = ((j : ℕ) → j < n → is_value n (get_or g (line j) 0) ≡ true) × ((v : ℕ) → v < n → count line g (v + 1) n ≤ 1)

pub apart_holds : (n : ℕ) (line : ℕ → ℕ) (g : List ℕ) → Apart n line g → holds_each n line g ≡ true
apart_holds n line g a =
    all_from (λ v. eqb (count line g (v + 1) n) 1) n
    (λ v l. eq-eqb (count line g (v + 1) n) 1 (full (λ u. count line g (u + 1) n) n a.1 (counts line g n n a.0) v l))

-- The marks of a whole line.
pub marked_apart : (n : ℕ) (line : ℕ → ℕ) (g : List ℕ) (seen : List Bool) (k m : ℕ) → k ≡ n → n < m
    → ((j : ℕ) → j < k → is_value n (get_or g (line j) 0) ≡ true)
    → ((v : ℕ) → v < m → count line g v k ≡ cond (get_or seen v false) 1 0) → Apart n line g
marked_apart n line g seen k m e l r h = (
  (λ j b. r j (omega arith)),
  (λ v b. let d = ap (count line g (v + 1)) e in omega (arith, d, h (v + 1) (omega arith), at_most_one (get_or seen (v + 1) false))),
)

-- A grid keeps the rules if it has n × n cells, each on some line, and each line was gone through.
pub keeps_from : (n lines : ℕ) (line : ℕ → ℕ → ℕ) (g : List ℕ) → length g ≡ n * n
    → ((c : ℕ) → c < n * n → (l : ℕ) × (k : ℕ) × (l < lines) × (k < n) × (line l k ≡ c))
    → ((l : ℕ) → l < lines → Apart n (line l) g) → keeps n lines line g ≡ true
unfolding keeps
keeps_from n lines line g e on a =
    and_from _ _ (eq-eqb (length g) (n * n) e)
    (and_from _ _
    (all_from (λ c. is_value n (get_or g c 0)) (n * n)
    (λ c l. let w = on c l in ap (λ x. is_value n (get_or g x 0)) (sym w.4) ∙ (a w.0 w.2).0 w.1 w.3))
    (all_from (λ l. holds_each n (line l) g) lines (λ l b. apart_holds n (line l) g (a l b))))

-- What is known of a grid that keeps the rules.
keeps_parts : (n lines : ℕ) (line : ℕ → ℕ → ℕ) (g : List ℕ) → keeps n lines line g ≡ true
    → (length g ≡ n * n) × (all (λ c. is_value n (get_or g c 0)) (n * n) ≡ true) × (all (λ l. holds_each n (line l) g) lines ≡ true)
unfolding keeps
keeps_parts n lines line g h =
    let p = and_parts (eqb (length g) (n * n)) _ h in
    let q = and_parts (all (λ c. is_value n (get_or g c 0)) (n * n)) _ p.1 in
    (eqb-true (length g) (n * n) p.0, q.0, q.1)

pub keeps-length : (n lines : ℕ) (line : ℕ → ℕ → ℕ) (g : List ℕ) → keeps n lines line g ≡ true → length g ≡ n * n
keeps-length n lines line g h = (keeps_parts n lines line g h).0

pub keeps_value : (n lines : ℕ) (line : ℕ → ℕ → ℕ) (g : List ℕ) → keeps n lines line g ≡ true → (c : ℕ) → c < n * n
    → (1 ≤ get_or g c 0) × (get_or g c 0 ≤ n)
keeps_value n lines line g h c l =
    let e = all_at (λ d. is_value n (get_or g d 0)) (n * n) (keeps_parts n lines line g h).1 c l in
    let p = and_parts (leb 1 (get_or g c 0)) (leb (get_or g c 0) n) e in
    (leb-true 1 (get_or g c 0) p.0, leb-true (get_or g c 0) n p.1)

pub keeps_once : (n lines : ℕ) (line : ℕ → ℕ → ℕ) (g : List ℕ) → keeps n lines line g ≡ true
    → (l : ℕ) → l < lines → (v : ℕ) → 0 < v → v ≤ n → count (line l) g v n ≡ 1
keeps_once n lines line g h l b v p q =
    let d : v - 1 + 1 ≡ v = omega arith in
    let a = all_at (λ j. holds_each n (line j) g) lines (keeps_parts n lines line g h).2 l b in
    ap (λ u. count (line l) g u n) (sym d)
    ∙ eqb-true (count (line l) g (v - 1 + 1) n) 1 (all_at (λ u. eqb (count (line l) g (u + 1) n) 1) n a (v - 1) (omega arith))
