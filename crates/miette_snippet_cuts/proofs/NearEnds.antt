-- Which cells are near an end, by the first end that isn't too far in front of them; and the same ends in order.
use Rattle.std.proofs.Common.{ℕ, suc, ◌+◌, ◌-◌, ◌<◌, ◌≤◌, ◌≡◌, Bool, true, false, cond, ltb, leb, eqb}
use Rattle.std.proofs.Common.{List, [], ◌∷◌, length, drop, get_or, refl, sym, ap, subst, ◌∙◌, ◌&&◌, ◌||◌, Option}
use Rattle.std.proofs.Common.{Some, None, eqb-true, arith}
use Rattle.std.proofs.lemmas.Bool.{eq-eqb, lt-ltb, le-ltb, le-leb, lt-leb, ltb-true, ltb-false}
use Rattle.std.proofs.lemmas.List.{at_drop_more, at_drop_all}
use Rattle.std.proofs.lemmas.List.Sums.{sum_by-cons}
use Rattle.std.proofs.lemmas.List.Sorted.{IsNonDecreasingBy-from_sort, sum_by-IsPermutation}
use Rattle.std.specs.Ordering.{nat_cmp}
use Rattle.std.proofs.Math.Bool.{and-false}
use Rattle.std.specs.List.{list_any, sum_by}
use Rattle.std.specs.List.Sorted.{IsNonDecreasing, IsPermutation, IsSorted}
use Rattle.miette_lines.proofs.Cases.{by_cases}
use Rattle.miette_columns.specs.rules.Cells.{Cell}
use Rattle.miette_snippet_rules.specs.rules.CutLines.{has_room, is_within}
use Rattle.miette_snippet_cuts.specs.steps.LineParts.{cell_at}
use Rattle.miette_snippet_cuts.specs.declared.nearness.CutSettings.{CutSettings}
use Rattle.miette_snippet_cuts.specs.steps.Nearness.{ArePassed, LineEnds, end_ahead, near_by}

-- ---- ends that are passed

-- those that are passed at one column are at each later one; at any other none is
pub passed_start : (reach : ℕ) (es : List ℕ) (many reached column start : ℕ) → (column < reached → start ≡ 0)
    → (reached ≤ column → start ≡ many) → ArePassed reach es many reached → ArePassed reach es start column
passed_start reach es many reached column start anew on h =
    by_cases {C = ArePassed reach es start column} (ltb column reached)
    (λ y x lo. ap (λ n. end_ahead reach x (drop n es)) (sym (anew (ltb-true column reached y))))
    (λ n x lo. h x (omega (arith, lo, ltb-false column reached n))
    ∙ ap (λ k. end_ahead reach x (drop k es)) (sym (on (ltb-false column reached n))))

-- after `many` ends one more is passed that is too far in front
pub passed_more : (reach : ℕ) (es : List ℕ) (many column d : ℕ) → many < length es → reach < column - get_or es many d
    → ArePassed reach es many column → ArePassed reach es (many + 1) column
passed_more reach es many column d lt far h = λ x lo.
    let e : ℕ = get_or es many d in
    let past : ltb (e + reach) x ≡ true = lt-ltb (e + reach) x (omega (arith, far, lo)) in
    h x lo ∙ at_drop_more (end_ahead reach x) es many d lt
    ∙ ap (λ b. cond b (end_ahead reach x (drop (many + 1) es)) (Some e)) past

-- the first end after those that are passed is the one that is looked for
pub ahead_here : (reach : ℕ) (es : List ℕ) (many column d : ℕ) → many < length es → column ≤ get_or es many d + reach
    → ArePassed reach es many column → Some (get_or es many d) ≡ end_ahead reach column es
ahead_here reach es many column d lt near h =
    let e : ℕ = get_or es many d in
    let here : ltb (e + reach) column ≡ false = le-ltb (e + reach) column near in
    sym (h column (omega arith) ∙ at_drop_more (end_ahead reach column) es many d lt
    ∙ ap (λ b. cond b (end_ahead reach column (drop (many + 1) es)) (Some e)) here)

pub ahead_none : (reach : ℕ) (es : List ℕ) (many column : ℕ) → length es ≤ many → ArePassed reach es many column
    → None ≡ end_ahead reach column es
ahead_none reach es many column le h =
    sym (h column (omega arith) ∙ at_drop_all (end_ahead reach column) es many le)

-- it stays the one up to the last column that it is near
ahead_stays : (reach : ℕ) (es : List ℕ) (column later end : ℕ) → end_ahead reach column es ≡ Some end → column ≤ later
    → later ≤ end + reach → end_ahead reach later es ≡ Some end
ahead_stays reach [] column later end h lo hi = absurd (cc)
ahead_stays reach (e ∷ es) column later end h lo hi =
    by_cases {C = end_ahead reach later (e ∷ es) ≡ Some end} (ltb (e + reach) column)
    (λ y.
    let past : ltb (e + reach) later ≡ true = lt-ltb (e + reach) later (omega (arith, lo, ltb-true _ _ y)) in
    ap (λ b. cond b (end_ahead reach later es) (Some e)) past
    ∙ ahead_stays reach es column later end (sym (ap (λ b. cond b (end_ahead reach column es) (Some e)) y) ∙ h) lo hi)
    (λ n.
    let own : Some e ≡ Some end = sym (ap (λ b. cond b (end_ahead reach column es) (Some e)) n) ∙ h in
    let same : e ≡ end = cc in
    let here : ltb (e + reach) later ≡ false = le-ltb (e + reach) later (omega (arith, same, hi)) in
    ap (λ b. cond b (end_ahead reach later es) (Some e)) here ∙ own)

ahead_gone : (reach : ℕ) (es : List ℕ) (column later : ℕ) → end_ahead reach column es ≡ None → column ≤ later
    → end_ahead reach later es ≡ None
ahead_gone reach [] column later h lo = refl
ahead_gone reach (e ∷ es) column later h lo =
    by_cases {C = end_ahead reach later (e ∷ es) ≡ None} (ltb (e + reach) column)
    (λ y.
    let past : ltb (e + reach) later ≡ true = lt-ltb (e + reach) later (omega (arith, lo, ltb-true _ _ y)) in
    ap (λ b. cond b (end_ahead reach later es) (Some e)) past
    ∙ ahead_gone reach es column later (sym (ap (λ b. cond b (end_ahead reach column es) (Some e)) y) ∙ h) lo)
    (λ n.
    let own : Some e ≡ None = sym (ap (λ b. cond b (end_ahead reach column es) (Some e)) n) ∙ h in
    absurd (cc))

ahead_within : (reach : ℕ) (es : List ℕ) (column end : ℕ) → end_ahead reach column es ≡ Some end → column ≤ end + reach
ahead_within reach [] column end h = absurd (cc)
ahead_within reach (e ∷ es) column end h =
    by_cases {C = column ≤ end + reach} (ltb (e + reach) column)
    (λ y. ahead_within reach es column end (sym (ap (λ b. cond b (end_ahead reach column es) (Some e)) y) ∙ h))
    (λ n.
    let own : Some e ≡ Some end = sym (ap (λ b. cond b (end_ahead reach column es) (Some e)) n) ∙ h in
    let same : e ≡ end = cc in
    omega (arith, same, ltb-false (e + reach) column n))

listed : (own ends : LineEnds) → own ≡ ends → eqb (length own.ends) 0 ≡ false → length ends.ends ≡ 0 → ⊥
listed own ends e some z =
    let none : eqb (length own.ends) 0 ≡ true = eq-eqb (length own.ends) 0
    (ap (λ (v : LineEnds). length v.ends) e ∙ z) in
    cc

ascend : (own ends : LineEnds) → own ≡ ends → IsNonDecreasing own.ends → IsNonDecreasing ends.ends
ascend own ends e up = subst (λ (v : LineEnds). IsNonDecreasing v.ends) e up

-- ---- the first end that isn't passed says whether a cell is near

abbrev met_by : ℕ → Cell → Option ℕ → Bool
met_by reach cell None = false
met_by reach cell (Some end) = is_within reach cell end

later_ends : (e : ℕ) (es : List ℕ) → IsNonDecreasing (e ∷ es) → IsNonDecreasing es
later_ends e es up = λ i j d le lt. up (suc i) (suc j) d (omega (arith, le)) (omega (arith, lt))

-- ends after one that a cell doesn't reach
pub none_within : (reach : ℕ) (cell : Cell) (e : ℕ) (es : List ℕ) → cell.until + reach ≤ e → IsNonDecreasing (e ∷ es)
    → list_any (is_within reach cell) es ≡ false
none_within reach cell e [] far up = refl
none_within reach cell e (x ∷ es) far up =
    let more : e ≤ x = up 0 1 0 (omega arith) (omega arith) in
    let after : ltb x (cell.until + reach) ≡ false = le-ltb x (cell.until + reach) (omega (arith, far, more)) in
    let here : is_within reach cell x ≡ false = ap (λ b. leb cell.from (x + reach) && b) after
    ∙ and-false (leb cell.from (x + reach)) in
    ap (λ b. b || list_any (is_within reach cell) es) here
    ∙ none_within reach cell x es (omega (arith, far, more)) (later_ends e (x ∷ es) up)

near_ahead : (reach : ℕ) (cell : Cell) (es : List ℕ) → IsNonDecreasing es → list_any (is_within reach cell) es
    ≡ met_by reach cell (end_ahead reach cell.from es)
near_ahead reach cell [] up = refl
near_ahead reach cell (e ∷ es) up =
    let rest : Bool = list_any (is_within reach cell) es in
    let next : Option ℕ = end_ahead reach cell.from es in
    by_cases {C = list_any (is_within reach cell) (e ∷ es) ≡ met_by reach cell (end_ahead reach cell.from (e ∷ es))}
    (ltb (e + reach) cell.from)
    (λ y.
    let off : leb cell.from (e + reach) ≡ false = lt-leb cell.from (e + reach) (ltb-true _ _ y) in
    ap (λ b. (b && ltb e (cell.until + reach)) || rest) off ∙ near_ahead reach cell es (later_ends e es up)
    ∙ ap (λ b. met_by reach cell (cond b next (Some e))) (sym y))
    (λ n. first_near reach cell e es up (ltb-false _ _ n)
    ∙ ap (λ b. met_by reach cell (cond b next (Some e))) (sym n))
  where
    first_near : (reach : ℕ) (cell : Cell) (e : ℕ) (es : List ℕ) → IsNonDecreasing (e ∷ es) → cell.from ≤ e + reach
        → list_any (is_within reach cell) (e ∷ es) ≡ is_within reach cell e
    first_near reach cell e es up on =
        by_cases {C = list_any (is_within reach cell) (e ∷ es) ≡ is_within reach cell e} (ltb e (cell.until + reach))
        (λ y. rw (le-leb cell.from (e + reach) on, y) refl)
        (λ n. ap (λ b. is_within reach cell e || b)
        (none_within reach cell e es (ltb-false _ _ n) up)
        ∙ rw (le-leb cell.from (e + reach) on, n) refl)

near_listed : (room : CutSettings) (es : List ℕ) (cell : Cell) → (length es ≡ 0 → ⊥)
    → list_any (is_within room.reach cell) es ≡ near_by room es cell
near_listed room [] cell some = absurd (some refl)
near_listed room (e ∷ es) cell some = refl

pub near_found : (room : CutSettings) (es : List ℕ) (cell : Cell) (end : ℕ) (near : Bool) → (length es ≡ 0 → ⊥)
    → IsNonDecreasing es → Some end ≡ end_ahead room.reach cell.from es → near ≡ is_within room.reach cell end →
    near ≡ near_by room es cell
near_found room es cell end near some up found h =
    h ∙ ap (met_by room.reach cell) found ∙ sym (near_ahead room.reach cell es up) ∙ near_listed room es cell some

pub near_nowhere : (room : CutSettings) (es : List ℕ) (cell : Cell) → (length es ≡ 0 → ⊥) → IsNonDecreasing es
    → None ≡ end_ahead room.reach cell.from es → false ≡ near_by room es cell
near_nowhere room es cell some up none =
    ap (met_by room.reach cell) none ∙ sym (near_ahead room.reach cell es up) ∙ near_listed room es cell some

-- where there is no end, a cell is near where it has room
pub near_first_columns : (room : CutSettings) (es : List ℕ) (cell : Cell) → length es ≡ 0
    → has_room room.limit room.dots cell
    ≡ near_by room es cell
near_first_columns room [] cell h = refl
near_first_columns room (e ∷ es) cell h = absurd (omega (arith, h))

-- ---- the cells of one column from a column on

pub column_near : (reach e x : ℕ) → e - reach ≤ x → x ≤ e + reach → is_within reach (cell_at x) e ≡ true
column_near reach e x lo hi = rw (le-leb x (e + reach) hi, lt-ltb e (x + 1 + reach) (omega (arith, lo))) refl

pub column_before : (reach e x : ℕ) → x < e - reach → is_within reach (cell_at x) e ≡ false
column_before reach e x lt = rw (le-ltb e (x + 1 + reach) (omega (arith, lt))) (and-false (leb x (e + reach)))

pub turned : (room : CutSettings) (es : List ℕ) (column end until : ℕ) (near : Bool) → (length es ≡ 0 → ⊥)
    → IsNonDecreasing es → Some end ≡ end_ahead room.reach column es → until ≤ end + room.reach + 1 →
    ((x : ℕ) → column ≤ x → x < until → is_within room.reach (cell_at x) end ≡ near) →
    (x : ℕ) → column ≤ x → x < until → near_by room es (cell_at x) ≡ near
turned room es column end until near some up found reached alike x lo lt =
    sym (near_found room es (cell_at x) end near some up
    (sym (ahead_stays room.reach es column x end (sym found) lo (omega (arith, lt, reached)))) (sym (alike x lo lt)))

pub turned_none : (room : CutSettings) (es : List ℕ) (column : ℕ) → (length es ≡ 0 → ⊥) → IsNonDecreasing es
    → None ≡ end_ahead room.reach column es → (x : ℕ) → column ≤ x → near_by room es (cell_at x) ≡ false
turned_none room es column some up none x lo =
    sym (near_nowhere room es (cell_at x) some up (sym (ahead_gone room.reach es column x (sym none) lo)))

-- ---- the same, of ends whose fields were looked at

pub near_met : (own ends : LineEnds) (cell : Cell) (end : ℕ) (near : Bool) → own ≡ ends → eqb (length own.ends) 0
    ≡ false → IsNonDecreasing own.ends → Some end ≡ end_ahead ends.room.reach cell.from ends.ends →
    near ≡ is_within own.room.reach cell end → near ≡ near_by ends.room ends.ends cell
near_met own ends cell end near e some up found h =
    near_found ends.room ends.ends cell end near (listed own ends e some) (ascend own ends e up) found
    (h ∙ ap (λ (v : LineEnds). is_within v.room.reach cell end) e)

pub near_unmet : (own ends : LineEnds) (cell : Cell) → own ≡ ends → eqb (length own.ends) 0 ≡ false
    → IsNonDecreasing own.ends → None ≡ end_ahead ends.room.reach cell.from ends.ends →
    false ≡ near_by ends.room ends.ends cell
near_unmet own ends cell e some up none =
    near_nowhere ends.room ends.ends cell (listed own ends e some) (ascend own ends e up) none

pub met_within : (own ends : LineEnds) (column end : ℕ) → own ≡ ends → Some end
    ≡ end_ahead ends.room.reach column ends.ends → column ≤ end + own.room.reach
met_within own ends column end e found =
    let same : own.room.reach ≡ ends.room.reach = ap (λ (v : LineEnds). v.room.reach) e in
    subst (λ n. column ≤ end + n) (sym same) (ahead_within ends.room.reach ends.ends column end (sym found))

pub turned_met : (own ends : LineEnds) (column end until : ℕ) (near : Bool) → own ≡ ends → eqb (length own.ends) 0
    ≡ false → IsNonDecreasing own.ends → Some end ≡ end_ahead ends.room.reach column ends.ends →
    until ≤ end + own.room.reach + 1 →
    ((x : ℕ) → column ≤ x → x < until → is_within own.room.reach (cell_at x) end ≡ near) →
    (x : ℕ) → column ≤ x → x < until → near_by ends.room ends.ends (cell_at x) ≡ near
turned_met own ends column end until near e some up found reached alike =
    let same : own.room.reach ≡ ends.room.reach = ap (λ (v : LineEnds). v.room.reach) e in
    turned ends.room ends.ends column end until near (listed own ends e some) (ascend own ends e up) found
    (subst (λ n. until ≤ end + n + 1) same reached)
    (λ x lo lt. ap (λ n. is_within n (cell_at x) end) (sym same) ∙ alike x lo lt)

pub turned_unmet : (own ends : LineEnds) (column until : ℕ) → own ≡ ends → eqb (length own.ends) 0 ≡ false
    → IsNonDecreasing own.ends → None ≡ end_ahead ends.room.reach column ends.ends →
    (x : ℕ) → column ≤ x → x < until → near_by ends.room ends.ends (cell_at x) ≡ false
turned_unmet own ends column until e some up none x lo lt =
    turned_none ends.room ends.ends column (listed own ends e some) (ascend own ends e up) none x lo

-- the same, of a line without ends
pub none_listed : (own ends : LineEnds) → own ≡ ends → eqb (length own.ends) 0 ≡ true → length ends.ends ≡ 0
none_listed own ends e none = sym (ap (λ (v : LineEnds). length v.ends) e) ∙ eqb-true (length own.ends) 0 none

pub near_first : (own ends : LineEnds) (cell : Cell) (near : Bool) → own ≡ ends → eqb (length own.ends) 0 ≡ true
    → near ≡ has_room own.room.limit own.room.dots cell → near ≡ near_by ends.room ends.ends cell
near_first own ends cell near e none h =
    h ∙ ap (λ (v : LineEnds). has_room v.room.limit v.room.dots cell) e
    ∙ near_first_columns ends.room ends.ends cell (none_listed own ends e none)

pub turned_first : (own ends : LineEnds) (column until : ℕ) (near : Bool) → own ≡ ends → eqb (length own.ends) 0 ≡ true
    → ((x : ℕ) → column ≤ x → x < until → has_room own.room.limit own.room.dots (cell_at x) ≡ near) →
    (x : ℕ) → column ≤ x → x < until → near_by ends.room ends.ends (cell_at x) ≡ near
turned_first own ends column until near e none alike x lo lt =
    sym (near_first own ends (cell_at x) near e none (sym (alike x lo lt)))

-- ---- ends in another order

pub ends_ascend : (es read : List ℕ) → read ≡ es → IsSorted nat_cmp es → IsNonDecreasing read
ends_ascend es read e h =
    subst (λ (xs : List ℕ). IsNonDecreasing xs) (sym e) (IsNonDecreasingBy-from_sort (λ x. x) es h)

any-counted : (p : ℕ → Bool) (es : List ℕ) → list_any p es ≡ ltb 0 (sum_by (λ e. cond (p e) 1 0) es)
any-counted p [] = refl
any-counted p (e ∷ es) =
    let own : ℕ = cond (p e) 1 0 in
    let rest : ℕ = sum_by (λ x. cond (p x) 1 0) es in
    let whole : ℕ = sum_by (λ x. cond (p x) 1 0) (e ∷ es) in
    let more : whole ≡ own + rest = sum_by-cons (λ x. cond (p x) 1 0) e es in
    by_cases {C = list_any p (e ∷ es) ≡ ltb 0 whole} (p e)
    (λ y.
    let one : own ≡ 1 = ap (λ b. cond b 1 0) y in
    ap (λ b. b || list_any p es) y ∙ sym (lt-ltb 0 whole (omega (arith, more, one))))
    (λ n.
    let none : own ≡ 0 = ap (λ b. cond b 1 0) n in
    let same : rest ≡ whole = omega (arith, more, none) in
    ap (λ b. b || list_any p es) n ∙ any-counted p es ∙ ap (ltb 0) same)

pub any-moved : (p : ℕ → Bool) (es moved : List ℕ) → IsPermutation es moved → list_any p moved ≡ list_any p es
any-moved p es moved h = any-counted p moved ∙ ap (ltb 0) (sum_by-IsPermutation (λ e. cond (p e) 1 0) es moved h)
    ∙ sym (any-counted p es)
