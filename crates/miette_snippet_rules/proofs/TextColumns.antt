-- The columns of the text of a line that is cut, cell by cell; and the largest number that passes a test.
use Rattle.std.proofs.Common.{ℕ, zero, suc, ◌+◌, ◌-◌, ◌<◌, ◌≤◌, ◌≡◌, min, Bool, true, false, cond, eqb, ltb, leb}
use Rattle.std.proofs.Common.{List, [], ◌∷◌, ◌++◌, append_assoc, refl, sym, ap, ◌∙◌, ◌||◌, arith}
use Rattle.std.proofs.lemmas.Bool.{leb-true, leb-false, ltb-true, ltb-false, eqb-true}
use Rattle.miette_columns.specs.rules.Cells.{Cell}
use Rattle.miette_snippet_rules.specs.rules.CutLines.{LinePart, agree, columns_in, is_part_shown, largest_passing}
use Rattle.miette_snippet_rules.specs.rules.CutLines.{prepend_part}
use Rattle.miette_snippet_rules.specs.rules.CutLines.{is_near_after, line_parts, text_columns, with_short_parts}
use Rattle.miette_snippet_rules.proofs.CutColumns.{columns_in-append}
use Rattle.miette_lines.proofs.Cases.{by_cases}

-- The columns of the row's text where `passed` columns stand before that aren't near: of such a stretch as many count
-- as there are dots, if it has more. A cell without columns changes nothing.
abbrev pub shown_columns : ℕ → (Cell → Bool) → ℕ → List Cell → ℕ
shown_columns many near passed [] = min passed many
shown_columns many near passed (cell ∷ cells) =
    cond (eqb cell.from cell.until) (shown_columns many near passed cells)
    (cond (near cell) (min passed many + ((cell.until - cell.from) + shown_columns many near 0 cells))
    (shown_columns many near (passed + (cell.until - cell.from)) cells))

-- ---- stretches, of which the near and the short ones are shown

-- the columns of a stretch in the row: all of one that is near, of another at most as many as there are dots
abbrev own_columns : ℕ → Bool → ℕ → ℕ
own_columns many near columns = cond near columns (min columns many)

abbrev stretch_columns : ℕ → List LinePart → ℕ
stretch_columns many [] = 0
stretch_columns many (s ∷ later) = own_columns many s.shown (columns_in s.cells) + stretch_columns many later

-- the first stretch is shown, if there is one
abbrev IsFirstShown : List LinePart → Type 0
IsFirstShown [] = Unit {0}
IsFirstShown (s ∷ later) = s.shown ≡ true

-- of two stretches that follow one another one is near
abbrev AreParted : List LinePart → Type 0
AreParted [] = Unit {0}
AreParted (s ∷ []) = Unit {0}
AreParted (s ∷ next ∷ later) = (agree s.shown next.shown ≡ false) × AreParted (next ∷ later)

onto_first : (s : LinePart) (ss : List LinePart) → s.shown ≡ true → IsFirstShown (prepend_part s ss)
onto_first s [] h = h
onto_first s (next ∷ later) h =
    by_cases {C = IsFirstShown (prepend_part s (next ∷ later))} (agree s.shown next.shown)
    (λ y. rw y h) (λ n. rw n h)

-- a stretch that is shown, before others
onto_shown : (many : ℕ) (s : LinePart) (ss : List LinePart) → s.shown ≡ true
    → text_columns many (prepend_part s ss) ≡ columns_in s.cells + text_columns many ss
onto_shown many s [] h = rw h refl
onto_shown many s (next ∷ later) h =
    by_cases {C = text_columns many (prepend_part s (next ∷ later))
    ≡ columns_in s.cells + text_columns many (next ∷ later)} next.shown
    (λ y. rw (h, y) (omega (arith, columns_in-append s.cells next.cells)))
    (λ n. rw (h, n) refl)

-- one that is left out, before one that is shown
onto_left : (many : ℕ) (s : LinePart) (ss : List LinePart) → s.shown ≡ false → IsFirstShown ss
    → text_columns many (prepend_part s ss) ≡ many + text_columns many ss
onto_left many s [] h first = rw h refl
onto_left many s (next ∷ later) h first = rw (h, first) refl

-- after one that is left out the next one is near, so it is shown
next_shown : (many : ℕ) (s : LinePart) (later : List LinePart) → s.shown ≡ false → AreParted (s ∷ later)
    → IsFirstShown (with_short_parts many later)
next_shown many s [] h parted = tt
next_shown many s (next ∷ later) h parted =
    onto_first (record { shown = is_part_shown many next; cells = next.cells }) (with_short_parts many later)
    (kept s.shown next.shown (leb (columns_in next.cells) many) h parted.0)
  where
    kept : (a b c : Bool) → a ≡ false → agree a b ≡ false → (b || c) ≡ true
    kept a true c h e = refl
    kept true false c h e = absurd (cc)
    kept false false c h e = absurd (cc)

later_parted : (s : LinePart) (later : List LinePart) → AreParted (s ∷ later) → AreParted later
later_parted s [] h = tt
later_parted s (next ∷ later) h = h.1

short_columns : (many : ℕ) (ss : List LinePart) → AreParted ss
    → text_columns many (with_short_parts many ss) ≡ stretch_columns many ss
short_columns many [] h = refl
short_columns many (s ∷ later) h =
    let columns : ℕ = columns_in s.cells in
    let rest : text_columns many (with_short_parts many later) ≡ stretch_columns many later =
    short_columns many later (later_parted s later h) in
    by_cases {C = text_columns many (with_short_parts many (s ∷ later)) ≡ stretch_columns many (s ∷ later)}
    (is_part_shown many s)
    (λ y. onto_shown many (record { shown = is_part_shown many s; cells = s.cells }) (with_short_parts many later) y
    ∙ omega (arith, rest, kept s.shown columns y))
    (λ n. let far : s.shown ≡ false = not_near s.shown (leb columns many) n in
    onto_left many (record { shown = is_part_shown many s; cells = s.cells }) (with_short_parts many later) n
    (next_shown many s later far h)
    ∙ omega (arith, rest, left s.shown columns n))
  where
    kept : (near : Bool) (columns : ℕ) → (near || leb columns many) ≡ true → own_columns many near columns ≡ columns
    kept true columns h = refl
    kept false columns h = omega (arith, leb-true columns many h)

    left : (near : Bool) (columns : ℕ) → (near || leb columns many) ≡ false → own_columns many near columns ≡ many
    left true columns h = absurd (cc)
    left false columns h = omega (arith, leb-false columns many h)

    not_near : (near short : Bool) → (near || short) ≡ false → near ≡ false
    not_near true short h = absurd (cc)
    not_near false short h = refl

-- ---- the stretches of cells are parted

grown_parted : (s next : LinePart) (later : List LinePart) → s.shown ≡ next.shown → AreParted (next ∷ later)
    → AreParted (record { shown = s.shown; cells = s.cells ++ next.cells } ∷ later)
grown_parted s next [] e h = tt
grown_parted s next (l ∷ ls) e h = (ap (λ b. agree b l.shown) e ∙ h.0, h.1)

onto_parted : (s : LinePart) (ss : List LinePart) → AreParted ss → AreParted (prepend_part s ss)
onto_parted s [] h = tt
onto_parted s (next ∷ later) h =
    by_cases {C = AreParted (prepend_part s (next ∷ later))} (agree s.shown next.shown)
    (λ y. rw y (grown_parted s next later (same s.shown next.shown y) h))
    (λ n. rw n (n, h))
  where
    same : (a b : Bool) → agree a b ≡ true → a ≡ b
    same true b h = sym h
    same false true h = h
    same false false h = refl

stretches_part : (near : Cell → Bool) (before : Bool) (cells : List Cell) → AreParted (line_parts near before cells)
stretches_part near before [] = tt
stretches_part near before (c ∷ cs) = onto_parted (record { shown = is_near_after near before c; cells = c ∷ [] })
    (line_parts near (is_near_after near before c) cs) (stretches_part near (is_near_after near before c) cs)

-- ---- their columns, cell by cell

abbrev far : List Cell → LinePart
far cells = record { shown = false; cells = cells }

-- a near cell before them
near_more : (many : ℕ) (c : Cell) (ss : List LinePart)
    → stretch_columns many (prepend_part (record { shown = true; cells = c ∷ [] }) ss)
    ≡ (c.until - c.from) + stretch_columns many ss
near_more many c [] = omega arith
near_more many c (next ∷ later) =
    by_cases {C = stretch_columns many (prepend_part (record { shown = true; cells = c ∷ [] }) (next ∷ later))
    ≡ (c.until - c.from) + stretch_columns many (next ∷ later)} next.shown
    (λ y. rw y (omega arith)) (λ n. rw n (omega arith))

-- cells that aren't near, before a near one
far_more : (many : ℕ) (passed : List Cell) (c : Cell) (ss : List LinePart)
    → stretch_columns many (prepend_part (far passed) (prepend_part (record { shown = true; cells = c ∷ [] }) ss))
    ≡ min (columns_in passed) many
    + stretch_columns many (prepend_part (record { shown = true; cells = c ∷ [] }) ss)
far_more many passed c [] = refl
far_more many passed c (next ∷ later) =
    by_cases {C = stretch_columns many (prepend_part (far passed)
    (prepend_part (record { shown = true; cells = c ∷ [] }) (next ∷ later)))
    ≡ min (columns_in passed) many
    + stretch_columns many (prepend_part (record { shown = true; cells = c ∷ [] }) (next ∷ later))} next.shown
    (λ y. rw y refl) (λ n. rw n refl)

-- cells that aren't near, before another
far_joined : (passed : List Cell) (c : Cell) (ss : List LinePart)
    → prepend_part (far passed) (prepend_part (far (c ∷ [])) ss) ≡ prepend_part (far (passed ++ c ∷ [])) ss
far_joined passed c [] = refl
far_joined passed c (next ∷ later) =
    by_cases {C = prepend_part (far passed) (prepend_part (far (c ∷ [])) (next ∷ later))
    ≡ prepend_part (far (passed ++ c ∷ [])) (next ∷ later)} next.shown
    (λ y. rw y refl)
    (λ n. rw n (ap (λ cells. far cells ∷ later) (sym (append_assoc passed (c ∷ []) next.cells))))

far_none : (many : ℕ) (ss : List LinePart) → stretch_columns many (prepend_part (far []) ss) ≡ stretch_columns many ss
far_none many [] = omega arith
far_none many (next ∷ later) =
    by_cases {C = stretch_columns many (prepend_part (far []) (next ∷ later))
    ≡ stretch_columns many (next ∷ later)} next.shown
    (λ y. rw y (omega arith)) (λ n. rw n refl)

far_last : (many : ℕ) (passed : List Cell) → stretch_columns many (far passed ∷ []) ≡ min (columns_in passed) many
far_last many passed = omega arith

-- the stretches of some cells, after others of a stretch that isn't near where the cell before isn't
abbrev after_passed : Bool → List Cell → List LinePart → List LinePart
after_passed true passed ss = ss
after_passed false passed ss = prepend_part (far passed) ss

abbrev columns_after : Bool → List Cell → ℕ
columns_after true passed = 0
columns_after false passed = columns_in passed

columns_are : (many : ℕ) (near : Cell → Bool) (before : Bool) (passed : List Cell) (cells : List Cell)
    → stretch_columns many (after_passed before passed (line_parts near before cells))
    ≡ shown_columns many near (columns_after before passed) cells
columns_are many near true passed [] = omega arith
columns_are many near false passed [] = far_last many passed
columns_are many near true passed (c ∷ cs) =
    let own : ℕ = c.until - c.from in
    by_cases {C = stretch_columns many (line_parts near true (c ∷ cs)) ≡ shown_columns many near 0 (c ∷ cs)}
    (eqb c.from c.until)
    (λ y. rw y (near_more many c (line_parts near true cs)
    ∙ omega (arith, eqb-true c.from c.until y, columns_are many near true [] cs)))
    (λ n. by_cases {C = stretch_columns many (line_parts near true (c ∷ cs)) ≡ shown_columns many near 0 (c ∷ cs)}
    (near c)
    (λ y. rw (n, y) (near_more many c (line_parts near true cs)
    ∙ omega (arith, columns_are many near true [] cs)))
    (λ f. rw (n, f) (columns_are many near false (c ∷ []) cs
    ∙ ap (λ columns. shown_columns many near columns cs) (same own))))
  where
    same : (own : ℕ) → own + 0 ≡ 0 + own
    same own = omega arith
columns_are many near false passed (c ∷ cs) =
    let own : ℕ = c.until - c.from in
    let goal : Type 0 = stretch_columns many (prepend_part (far passed) (line_parts near false (c ∷ cs)))
    ≡ shown_columns many near (columns_in passed) (c ∷ cs) in
    by_cases {C = goal} (eqb c.from c.until)
    (λ y. rw y (ap (stretch_columns many) (far_joined passed c (line_parts near false cs))
    ∙ columns_are many near false (passed ++ c ∷ []) cs
    ∙ ap (λ columns. shown_columns many near columns cs)
    (omega (arith, columns_in-append passed (c ∷ []), eqb-true c.from c.until y))))
    (λ n. by_cases {C = goal} (near c)
    (λ y. rw (n, y) (far_more many passed c (line_parts near true cs)
    ∙ omega (arith, near_more many c (line_parts near true cs), columns_are many near true [] cs)))
    (λ f. rw (n, f) (ap (stretch_columns many) (far_joined passed c (line_parts near false cs))
    ∙ columns_are many near false (passed ++ c ∷ []) cs
    ∙ ap (λ columns. shown_columns many near columns cs) (omega (arith, columns_in-append passed (c ∷ []))))))

pub text_columns_are : (many : ℕ) (near : Cell → Bool) (cells : List Cell)
    → text_columns many (with_short_parts many (line_parts near false cells)) ≡ shown_columns many near 0 cells
text_columns_are many near cells =
    let ss : List LinePart = line_parts near false cells in
    short_columns many ss (stretches_part near false cells) ∙ sym (far_none many ss)
    ∙ columns_are many near false [] cells

-- ---- the largest number that passes a test

pub largest_within : (passes : ℕ → Bool) (n : ℕ) → largest_passing passes n ≤ n
largest_within passes zero = omega arith
largest_within passes (suc n) =
    by_cases {C = largest_passing passes (suc n) ≤ suc n} (passes (suc n))
    (λ y. rw y (omega arith)) (λ f. rw f (omega (arith, largest_within passes n)))

pub largest_passes : (passes : ℕ → Bool) (n : ℕ) → 0 < largest_passing passes n → passes (largest_passing passes n)
    ≡ true
largest_passes passes zero lt = absurd (omega (arith, lt))
largest_passes passes (suc n) lt =
    one_of (passes (suc n)) (suc n) (largest_passing passes n) refl (largest_passes passes n) lt
  where
    one_of : (b : Bool) (x y : ℕ) → passes x ≡ b → (0 < y → passes y ≡ true) → 0 < cond b x y
        → passes (cond b x y) ≡ true
    one_of true x y is rest some = is
    one_of false x y is rest some = rest some

pub largest_over : (passes : ℕ → Bool) (n x : ℕ) → largest_passing passes n < x → x ≤ n → passes x ≡ false
largest_over passes zero x lt le = absurd (omega (arith, lt, le))
largest_over passes (suc n) x lt le = above (passes (suc n)) refl (largest_over passes n x) lt
  where
    above : (b : Bool) → passes (suc n) ≡ b → (largest_passing passes n < x → x ≤ n → passes x ≡ false)
        → cond b (suc n) (largest_passing passes n) < x → passes x ≡ false
    above true is rest over = absurd (omega (arith, over, le))
    above false is rest over =
        by_cases {C = passes x ≡ false} (ltb x (suc n))
        (λ y. rest over (omega (arith, ltb-true x (suc n) y)))
        (λ f. let same : x ≡ suc n = omega (arith, le, ltb-false x (suc n) f) in rw same is)

-- a number that passes, or 0, where no larger one does
pub largest_is : (passes : ℕ → Bool) (n r : ℕ) → r ≤ n → (0 < r → passes r ≡ true)
    → ((x : ℕ) → r < x → x ≤ n → passes x ≡ false) → largest_passing passes n ≡ r
largest_is passes zero r le fits none = omega (arith, le)
largest_is passes (suc n) r le fits none =
    by_cases {C = largest_passing passes (suc n) ≡ r} (ltb r (suc n))
    (λ y. let less : r < suc n = ltb-true r (suc n) y in
    rw (none (suc n) less (omega arith)) (largest_is passes n r (omega (arith, less)) fits
    (λ x lt to. none x lt (omega (arith, to)))))
    (λ f. let same : suc n ≡ r = omega (arith, le, ltb-false r (suc n) f) in
    let own : passes (suc n) ≡ true = ap passes same ∙ fits (omega (arith, same)) in
    rw own same)
