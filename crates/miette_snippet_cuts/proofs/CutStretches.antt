-- The stretches of a line that is cut, by their counts, and its columns in the row.
use Rattle.std.proofs.Common.{ℕ, ◌+◌, ◌-◌, ◌<◌, ◌≤◌, ◌≡◌, Bool, true, false, cond, ltb, List, [], ◌∷◌, ◌++◌, map}
use Rattle.std.proofs.Common.{length, drop, get_or, refl, sym, ap, subst, ◌∙◌, append_assoc, length-append}
use Rattle.std.proofs.Common.{Option, Some, None, option_map, arith}
use Rattle.std.proofs.Math.Bool.{beq}
use Rattle.std.proofs.lemmas.Bool.{lt-ltb, le-ltb}
use Rattle.std.proofs.lemmas.List.{at_drop_more}
use Rattle.std.specs.List.{All, AllByRecursion}
use Rattle.std.proofs.lemmas.List.Elements.{All-from_recursion, recursion_from_All}
use Rattle.miette_columns.specs.rules.Cells.{Cell}
use Rattle.miette_lines.proofs.Cases.{by_cases}
use Rattle.miette_snippet_rules.specs.rules.Underlines.{Underline, HasPointer}
use Rattle.miette_snippet_rules.specs.rules.PrintedCells.{text_bytes}
use Rattle.miette_snippet_rules.specs.rules.CutLines.{LinePart, agree, cell_bytes, columns_in, prepend_part}
use Rattle.miette_snippet_rules.specs.rules.CutLines.{is_near_after, row_column, row_underline, row_underlines}
use Rattle.miette_snippet_rules.specs.rules.CutLines.{line_parts}
use Rattle.miette_snippet_rules.proofs.CutColumns.{columns_in-append, shown_anchored}
use Rattle.miette_snippet_rules.specs.declared.line_part.LinePart.{LinePart as MadePart}
use Rattle.miette_snippet_rules.specs.declared.underlines.Underline.{Underline as MadeUnderline}
use Rattle.miette_snippet_rules.specs.views.Cuts.{measure}
use Rattle.miette_snippet_cuts.specs.steps.LineParts.{lone, join_parts, prepend_made, made_columns, made_column}
use Rattle.miette_snippet_cuts.specs.steps.LineParts.{made_underline}
use Rattle.miette_snippet_rules.specs.views.MadeUnderlines.{underline_of, HasOwnPointer}

-- ---- stretches and their counts

cell_bytes-append : (a b : List Cell) → cell_bytes (a ++ b) ≡ cell_bytes a + cell_bytes b
cell_bytes-append [] b = omega arith
cell_bytes-append (c ∷ a) b = omega (arith, cell_bytes-append a b)

abbrev made_of : Bool → ℕ → ℕ → ℕ → MadePart
made_of shown cells columns bytes = record { shown = shown; cells = cells; columns = columns; bytes = bytes }

measure-lone : (shown : Bool) (c : Cell) → measure (record { shown = shown; cells = c ∷ [] }) ≡ lone shown c
measure-lone shown c =
    let columns : (c.until - c.from) + 0 ≡ c.until - c.from = omega arith in
    let bytes : text_bytes c.code + 0 ≡ text_bytes c.code = omega arith in
    ap (λ n. made_of shown 1 n (text_bytes c.code + 0)) columns ∙ ap (λ n. made_of shown 1 (c.until - c.from) n) bytes

pub measure-onto : (s : LinePart) (ss : List LinePart) → map measure (prepend_part s ss)
    ≡ prepend_made (measure s) (map measure ss)
measure-onto s [] = refl
measure-onto s (next ∷ later) =
    by_cases {C = map measure (prepend_part s (next ∷ later)) ≡ prepend_made (measure s) (map measure (next ∷ later))}
    (agree s.shown next.shown)
    (λ y. rw (
      y,
      length-append s.cells next.cells,
      columns_in-append s.cells next.cells,
      cell_bytes-append s.cells next.cells,
    ) refl)
    (λ n. rw n refl)

grown-assoc : (a b c : MadePart) → join_parts a (join_parts b c) ≡ join_parts (join_parts a b) c
grown-assoc a b c =
    let cells : a.cells + (b.cells + c.cells) ≡ a.cells + b.cells + c.cells = omega arith in
    let columns : a.columns + (b.columns + c.columns) ≡ a.columns + b.columns + c.columns = omega arith in
    let bytes : a.bytes + (b.bytes + c.bytes) ≡ a.bytes + b.bytes + c.bytes = omega arith in
    ap (λ n. made_of a.shown n (a.columns + (b.columns + c.columns)) (a.bytes + (b.bytes + c.bytes))) cells
    ∙ ap (λ n. made_of a.shown (a.cells + b.cells + c.cells) n (a.bytes + (b.bytes + c.bytes))) columns
    ∙ ap (λ n. made_of a.shown (a.cells + b.cells + c.cells) (a.columns + b.columns + c.columns) n) bytes

agree-through : (a b c : Bool) → agree a b ≡ true → agree a c ≡ agree b c
agree-through true true c h = refl
agree-through true false c h = absurd (cc)
agree-through false true c h = absurd (cc)
agree-through false false c h = refl

pub onto-same : (a b : MadePart) (ss : List MadePart) → agree a.shown b.shown ≡ true → prepend_made a
    (prepend_made b ss) ≡ prepend_made (join_parts a b) ss
onto-same a b [] h = rw h refl
onto-same a b (n ∷ later) h =
    let through : agree a.shown n.shown ≡ agree b.shown n.shown = agree-through a.shown b.shown n.shown h in
    by_cases {C = prepend_made a (prepend_made b (n ∷ later)) ≡ prepend_made (join_parts a b) (n ∷ later)}
    (agree b.shown n.shown)
    (λ y. let own : agree a.shown n.shown ≡ true = through ∙ y in
    rw (y, own, h) (ap (λ s. s ∷ later) (grown-assoc a b n)))
    (λ f. let own : agree a.shown n.shown ≡ false = through ∙ f in rw (f, own, h) refl)

onto-other : (a b : MadePart) (ss : List MadePart) → agree a.shown b.shown ≡ false → prepend_made a (prepend_made b ss)
    ≡ a ∷ prepend_made b ss
onto-other a b [] h = rw h refl
onto-other a b (n ∷ later) h =
    by_cases {C = prepend_made a (prepend_made b (n ∷ later)) ≡ a ∷ prepend_made b (n ∷ later)} (agree b.shown n.shown)
    (λ y. rw (y, h) refl)
    (λ f. rw (f, h) refl)

-- the first of some cells
pub first_stretch : (near : Cell → Bool) (before : Bool) (cell : Cell) (walk left : List Cell) (first : MadePart)
    → walk ≡ cell ∷ left → first ≡ lone (is_near_after near before cell) cell →
    prepend_made first (map measure (line_parts near first.shown left)) ≡ map measure (line_parts near before walk)
first_stretch near before cell walk left first e h =
    let here : Bool = is_near_after near before cell in
    ap (λ (m : MadePart). prepend_made m (map measure (line_parts near m.shown left))) h
    ∙ ap (λ m. prepend_made m (map measure (line_parts near here left))) (sym (measure-lone here cell))
    ∙ sym (measure-onto (record { shown = here; cells = cell ∷ [] }) (line_parts near here left))
    ∙ ap (λ cells. map measure (line_parts near before cells)) (sym e)

agree-equal : (a b : Bool) → beq b a ≡ true → agree a b ≡ true
agree-equal true true h = refl
agree-equal true false h = absurd (cc)
agree-equal false true h = absurd (cc)
agree-equal false false h = refl

agree-unequal : (a b : Bool) → beq b a ≡ false → agree a b ≡ false
agree-unequal true true h = absurd (cc)
agree-unequal true false h = refl
agree-unequal false true h = refl
agree-unequal false false h = absurd (cc)

-- a stretch more, into which the last one goes on or doesn't
pub put_same : (made whole : List MadePart) (reached next both : MadePart) (rest : List MadePart)
    → beq next.shown reached.shown ≡ true → both ≡ join_parts reached next → whole ≡ made →
    whole ++ prepend_made both rest ≡ made ++ prepend_made reached (prepend_made next rest)
put_same made whole reached next both rest same b w =
    ap (λ xs. xs ++ prepend_made both rest) w ∙ ap (λ (s : MadePart). made ++ prepend_made s rest) b
    ∙ ap (λ r. made ++ r) (sym (onto-same reached next rest (agree-equal reached.shown next.shown same)))

pub put_other : (made new : List MadePart) (reached next : MadePart) (rest : List MadePart)
    → beq next.shown reached.shown ≡ false → new ≡ made ++ reached ∷ [] →
    new ++ prepend_made next rest ≡ made ++ prepend_made reached (prepend_made next rest)
put_other made new reached next rest other n =
    ap (λ xs. xs ++ prepend_made next rest) n ∙ append_assoc made (reached ∷ []) (prepend_made next rest)
    ∙ ap (λ r. made ++ r) (sym (onto-other reached next rest (agree-unequal reached.shown next.shown other)))

-- a cell more
pub stretch_more : (near : Cell → Bool) (cell : Cell) (walk left : List Cell) (made new whole : List MadePart)
    (reached next later : MadePart) → walk ≡ cell ∷ left →
    next ≡ lone (is_near_after near reached.shown cell) cell → later.shown ≡ next.shown →
    ((rest : List MadePart) → new ++ prepend_made later rest ≡ made ++ prepend_made reached (prepend_made next rest)) →
    made ++ prepend_made reached (map measure (line_parts near reached.shown walk)) ≡ whole → new
    ++ prepend_made later (map measure (line_parts near later.shown left)) ≡ whole
stretch_more near cell walk left made new whole reached next later e h same put inv =
    ap (λ n. new ++ prepend_made later (map measure (line_parts near n left))) same
    ∙ put (map measure (line_parts near next.shown left))
    ∙ ap (λ r. made ++ prepend_made reached r) (first_stretch near reached.shown cell walk left next e h) ∙ inv

pub stretches_end : (near : Cell → Bool) (walk : List Cell) (made new whole : List MadePart) (reached : MadePart)
    → walk ≡ [] → new ≡ made ++ reached ∷ [] →
    made ++ prepend_made reached (map measure (line_parts near reached.shown walk)) ≡ whole → new ≡ whole
stretches_end near walk made new whole reached e n inv = n
    ∙ ap (λ cells. made ++ prepend_made reached (map measure (line_parts near reached.shown cells))) (sym e) ∙ inv

-- ---- columns

pub column_here : (many : ℕ) (cut : List MadePart) (i left before own : ℕ) (d : MadePart) (whole : ℕ)
    → i < length cut → left < (get_or cut i d).columns → own ≡ cond (get_or cut i d).shown left 0 →
    before + made_column many (drop i cut) left ≡ whole → before + own ≡ whole
column_here many cut i left before own d whole lt inside o inv =
    let s : MadePart = get_or cut i d in
    ap (λ n. before + n) o
    ∙ ap (λ b. before + cond b (cond s.shown left 0) (made_columns many s
    + made_column many (drop (i + 1) cut) (left - s.columns))) (sym (lt-ltb left s.columns inside))
    ∙ ap (λ xs. before + made_column many xs left) (sym (at_drop_more (λ (xs : List MadePart). xs) cut i d lt)) ∙ inv

pub column_past : (many : ℕ) (cut : List MadePart) (i left before next : ℕ) (d : MadePart) (whole : ℕ)
    → i < length cut → (get_or cut i d).columns ≤ left → next ≡ before + made_columns many (get_or cut i d) →
    before + made_column many (drop i cut) left ≡ whole → next
    + made_column many (drop (i + 1) cut) (left - (get_or cut i d).columns) ≡ whole
column_past many cut i left before next d whole lt past n inv =
    let s : MadePart = get_or cut i d in
    let rest : ℕ = made_column many (drop (i + 1) cut) (left - s.columns) in
    let sum : next + rest ≡ before + (made_columns many s + rest) = omega (arith, n) in
    sum ∙ ap (λ b. before + cond b (cond s.shown left 0) (made_columns many s + rest))
    (sym (le-ltb left s.columns past))
    ∙ ap (λ xs. before + made_column many xs left) (sym (at_drop_more (λ (xs : List MadePart). xs) cut i d lt)) ∙ inv

column-measured : (many : ℕ) (ss : List LinePart) (column : ℕ) → row_column many ss column
    ≡ made_column many (map measure ss) column
column-measured many [] column = refl
column-measured many (s ∷ later) column =
    ap (λ n. cond (ltb column (columns_in s.cells)) (cond s.shown column 0)
    (made_columns many (measure s) + n)) (column-measured many later (column - columns_in s.cells))

mark-measured : (many : ℕ) (ss : List LinePart) (m : MadeUnderline) → underline_of
    (made_underline many (map measure ss) m)
    ≡ row_underline many ss (underline_of m)
mark-measured many ss m =
    let f = sym (column-measured many ss m.from) in
    let u = sym (column-measured many ss (m.until - 1)) in
    let a = sym (column-measured many ss m.pointer) in
    let whole : Underline = underline_of m in
    ap (λ n. record whole {
      from = n;
      until = made_column many (map measure ss) (m.until - 1) + 1;
      pointer =
          made_column many (map measure ss) m.pointer;
    }) f
    ∙ ap (λ n. record whole {
      from = row_column many ss m.from;
      until = n + 1;
      pointer =
          made_column many (map measure ss) m.pointer;
    }) u
    ∙ ap (λ n. record whole {
      from = row_column many ss m.from;
      until = row_column many ss (m.until - 1) + 1;
      pointer = n;
    }) a

pub marks-measured : (many : ℕ) (ss : List LinePart) (ms : List MadeUnderline)
    → map underline_of (map (made_underline many (map measure ss)) ms)
    ≡ map (row_underline many ss) (map underline_of ms)
marks-measured many ss [] = refl
marks-measured many ss (m ∷ ms) = ap (λ x. x ∷ map underline_of (map (made_underline many (map measure ss)) ms))
    (mark-measured many ss m) ∙ ap (λ xs. row_underline many ss (underline_of m) ∷ xs) (marks-measured many ss ms)

-- the marks of a line that is cut, or isn't
pub marks_moved : (many : ℕ) (ruled : Option (List LinePart)) (cut : List MadePart) (ms moved : List MadeUnderline)
    → Some cut ≡ option_map (map measure) ruled → moved ≡ map (made_underline many cut) ms →
    map underline_of moved ≡ row_underlines many ruled (map underline_of ms)
marks_moved many None cut ms moved e h = absurd (cc)
marks_moved many (Some ss) cut ms moved e h =
    let same : cut ≡ map measure ss = cc in
    ap (map underline_of) h ∙ ap (λ xs. map underline_of (map (made_underline many xs) ms)) same
    ∙ marks-measured many ss ms

pub marks_stay : (many : ℕ) (ruled : Option (List LinePart)) (ms : List MadeUnderline) → None
    ≡ option_map (map measure) ruled → map underline_of ms ≡ row_underlines many ruled (map underline_of ms)
marks_stay many None ms e = refl
marks_stay many (Some ss) ms e = absurd (cc)

-- ---- marks with their anchors

pub marks_anchored : (ms : List MadeUnderline) → All HasOwnPointer ms
    → AllByRecursion HasPointer (map underline_of ms)
marks_anchored ms h = each ms (recursion_from_All HasOwnPointer ms h)
  where
    each : (ms : List MadeUnderline) → AllByRecursion HasOwnPointer ms
        → AllByRecursion HasPointer (map underline_of ms)
    each [] h = tt
    each (m ∷ ms) h = (h.0, each ms h.1)

pub made_anchored : (ms : List MadeUnderline) → AllByRecursion HasPointer (map underline_of ms)
    → All HasOwnPointer ms
made_anchored ms h = All-from_recursion HasOwnPointer ms (each ms h)
  where
    each : (ms : List MadeUnderline) → AllByRecursion HasPointer (map underline_of ms)
        → AllByRecursion HasOwnPointer ms
    each [] h = tt
    each (m ∷ ms) h = (h.0, each ms h.1)

-- the marks of a line have their anchors in its row
pub shown_made_anchored : (many : ℕ) (ruled : Option (List LinePart)) (own : List Underline)
    (whole moved : List MadeUnderline)
    → map underline_of whole ≡ own → All HasOwnPointer whole → map underline_of moved ≡ row_underlines many ruled own →
    All HasOwnPointer moved
shown_made_anchored many ruled own whole moved w anchored m =
    made_anchored moved (subst (λ (ms : List Underline). AllByRecursion HasPointer ms) (sym m)
    (shown_anchored many ruled own (subst (λ (ms : List Underline). AllByRecursion HasPointer ms) w
    (marks_anchored whole anchored))))
