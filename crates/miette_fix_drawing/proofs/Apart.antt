-- Spans one after the other, and which of them have a byte of a cell.
use Rattle.std.proofs.Common.{ℕ, zero, suc, ◌+◌, ◌-◌, ◌<◌, ◌≤◌, ◌≡◌, min, Bool, true, false, eqb, List, [], ◌∷◌, length}
use Rattle.std.proofs.Common.{drop, get_or, refl, sym, ap, ◌∙◌, arith}
use Rattle.std.specs.List.{filter, list_any}
use Rattle.std.specs.Prelude.{max, ◌&&◌, nat_le, nat_lt}
use Rattle.std.proofs.lemmas.Bool.{le-ltb}
use Rattle.miette_style.specs.declared.style.Style.{Style}
use Rattle.std.proofs.lemmas.Bool.Decides.{nat_tests}
use Rattle.miette_protocol.specs.rules.Reading.{Span}
use Rattle.miette_columns.specs.rules.Cells.{Cell}
use Rattle.miette_fix_rows.specs.rules.DiffTexts.{has_bytes, holds_byte, is_on, part_in, parts_in}
use Rattle.miette_fix_drawing.specs.steps.Spans.{AreApart, AreApartFrom}

pub apart_from : (at : ℕ) (spans : List Span) → AreApartFrom at spans → AreApart spans
apart_from at [] h = tt
apart_from at (s ∷ ss) h = (omega arith, h.1)

pub apart_drop : (i : ℕ) (spans : List Span) → AreApart spans → AreApart (drop i spans)
apart_drop zero spans h = h
apart_drop (suc i) [] h = tt
apart_drop (suc i) (s ∷ ss) h = apart_drop i ss (apart_from (s.offset + s.len) ss h.1)

-- a span that ends before a cell has no byte of it, nor one that begins after it
pub ended : (cell : Cell) (span : Span) (offset : ℕ) → nat_le (span.offset + span.len) offset ≡ true → offset ≤
    cell.start
    → holds_byte cell span ≡ false
ended cell span offset e le = grind (arith, nat_tests)

pub after_cell : (cell : Cell) (span : Span) → cell.after ≤ span.offset → holds_byte cell span ≡ false
after_cell cell span le = grind (arith, nat_tests)

pub all_after : (cell : Cell) (at : ℕ) (spans : List Span) → AreApartFrom at spans → cell.after ≤ at
    → list_any (holds_byte cell) spans ≡ false
all_after cell at [] h le = refl
all_after cell at (s ∷ ss) h le =
    let first : holds_byte cell s ≡ false = after_cell cell s (omega (arith, h.0, le)) in
    let later : list_any (holds_byte cell) ss ≡ false =
    all_after cell (s.offset + s.len) ss h.1 (omega (arith, h.0, le)) in
    rw (first, later) refl

-- the i-th span stands in front
any_next : (p : Span → Bool) (spans : List Span) (i : ℕ) (d : Span) → i < length spans → p (get_or spans i d) ≡ false
    → list_any p (drop (suc i) spans) ≡ list_any p (drop i spans)
any_next p [] i d lt e = absurd (omega (arith, lt))
any_next p (s ∷ ss) zero d lt e = rw e refl
any_next p (s ∷ ss) (suc i) d lt e = any_next p ss i d (omega (arith, lt)) e

pub any_at : (p : Span → Bool) (spans : List Span) (i : ℕ) (d : Span) → i < length spans → p (get_or spans i d) ≡ false
    → list_any p (drop (i + 1) spans) ≡ list_any p (drop i spans)
any_at p spans i d lt e =
    let next : i + 1 ≡ suc i = omega arith in
    ap (λ k. list_any p (drop k spans)) next ∙ any_next p spans i d lt e

pub after_at : (cell : Cell) (spans : List Span) (i : ℕ) (d : Span) → AreApart spans → i < length spans
    → cell.after ≤ (get_or spans i d).offset → list_any (holds_byte cell) (drop i spans) ≡ false
after_at cell [] i d h lt le = absurd (omega (arith, lt))
after_at cell (s ∷ ss) zero d h lt le = all_after cell s.offset (s ∷ ss) (omega arith, h.1) le
after_at cell (s ∷ ss) (suc i) d h lt le =
    after_at cell ss i d (apart_from (s.offset + s.len) ss h.1) (omega (arith, lt)) le

pub held_at : (p : Span → Bool) (spans : List Span) (i : ℕ) (d : Span) → i < length spans → p (get_or spans i d) ≡ true
    → list_any p (drop i spans) ≡ true
held_at p [] i d lt e = absurd (omega (arith, lt))
held_at p (s ∷ ss) zero d lt e = rw e refl
held_at p (s ∷ ss) (suc i) d lt e = held_at p ss i d (omega (arith, lt)) e

-- no span is left
pub none_at : (p : Span → Bool) (spans : List Span) (i : ℕ) → length spans ≤ i → list_any p (drop i spans) ≡ false
none_at p [] zero le = refl
none_at p [] (suc i) le = refl
none_at p (s ∷ ss) zero le = absurd (omega (arith, le))
none_at p (s ∷ ss) (suc i) le = none_at p ss i (omega (arith, le))

-- ---- spans in front that are left out, and those after them

begins_after : (at : ℕ) (spans : List Span) (i : ℕ) (d : Span) → AreApartFrom at spans → i < length spans
    → at ≤ (get_or spans i d).offset
begins_after at [] i d h lt = absurd (omega (arith, lt))
begins_after at (s ∷ ss) zero d h lt = h.0
begins_after at (s ∷ ss) (suc i) d h lt =
    let later : s.offset + s.len ≤ (get_or ss i d).offset =
    begins_after (s.offset + s.len) ss i d h.1 (omega (arith, lt)) in
    omega (arith, h.0, later)

-- what is the same without a span that ends before an offset is so without all in front of such a one
pub left_next : {B : Type 0} (f : List Span → B) (offset : ℕ)
    → ((s : Span) (ss : List Span) → s.offset + s.len < offset → f (s ∷ ss) ≡ f ss) → (spans : List Span) (i : ℕ)
    (d : Span) → AreApart spans → i < length spans → (get_or spans i d).offset + (get_or spans i d).len < offset
    → f (drop (suc i) spans) ≡ f spans
left_next f offset step [] i d h lt e = absurd (omega (arith, lt))
left_next f offset step (s ∷ ss) zero d h lt e = sym (step s ss e)
left_next f offset step (s ∷ ss) (suc i) d h lt e =
    let some : i < length ss = omega (arith, lt) in
    let later : s.offset + s.len ≤ (get_or ss i d).offset = begins_after (s.offset + s.len) ss i d h.1 some in
    left_next f offset step ss i d (apart_from (s.offset + s.len) ss h.1) some e
    ∙ sym (step s ss (omega (arith, later, e)))

pub left_out : {B : Type 0} (f : List Span → B) (offset : ℕ)
    → ((s : Span) (ss : List Span) → s.offset + s.len < offset → f (s ∷ ss) ≡ f ss) → (spans : List Span) (many : ℕ)
    (d : Span) → AreApart spans → 0 < many → many ≤ length spans
    → (get_or spans (many - 1) d).offset + (get_or spans (many - 1) d).len < offset → f (drop many spans) ≡ f spans
left_out f offset step spans many d h some le e =
    let next : many ≡ suc (many - 1) = omega (arith, some) in
    ap (λ k. f (drop k spans)) next
    ∙ left_next f offset step spans (many - 1) d h (omega (arith, some, le)) e

-- and the same with those that begin after an offset
nothing_from : {B : Type 0} (f : List Span → List B) (end : ℕ) → f [] ≡ []
    → ((s : Span) (ss : List Span) → end < s.offset → f (s ∷ ss) ≡ f ss) → (at : ℕ) (spans : List Span)
    → AreApartFrom at spans → end < at → f spans ≡ []
nothing_from f end none step at [] h lt = none
nothing_from f end none step at (s ∷ ss) h lt =
    step s ss (omega (arith, h.0, lt))
    ∙ nothing_from f end none step (s.offset + s.len) ss h.1 (omega (arith, h.0, lt))

pub nothing_after : {B : Type 0} (f : List Span → List B) (end : ℕ) → f [] ≡ []
    → ((s : Span) (ss : List Span) → end < s.offset → f (s ∷ ss) ≡ f ss) → (spans : List Span) (i : ℕ) (d : Span)
    → AreApart spans → i < length spans → end < (get_or spans i d).offset → f (drop i spans) ≡ []
nothing_after f end none step [] i d h lt e = absurd (omega (arith, lt))
nothing_after f end none step (s ∷ ss) zero d h lt e =
    nothing_from f end none step s.offset (s ∷ ss) (omega arith, h.1) e
nothing_after f end none step (s ∷ ss) (suc i) d h lt e =
    nothing_after f end none step ss i d (apart_from (s.offset + s.len) ss h.1) (omega (arith, lt)) e

-- a span that ends before a line has nothing there
pub held_later : (cell : Cell) (offset : ℕ) → offset ≤ cell.start → (s : Span) (ss : List Span)
    → s.offset + s.len < offset → list_any (holds_byte cell) (s ∷ ss) ≡ list_any (holds_byte cell) ss
held_later cell offset le s ss lt =
    let none : holds_byte cell s ≡ false = grind (arith, nat_tests) in rw none refl

pub parts_later : (offset bytes : ℕ) (style : Style) (s : Span) (ss : List Span) → s.offset + s.len < offset
    → parts_in offset bytes style (s ∷ ss) ≡ parts_in offset bytes style ss
parts_later offset bytes style s ss lt =
    let none : has_bytes (part_in offset bytes style s) ≡ false =
    le-ltb (max offset s.offset) (min (offset + bytes) (s.offset + s.len)) (omega (arith, lt)) in
    rw none refl

pub on_later : (offset : ℕ) (line : List ℕ) (s : Span) (ss : List Span) → s.offset + s.len < offset
    → filter (is_on offset line) (s ∷ ss) ≡ filter (is_on offset line) ss
on_later offset line s ss lt =
    let before : nat_le offset (s.offset + s.len) ≡ false = grind (arith, nat_tests) in rw before refl

-- nor has one that begins after it
pub parts_before : (start bytes : ℕ) (style : Style) (s : Span) (ss : List Span) → start + bytes < s.offset
    → parts_in start bytes style (s ∷ ss) ≡ parts_in start bytes style ss
parts_before start bytes style s ss lt =
    let none : has_bytes (part_in start bytes style s) ≡ false =
    le-ltb (max start s.offset) (min (start + bytes) (s.offset + s.len)) (omega (arith, lt)) in
    rw none refl

and_never : (b : Bool) → (b && false) ≡ false
and_never true = refl
and_never false = refl

pub on_before : (start : ℕ) (line : List ℕ) (s : Span) (ss : List Span) → start + length line < s.offset
    → filter (is_on start line) (s ∷ ss) ≡ filter (is_on start line) ss
on_before start line s ss lt =
    let inside : nat_lt s.offset (start + length line) ≡ false =
    le-ltb s.offset (start + length line) (omega (arith, lt)) in
    let after_cell : eqb s.offset (start + length line) ≡ false = grind (arith, nat_tests) in
    let none : is_on start line s ≡ false = rw (inside, after_cell) (and_never (nat_le start (s.offset + s.len))) in
    rw none refl
