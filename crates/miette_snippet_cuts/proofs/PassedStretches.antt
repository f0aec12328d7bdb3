-- Where the columns of a line stand in its row, by the stretches that aren't passed yet.
use Rattle.std.proofs.Common.{ℕ, ◌+◌, ◌-◌, ◌<◌, ◌≤◌, ◌≡◌, List, [], ◌∷◌, ◌++◌, map, length}
use Rattle.std.proofs.Common.{take, drop, get_or, cond, ltb, sym, ap, subst, ◌∙◌, arith}
use Rattle.std.proofs.lemmas.Bool.{ltb-true, ltb-false}
use Rattle.std.proofs.lemmas.List.{at_drop_all, map-append, take_more}
use Rattle.miette_snippet_rules.specs.declared.underlines.Underline.{Underline}
use Rattle.miette_snippet_rules.specs.declared.line_part.LinePart.{LinePart}
use Rattle.miette_snippet_cuts.specs.declared.row_columns.RowCursor.{RowCursor}
use Rattle.miette_snippet_cuts.specs.steps.LineParts.{made_columns, made_column, made_underline}
use Rattle.miette_snippet_cuts.specs.steps.Moving.{IsRowCursor}
use Rattle.miette_lines.proofs.Cases.{by_cases}
use Rattle.miette_snippet_cuts.proofs.CutStretches.{column_here, column_past}

-- the place before the first of them
pub place_first : (dots : ℕ) (cut : List LinePart) (place : RowCursor) → place.passed ≡ 0 → place.before ≡ 0
    → place.row ≡ 0 → IsRowCursor dots cut place
place_first dots cut place p b r = record {
  stand = λ column le.
      let left : column ≡ column - place.before = omega (arith, b) in
      let sum : made_column dots cut column ≡ 0 + made_column dots cut column = omega arith in
      sum ∙ ap (λ n. n + made_column dots cut column) (sym r)
      ∙ ap (λ n. place.row + made_column dots (drop n cut) column) (sym p)
      ∙ ap (λ n. place.row + made_column dots (drop place.passed cut) n) left;
}

-- the one from which a column is looked for
pub place_found : (dots : ℕ) (cut : List LinePart) (place at : RowCursor) (column : ℕ)
    → (column < place.before → at ≡ record { passed = 0; before = 0; row = 0 }) → (place.before ≤ column → at ≡ place) →
    IsRowCursor dots cut place → IsRowCursor dots cut at × (at.before ≤ column)
place_found dots cut place at column anew on h =
    by_cases {C = IsRowCursor dots cut at × (at.before ≤ column)} (ltb column place.before)
    (λ y.
    let first : at ≡ record { passed = 0; before = 0; row = 0 } = anew (ltb-true column place.before y) in
    let none : at.before ≡ 0 = ap (λ (p : RowCursor). p.before) first in (
      place_first dots cut at (ap (λ (p : RowCursor). p.passed) first) none (ap (λ (p : RowCursor). p.row) first),
      omega (arith, none),
    ))
    (λ n.
    let le : place.before ≤ column = ltb-false column place.before n in
    let same : at ≡ place = on le in
    let own : at.before ≡ place.before = ap (λ (p : RowCursor). p.before) same in
    (subst (λ (p : RowCursor). IsRowCursor dots cut p) (sym same) h, omega (arith, own, le)))

-- the place after one more
pub place_more : (dots : ℕ) (cut : List LinePart) (place next : RowCursor) (d : LinePart) → place.passed < length cut
    → next.passed ≡ place.passed + 1 → next.before ≡ place.before + (get_or cut place.passed d).columns →
    next.row ≡ place.row + made_columns dots (get_or cut place.passed d) → IsRowCursor dots cut place
    → IsRowCursor dots cut
    next
place_more dots cut place next d lt p b r h = record {
  stand = λ column le.
      let s : LinePart = get_or cut place.passed d in
      let left : column - place.before - s.columns ≡ column - next.before = omega (arith, b) in
      let before : place.before ≤ column = omega (arith, b, le) in
      let past : s.columns ≤ column - place.before = omega (arith, b, le) in
      sym (column_past dots cut place.passed (column - place.before) place.row next.row d
      (made_column dots cut column) lt past
      r (sym (h.stand column before)))
      ∙ ap (λ n. next.row + made_column dots (drop (place.passed + 1) cut) n) left
      ∙ ap (λ n. next.row + made_column dots (drop n cut) (column - next.before)) (sym p);
}

-- a column of the next one
pub place_here : (dots : ℕ) (cut : List LinePart) (place : RowCursor) (column own found : ℕ) (d : LinePart)
    → place.passed < length cut
    → place.before ≤ column → column - place.before < (get_or cut place.passed d).columns →
    own ≡ cond (get_or cut place.passed d).shown (column - place.before) 0 → found ≡ place.row + own →
    IsRowCursor dots cut place → found ≡ made_column dots cut column
place_here dots cut place column own found d lt b inside o f h =
    f ∙ column_here dots cut place.passed (column - place.before) place.row own d (made_column dots cut column) lt
    inside o
    (sym (h.stand column b))

-- a column after all of them
pub place_end : (dots : ℕ) (cut : List LinePart) (place : RowCursor) (column found : ℕ) → length cut ≤ place.passed
    → place.before
    ≤ column → found ≡ place.row + (column - place.before) → IsRowCursor dots cut place → found ≡ made_column dots cut
    column
place_end dots cut place column found le b f h =
    f ∙ sym (h.stand column b ∙ ap (λ n. place.row + n)
    (at_drop_all (λ (xs : List LinePart). made_column dots xs (column - place.before)) cut place.passed le))

-- one mark more
pub marks_more : (dots : ℕ) (cut : List LinePart) (marks : List Underline) (i : ℕ) (d next : Underline)
    (moved new : List Underline)
    → i < length marks → next ≡ made_underline dots cut (get_or marks i d) → new ≡ moved ++ next ∷ [] →
    moved ≡ map (made_underline dots cut) (take i marks) → new ≡ map (made_underline dots cut) (take (i + 1) marks)
marks_more dots cut marks i d next moved new lt n more inv =
    more ∙ ap (λ xs. xs ++ next ∷ []) inv ∙ ap (λ m. map (made_underline dots cut) (take i marks) ++ m ∷ []) n
    ∙ sym (map-append (made_underline dots cut) (take i marks) (get_or marks i d ∷ []))
    ∙ ap (map (made_underline dots cut)) (sym (take_more marks i d lt))
