-- Texts hang from their marks.
use Rattle.std.proofs.Common.{ℕ, ◌+◌, ◌<◌, ◌≡◌, Bool, true, ltb, leb, eqb, List, [], ◌∷◌, ◌++◌, map, Some, refl, sym}
use Rattle.std.proofs.Common.{ap, ◌∙◌, inl, inr, ⊎_elim, ◌&&◌, append_assoc, append-nil, arith}
use Rattle.std.proofs.lemmas.Bool.{eq-eqb, or_right}
use Rattle.std.specs.List.{AllByRecursion, list_any}
use Rattle.miette_style.specs.rules.Rows.{Glyph, glyph_of, code_at, glyph_columns, Begins}
use Rattle.miette_labels.specs.rules.Labels.{is_empty}
use Rattle.miette_snippet_rules.specs.rules.Underlines.{Underline, AreApart}
use Rattle.miette_snippet_rules.specs.rules.LabelRows.{IsNarrow, pointer_code, underline_code}
use Rattle.miette_snippet_laws.specs.laws.LineRows.{underline_glyph_at, underlines_end, ConnectsFrom, PartIsConnected}
use Rattle.miette_snippet_laws.specs.laws.LineRows.{IsConnected}
use Rattle.miette_snippet_laws.proofs.GlyphRows.{mark_row, lead_at, lead, corner_pieces, beside_pieces}
use Rattle.miette_snippet_laws.proofs.GlyphRows.{glyph_rows_of_parts}
use Rattle.miette_snippet_laws.proofs.GlyphRows.{glyph_rows_below}
use Rattle.miette_lines.proofs.Cases.{by_cases}
use Rattle.miette_snippet_laws.proofs.Columns.{code_at-here, code_at-front, code_at-after, glyph_columns-map}
use Rattle.miette_snippet_laws.proofs.Columns.{glyph_columns-append, code_at-append}
use Rattle.miette_style.specs.rules.Themes.{Characters}
use Rattle.miette_snippet_rules.specs.rules.SnippetSettings.{SnippetSettings}

-- each drawing character is one column wide

code-narrow : (s : SnippetSettings) (n : IsNarrow s.width s.theme.characters) (parts : List (List ℕ))
    → s.width (pointer_code s.theme.characters parts) ≡ 1
code-narrow s n [] = n.drawings.underline
code-narrow s n (part ∷ parts) = n.drawings.underbar

mark-narrow : (s : SnippetSettings) (n : IsNarrow s.width s.theme.characters) (mark : Underline) (column : ℕ)
    → s.width (underline_code s.theme.characters mark column) ≡ 1
mark-narrow s n mark column =
    by_cases {C = s.width (underline_code s.theme.characters mark column) ≡ 1} (eqb column mark.pointer)
    (λ a. by_cases {C = s.width (underline_code s.theme.characters mark column) ≡ 1} (is_empty mark.label)
    (λ b. rw (a, b) n.drawings.uarrow) (λ b. rw (a, b) (code-narrow s n mark.label.parts)))
    (λ a. rw a n.drawings.underline)

underline_glyph_at-narrow : (s : SnippetSettings) (n : IsNarrow s.width s.theme.characters) (ms : List Underline)
    (column : ℕ)
    → (underline_glyph_at s ms column).columns ≡ 1
underline_glyph_at-narrow s n [] column = n.space
underline_glyph_at-narrow s n (m ∷ ms) column =
    by_cases {C = (underline_glyph_at s (m ∷ ms) column).columns ≡ 1} (leb m.from column && ltb column m.until)
    (λ a. rw a (mark-narrow s n m column)) (λ a. rw a (underline_glyph_at-narrow s n ms column))

lead_at-narrow : (s : SnippetSettings) (n : IsNarrow s.width s.theme.characters) (ms : List Underline) (column : ℕ)
    → (lead_at s ms column).columns ≡ 1
lead_at-narrow s n [] column = n.space
lead_at-narrow s n (m ∷ ms) column =
    by_cases {C = (lead_at s (m ∷ ms) column).columns ≡ 1} (eqb column m.pointer)
    (λ a. rw a n.drawings.vbar) (λ a. rw a (lead_at-narrow s n ms column))

-- the mark row's picture
pub mark_row-at : (s : SnippetSettings) (n : IsNarrow s.width s.theme.characters) (ms : List Underline) (column : ℕ)
    → column
    < underlines_end 0 ms → code_at (mark_row s ms) column ≡ Some (underline_glyph_at s ms column).code
mark_row-at s n ms column lt =
    ap (λ r. code_at r column) (sym (append-nil (mark_row s ms)))
    ∙ code_at-front (underline_glyph_at s ms) 0 (underlines_end 0 ms) column [] (underline_glyph_at-narrow s n ms) lt
    ∙ ap (λ k. Some (underline_glyph_at s ms k).code) (omega arith)

pub mark_row-columns : (s : SnippetSettings) (n : IsNarrow s.width s.theme.characters) (ms : List Underline)
    → glyph_columns (mark_row s ms) ≡ underlines_end 0 ms
mark_row-columns s n ms = glyph_columns-map (underline_glyph_at s ms) 0 (underlines_end 0 ms)
    (underline_glyph_at-narrow s n ms)

-- earlier marks have their vbar

abbrev has_anchor : ℕ → List Underline → Bool
has_anchor column ms = list_any (λ m. eqb column m.pointer) ms

lead-bar : (s : SnippetSettings) (ms : List Underline) (column : ℕ) → has_anchor column ms ≡ true
    → (lead_at s ms column).code ≡ s.theme.characters.vbar
lead-bar s [] column h = cc
lead-bar s (m ∷ ms) column h =
    by_cases {C = (lead_at s (m ∷ ms) column).code ≡ s.theme.characters.vbar} (eqb column m.pointer)
    (λ a. rw a refl) (λ a. rw a (lead-bar s ms column (rw a at h)))

-- a row that begins as those above a corner do has vbar there
led : (s : SnippetSettings) (n : IsNarrow s.width s.theme.characters) (earlier : List Underline) (mark : Underline)
    (column : ℕ)
    (rest : List Glyph) → column < mark.pointer → has_anchor column earlier ≡ true →
    code_at (lead s earlier mark ++ rest) column ≡ Some s.theme.characters.vbar
led s n earlier mark column rest lt h =
    code_at-front (lead_at s earlier) 0 mark.pointer column rest (lead_at-narrow s n earlier) lt
    ∙ ap (λ k. Some (lead_at s earlier k).code) (omega arith)
    ∙ ap Some (lead-bar s earlier column h)

abbrev HasBar : Characters → ℕ → List Glyph → Type 0
HasBar t column row = code_at row column ≡ Some t.vbar

bars_of_rest : (s : SnippetSettings) (n : IsNarrow s.width s.theme.characters) (earlier : List Underline)
    (mark : Underline)
    (column : ℕ)
    (parts : List (List ℕ)) → column < mark.pointer → has_anchor column earlier ≡ true →
    AllByRecursion (HasBar s.theme.characters column) (map (λ p. lead s earlier mark
    ++ (beside_pieces s ++ map (glyph_of s.width) p)) parts)
bars_of_rest s n earlier mark column [] lt h = tt
bars_of_rest s n earlier mark column (part ∷ parts) lt h = (
  led s n earlier mark column (beside_pieces s ++ map (glyph_of s.width) part) lt h,
  bars_of_rest s n earlier mark column parts lt h,
)

bars_of_parts : (s : SnippetSettings) (n : IsNarrow s.width s.theme.characters) (earlier : List Underline)
    (mark : Underline)
    (column : ℕ)
    (parts : List (List ℕ)) → column < mark.pointer → has_anchor column earlier ≡ true →
    AllByRecursion (HasBar s.theme.characters column) (glyph_rows_of_parts s earlier mark parts)
bars_of_parts s n earlier mark column [] lt h = tt
bars_of_parts s n earlier mark column (part ∷ []) lt h =
    (led s n earlier mark column (corner_pieces s s.theme.characters.hbar ++ map (glyph_of s.width) part) lt h, tt)
bars_of_parts s n earlier mark column (part ∷ next ∷ parts) lt h = (
  led s n earlier mark column (corner_pieces s s.theme.characters.rcross ++ map (glyph_of s.width) part) lt h,
  bars_of_rest s n earlier mark column (next ∷ parts) lt h,
)

all_append : (P : List Glyph → Type 0) (xs ys : List (List Glyph)) → AllByRecursion P xs → AllByRecursion P ys
    → AllByRecursion P (xs ++ ys)
all_append P [] ys h k = k
all_append P (x ∷ xs) ys h k = (h.0, all_append P xs ys h.1 k)

any_append_left : (p : Underline → Bool) (xs ys : List Underline) → list_any p xs ≡ true → list_any p (xs ++ ys) ≡ true
any_append_left p [] ys h = cc
any_append_left p (x ∷ xs) ys h =
    by_cases {C = list_any p ((x ∷ xs) ++ ys) ≡ true} (p x) (λ a. rw a refl)
    (λ a. rw a (any_append_left p xs ys (rw a at h)))

any_last : (p : Underline → Bool) (xs : List Underline) (y : Underline) → p y ≡ true → list_any p (xs ++ y ∷ []) ≡ true
any_last p [] y h = rw h refl
any_last p (x ∷ xs) y h = or_right (p x) (list_any p (xs ++ y ∷ [])) (any_last p xs y h)

bars_below : (s : SnippetSettings) (n : IsNarrow s.width s.theme.characters) (earlier ms : List Underline)
    (reached column : ℕ)
    → AreApart reached ms → column < reached → has_anchor column earlier ≡ true →
    AllByRecursion (HasBar s.theme.characters column) (glyph_rows_below s earlier ms)
bars_below s n earlier [] reached column h lt has = tt
bars_below s n earlier (m ∷ ms) reached column h lt has =
    all_append (HasBar s.theme.characters column) (glyph_rows_below s (earlier ++ m ∷ []) ms)
    (glyph_rows_of_parts s earlier m m.label.parts)
    (bars_below s n (earlier ++ m ∷ []) ms m.until column h.2 (omega (arith, h.0, h.1.0, h.1.1))
    (any_append_left (λ k. eqb column k.pointer) earlier (m ∷ []) has))
    (bars_of_parts s n earlier m column m.label.parts (omega (arith, h.0, h.1.0)) has)

-- hanging under rows that have vbar, and with more rows below
hang_under : (t : Characters) (column : ℕ) (part : List Glyph) (above rows : List (List Glyph))
    → AllByRecursion (HasBar t column) above → ConnectsFrom t column part rows
    → ConnectsFrom t column part (above ++ rows)
hang_under t column part [] rows bars h = h
hang_under t column part (row ∷ above) rows bars h = inr (bars.0, hang_under t column part above rows bars.1 h)

hang_more : (t : Characters) (column : ℕ) (part : List Glyph) (rows more : List (List Glyph))
    → ConnectsFrom t column part rows → ConnectsFrom t column part (rows ++ more)
hang_more t column part [] more h = absurd h
hang_more t column part (row ∷ rows) more h =
    ⊎_elim {C = ConnectsFrom t column part ((row ∷ rows) ++ more)} (λ a. inl a)
    (λ b. inr (b.0, hang_more t column part rows more b.1)) h

-- a row with a corner, and the text after it
cornered : (v : SnippetSettings) (n : IsNarrow v.width v.theme.characters) (earlier : List Underline) (mark : Underline)
    (p q r s : Glyph)
    (part : List Glyph) → p.code ≡ v.theme.characters.lbot → p.columns ≡ 1 → q.columns ≡ 1 → r.columns ≡ 1 → s.columns
    ≡ 1 →
    (code_at (lead v earlier mark ++ ((p ∷ q ∷ r ∷ s ∷ []) ++ part)) mark.pointer ≡ Some v.theme.characters.lbot)
    × Begins (lead v earlier mark ++ ((p ∷ q ∷ r ∷ s ∷ []) ++ part)) (mark.pointer + 4) part
cornered v n earlier mark p q r s part is a b c d = (
  ap (code_at (lead v earlier mark ++ ((p ∷ q ∷ r ∷ s ∷ []) ++ part))) (omega arith)
      ∙ code_at-after (lead_at v earlier) 0 mark.pointer 0 ((p ∷ q ∷ r ∷ s ∷ []) ++ part)
      (lead_at-narrow v n earlier)
      ∙ code_at-here p ((q ∷ r ∷ s ∷ []) ++ part) a
      ∙ ap Some is,
  (
    lead v earlier mark ++ (p ∷ q ∷ r ∷ s ∷ []),
    sym (append_assoc (lead v earlier mark) (p ∷ q ∷ r ∷ s ∷ []) part),
    glyph_columns-append (lead v earlier mark) (p ∷ q ∷ r ∷ s ∷ [])
        ∙ omega (arith, glyph_columns-map (lead_at v earlier) 0 mark.pointer (lead_at-narrow v n earlier)),
  ),
)

-- a mark's first part hangs from its anchor at the top of its own rows
own_rows : (s : SnippetSettings) (n : IsNarrow s.width s.theme.characters) (earlier : List Underline) (mark : Underline)
    (part : List ℕ)
    (parts : List (List ℕ)) →
    ConnectsFrom s.theme.characters mark.pointer (map (glyph_of s.width) part)
    (glyph_rows_of_parts s earlier mark (part ∷ parts))
own_rows s n earlier mark part [] =
    inl (cornered s n earlier mark (glyph_of s.width s.theme.characters.lbot) (glyph_of s.width s.theme.characters.hbar)
    (glyph_of s.width s.theme.characters.hbar)
    (glyph_of s.width 32) (map (glyph_of s.width) part) refl n.drawings.lbot n.drawings.hbar n.drawings.hbar n.space)
own_rows s n earlier mark part (next ∷ parts) =
    inl (cornered s n earlier mark (glyph_of s.width s.theme.characters.lbot) (glyph_of s.width s.theme.characters.hbar)
    (glyph_of s.width s.theme.characters.rcross)
    (glyph_of s.width 32) (map (glyph_of s.width) part) refl n.drawings.lbot n.drawings.hbar n.drawings.rcross n.space)

hangs_at_top : (s : SnippetSettings) (n : IsNarrow s.width s.theme.characters) (earlier : List Underline)
    (mark : Underline)
    (above : List (List Glyph)) (parts : List (List ℕ)) →
    AllByRecursion (HasBar s.theme.characters mark.pointer) above
    → PartIsConnected s (above ++ glyph_rows_of_parts s earlier mark parts)
    mark.pointer parts
hangs_at_top s n earlier mark above [] bars = tt
hangs_at_top s n earlier mark above (part ∷ parts) bars =
    hang_under s.theme.characters mark.pointer (map (glyph_of s.width) part) above
    (glyph_rows_of_parts s earlier mark (part ∷ parts)) bars
    (own_rows s n earlier mark part parts)

part_more : (s : SnippetSettings) (rows more : List (List Glyph)) (column : ℕ) (parts : List (List ℕ))
    → PartIsConnected s rows column parts → PartIsConnected s (rows ++ more) column parts
part_more s rows more column [] h = tt
part_more s rows more column (part ∷ parts) h = hang_more s.theme.characters column (map (glyph_of s.width) part) rows
    more h

pub all_more : (s : SnippetSettings) (start : ℕ) (rows more : List (List Glyph)) (ms : List Underline)
    → AllByRecursion (IsConnected s rows start) ms → AllByRecursion (IsConnected s (rows ++ more) start) ms
all_more s start rows more [] h = tt
all_more s start rows more (m ∷ ms) h = (
  part_more s rows more (start + m.pointer) m.label.parts h.0,
  all_more s start rows more ms h.1,
)

part_at : (s : SnippetSettings) (rows : List (List Glyph)) (a b : ℕ) (parts : List (List ℕ)) → a ≡ b
    → PartIsConnected s rows a parts → PartIsConnected s rows b parts
part_at s rows a b parts e h = rw (← e) h

hang_from : (s : SnippetSettings) (n : IsNarrow s.width s.theme.characters) (earlier ms : List Underline) (reached : ℕ)
    → AreApart reached ms → AllByRecursion (IsConnected s (glyph_rows_below s earlier ms) 0) ms
hang_from s n earlier [] reached h = tt
hang_from s n earlier (m ∷ ms) reached h = (
  part_at s (glyph_rows_below s earlier (m ∷ ms)) m.pointer (0 + m.pointer) m.label.parts (omega arith)
      (hangs_at_top s n earlier m (glyph_rows_below s (earlier ++ m ∷ []) ms) m.label.parts
      (bars_below s n (earlier ++ m ∷ []) ms m.until m.pointer h.2 h.1.1
      (any_last (λ k. eqb m.pointer k.pointer) earlier m (eq-eqb m.pointer m.pointer refl)))),
  all_more s 0 (glyph_rows_below s (earlier ++ m ∷ []) ms) (glyph_rows_of_parts s earlier m m.label.parts) ms
      (hang_from s n (earlier ++ m ∷ []) ms m.until h.2),
)

-- each text hangs from its own mark's anchor
pub glyph_rows_hang : (s : SnippetSettings) (ms : List Underline) → IsNarrow s.width s.theme.characters → AreApart 0 ms
    → AllByRecursion (IsConnected s (glyph_rows_below s [] ms) 0) ms
glyph_rows_hang s ms n h = hang_from s n [] ms 0 h

-- a text hangs as well where the same gutter stands before each row
pub hang_beside : (t : Characters) (gutter : List Glyph) (column : ℕ) (part : List Glyph) (rows : List (List Glyph))
    → ConnectsFrom t column part rows → ConnectsFrom t (glyph_columns gutter + column) part
    (map (λ row. gutter ++ row) rows)
hang_beside t gutter column part [] h = h
hang_beside t gutter column part (row ∷ rows) h =
    ⊎_elim {C = ConnectsFrom t (glyph_columns gutter + column) part (map (λ r. gutter ++ r) (row ∷ rows))}
    (λ here. inl (
      code_at-append gutter row column ∙ here.0,
      (
        gutter ++ here.1.0,
        ap (λ r. gutter ++ r) here.1.1 ∙ sym (append_assoc gutter here.1.0 part),
        glyph_columns-append gutter here.1.0 ∙ omega (arith, here.1.2),
      ),
    ))
    (λ below. inr (code_at-append gutter row column ∙ below.0, hang_beside t gutter column part rows below.1))
    h

part_beside : (s : SnippetSettings) (gutter : List Glyph) (rows : List (List Glyph)) (column : ℕ)
    (parts : List (List ℕ)) → PartIsConnected s rows column parts
    → PartIsConnected s (map (λ row. gutter ++ row) rows) (glyph_columns gutter + column) parts
part_beside s gutter rows column [] h = tt
part_beside s gutter rows column (part ∷ parts) h = hang_beside s.theme.characters gutter column
    (map (glyph_of s.width) part) rows h

pub all_beside : (s : SnippetSettings) (gutter : List Glyph) (rows : List (List Glyph)) (ms : List Underline)
    → AllByRecursion (IsConnected s rows 0) ms → AllByRecursion
    (IsConnected s (map (λ row. gutter ++ row) rows) (glyph_columns gutter)) ms
all_beside s gutter rows [] h = tt
all_beside s gutter rows (m ∷ ms) h = (
  part_at s (map (λ row. gutter ++ row) rows) (glyph_columns gutter + (0 + m.pointer))
      (glyph_columns gutter + m.pointer)
      m.label.parts (omega arith) (part_beside s gutter rows (0 + m.pointer) m.label.parts h.0),
  all_beside s gutter rows ms h.1,
)
