-- Rows in their styles, and the same rows in plain ones: what is drawn of gutters, marks and texts.
use Rattle.std.proofs.Common.{◌≡◌, ℕ, ◌+◌, ◌-◌, Bool, true, false, ◌==◌, if◌then◌else◌, List, [], ◌∷◌, ◌++◌, map}
use Rattle.std.proofs.Common.{replicate, refl, sym, ap₂, ◌∙◌, subst}
use Rattle.std.specs.List.{AllByRecursion, range_with_len}
use Rattle.std.proofs.lemmas.List.{map-append}
use Rattle.miette_style.specs.declared.style.Style.{Style}
use Rattle.miette_lines.specs.rules.Lines.{Line}
use Rattle.miette_snippet_laws.specs.laws.Clean.{IsCleanCode, IsClean, IsCleanRow, AreCleanDrawings}
use Rattle.miette_snippet_rules.specs.rules.LabelRows.{blank, pointer_code, underline_code, underline_run}
use Rattle.miette_snippet_rules.specs.rules.LabelRows.{underline_runs, connector_runs}
use Rattle.miette_snippet_rules.specs.rules.LabelRows.{label_text_row, corner, corner_of_several, beside, rows_of_parts}
use Rattle.miette_snippet_rules.specs.rules.LabelRows.{label_text_rows, underline_rows}
use Rattle.miette_snippet_laws.specs.laws.PlainStyles.{IsPlainRow}
use Rattle.miette_snippet_rules.specs.rules.Gutters.{ending_corner, arrow, bar, number_gutter, break_gutter}
use Rattle.miette_snippet_rules.specs.rules.Gutters.{other_gutter, open_gutter, part_run, closing_parts, closing_rows}
use Rattle.miette_labels.specs.rules.Labels.{DrawnLabel, is_empty, starts_on, ends_on}
use Rattle.miette_snippet_rules.specs.rules.Underlines.{Underline}
use Rattle.miette_style.specs.rules.Rows.{Run, Row, glyphs_of, styled_run}
use Rattle.miette_style.specs.rules.Styles.{plain}
use Rattle.miette_snippet_laws.proofs.CleanTexts.{AreCleanPieces, clean_cons, clean_append, clean_replicate}
use Rattle.miette_snippet_laws.proofs.CleanTexts.{clean_code_if, clean_copies, clean_drawn, clean_each}
use Rattle.miette_snippet_laws.proofs.GlyphsOfRows.{glyphs_of-append}
use Rattle.miette_snippet_rules.specs.rules.SnippetSettings.{SnippetSettings}

-- a label and a mark with their style made plain
abbrev pub plain_label : DrawnLabel → DrawnLabel
plain_label label = record label { style = plain }

abbrev pub plain_mark : Underline → Underline
plain_mark mark = record mark { label = plain_label mark.label }

-- a label whose text holds no escape
abbrev pub HasCleanParts : DrawnLabel → Type 0
HasCleanParts label = AllByRecursion IsClean label.parts

abbrev pub IsCleanMark : Underline → Type 0
IsCleanMark mark = HasCleanParts mark.label

-- ---- runs, rows and lists of rows: the first is plain and prints what the second prints, which holds no escape where
-- P holds

pub record PlainRun (P : Type 0) (x y : Run) : Type 0 where
  pub plain : x.style ≡ plain
  pub same : x.glyphs ≡ y.glyphs
  pub clean : P → AreCleanPieces y.glyphs

pub record PlainRow (P : Type 0) (x y : Row) : Type 0 where
  pub plain : IsPlainRow x
  pub same : glyphs_of x ≡ glyphs_of y
  pub clean : P → IsCleanRow y

pub record PlainRows (P : Type 0) (xs ys : List Row) : Type 0 where
  pub plain : AllByRecursion IsPlainRow xs
  pub same : map glyphs_of xs ≡ map glyphs_of ys
  pub clean : P → AllByRecursion IsCleanRow ys

pub all_append : {A : Type 0} (Q : A → Type 0) (xs ys : List A) → AllByRecursion Q xs → AllByRecursion Q ys
    → AllByRecursion Q (xs ++ ys)
all_append Q [] ys h k = k
all_append Q (x ∷ xs) ys h k = (h.0, all_append Q xs ys h.1 k)

module _ (P : Type 0) where
  pub plain_nil : PlainRow P [] []
  plain_nil = record { plain = tt; same = refl; clean = λ p. tt }

  pub plain_cons : {r q : Run} {x y : Row} → PlainRun P r q → PlainRow P x y → PlainRow P (r ∷ x) (q ∷ y)
  plain_cons h k = record {
    plain = (h.plain, k.plain);
    same = ap₂ (λ a b. a ++ b) h.same k.same;
    clean =
        λ p. (h.clean p, k.clean p);
  }

  pub plain_append : (x y u v : Row) → PlainRow P x y → PlainRow P u v → PlainRow P (x ++ u) (y ++ v)
  plain_append x y u v h k = record {
    plain = all_append (λ (run : Run). run.style ≡ plain) x u h.plain k.plain;
    same = glyphs_of-append x u ∙ ap₂ (λ a b. a ++ b) h.same k.same ∙ sym (glyphs_of-append y v);
    clean = λ p. all_append (λ (run : Run). AreCleanPieces run.glyphs) y v (h.clean p) (k.clean p);
  }

  pub plain_if : (b : Bool) {x y u v : Row} → PlainRow P x y → PlainRow P u v
      → PlainRow P (if b then x else u) (if b then y else v)
  plain_if true h k = h
  plain_if false h k = k

  pub rows_nil : PlainRows P [] []
  rows_nil = record { plain = tt; same = refl; clean = λ p. tt }

  pub rows_cons : {x y : Row} {xs ys : List Row} → PlainRow P x y → PlainRows P xs ys → PlainRows P (x ∷ xs) (y ∷ ys)
  rows_cons h k = record {
    plain = (h.plain, k.plain);
    same = ap₂ (λ a b. a ∷ b) h.same k.same;
    clean =
        λ p. (h.clean p, k.clean p);
  }

  pub rows_append : (xs ys us vs : List Row) → PlainRows P xs ys → PlainRows P us vs → PlainRows P (xs ++ us) (ys ++ vs)
  rows_append xs ys us vs h k = record {
    plain = all_append IsPlainRow xs us h.plain k.plain;
    same = map-append glyphs_of xs us ∙ ap₂ (λ a b. a ++ b) h.same k.same ∙ sym (map-append glyphs_of ys vs);
    clean = λ p. all_append IsCleanRow ys vs (h.clean p) (k.clean p);
  }

  -- a row for each part
  rows_each : (f g : List ℕ → Row) → ((part : List ℕ) → (P → IsClean part) → PlainRow P (f part) (g part))
      → (parts : List (List ℕ)) → (P → AllByRecursion IsClean parts) → PlainRows P (map f parts) (map g parts)
  rows_each f g each [] h = rows_nil
  rows_each f g each (part ∷ parts) h = rows_cons (each part (λ p. (h p).0)) (rows_each f g each parts (λ p. (h p).1))

  -- ---- a text in a style, and spaces

  pub plain_styled : (width : ℕ → ℕ) (style : Style) (text : List ℕ) → (P → IsClean text)
      → PlainRun P (styled_run width plain text) (styled_run width style text)
  plain_styled width style text h = record { plain = refl; same = refl; clean = λ p. clean_drawn width text (h p) }

  pub plain_blank : (s : SnippetSettings) (many : ℕ) → PlainRun P (blank s many) (blank s many)
  plain_blank s many = record { plain = refl; same = refl; clean = λ p. clean_copies many (s.width 32) 32 refl }

  module _ (s : SnippetSettings) (clean : P → AreCleanDrawings s.theme.characters) where
    -- ---- gutters

    vbar_run : (style : Style) → PlainRun P (styled_run s.width plain (s.theme.characters.vbar ∷ []))
        (styled_run s.width style (s.theme.characters.vbar ∷ []))
    vbar_run style = plain_styled s.width style (s.theme.characters.vbar ∷ [])
        (λ p. clean_cons s.theme.characters.vbar [] (clean p).vbar refl)

    corner_clean : (parts : List (List ℕ)) → P → IsCleanCode (ending_corner s.theme.characters parts)
    corner_clean [] p = (clean p).lbot
    corner_clean (part ∷ parts) p = (clean p).lcross

    plain_arrow : (label : DrawnLabel) (from left : ℕ) → (P → IsCleanCode from)
        → PlainRun P (arrow s (plain_label label) from left) (arrow s label from left)
    plain_arrow label from left h = plain_styled s.width label.style
        (from ∷ replicate (left - 3) s.theme.characters.hbar ++ s.theme.characters.rarrow ∷ [])
        (λ p.
        clean_cons from (replicate (left - 3) s.theme.characters.hbar ++ s.theme.characters.rarrow ∷ []) (h p)
        (clean_append (replicate (left - 3) s.theme.characters.hbar) (s.theme.characters.rarrow ∷ [])
        (clean_replicate (left - 3) s.theme.characters.hbar (clean p).hbar)
        (clean_cons s.theme.characters.rarrow [] (clean p).rarrow refl)))

    pub plain_number_gutter : (line : Line) (left : ℕ) (labels : List DrawnLabel)
        → PlainRow P (number_gutter s line left (map plain_label labels)) (number_gutter s line left labels)
    plain_number_gutter line left [] = plain_cons (plain_blank s left) plain_nil
    plain_number_gutter line left (label ∷ labels) =
        let gap = plain_cons (plain_blank s 1) plain_nil in
        plain_if (starts_on line label)
        (plain_cons (plain_arrow label s.theme.characters.ltop left (λ p. (clean p).ltop)) gap)
        (plain_if (ends_on line label)
        (plain_cons (plain_arrow label (ending_corner s.theme.characters label.parts) left (corner_clean label.parts))
        gap)
        (plain_cons (vbar_run label.style) (plain_number_gutter line (left - 1) labels)))

    plain_bars : (labels : List DrawnLabel) → PlainRow P (map (bar s) (map plain_label labels))
        (map (bar s) labels)
    plain_bars [] = plain_nil
    plain_bars (label ∷ labels) = plain_cons (vbar_run label.style) (plain_bars labels)

    pub plain_break_gutter : (labels : List DrawnLabel) → PlainRow P (break_gutter s (map plain_label labels))
        (break_gutter s labels)
    plain_break_gutter [] = plain_nil
    plain_break_gutter (label ∷ labels) = plain_cons (plain_blank s 1) (plain_bars (label ∷ labels))

    pub plain_other_gutter : (line : Line) (left : ℕ) (labels : List DrawnLabel)
        → PlainRow P (other_gutter s line left (map plain_label labels)) (other_gutter s line left labels)
    plain_other_gutter line left [] = plain_cons (plain_blank s left) plain_nil
    plain_other_gutter line left (label ∷ labels) =
        plain_if (ends_on line label)
        (plain_cons (plain_styled s.width label.style (s.theme.characters.lbot
        ∷ replicate (left - 1) s.theme.characters.hbar) (λ p.
        clean_cons s.theme.characters.lbot (replicate (left - 1) s.theme.characters.hbar) (clean p).lbot
        (clean_replicate (left - 1) s.theme.characters.hbar (clean p).hbar))) plain_nil)
        (plain_cons (vbar_run label.style) (plain_other_gutter line (left - 1) labels))

    plain_open_gutter : (line : Line) (left : ℕ) (labels : List DrawnLabel)
        → PlainRow P (open_gutter s line left (map plain_label labels)) (open_gutter s line left labels)
    plain_open_gutter line left [] = plain_cons (plain_blank s left) plain_nil
    plain_open_gutter line left (label ∷ labels) =
        plain_if (ends_on line label) (plain_cons (plain_blank s left) plain_nil)
        (plain_cons (vbar_run label.style) (plain_open_gutter line (left - 1) labels))

    -- ---- texts of labels of several lines

    part_row : (label : DrawnLabel) (bar : ℕ) (part : List ℕ) → (P → IsCleanCode bar) → (P → IsClean part) →
        PlainRow P (part_run s (plain_label label) bar part ∷ []) (part_run s label bar part ∷ [])
    part_row label bar part h k = plain_cons (plain_styled s.width label.style (bar ∷ 32 ∷ part)
        (λ p. clean_cons bar (32 ∷ part) (h p) (clean_cons 32 part refl (k p)))) plain_nil

    plain_closing_parts : (line : Line) (columns : ℕ) (labels : List DrawnLabel) (label : DrawnLabel)
        (parts : List (List ℕ)) → (P → AllByRecursion IsClean parts) →
        PlainRows P (closing_parts s line columns (map plain_label labels) (plain_label label) parts)
        (closing_parts s line columns labels label parts)
    plain_closing_parts line columns labels label [] h = rows_nil
    plain_closing_parts line columns labels label (part ∷ []) h =
        rows_cons (plain_append (other_gutter s line columns (map plain_label labels))
        (other_gutter s line columns labels) (part_run s (plain_label label) s.theme.characters.hbar part ∷ [])
        (part_run s label s.theme.characters.hbar part ∷ [])
        (plain_other_gutter line columns labels) (part_row label s.theme.characters.hbar part (λ p. (clean p).hbar)
        (λ p. (h p).0)))
        rows_nil
    plain_closing_parts line columns labels label (part ∷ next ∷ parts) h =
        rows_cons (plain_append (other_gutter s line (columns - 1) (map plain_label labels))
        (other_gutter s line (columns - 1) labels) (part_run s (plain_label label) s.theme.characters.rcross part ∷ [])
        (part_run s label s.theme.characters.rcross part ∷ [])
        (plain_other_gutter line (columns - 1) labels) (part_row label s.theme.characters.rcross part
        (λ p. (clean p).rcross)
        (λ p. (h p).0)))
        (rows_each (λ q. open_gutter s line (columns - 1) (map plain_label labels)
        ++ part_run s (plain_label label) s.theme.characters.vbar q ∷ [])
        (λ q. open_gutter s line (columns - 1) labels ++ part_run s label s.theme.characters.vbar q ∷ [])
        (λ q k. plain_append (open_gutter s line (columns - 1) (map plain_label labels))
        (open_gutter s line (columns - 1) labels) (part_run s (plain_label label) s.theme.characters.vbar q ∷ [])
        (part_run s label s.theme.characters.vbar q ∷ [])
        (plain_open_gutter line (columns - 1) labels)
        (part_row label s.theme.characters.vbar q (λ p. (clean p).vbar) k))
        (next ∷ parts) (λ p. (h p).1))

    pub plain_closing_rows : (line : Line) (columns : ℕ) (labels ending : List DrawnLabel)
        → (P → AllByRecursion HasCleanParts ending) →
        PlainRows P (closing_rows s line columns (map plain_label labels) (map plain_label ending))
        (closing_rows s line columns labels ending)
    plain_closing_rows line columns labels [] h = rows_nil
    plain_closing_rows line columns labels (label ∷ ending) h =
        rows_append (closing_parts s line columns (map plain_label labels) (plain_label label) label.parts)
        (closing_parts s line columns labels label label.parts)
        (closing_rows s line columns (map plain_label labels) (map plain_label ending))
        (closing_rows s line columns labels ending)
        (plain_closing_parts line columns labels label label.parts (λ p. (h p).0))
        (plain_closing_rows line columns labels ending (λ p. (h p).1))

    -- ---- marks

    under_clean : (parts : List (List ℕ)) → P → IsCleanCode (pointer_code s.theme.characters parts)
    under_clean [] p = (clean p).underline
    under_clean (part ∷ parts) p = (clean p).underbar

    code_clean : (mark : Underline) (column : ℕ) → P → IsCleanCode (underline_code s.theme.characters mark column)
    code_clean mark column p =
        clean_code_if (column == mark.pointer) (if is_empty mark.label then s.theme.characters.uarrow
        else pointer_code s.theme.characters mark.label.parts) s.theme.characters.underline
        (clean_code_if (is_empty mark.label) s.theme.characters.uarrow
        (pointer_code s.theme.characters mark.label.parts) (clean p).uarrow
        (under_clean mark.label.parts p)) (clean p).underline

    plain_mark_run : (mark : Underline) → PlainRun P (underline_run s (plain_mark mark)) (underline_run s mark)
    plain_mark_run mark = record {
      plain = refl;
      same = refl;
      clean =
          λ p. clean_each s.width (underline_code s.theme.characters mark) (λ k. code_clean mark k p)
          (range_with_len mark.from (mark.until - mark.from));
    }

    plain_mark_runs : (reached : ℕ) (marks : List Underline) → PlainRow P (underline_runs s reached
        (map plain_mark marks))
        (underline_runs s reached marks)
    plain_mark_runs reached [] = plain_nil
    plain_mark_runs reached (mark ∷ marks) = plain_cons (plain_blank s (mark.from - reached))
        (plain_cons (plain_mark_run mark) (plain_mark_runs mark.until marks))

    plain_leaders : (reached : ℕ) (marks : List Underline) (column : ℕ)
        → PlainRow P (connector_runs s reached (map plain_mark marks) column)
        (connector_runs s reached marks column)
    plain_leaders reached [] column = plain_cons (plain_blank s (column - reached)) plain_nil
    plain_leaders reached (mark ∷ marks) column = plain_cons (plain_blank s (mark.pointer - reached))
        (plain_cons (vbar_run mark.label.style) (plain_leaders (mark.pointer + 1) marks column))

    -- ---- texts under marks

    plain_text : (earlier : List Underline) (mark : Underline) (front part : List ℕ) → (P → IsClean front)
        → (P → IsClean part) →
        PlainRow P (label_text_row s (map plain_mark earlier) (plain_mark mark) front part)
        (label_text_row s earlier mark front part)
    plain_text earlier mark front part h k =
        plain_append (connector_runs s 0 (map plain_mark earlier) mark.pointer)
        (connector_runs s 0 earlier mark.pointer) (styled_run s.width plain (front ++ part) ∷ [])
        (styled_run s.width mark.label.style (front ++ part) ∷ [])
        (plain_leaders 0 earlier mark.pointer) (plain_cons (plain_styled s.width mark.label.style (front ++ part)
        (λ p. clean_append front part (h p) (k p))) plain_nil)

    four_clean : (a b c : ℕ) → IsCleanCode a → IsCleanCode b → IsCleanCode c → IsClean (a ∷ b ∷ c ∷ 32 ∷ [])
    four_clean a b c h k j = clean_cons a (b ∷ c ∷ 32 ∷ []) h
        (clean_cons b (c ∷ 32 ∷ []) k (clean_cons c (32 ∷ []) j refl))

    plain_parts : (earlier : List Underline) (mark : Underline) (parts : List (List ℕ))
        → (P → AllByRecursion IsClean parts) →
        PlainRows P (rows_of_parts s (map plain_mark earlier) (plain_mark mark) parts)
        (rows_of_parts s earlier mark parts)
    plain_parts earlier mark [] h = rows_nil
    plain_parts earlier mark (part ∷ []) h =
        rows_cons (plain_text earlier mark (corner s.theme.characters) part
        (λ p. four_clean s.theme.characters.lbot s.theme.characters.hbar s.theme.characters.hbar (clean p).lbot
        (clean p).hbar (clean p).hbar) (λ p. (h p).0)) rows_nil
    plain_parts earlier mark (part ∷ next ∷ parts) h =
        rows_cons (plain_text earlier mark (corner_of_several s.theme.characters) part
        (λ p. four_clean s.theme.characters.lbot s.theme.characters.hbar s.theme.characters.rcross (clean p).lbot
        (clean p).hbar (clean p).rcross) (λ p. (h p).0))
        (rows_each (label_text_row s (map plain_mark earlier) (plain_mark mark) (beside s.theme.characters))
        (label_text_row s earlier mark (beside s.theme.characters))
        (λ q k. plain_text earlier mark (beside s.theme.characters) q
        (λ p. four_clean 32 32 s.theme.characters.vbar refl refl (clean p).vbar) k)
        (next ∷ parts) (λ p. (h p).1))

    plain_below : (earlier marks : List Underline) → (P → AllByRecursion IsCleanMark marks) →
        PlainRows P (label_text_rows s (map plain_mark earlier) (map plain_mark marks))
        (label_text_rows s earlier marks)
    plain_below earlier [] h = rows_nil
    plain_below earlier (mark ∷ marks) h =
        rows_append (label_text_rows s (map plain_mark earlier ++ plain_mark mark ∷ [])
        (map plain_mark marks)) (label_text_rows s (earlier ++ mark ∷ []) marks)
        (rows_of_parts s (map plain_mark earlier) (plain_mark mark) mark.label.parts)
        (rows_of_parts s earlier mark mark.label.parts)
        (subst (λ before. PlainRows P (label_text_rows s before (map plain_mark marks))
        (label_text_rows s (earlier ++ mark ∷ []) marks)) (map-append plain_mark earlier (mark ∷ []))
        (plain_below (earlier ++ mark ∷ []) marks (λ p. (h p).1)))
        (plain_parts earlier mark mark.label.parts (λ p. (h p).0))

    pub plain_marked : (marks : List Underline) → (P → AllByRecursion IsCleanMark marks)
        → PlainRows P (underline_rows s (map plain_mark marks)) (underline_rows s marks)
    plain_marked [] h = rows_nil
    plain_marked (mark ∷ marks) h = rows_cons (plain_mark_runs 0 (mark ∷ marks)) (plain_below [] (mark ∷ marks) h)
