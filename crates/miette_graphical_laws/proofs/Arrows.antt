-- Rows of an inner report that have room stand under its arrow.
use Rattle.std.proofs.Common.{◌≡◌, ℕ, Bool, true, false, inr, List, [], ◌∷◌, ◌++◌, Option, map, refl, sym, ap, ◌∙◌}
use Rattle.std.proofs.Common.{◌-◌, append_assoc, if◌then◌else◌}
use Rattle.miette_protocol.specs.declared.protocol.Severity.{Severity}
use Rattle.miette_runs.specs.rules.Cutting.{only_feeds, trim_leading_feeds, trim_trailing_feeds}
use Rattle.miette_runs.specs.rules.Runs.{Fragment, print}
use Rattle.miette_runs.specs.rules.Sequences.{tokens}
use Rattle.miette_graphical_laws.specs.laws.FittingRows.{bare_row, fed_rows}
use Rattle.miette_text.specs.rules.Wrapping.{WrapPlan}
use Rattle.miette_text.specs.views.Plans.{cuts_hyphens}
use Rattle.miette_text.proofs.Feeds.{leading-kept, seen-after, trailing-kept}
use Rattle.miette_text.proofs.FittingRows.{first-wrapped, rows-wrapped}
use Rattle.miette_graphical_rules.specs.rules.DiagnosticText.{line_feed, rows_text}
use Rattle.miette_graphical_rules.specs.rules.Indents.{arrow_indent, stem_indent}
use Rattle.miette_graphical_rules.specs.rules.GraphicalSettings.{GraphicalSettings}
use Rattle.miette_graphical_laws.specs.laws.Arrows.{FirstStands, InnerRowsStand, RowsStand, rows_under}
use Rattle.miette_graphical_rules.specs.laws.HeldRows.{Arrow, cut_text}

-- how what stands under an arrow is wrapped
abbrev pub arrow_plan : GraphicalSettings → Option Severity → Bool → WrapPlan (List ℕ)
arrow_plan s outer is_last = record {
  room = s.width - 2;
  first = print (arrow_indent s outer is_last);
  further = print (stem_indent s outer is_last);
  break_words = s.wrapping.break_words;
  wrap_lines = s.wrapping.wrap_lines;
  separator = s.wrapping.word_separator;
  split_hyphens = cuts_hyphens s.wrapping.word_splitter;
}

pub rows-stand : (s : GraphicalSettings) (outer : Option Severity) (is_last : Bool) (text : List ℕ)
    → s.wrapping.wrap_lines ≡ true → RowsStand s outer is_last text
rows-stand s outer is_last text w front back rows same fit =
    let shown = rows_under s outer is_last rows in
    let found = rows-wrapped (arrow_plan s outer is_last) text front back rows w
    (same ∙ ap (λ t. t ++ back) (append_assoc front line_feed (fed_rows rows))) fit in
    record {
      front = found.0 ++ line_feed;
      back = found.1;
      whole = found.2 ∙ ap (λ t. t ++ found.1) (sym (append_assoc found.0 line_feed shown));
      begins = inr (found.0, refl);
    }

pub first-stands : (s : GraphicalSettings) (outer : Option Severity) (is_last : Bool) (text : List ℕ)
    → s.wrapping.wrap_lines ≡ true → FirstStands s outer is_last text
first-stands s outer is_last text w row back same fit =
    let indent = print (arrow_indent s outer is_last) in
    let found = first-wrapped (arrow_plan s outer is_last) text row back w (same ∙ append_assoc row line_feed back) fit
    in (found.0, found.1 ∙ sym (append_assoc (indent ++ bare_row row) line_feed found.0))

-- ---- what is cut off an inner report

rows-seen : (rows : List (List ℕ)) (back : List ℕ) → only_feeds (tokens back) ≡ false
    → only_feeds (tokens (fed_rows rows ++ back)) ≡ false
rows-seen [] back h = h
rows-seen (row ∷ rows) back h =
    ap (λ t. only_feeds (tokens t)) (append_assoc row (10 ∷ fed_rows rows) back)
    ∙ seen-after row (fed_rows rows ++ back) (rows-seen rows back h)

rows-kept : (rows : List (List ℕ)) (back : List ℕ) → only_feeds (tokens back) ≡ false
    → trim_trailing_feeds (fed_rows rows ++ back) ≡ fed_rows rows ++ trim_trailing_feeds back
rows-kept [] back h = refl
rows-kept (row ∷ rows) back h =
    ap trim_trailing_feeds (append_assoc row (10 ∷ fed_rows rows) back)
    ∙ trailing-kept row (fed_rows rows ++ back) (rows-seen rows back h)
    ∙ ap (λ t. row ++ 10 ∷ t) (rows-kept rows back h)
    ∙ sym (append_assoc row (10 ∷ fed_rows rows) (trim_trailing_feeds back))

-- rows with what stands around them, grouped in another way
grouped : (front rows back : List ℕ) → front ++ line_feed ++ rows ++ back ≡ front ++ 10 ∷ (rows ++ back)
grouped front rows back = ap (λ t. t ++ back) (append_assoc front line_feed rows)
    ∙ append_assoc front (10 ∷ rows) back

leading-cut : (front rows back : List ℕ) → only_feeds (tokens front) ≡ false
    → trim_leading_feeds (front ++ line_feed ++ rows ++ back) ≡ trim_leading_feeds front ++ line_feed ++ rows ++ back
leading-cut front rows back h =
    ap trim_leading_feeds (grouped front rows back) ∙ leading-kept front (rows ++ back) h
    ∙ sym (grouped (trim_leading_feeds front) rows back)

trailing-cut : (front : List ℕ) (rows : List (List ℕ)) (back : List ℕ) → only_feeds (tokens back) ≡ false
    → trim_trailing_feeds (front ++ line_feed ++ fed_rows rows ++ back) ≡ front ++ line_feed ++ fed_rows rows
    ++ trim_trailing_feeds back
trailing-cut front rows back h =
    ap trim_trailing_feeds (grouped front (fed_rows rows) back)
    ∙ trailing-kept front (fed_rows rows ++ back) (rows-seen rows back h)
    ∙ ap (λ t. front ++ 10 ∷ t) (rows-kept rows back h)
    ∙ sym (grouped front (fed_rows rows) (trim_trailing_feeds back))

-- the rows stand in what is left
abbrev pub LeavesRows : List (List ℕ) → List ℕ → Type 0
LeavesRows rows text = (front back : List ℕ) × (text ≡ front ++ line_feed ++ fed_rows rows ++ back)

pub left-by : (is_related : Bool) (front back : List ℕ) (rows : List (List ℕ)) → only_feeds (tokens front) ≡ false
    → (is_related ≡ true → only_feeds (tokens back) ≡ false) →
    LeavesRows rows (if is_related then trim_trailing_feeds (trim_leading_feeds (front ++ line_feed ++ fed_rows rows
    ++ back))
    else trim_leading_feeds (front ++ line_feed ++ fed_rows rows ++ back))
left-by false front back rows h k = (trim_leading_feeds front, back, leading-cut front (fed_rows rows) back h)
left-by true front back rows h k = (
  trim_leading_feeds front,
  trim_trailing_feeds back,
  ap trim_trailing_feeds (leading-cut front (fed_rows rows) back h)
      ∙ trailing-cut (trim_leading_feeds front) rows back (k refl),
)

pub inner-stand : (s : GraphicalSettings) (arrow : Arrow) (front back : List ℕ) (rows : List (List ℕ))
    → s.wrapping.wrap_lines ≡ true → InnerRowsStand s arrow front back rows
inner-stand s arrow front back rows w h k fit =
    let text = cut_text arrow (front ++ line_feed ++ fed_rows rows ++ back) in
    let left = left-by arrow.is_related front back rows h k in
    rows-stand s arrow.outer arrow.is_last text w left.0 (left.1 ++ line_feed) rows
    (ap (λ t. t ++ line_feed) left.2
    ∙ append_assoc (left.0 ++ line_feed ++ fed_rows rows) left.1 line_feed) fit

-- ---- the rows of snippets

pub printed-rows : (rows : List (List Fragment)) → fed_rows (map print rows) ≡ rows_text rows
printed-rows [] = refl
printed-rows (row ∷ rows) =
    ap (λ t. print row ++ 10 ∷ t) (printed-rows rows) ∙ sym (append_assoc (print row) line_feed (rows_text rows))
