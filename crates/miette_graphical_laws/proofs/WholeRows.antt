-- Rows under an arrow where text isn't wrapped.
use Rattle.std.proofs.Common.{◌≡◌, ℕ, ◌<◌, inl, inr, Bool, true, false, ◌&&◌, List, [], ◌∷◌, ◌++◌, Option, length, map}
use Rattle.std.proofs.Common.{refl, sym, ap, ap₂, subst, ◌∙◌, append_assoc, arith, if◌then◌else◌}
use Rattle.std.proofs.lemmas.List.{length-append}
use Rattle.std.specs.Char.{is_whitespace}
use Rattle.std.specs.List.{AllByRecursion}
use Rattle.miette_protocol.specs.declared.protocol.Severity.{Severity}
use Rattle.miette_runs.specs.rules.Cells.{TaggedChar}
use Rattle.miette_runs.specs.rules.Cutting.{only_feeds}
use Rattle.miette_runs.specs.rules.Runs.{print}
use Rattle.miette_runs.specs.rules.Sequences.{Token, Character, Sequence, spell, tokens}
use Rattle.miette_runs.proofs.Appending.{spell-append}
use Rattle.miette_runs.proofs.Tokens.{spell-tokens}
use Rattle.miette_text.specs.rules.Wrapping.{TextLine, all_white, filled_text, indented_row, last_indented, map_indents}
use Rattle.miette_text.specs.rules.Wrapping.{no_characters, text_line_tokens, whole_lines, with_tag, wrapped_text}
use Rattle.miette_text.specs.rules.Wrapping.{WrapPlan, trimmed_row}
use Rattle.miette_text.specs.rules.Wrapping as wrapping
use Rattle.miette_text.proofs.Feeds.{lines, lines-fed}
use Rattle.miette_text.proofs.FittingRows.{line-tokens, line_of, row-line}
use Rattle.miette_text.proofs.LineWise.{pieces-some}
use Rattle.miette_graphical_rules.specs.laws.HeldRows.{Arrow, EndsRow, HoldsUnder, StartsRowIn, cut_text}
use Rattle.miette_graphical_rules.specs.rules.DiagnosticText.{line_feed, under_arrow}
use Rattle.miette_graphical_rules.specs.rules.GraphicalSettings.{GraphicalSettings}
use Rattle.miette_graphical_rules.specs.rules.Indents.{arrow_indent, stem_indent}
use Rattle.miette_graphical_rules.proofs.Rows.{IsEnded, within-stands}
use Rattle.miette_graphical_laws.specs.laws.FittingRows.{fed_rows}
use Rattle.miette_graphical_laws.specs.laws.WholeRows.{IsInkedRow, WholeDrawnStand, WholeFirstStands, WholeRowsStand}
use Rattle.miette_graphical_laws.specs.laws.WholeRows.{only_white, whole_rows, whole_under}
use Rattle.miette_graphical_laws.proofs.ArrowRows.{IsSeen, fed-append, fed-ends, grouped, seen-above, seen-before}
use Rattle.miette_graphical_laws.proofs.ArrowRows.{seen-below}
use Rattle.miette_graphical_laws.proofs.Arrows.{arrow_plan, left-by}

-- ---- a row with ink is one line, with characters

white-tag : (s : List ℕ) (p : TextLine) → all_white (with_tag s p).cells ≡ all_white p.cells
white-tag s p = elim p.cells as (λ cs. all_white (with_tag s (record { cells = cs; rest = p.rest })).cells
    ≡ all_white cs) [ [] ↦ refl | c ∷ cs ↦ refl ]

white-line : (ts : List Token) → all_white (line_of ts).cells ≡ only_white ts
white-line [] = refl
white-line (Character c ∷ ts) = ap (λ b. is_whitespace c && b) (white-line ts)
white-line (Sequence s ∷ ts) = white-tag s (line_of ts) ∙ white-line ts

abbrev row_line : List ℕ → TextLine
row_line row = line_of (tokens row)

inked : (row : List ℕ) → IsInkedRow row → all_white (row_line row).cells ≡ false
inked row h = white-line (tokens row) ∙ h.1

lines-of : (rows : List (List ℕ)) (back : List ℕ) → AllByRecursion IsInkedRow rows
    → lines (fed_rows rows ++ back) ≡ map row_line rows ++ lines back
lines-of [] back h = refl
lines-of (row ∷ rows) back h =
    ap lines (append_assoc row (10 ∷ fed_rows rows) back)
    ∙ lines-fed row (fed_rows rows ++ back)
    ∙ ap₂ (λ ps qs. ps ++ qs) (row-line row h.0.0) (lines-of rows back h.1)

-- ---- lines, each with a line feed after it

abbrev fed : List Token → List Token → List TextLine → List ℕ
fed first further [] = []
fed first further (p ∷ ps) = elim ps [
  | [] ↦ spell (last_indented first p) ++ 10 ∷ []
  | q ∷ qs ↦ spell (indented_row first p) ++ 10 ∷ fed further further ps
]

whole-fed : (first further : List Token) (ps : List TextLine) → 0 < length ps
    → spell (whole_lines first further ps) ++ 10 ∷ [] ≡ fed first further ps
whole-fed first further [] h = absurd (omega arith)
whole-fed first further (p ∷ []) h = refl
whole-fed first further (p ∷ q ∷ qs) h =
    let below = whole_lines further further (q ∷ qs) in
    ap (λ t. t ++ 10 ∷ []) (spell-append (indented_row first p) (wrapping.line_feed ∷ below))
    ∙ append_assoc (spell (indented_row first p)) (10 ∷ spell below) (10 ∷ [])
    ∙ ap (λ t. spell (indented_row first p) ++ 10 ∷ t) (whole-fed further further (q ∷ qs) (omega arith))

-- lines that others follow
abbrev fed_above : List Token → List Token → List TextLine → List ℕ
fed_above first further [] = []
fed_above first further (p ∷ ps) = spell (indented_row first p) ++ 10 ∷ fed_above further further ps

fed-more : (further : List Token) (ps qs : List TextLine) → 0 < length qs
    → fed further further (ps ++ qs) ≡ fed_above further further ps ++ fed further further qs
fed-more further [] qs h = refl
fed-more further (p ∷ []) [] h = absurd (omega arith)
fed-more further (p ∷ []) (q ∷ qs) h =
    sym (append_assoc (spell (indented_row further p)) (10 ∷ []) (fed further further (q ∷ qs)))
fed-more further (p ∷ r ∷ ps) qs h =
    ap (λ t. spell (indented_row further p) ++ 10 ∷ t) (fed-more further (r ∷ ps) qs h)
    ∙ sym (append_assoc (spell (indented_row further p)) (10 ∷ fed_above further further (r ∷ ps))
    (fed further further qs))

fed-split : (first further : List Token) (ps qs : List TextLine) → 0 < length ps → 0 < length qs
    → fed first further (ps ++ qs) ≡ fed_above first further ps ++ fed further further qs
fed-split first further [] qs some h = absurd (omega arith)
fed-split first further (p ∷ []) [] some h = absurd (omega arith)
fed-split first further (p ∷ []) (q ∷ qs) some h =
    sym (append_assoc (spell (indented_row first p)) (10 ∷ []) (fed further further (q ∷ qs)))
fed-split first further (p ∷ r ∷ ps) qs some h =
    ap (λ t. spell (indented_row first p) ++ 10 ∷ t) (fed-more further (r ∷ ps) qs h)
    ∙ sym (append_assoc (spell (indented_row first p)) (10 ∷ fed_above further further (r ∷ ps))
    (fed further further qs))

above-ends : (first further : List Token) (ps : List TextLine) → 0 < length ps → IsEnded (fed_above first further ps)
above-ends first further [] h = absurd (omega arith)
above-ends first further (p ∷ []) h = (spell (indented_row first p), refl)
above-ends first further (p ∷ q ∷ qs) h =
    let below = above-ends further further (q ∷ qs) (omega arith) in (
      spell (indented_row first p) ++ 10 ∷ below.0,
      ap (λ t. spell (indented_row first p) ++ 10 ∷ t) below.1
          ∙ sym (append_assoc (spell (indented_row first p)) (10 ∷ below.0) line_feed),
    )

-- ---- lines with ink have the whole indent

own-indent : (indent : List Token) (p : TextLine) → all_white p.cells ≡ false
    → indented_row indent p ≡ indent ++ text_line_tokens p
own-indent indent p h = ap (λ (b : Bool). (if b then trimmed_row indent else indent) ++ text_line_tokens p) h

last-same : (indent : List Token) (p : TextLine) → all_white p.cells ≡ false
    → last_indented indent p ≡ indented_row indent p
last-same indent p h = elim p.cells as (λ (cs : List TaggedChar). all_white cs ≡ false
    → last_indented indent (record { cells = cs; rest = p.rest })
    ≡ indented_row indent (record { cells = cs; rest = p.rest })) [
      | [] ↦ λ k. absurd (cc)
      | c ∷ cs ↦ λ k. refl
    ] h

row-spelled : (indent : List Token) (row : List ℕ) → IsInkedRow row
    → spell (indented_row indent (row_line row)) ≡ spell indent ++ row
row-spelled indent row h =
    ap spell (own-indent indent (row_line row) (inked row h)
    ∙ ap (λ ts. indent ++ ts) (line-tokens (tokens row)))
    ∙ spell-append indent (tokens row) ∙ ap (λ t. spell indent ++ t) (spell-tokens row)

fed-row : (first further : List Token) (row : List ℕ) (ps : List TextLine) → IsInkedRow row
    → fed first further (row_line row ∷ ps) ≡ spell first ++ row ++ 10 ∷ fed further further ps
fed-row first further row [] h =
    ap (λ t. t ++ 10 ∷ []) (ap spell (last-same first (row_line row) (inked row h)) ∙ row-spelled first row h)
fed-row first further row (p ∷ ps) h = ap (λ t. t ++ 10 ∷ fed further further (p ∷ ps)) (row-spelled first row h)

fed-rows : (further : List Token) (rows : List (List ℕ)) (ps : List TextLine) → AllByRecursion IsInkedRow rows
    → fed further further (map row_line rows ++ ps) ≡ whole_rows (spell further) rows ++ fed further further ps
fed-rows further [] ps h = refl
fed-rows further (row ∷ rows) ps h =
    fed-row further further row (map row_line rows ++ ps) h.0
    ∙ ap (λ t. spell further ++ row ++ 10 ∷ t) (fed-rows further rows ps h.1)
    ∙ sym (append_assoc (spell further ++ row) (10 ∷ whole_rows (spell further) rows) (fed further further ps))

-- ---- the lines of a text

cut-last : {A : Type 0} (xs ys zs : List A) (e : A) → xs ++ e ∷ [] ≡ ys ++ zs → 0 < length zs
    → (left : List A) × (xs ≡ ys ++ left)
cut-last xs [] zs e same some = (xs, refl)
cut-last [] (y ∷ ys) zs e same some = absurd (omega (arith, ap length same, length-append ys zs, some))
cut-last (x ∷ xs) (y ∷ ys) zs e same some =
    let first : x ≡ y = cc in
    let later : xs ++ e ∷ [] ≡ ys ++ zs = cc in
    let below = cut-last xs ys zs e later some in
    (below.0, ap₂ (λ l ls. l ∷ ls) first below.1)

lines-left : (text : List ℕ) (above : List TextLine) (rest : List ℕ)
    → lines (text ++ line_feed) ≡ above ++ lines rest → (left : List TextLine) × (lines text ≡ above ++ left)
lines-left text above rest same = cut-last (lines text) above (lines rest) no_characters (sym (lines-fed text []) ∙ same)
    (pieces-some (tokens rest))

under-fed : (s : GraphicalSettings) (outer : Option Severity) (is_last : Bool) (text : List ℕ)
    → s.wrapping.wrap_lines ≡ false
    → under_arrow s outer is_last text ≡ fed (tokens (print (arrow_indent s outer is_last)))
    (tokens (print (stem_indent s outer is_last))) (lines text)
under-fed s outer is_last text w =
    let plan : WrapPlan (List Token) = map_indents tokens (arrow_plan s outer is_last) in
    ap (λ (b : Bool). spell (if b then filled_text plan (tokens text)
    else whole_lines plan.first plan.further (lines text)) ++ 10 ∷ []) w
    ∙ whole-fed plan.first plan.further (lines text) (pieces-some (tokens text))

pub first-whole : (s : GraphicalSettings) (outer : Option Severity) (is_last : Bool) (text : List ℕ)
    → s.wrapping.wrap_lines ≡ false → WholeFirstStands s outer is_last text
first-whole s outer is_last text w row back same h =
    let first : List Token = tokens (print (arrow_indent s outer is_last)) in
    let further : List Token = tokens (print (stem_indent s outer is_last)) in
    let all : lines (text ++ line_feed) ≡ row_line row ∷ lines back =
    ap lines (same ∙ append_assoc row line_feed back) ∙ lines-fed row back
    ∙ ap (λ ps. ps ++ lines back) (row-line row h.0) in
    let left = lines-left text (row_line row ∷ []) back all in (
      fed further further left.0,
      under-fed s outer is_last text w ∙ ap (fed first further) left.1 ∙ fed-row first further row left.0 h
          ∙ ap (λ t. t ++ row ++ 10 ∷ fed further further left.0) (spell-tokens (print (arrow_indent s outer is_last)))
          ∙ sym (append_assoc (print (arrow_indent s outer is_last) ++ row) line_feed (fed further further left.0)),
    )

pub rows-whole : (s : GraphicalSettings) (outer : Option Severity) (is_last : Bool) (text : List ℕ)
    → s.wrapping.wrap_lines ≡ false → WholeRowsStand s outer is_last text
rows-whole s outer is_last text w front back [] same h =
    record { front = []; back = under_arrow s outer is_last text; whole = refl; begins = inl refl }
rows-whole s outer is_last text w front back (row ∷ rows) same h =
    let first : List Token = tokens (print (arrow_indent s outer is_last)) in
    let further : List Token = tokens (print (stem_indent s outer is_last)) in
    let head : List TextLine = lines front in
    let own : List TextLine = map row_line (row ∷ rows) in
    let all : lines (text ++ line_feed) ≡ (head ++ own) ++ lines back =
    ap lines (same ∙ ap (λ t. t ++ back) (append_assoc front line_feed (fed_rows (row ∷ rows)))
    ∙ append_assoc front (10 ∷ fed_rows (row ∷ rows)) back)
    ∙ lines-fed front (fed_rows (row ∷ rows) ++ back)
    ∙ ap (λ ps. head ++ ps) (lines-of (row ∷ rows) back h)
    ∙ sym (append_assoc head own (lines back)) in
    let left = lines-left text (head ++ own) back all in
    let some : 0 < length head = pieces-some (tokens front) in
    let above : List ℕ = fed_above first further head in
    let shown : List ℕ = whole_under s outer is_last (row ∷ rows) in
    let below : List ℕ = fed further further left.0 in
    let ended = above-ends first further head some in
    record {
      front = above;
      back = below;
      whole = under-fed s outer is_last text w
          ∙ ap (fed first further) (left.1 ∙ append_assoc head own left.0)
          ∙ fed-split first further head (own ++ left.0) some (omega arith)
          ∙ ap (λ t. above ++ t) (fed-rows further (row ∷ rows) left.0 h
          ∙ ap (λ indent. whole_rows indent (row ∷ rows) ++ below) (spell-tokens (print (stem_indent s outer is_last))))
          ∙ sym (append_assoc above shown below);
      begins = inr ended;
    }

-- ---- an inner report

inner-whole : (s : GraphicalSettings) (arrow : Arrow) (front back : List ℕ) (rows : List (List ℕ))
    → s.wrapping.wrap_lines ≡ false → IsSeen front → (arrow.is_related ≡ true → IsSeen back)
    → AllByRecursion IsInkedRow rows → StartsRowIn (whole_under s arrow.outer arrow.is_last rows)
    (under_arrow s arrow.outer arrow.is_last (cut_text arrow (front ++ line_feed ++ fed_rows rows ++ back)))
inner-whole s arrow front back rows w h k ink =
    let text = cut_text arrow (front ++ line_feed ++ fed_rows rows ++ back) in
    let left = left-by arrow.is_related front back rows h k in
    rows-whole s arrow.outer arrow.is_last text w left.0 (left.1 ++ line_feed) rows
    (ap (λ t. t ++ line_feed) left.2
    ∙ append_assoc (left.0 ++ line_feed ++ fed_rows rows) left.1 line_feed) ink

pub drawn-whole : (s : GraphicalSettings) (arrow : Arrow) (drawn : GraphicalSettings → List ℕ) (text : List ℕ)
    → s.wrapping.wrap_lines ≡ false → HoldsUnder (arrow ∷ []) s drawn text → WholeDrawnStand s arrow drawn text
drawn-whole s arrow drawn text w held above rows below same h k ink =
    let own = held.2 in
    let shown = whole_under s arrow.outer arrow.is_last rows in
    let lower = fed_rows below in
    elim (fed-ends above) [
      | inl none ↦ (let not : true ≡ false = sym (ap (λ t. only_feeds (tokens t)) none) ∙ h in absurd (cc))
      | inr e ↦ (let front = own.front ++ e.0 in
          let back = lower ++ own.back in
          let parts : fed_rows (above ++ rows ++ below) ≡ e.0 ++ line_feed ++ fed_rows rows ++ lower =
          fed-append (above ++ rows) below ∙ ap (λ t. t ++ lower) (fed-append above rows
          ∙ ap (λ t. t ++ fed_rows rows) e.1) in
          let split : held.0 ≡ front ++ line_feed ++ fed_rows rows ++ back =
          own.whole ∙ ap (λ t. own.front ++ t ++ own.back) (same ∙ parts)
          ∙ grouped own.front e.0 line_feed (fed_rows rows) lower own.back in
          let seen : IsSeen front = seen-below own.front e.0 own.begins (seen-before e.0 (subst IsSeen e.1 h)) in
          within-stands shown (under_arrow s arrow.outer arrow.is_last (cut_text arrow held.0)) text
          (subst (λ t. StartsRowIn shown (under_arrow s arrow.outer arrow.is_last (cut_text arrow t))) (sym split)
          (inner-whole s arrow front back rows w seen
          (λ r. seen-above lower own.back (fed-ends below) (k r)) ink)) held.1)
    ]
