-- Rows that have room stand under all arrows on their path: by the step of one arrow, from the innermost one outwards.
use Rattle.std.proofs.Common.{◌≡◌, ℕ, ◌<◌, inl, inr, Bool, true, false, ◌&&◌, List, [], ◌∷◌, ◌++◌, length, refl, sym}
use Rattle.std.proofs.Common.{ap}
use Rattle.std.proofs.Common.{◌∙◌, subst, arith, Option, append_assoc, append-nil, encode_utf8_all}
use Rattle.miette_runs.specs.rules.Runs.{print}
use Rattle.miette_runs.specs.rules.Cutting.{only_feeds}
use Rattle.miette_runs.specs.rules.Colours.{is_colour}
use Rattle.miette_runs.specs.rules.Sequences.{tokens}
use Rattle.miette_runs.proofs.Tokens.{tokens_character, tokens_sequence, colour-sequence}
use Rattle.miette_runs.proofs.Parameters.{start_colour}
use Rattle.miette_protocol.specs.declared.protocol.Severity.{Severity}
use Rattle.miette_style.specs.declared.style.Style.{Style}
use Rattle.miette_style.specs.rules.Codes.{colour_start, colour_stop, style_codes}
use Rattle.miette_runs.specs.rules.Runs.{Styled, printed_run}
use Rattle.miette_tree.specs.rules.Tree.{Tree}
use Rattle.miette_graphical_rules.specs.rules.Answers.{Answers}
use Rattle.miette_graphical_rules.specs.rules.DiagnosticText.{Drawing, line_feed, under_arrow}
use Rattle.miette_graphical_rules.specs.rules.Indents.{arrow_indent, narrow_settings, stem_indent}
use Rattle.miette_graphical_rules.specs.rules.GraphicalSettings.{GraphicalSettings}
use Rattle.miette_graphical_rules.specs.laws.Alike.{answer_at}
use Rattle.miette_graphical_laws.specs.laws.Arrows.{FitUnder, rows_under}
use Rattle.miette_graphical_laws.specs.laws.FittingRows.{bare_row, fed_rows, indented_rows}
use Rattle.miette_graphical_rules.specs.laws.HeldRows.{Arrow, HoldsSnippets, HoldsUnder, StartsRowIn, arrows_at}
use Rattle.miette_graphical_rules.specs.laws.HeldRows.{cut_text}
use Rattle.miette_graphical_rules.specs.laws.HeldRows.{snippet_rows_at, snippets_text_at}
use Rattle.miette_graphical_laws.specs.laws.Levels.{AreRowsAmong, FitLevels, HoldsLevels, LevelRowsStand, barred}
use Rattle.miette_graphical_laws.specs.laws.Levels.{barred_rows}
use Rattle.miette_graphical_laws.specs.laws.Levels.{ends_related, settings_under}
use Rattle.miette_graphical_laws.proofs.ArrowRows.{IsSeen, fed-append, fed-ends, grouped, seen-above, seen-before}
use Rattle.miette_graphical_laws.proofs.ArrowRows.{seen-below}
use Rattle.miette_graphical_laws.proofs.Arrows.{arrow_plan, left-by, printed-rows}
use Rattle.miette_text.proofs.FittingRows.{IsAfter, rows-wrapped}
use Rattle.miette_graphical_rules.proofs.Rows.{bytes-stand, within-stands}

-- ---- indents are to be seen, whatever stands after them

-- seen whatever stands after it
abbrev StaysSeen : List ℕ → Type 0
StaysSeen text = (more : List ℕ) → IsSeen (text ++ more)

spaced-seen : (text more : List ℕ) → IsSeen ((32 ∷ text) ++ more)
spaced-seen text more = ap only_feeds (tokens_character 32 (text ++ more) refl)

colour-some : (s : List ℕ) → is_colour s ≡ true → 0 < length s
colour-some [] h = absurd (cc)
colour-some (c ∷ s) h = omega arith

coloured-seen : (style : Style) (text more : List ℕ) → IsSeen ((colour_start style ++ (32 ∷ text)) ++ more)
coloured-seen style text more =
    let start = colour_start style in
    ap (λ t. only_feeds (tokens t)) (append_assoc start (32 ∷ text) more)
    ∙ ap only_feeds (tokens_sequence start (32 ∷ (text ++ more)) (colour-some start (start_colour style))
    (colour-sequence start (32 ∷ (text ++ more)) (start_colour style)))
    ∙ ap (λ b. b && only_feeds (tokens (32 ∷ (text ++ more)))) (start_colour style)
    ∙ spaced-seen text more

run-seen : (style : Style) (text : List ℕ) → StaysSeen (printed_run style (32 ∷ text))
run-seen style text more = elim (style_codes style) as (λ codes. IsSeen
    ((elim codes as (λ _. List ℕ) [ [] ↦ 32 ∷ text | x ∷ xs ↦ colour_start style ++ (32 ∷ text) ++ colour_stop ])
    ++ more)) [
      | [] ↦ spaced-seen text more
      | x ∷ xs ↦ ap (λ t. only_feeds (tokens t)) (append_assoc (colour_start style ++ (32 ∷ text)) colour_stop more)
          ∙ coloured-seen style text (colour_stop ++ more)
    ]

indent-seen : (style : Style) (text : List ℕ) → StaysSeen (print (Styled style (32 ∷ text) ∷ []))
indent-seen style text more =
    ap (λ t. only_feeds (tokens (t ++ more))) (append-nil (printed_run style (32 ∷ text)))
    ∙ run-seen style text more

arrow-seen : (s : GraphicalSettings) (outer : Option Severity) (is_last : Bool)
    → StaysSeen (print (arrow_indent s outer is_last))
arrow-seen s outer true more = indent-seen _ _ more
arrow-seen s outer false more = indent-seen _ _ more

stem-seen : (s : GraphicalSettings) (outer : Option Severity) (is_last : Bool)
    → StaysSeen (print (stem_indent s outer is_last))
stem-seen s outer true more = indent-seen _ _ more
stem-seen s outer false more = indent-seen _ _ more

-- what begins with such a text
begins-seen : (indent text : List ℕ) → StaysSeen indent → IsAfter indent text → StaysSeen text
begins-seen indent text h k more =
    ap (λ t. only_feeds (tokens (t ++ more))) k.1
    ∙ ap (λ t. only_feeds (tokens t)) (append_assoc indent k.0 more)
    ∙ h (k.0 ++ more)

-- ---- below and above something that is to be seen

pub record StandsAmong (part text : List ℕ) : Type 0 where
  pub front : List ℕ
  pub back : List ℕ
  pub whole : text ≡ front ++ line_feed ++ part ++ back
  pub above : IsSeen front
  pub below : StaysSeen back

among-within : (part text outer : List ℕ) → StandsAmong part text → StartsRowIn text outer → StandsAmong part outer
among-within part text outer h k = record {
  front = k.front ++ h.front;
  back = h.back ++ k.back;
  whole = k.whole ∙ ap (λ t. k.front ++ t ++ k.back) h.whole ∙ grouped k.front h.front line_feed part h.back k.back;
  above = seen-below k.front h.front k.begins h.above;
  below = λ more. ap (λ t. only_feeds (tokens t)) (append_assoc h.back k.back more) ∙ h.below (k.back ++ more);
}

among-stands : (part text : List ℕ) → StandsAmong part text → StartsRowIn part text
among-stands part text h = record {
  front = h.front ++ line_feed;
  back = h.back;
  whole = h.whole;
  begins = inr (h.front, refl);
}

-- ---- under one arrow

pub arrow-among : (s : GraphicalSettings) (arrow : Arrow) (front back : List ℕ) (rows : List (List ℕ))
    → s.wrapping.wrap_lines ≡ true → IsSeen front → (arrow.is_related ≡ true → IsSeen back)
    → FitUnder s arrow.outer arrow.is_last rows → StandsAmong (rows_under s arrow.outer arrow.is_last rows)
    (under_arrow s arrow.outer arrow.is_last (cut_text arrow (front ++ line_feed ++ fed_rows rows ++ back)))
arrow-among s arrow front back rows w h k fit =
    let text = cut_text arrow (front ++ line_feed ++ fed_rows rows ++ back) in
    let left = left-by arrow.is_related front back rows h k in
    let shown = rows_under s arrow.outer arrow.is_last rows in
    let found = rows-wrapped (arrow_plan s arrow.outer arrow.is_last) text left.0 (left.1 ++ line_feed) rows w
    (ap (λ t. t ++ line_feed) left.2
    ∙ append_assoc (left.0 ++ line_feed ++ fed_rows rows) left.1 line_feed
    ∙ ap (λ t. t ++ (left.1 ++ line_feed)) (append_assoc left.0 line_feed (fed_rows rows))) fit in
    record {
      front = found.0;
      back = found.1;
      whole = found.2 ∙ ap (λ t. t ++ found.1) (sym (append_assoc found.0 line_feed shown));
      above = ap (λ t. only_feeds (tokens t)) (sym (append-nil found.0))
          ∙ begins-seen (print (arrow_indent s arrow.outer arrow.is_last)) found.0
          (arrow-seen s arrow.outer arrow.is_last) found.3 [];
      below = begins-seen (print (stem_indent s arrow.outer arrow.is_last)) found.1
          (stem-seen s arrow.outer arrow.is_last) (found.4 left.1 refl);
    }

pub barred-fed : (indent : List ℕ) (rows : List (List ℕ)) → indented_rows indent rows ≡ fed_rows (barred indent rows)
barred-fed indent [] = refl
barred-fed indent (row ∷ rows) = ap (λ t. (indent ++ bare_row row) ++ 10 ∷ t) (barred-fed indent rows)

-- ---- under all of them

-- in the text that is wrapped under the outermost of them, and so around it
outer-among : (s : GraphicalSettings) (arrow : Arrow) (inner text front back : List ℕ) (rows : List (List ℕ))
    → s.wrapping.wrap_lines ≡ true
    → StartsRowIn (under_arrow s arrow.outer arrow.is_last (cut_text arrow inner)) text
    → inner ≡ front ++ line_feed ++ fed_rows rows ++ back → IsSeen front → (arrow.is_related ≡ true → IsSeen back)
    → FitUnder s arrow.outer arrow.is_last rows
    → StandsAmong (fed_rows (barred (print (stem_indent s arrow.outer arrow.is_last)) rows)) text
outer-among s arrow inner text front back rows w around split h k fit =
    let shown = rows_under s arrow.outer arrow.is_last rows in
    subst (λ part. StandsAmong part text) (barred-fed (print (stem_indent s arrow.outer arrow.is_last)) rows)
    (among-within shown (under_arrow s arrow.outer arrow.is_last (cut_text arrow inner)) text
    (subst (λ t. StandsAmong shown (under_arrow s arrow.outer arrow.is_last (cut_text arrow t))) (sym split)
    (arrow-among s arrow front back rows w h k fit)) around)

-- what is drawn, where it stands in a text: its rows with what is around them
pub record AreParted (rows : List (List ℕ)) (text : List ℕ) (is_related : Bool) : Type 0 where
  pub front : List ℕ
  pub back : List ℕ
  pub split : text ≡ front ++ line_feed ++ fed_rows rows ++ back
  pub above : IsSeen front
  pub below : is_related ≡ true → IsSeen back

drawn-parted : (drawn text : List ℕ) (arrows : List Arrow) (rows : List (List ℕ)) → StartsRowIn drawn text
    → AreRowsAmong drawn arrows rows → AreParted rows text (ends_related arrows)
drawn-parted drawn text arrows rows own among =
    let lower = fed_rows among.below in
    elim (fed-ends among.above) [
      | inl none ↦ (let not : true ≡ false = sym (ap (λ t. only_feeds (tokens t)) none) ∙ among.seen_above in
          absurd (cc))
      | inr e ↦ (let parts : fed_rows (among.above ++ rows ++ among.below)
          ≡ e.0 ++ line_feed ++ fed_rows rows ++ lower =
          fed-append (among.above ++ rows) among.below ∙ ap (λ t. t ++ lower) (fed-append among.above rows
          ∙ ap (λ t. t ++ fed_rows rows) e.1) in
          record {
            front = own.front ++ e.0;
            back = lower ++ own.back;
            split = own.whole ∙ ap (λ t. own.front ++ t ++ own.back) (among.whole ∙ parts)
                ∙ grouped own.front e.0 line_feed (fed_rows rows) lower own.back;
            above = seen-below own.front e.0 own.begins (seen-before e.0 (subst IsSeen e.1 among.seen_above));
            below = λ r. seen-above lower own.back (fed-ends among.below) (among.seen_below r);
          })
    ]

levels-among : (arrow : Arrow) (arrows : List Arrow) (s : GraphicalSettings) (drawn : GraphicalSettings → List ℕ)
    (text : List ℕ)
    (rows : List (List ℕ)) → s.wrapping.wrap_lines ≡ true → HoldsUnder (arrow ∷ arrows) s drawn text
    → AreRowsAmong (drawn (settings_under s (arrow ∷ arrows))) (arrow ∷ arrows) rows → FitLevels s (arrow ∷ arrows) rows
    → StandsAmong (fed_rows (barred_rows s (arrow ∷ arrows) rows)) text
levels-among arrow [] s drawn text rows w held among fit =
    let n = narrow_settings s arrow.outer arrow.is_last in
    let own = drawn-parted (drawn n) held.0 (arrow ∷ []) rows held.2 among in
    outer-among s arrow held.0 text own.front own.back rows w held.1 own.split own.above own.below fit.1
levels-among arrow (next ∷ arrows) s drawn text rows w held among fit =
    let n = narrow_settings s arrow.outer arrow.is_last in
    let same : AreRowsAmong (drawn (settings_under n (next ∷ arrows))) (next ∷ arrows) rows = record {
      above = among.above;
      below = among.below;
      whole = among.whole;
      seen_above = among.seen_above;
      seen_below = among.seen_below;
    } in
    let own = levels-among next arrows n drawn held.0 rows w held.2 same fit.0 in
    let back : IsSeen own.back = ap (λ t. only_feeds (tokens t)) (sym (append-nil own.back)) ∙ own.below [] in
    outer-among s arrow held.0 text own.front own.back (barred_rows n (next ∷ arrows) rows) w held.1 own.whole own.above
    (λ r. back) fit.1

drawn-stands : (drawn text : List ℕ) (rows : List (List ℕ)) → StartsRowIn drawn text → AreRowsAmong drawn [] rows
    → StartsRowIn (fed_rows rows) text
drawn-stands drawn text rows own among =
    let parts : drawn ≡ fed_rows among.above ++ fed_rows rows ++ fed_rows among.below =
    among.whole ∙ fed-append (among.above ++ rows) among.below
    ∙ ap (λ t. t ++ fed_rows among.below) (fed-append among.above rows) in
    within-stands (fed_rows rows) drawn text (record {
      front = fed_rows among.above;
      back = fed_rows among.below;
      whole = parts;
      begins = fed-ends among.above;
    }) own

pub levels-stand : (arrows : List Arrow) (s : GraphicalSettings) (drawn : GraphicalSettings → List ℕ) (text : List ℕ)
    → s.wrapping.wrap_lines ≡ true → HoldsUnder arrows s drawn text → LevelRowsStand s arrows drawn text
levels-stand [] s drawn text w held rows among fit = drawn-stands (drawn s) text rows held among
levels-stand (arrow ∷ arrows) s drawn text w held rows among fit =
    among-stands (fed_rows (barred_rows s (arrow ∷ arrows) rows)) text
    (levels-among arrow arrows s drawn text rows w held among fit)

-- ---- in the bytes of a report

pub levels-hold : (drawing : Drawing) (s : GraphicalSettings) (t : Tree) (a : Answers) (text : List ℕ)
    → s.wrapping.wrap_lines ≡ true → HoldsSnippets drawing s t a text → HoldsLevels drawing s t a (encode_utf8_all text)
levels-hold drawing s t a text w held path p found shown among fit =
    let arrows = arrows_at s t path in
    let answer = answer_at a path in
    bytes-stand (fed_rows (barred_rows s arrows shown)) text
    (levels-stand arrows s (snippets_text_at drawing p answer) text w (held path p found) shown
    (subst (λ drawn. AreRowsAmong drawn arrows shown) (printed-rows (snippet_rows_at drawing p answer
    (settings_under s arrows)))
    among)
    fit)
