-- Fixes after a text: each as its message and its rows.
use Rattle.std.proofs.Common.{◌≡◌, Bool, true, false, List, [], ◌∷◌, ◌++◌, ℕ, map, Option, Some, None, refl, sym, ap}
use Rattle.std.proofs.Common.{ap₂, ◌∙◌}
use Rattle.std.proofs.Common.{append-nil, arith, chars, length, nat_eq}
use Rattle.std.specs.Prelude.{not}
use Rattle.std.specs.List.{list_any}
use Rattle.std.proofs.lemmas.Bool.{or_parts}
use Rattle.std.proofs.lemmas.Bool.Decides.{nat_tests}
use Rattle.miette_lines.specs.rules.Lists.{is_nil}
use Rattle.miette_fixes.specs.rules.Edits.{FixModel, Replacement}
use Rattle.miette_fix_rows.specs.rules.DiffRows.{fix_rows}
use Rattle.miette_style.specs.rules.Rows.{Row}
use Rattle.miette_style.specs.views.Printouts.{Printout, ended_text, printout_of, ◌⊕◌}
use Rattle.miette_style.specs.views.Tokens.{rows_tokens}
use Rattle.miette_protocol.specs.rules.Reading.{Source}
use Rattle.miette_graphical_rules.specs.rules.DiagnosticText.{fix_text, fixes_text, line_feed, rows_text}
use Rattle.miette_graphical_rules.specs.rules.Indents.{fix_indent, further_fix_indent, wrapped_under}
use Rattle.miette_graphical_rules.specs.rules.GraphicalSettings.{GraphicalSettings}
use Rattle.miette_graphical_rules.specs.rules.Snippets.{drawn_fix, rows_of_fix, runs_of_row, snippet_settings}
use Rattle.miette_graphical_rules.specs.rules.Sources.{has_edits}
use Rattle.miette_snippet_rules.specs.rules.SnippetSettings.{SnippetSettings}
use Rattle.miette_graphical.specs.steps.FixSources.{fix_rows_over}
use Rattle.miette_graphical.specs.views.PartTexts.{AppendsFixes}
use Rattle.miette_graphical_rules.proofs.PrintedRows.{rows_printed}
use Rattle.miette_graphical.proofs.Steps.{added_after}

-- rows that a page printed after a text
pub rows_after : (before : List ℕ) (rows : List Row) (over page : Printout) (out : List ℕ) → over ≡ printout_of before
    → page ≡ over ⊕ rows_tokens rows → out ≡ ended_text page → out ≡ before ++ rows_text (map runs_of_row rows)
rows_after before rows over page out o p e =
    e ∙ ap ended_text (p ∙ ap (λ x. x ⊕ rows_tokens rows) o) ∙ rows_printed before rows

-- rows over a source, if there is one
pub rows_printed_over : (s : SnippetSettings) (source : Option Source) (whole : Source) (fails b : Bool)
    (edits : List Replacement) (old new : Printout) → source ≡ Some whole → fails ≡ b
    → new ≡ old ⊕ rows_tokens (fix_rows s whole b edits)
    → new ≡ old ⊕ rows_tokens (fix_rows_over s source fails edits)
rows_printed_over s source whole fails b edits old new is f h =
    h ∙ ap₂ (λ o v. old ⊕ rows_tokens (fix_rows_over s o v edits)) (sym is) (sym f)

rows_shown : (s : GraphicalSettings) (source : Option Source) (fails : Bool) (edits : List Replacement)
    → map runs_of_row (fix_rows_over (snippet_settings s) source fails edits) ≡ rows_of_fix s source fails edits
rows_shown s None fails edits = refl
rows_shown s (Some source) fails edits = refl

-- a fix's message, wrapped
abbrev pub message_of : GraphicalSettings → FixModel → List ℕ
message_of s fix = wrapped_under s (fix_indent s) further_fix_indent (chars fix.message) ++ line_feed

-- it stands after a text
abbrev IsToldAfter : GraphicalSettings → List ℕ → List ℕ → List ℕ → Type 0
IsToldAfter s text old told =
    told ≡ old ++ (wrapped_under s (fix_indent s) further_fix_indent (chars text) ++ line_feed)

message_told : (s : GraphicalSettings) (fix : FixModel) (text old told : List ℕ) → text ≡ fix.message
    → IsToldAfter s text old told → told ≡ old ++ message_of s fix
message_told s fix text old told is e =
    e ∙ ap (λ t. old ++ (wrapped_under s (fix_indent s) further_fix_indent (chars t) ++ line_feed)) is

-- with rows below it that were printed by the same settings
pub fix_after : (s u : GraphicalSettings) (source : Option Source) (fails : Bool) (fix : FixModel)
    (text old told new : List ℕ)
    → text ≡ fix.message → IsToldAfter s text old told → u ≡ s
    → new ≡ told ++ rows_text (map runs_of_row (fix_rows_over (snippet_settings u) source fails fix.edits))
    → new ≡ old ++ fix_text s (drawn_fix s source fails fix)
fix_after s u source fails fix text old told new is e same h =
    added_after old told new (message_of s fix) (rows_text (rows_of_fix s source fails fix.edits))
    (message_told s fix text old told is e)
    (h ∙ ap (λ v. told ++ rows_text (map runs_of_row (fix_rows_over (snippet_settings v) source fails fix.edits))) same
    ∙ ap (λ rows. told ++ rows_text rows) (rows_shown s source fails fix.edits))

-- ---- fixes without edits need no source

-- a message without rows is the same over any source
nowhere_same : (s : GraphicalSettings) (source : Source) (edits : List Replacement) → not (is_nil edits) ≡ false
    → rows_of_fix s None false edits ≡ rows_of_fix s (Some source) false edits
nowhere_same s source [] h = refl
nowhere_same s source (edit ∷ edits) h = absurd (cc)

pub messages_same : (s : GraphicalSettings) (source : Source) (fixes : List FixModel) → list_any has_edits fixes ≡ false
    → map (drawn_fix s None false) fixes ≡ map (drawn_fix s (Some source) false) fixes
messages_same s source [] h = refl
messages_same s source (fix ∷ fixes) h =
    let both = or_parts (has_edits fix) (list_any has_edits fixes) h in
    ap₂ (λ rows more. record { message = fix.message; rows = rows } ∷ more) (nowhere_same s source fix.edits both.0)
    (messages_same s source fixes both.1)

-- of no fixes nothing is appended
pub over_nothing : (s : GraphicalSettings) (source : Option Source) (fixes : List FixModel) (out : List ℕ)
    → nat_eq (length fixes) 0 ≡ true → AppendsFixes s source fixes out out
over_nothing s source [] out h = record { fails = false; possible = λ h. refl; appended = sym (append-nil out) }
over_nothing s source (fix ∷ fixes) out h = absurd (let e = h in grind (arith, nat_tests))

pub over_unneeded : (s : GraphicalSettings) (source : Option Source) (it : Source) (fixes : List FixModel)
    (old new : List ℕ)
    → source ≡ Some it → list_any has_edits fixes ≡ false
    → new ≡ old ++ fixes_text s (map (drawn_fix s None false) fixes) → AppendsFixes s source fixes old new
over_unneeded s source it fixes old new is none e = record {
  fails = false;
  possible = λ h. refl;
  appended = e ∙ ap (λ fs. old ++ fixes_text s fs) (messages_same s it fixes none)
      ∙ ap (λ o. old ++ fixes_text s (map (drawn_fix s o false) fixes)) (sym is);
}

pub over_read : (s : GraphicalSettings) (source : Option Source) (fixes : List FixModel) (old new : List ℕ)
    → new ≡ old ++ fixes_text s (map (drawn_fix s source false) fixes) → AppendsFixes s source fixes old new
over_read s source fixes old new e = record { fails = false; possible = λ h. refl; appended = e }
