-- Indents of rows, in runs, and text that is wrapped under them.
use Rattle.std.specs.Prelude.{ℕ, ◌-◌, Bool, true, false, List, [], ◌∷◌, ◌++◌, codes, replicate, Option}
use Rattle.miette_text.specs.views.Plans.{cuts_hyphens}
use Rattle.miette_runs.specs.rules.Runs.{Fragment, Styled, print}
use Rattle.miette_style.specs.rules.Styles.{plain}
use Rattle.miette_runs.specs.rules.Sequences.{tokens}
use Rattle.miette_text.specs.rules.Wrapping.{wrapped_text}
use Rattle.miette_runs.specs.rules.Cells.{printed_columns}
use Rattle.miette_protocol.specs.declared.protocol.Severity.{Severity}
use Rattle.miette_graphical_rules.specs.rules.GraphicalSettings.{GraphicalSettings, icon, severity_style}

-- a text without style
abbrev pub bare_text : List ℕ → Fragment
bare_text text = Styled plain text

abbrev pub spaces : ℕ → List ℕ
spaces n = replicate n 32

-- a text wrapped after its first and further indents, at the set width less 2
abbrev pub wrapped_after : GraphicalSettings → List ℕ → List ℕ → List ℕ → List ℕ
wrapped_after s first further text =
    wrapped_text (record {
      room = s.width - 2;
      first = first;
      further = further;
      break_words = s.wrapping.break_words;
      wrap_lines = s.wrapping.wrap_lines;
      separator = s.wrapping.word_separator;
      split_hyphens = cuts_hyphens s.wrapping.word_splitter;
    }) text

abbrev pub wrapped_under : GraphicalSettings → List Fragment → List Fragment → List ℕ → List ℕ
wrapped_under s first further text = wrapped_after s (print first) (print further) text

-- of a message: its icon, then a bar
abbrev pub icon_indent : GraphicalSettings → Option Severity → List Fragment
icon_indent s severity =
    bare_text (spaces 2) ∷ Styled (severity_style s severity) (icon s severity) ∷ bare_text (spaces 1) ∷ []

abbrev pub bar_indent : GraphicalSettings → Option Severity → List Fragment
bar_indent s severity =
    bare_text (spaces 2) ∷ Styled (severity_style s severity) (s.theme.characters.vbar ∷ []) ∷ bare_text (spaces 1) ∷ []

-- Of a cause or a nested related report, in the style of the outer severity: an arrow, then a bar down to the next
-- arrow.
abbrev pub arrow_text : GraphicalSettings → Bool → List ℕ
arrow_text s true = spaces 2 ++ s.theme.characters.lbot ∷ s.theme.characters.hbar ∷ s.theme.characters.rarrow ∷ spaces 1
arrow_text s false = spaces 2 ++ s.theme.characters.lcross ∷ s.theme.characters.hbar ∷ s.theme.characters.rarrow
    ∷ spaces 1

abbrev pub stem_text : GraphicalSettings → Bool → List ℕ
stem_text s true = spaces 6
stem_text s false = spaces 2 ++ s.theme.characters.vbar ∷ spaces 3

abbrev pub arrow_indent : GraphicalSettings → Option Severity → Bool → List Fragment
arrow_indent s outer is_last = Styled (severity_style s outer) (arrow_text s is_last) ∷ []

abbrev pub stem_indent : GraphicalSettings → Option Severity → Bool → List Fragment
stem_indent s outer is_last = Styled (severity_style s outer) (stem_text s is_last) ∷ []

-- of a help text
abbrev pub help_indent : GraphicalSettings → List Fragment
help_indent s = Styled s.theme.styles.help (codes "  help: ") ∷ []

abbrev pub further_help_indent : List Fragment
further_help_indent = bare_text (spaces 8) ∷ []

-- of a fix's message
abbrev pub fix_indent : GraphicalSettings → List Fragment
fix_indent s = Styled s.theme.styles.help (codes "  fix: ") ∷ []

abbrev pub further_fix_indent : List Fragment
further_fix_indent = bare_text (spaces 7) ∷ []

abbrev pub footer_indent : List Fragment
footer_indent = bare_text (spaces 2) ∷ []

-- The settings below an arrow: the width is reduced by the width of the further indent.
abbrev pub narrow_settings : GraphicalSettings → Option Severity → Bool → GraphicalSettings
narrow_settings s outer is_last =
    record s { width = s.width - printed_columns (tokens (print (stem_indent s outer is_last))) }
