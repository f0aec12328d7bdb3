-- Proposed fixes of `lint`, line by line, and the fixed text.
use Rattle.std.specs.Prelude.{ℕ, ◌+◌, ◌-◌, ◌%◌, ◌==◌, if◌then◌else◌, List, [], ◌∷◌, ◌++◌, codes, drop, flat_map}
use Rattle.std.specs.Prelude.{is_none}
use Rattle.std.specs.Prelude.{length, slice_range, take, take_while}
use Rattle.miette_lines.specs.rules.Lines.{Line, LF, is_terminated, lines_of}
use Rattle.miette_protocol.specs.views.Meaning.{Label}
use Rattle.miette_fixes.specs.declared.applicability.Applicability.TheVariants.{MachineApplicable}
use Rattle.miette_fixes.specs.rules.Edits.{FixModel}
use Rattle.miette_lint.specs.rules.Findings.{lint_cells_of, ending_blanks, is_blank, overlong, tab_after_space}

-- ---- the text

-- a blank at a column, as spaces; a tab goes to the next multiple of four columns
abbrev pub spaces_at : ℕ → ℕ → List ℕ
spaces_at column b = if b == 9 then take (4 - column % 4) (codes "    ") else codes " "

-- blanks from a column on, as spaces
abbrev pub spaces_from : ℕ → List ℕ → List ℕ
spaces_from column [] = []
spaces_from column (b ∷ bs) = spaces_at column b ++ spaces_from (column + length (spaces_at column b)) bs

-- a text without its trailing blanks
abbrev pub trimmed : List ℕ → List ℕ
trimmed text = take (length text - ending_blanks text) text

-- leading blanks: converted to spaces if a tab follows a space
abbrev pub even_blanks : List ℕ → List ℕ
even_blanks blanks = if is_none (tab_after_space blanks) then blanks else spaces_from 0 blanks

-- a text with its leading blanks replaced by these
abbrev pub evened : List ℕ → List ℕ
evened text = even_blanks (take_while is_blank text) ++ drop (length (take_while is_blank text)) text

-- the text of a line without trailing blanks and with even leading ones
abbrev pub fixed_line_text : List ℕ → List ℕ
fixed_line_text text = evened (trimmed text)

-- the terminator of a line, or this one if it has none
abbrev pub terminator_or : List ℕ → List ℕ → Line → List ℕ
terminator_or other source l = if is_terminated l then slice_range source l.text_end l.end else other

abbrev pub first_ending : List ℕ → List Line → List ℕ
first_ending source [] = LF ∷ []
first_ending source (l ∷ ls) = terminator_or (LF ∷ []) source l

-- the terminator of the first line, or LF if it has none
abbrev pub ending_of : List ℕ → List ℕ
ending_of source = first_ending source (lines_of source)

abbrev pub fixed_line : List ℕ → List ℕ → Line → List ℕ
fixed_line source ending l =
    fixed_line_text (slice_range source l.start l.text_end) ++ terminator_or ending source l

-- a source with all proposed fixes applied
abbrev pub fixed_text : List ℕ → List ℕ
fixed_text source = flat_map (fixed_line source (ending_of source)) (lines_of source)

-- ---- the proposals

-- a machine-applicable fix of one edit
abbrev pub proposal : List ℕ → ℕ → ℕ → List ℕ → FixModel
proposal message offset len text = record {
  message = message;
  applicability = MachineApplicable;
  edits = record { span = record { offset = offset; len = len }; text = text } ∷ [];
}

-- evens `blanks`; a text of blanks only needs no fix here, since they are deleted
abbrev pub blanks_fix : ℕ → List ℕ → List FixModel
blanks_fix start blanks = if is_none (tab_after_space blanks) then []
    else proposal (codes "indent by spaces") start (length blanks) (spaces_from 0 blanks) ∷ []

-- deletes trailing blanks
abbrev pub trailing_fix : ℕ → List ℕ → List FixModel
trailing_fix end text = if ending_blanks text == 0 then []
    else proposal (codes "delete trailing blanks") (end - ending_blanks text) (ending_blanks text) [] ∷ []

-- adds a missing terminator
abbrev pub ending_fix : List ℕ → Line → List FixModel
ending_fix ending l = if is_terminated l then []
    else proposal (codes "end the last line") l.end 0 ending ∷ []

abbrev pub text_fixes : List ℕ → Line → List ℕ → List FixModel
text_fixes ending l text = blanks_fix l.start (take_while is_blank (trimmed text))
    ++ (trailing_fix l.text_end text ++ ending_fix ending l)

abbrev pub line_fixes : List ℕ → List ℕ → Line → List FixModel
line_fixes source ending l = text_fixes ending l (slice_range source l.start l.text_end)

-- fixes of a source, by offset
abbrev pub proposals_of : List ℕ → List FixModel
proposals_of source = flat_map (line_fixes source (ending_of source)) (lines_of source)

-- ---- what is left

abbrev pub wide_line : List ℕ → ℕ → Line → List Label
wide_line source width l = overlong width l.text_end (lint_cells_of l.start (slice_range source l.start l.text_end))

-- the lines that are too wide
abbrev pub wide_lines : List ℕ → ℕ → List Label
wide_lines source width = flat_map (wide_line source width) (lines_of source)
