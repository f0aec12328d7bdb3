-- The number of lines that a report has.
use Rattle.std.specs.Prelude.{◌≡◌, ◌≢◌, ℕ, ◌+◌, ◌==◌, Bool, true, false, List, [], ◌∷◌, ◌++◌, length, Option, None}
use Rattle.std.specs.Prelude.{if◌then◌else◌}
use Rattle.std.specs.Char.{is_control}
use Rattle.std.specs.List.{AllByRecursion}
use Rattle.std.specs.Str.{NoCharPasses}
use Rattle.std.specs.Option.{option_len, option_map_or}
use Rattle.miette_fixes.specs.rules.Applying.{edits_error}
use Rattle.miette_fixes.specs.rules.Edits.{FixModel}
use Rattle.miette_protocol.specs.rules.Reading.{Source}
use Rattle.miette_protocol.specs.views.Meaning.{Label}
use Rattle.miette_tree.specs.rules.Answers.{AnswerTrees}
use Rattle.miette_tree.specs.rules.Diagnosis.{Diagnosis, Section}
use Rattle.miette_tree.specs.rules.Tree.{Tree, tree, causes_of, Trees, no_trees, more_trees, effective}
use Rattle.miette_tree.specs.rules.DiagnosticParts.{given_labels}
use Rattle.miette_brief.specs.rules.Fixes.{BriefFixOrigin, no_source, unread, read, brief_fix_origin}
use Rattle.miette_brief.specs.rules.Report.{Answers, own_brief_answer, related_answers, first_answers, BriefReadAnswers}
use Rattle.miette_brief.specs.rules.Report.{later_answers}
use Rattle.miette_brief.specs.rules.PossibleAnswers.{AreAnswers}

-- the number of labels with a text
abbrev pub label_text_count : List Label → ℕ
label_text_count [] = 0
label_text_count (label ∷ labels) = option_len label.text + label_text_count labels

-- the same, over further sources
abbrev pub further_label_text_count : List Section → ℕ
further_label_text_count [] = 0
further_label_text_count (section ∷ sections) = label_text_count section.labels + further_label_text_count sections

-- the number of causes that are printed
abbrev pub cause_count : Bool → List (List ℕ) → ℕ
cause_count true causes = length causes
cause_count false causes = 0

-- the number of lines below a fix's message: one for each edit, or one for the reason why it can't be applied
abbrev pub edit_parts : BriefFixOrigin → FixModel → ℕ
edit_parts no_source proposal = 0
edit_parts unread proposal = 1
edit_parts (read name bytes) proposal =
    option_map_or (λ e. 1) (edits_error (length bytes) proposal.edits) (length proposal.edits)

-- the lines of a fix: its message, and its edits if it has any
abbrev pub fix_parts : BriefFixOrigin → FixModel → ℕ
fix_parts over proposal = 1 + (if length proposal.edits == 0 then 0 else edit_parts over proposal)

abbrev pub fixes_parts : BriefFixOrigin → List FixModel → ℕ
fixes_parts over [] = 0
fixes_parts over (proposal ∷ proposals) = fix_parts over proposal + fixes_parts over proposals

-- the lines of help and fixes; the flag says whether the read for fixes failed
abbrev pub advice_parts : Option Source → Bool → Diagnosis → ℕ
advice_parts source fails m = option_len m.help + fixes_parts (brief_fix_origin source fails) m.fixes

-- The number of a report's lines: message, labels with a text, causes if they are printed, help, fixes, and the lines
-- of related reports. Each report uses its effective source.
abbrev mutual
  pub parts_below : Bool → Option Source → Answers → Tree → ℕ
  parts_below chain inherited a (tree m own c r) =
      (1 + ((label_text_count (given_labels m.labels) + further_label_text_count m.snippets)
      + (cause_count chain (causes_of c) + advice_parts (effective own inherited) (own_brief_answer a).fixes m)))
      + all_parts chain (effective own inherited) (related_answers a) r

  pub all_parts : Bool → Option Source → AnswerTrees BriefReadAnswers → Trees → ℕ
  all_parts chain inherited more no_trees = 0
  all_parts chain inherited more (more_trees t ts) =
      parts_below chain inherited (first_answers more) t + all_parts chain inherited (later_answers more) ts

-- the number of a report's lines; the answers say which reads for fixes failed
abbrev pub parts : Bool → Tree → Answers → ℕ
parts chain t a = parts_below chain None a t

-- lines, each with a line feed after it
abbrev pub text_of_rows : List (List ℕ) → List ℕ
text_of_rows [] = []
text_of_rows (row ∷ rows) = row ++ (10 ∷ text_of_rows rows)

-- A text has `count` lines, each ended by a line feed. No line is empty, and none has a control character.
pub record IsRows (count : ℕ) (text : List ℕ) : Type 0 where
  pub rows : List (List ℕ)
  pub are : text ≡ text_of_rows rows
  pub many : length rows ≡ count
  pub each : AllByRecursion (λ row. NoCharPasses is_control row × (row ≢ [])) rows

-- a text has exactly one line for each part of a report, for answers that its sources can give
pub record HasEachPart (chain : Bool) (t : Tree) (text : List ℕ) : Type 0 where
  pub answers : Answers
  pub possible : AreAnswers None answers t
  pub rows : IsRows (parts chain t answers) text
