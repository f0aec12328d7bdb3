-- What `show` prints for each line of input.
use Rattle.std.specs.Prelude.{◌≡◌, ℕ, ◌+◌, List, [], ◌∷◌, ◌++◌, Option, Some, None, Bool, true, false, IsUtf8}
use Rattle.std.specs.Prelude.{◌||◌, option_and_then, map}
use Rattle.std.specs.List.{All, flat_map, list_any}
use Rattle.serde_json.specs.Data.{Data}
use Rattle.miette_show_rows.specs.rules.Values.{read}
use Rattle.miette_protocol.specs.declared.protocol.Severity.{Severity}
use Rattle.miette_protocol.specs.declared.protocol.Severity.TheVariants.{Advice, Warning, Error}
use Rattle.miette_protocol.specs.rules.Reading.{Source}
use Rattle.miette_tree.specs.rules.Tree.{Tree, head}
use Rattle.miette_show_rows.specs.rules.Parts.{count_row_ends, parts_of}
use Rattle.miette_show_rows.specs.rules.Looking.{named_files}
use Rattle.miette_show_rows.specs.rules.Notes.{failure_note, kind_is_error, kind_is_read, kind_is_unread, note_row}
use Rattle.miette_show_rows.specs.declared.verdict.RowKind.{RowKind}
use Rattle.miette_show_rows.specs.declared.verdict.Failure.{Failure}
use Rattle.miette_show.specs.declared.words.Format.{Format}
use Rattle.miette_show_rows.specs.declared.verdict.RowKind.TheVariants.{Passed, Unread, Messages, Failed}
use Rattle.miette_show_rows.specs.declared.verdict.Verdict.{Verdict}
use Rattle.miette_show.specs.rules.ValueKinds.{failure_of, is_missing}
pub use Rattle.miette_show.specs.rules.ValueKinds.{begins_message, value_trees}

-- ---- one row

abbrev pub row_trees : Format → (List ℕ → Option Source) → List ℕ → Option (List Tree)
row_trees from files row = option_and_then (value_trees from files) (read row)

-- The failure that a part reports.
abbrev pub row_failure : Format → List ℕ → Option Failure
row_failure from row = option_and_then (failure_of from) (read row)

abbrev pub is_error_severity : Option Severity → Bool
is_error_severity None = false
is_error_severity (Some Advice) = false
is_error_severity (Some Warning) = false
is_error_severity (Some Error) = true

abbrev pub is_error_tree : Tree → Bool
is_error_tree t = is_error_severity (head t).severity

-- The texts of reports in order, each followed by an empty line.
abbrev pub AreReportTexts : (Tree → List ℕ → Type 0) → List Tree → List ℕ → Type 0
AreReportTexts gives [] text = text ≡ []
AreReportTexts gives (t ∷ ts) text = (drawn : List ℕ) × (rest : List ℕ) × gives t drawn × AreReportTexts gives ts rest
    × (text ≡ drawn ++ 10 ∷ rest)

-- The output for a part by its kind. Only parts with messages have output: the texts of their reports.
abbrev pub IsRowText : Format → (Tree → List ℕ → Type 0) → (List ℕ → Option Source) → List ℕ → RowKind → List ℕ
    → Type 0
IsRowText from gives files row Passed text = (begins_message from row ≡ false) × (text ≡ [])
IsRowText from gives files row Unread text =
    (begins_message from row ≡ true) × (IsUtf8 row → row_trees from files row ≡ None) × (text ≡ [])
IsRowText from gives files row (Messages grave) text =
    (begins_message from row ≡ true) × IsUtf8 row × ((ts : List Tree) × (row_trees from files row ≡ Some ts)
    × (grave ≡ list_any is_error_tree ts) × AreReportTexts gives ts text) × (row_failure from row ≡ None)
IsRowText from gives files row (Failed what) text =
    (begins_message from row ≡ true) × IsUtf8 row × ((ts : List Tree) × (row_trees from files row ≡ Some ts)
    × AreReportTexts gives ts text) × (row_failure from row ≡ Some what)

-- A part, its kind and its output.
pub record ShownRow : Type 0 where
  pub row : List ℕ
  pub kind : RowKind
  pub text : List ℕ

-- Files are found after all names of the part are known.
abbrev pub IsShown : Format → (Tree → List ℕ → Type 0) → ((List ℕ → Option Source) → List (List ℕ) → Type 0) → ShownRow
    → Type 0
IsShown from gives found s = (files : List ℕ → Option Source)
    × ((d : Data) → IsUtf8 s.row → begins_message from s.row ≡ true → read s.row ≡ Some d → found files (named_files d))
    × IsRowText from gives files s.row s.kind s.text

-- ---- all rows

abbrev pub is_unread : ShownRow → Bool
is_unread s = kind_is_unread s.kind

abbrev pub is_error : ShownRow → Bool
is_error s = kind_is_error s.kind

abbrev pub is_read : ShownRow → Bool
is_read s = kind_is_read s.kind

-- The error stream for a part: other lines as they are, unreadable lines after a note, and a note on a reported
-- failure.
abbrev pub passed_on : ℕ → RowKind → List ℕ → List ℕ
passed_on n Passed row = row
passed_on n Unread row = note_row n ++ row
passed_on n (Messages grave) row = []
passed_on n (Failed what) row = failure_note n what

abbrev pub notes_from : ℕ → List ShownRow → List ℕ
notes_from n [] = []
notes_from n (s ∷ ss) = passed_on n s.kind s.row ++ notes_from (n + count_row_ends s.row) ss

-- Whether a line can't be read or the tool's output is missing, and whether a message is an error.
abbrev pub verdict_of : Format → List ShownRow → Verdict
verdict_of from shown = record {
  unread = list_any is_unread shown || is_missing from (list_any is_read shown);
  error = list_any is_error shown;
}

abbrev pub text_of : List ShownRow → List ℕ
text_of shown = flat_map (λ s. s.text) shown

-- The parts of these bytes have this output, these notes and this verdict.
abbrev pub Shows : Format → (Tree → List ℕ → Type 0) → ((List ℕ → Option Source) → List (List ℕ) → Type 0) → List ℕ
    → (List ℕ → List ℕ → Type 0) → Verdict → Type 0
Shows from gives found bytes holds verdict = (shown : List ShownRow) × (map (λ s. s.row) shown ≡ parts_of bytes)
    × All (IsShown from gives found) shown × holds (text_of shown) (notes_from 1 shown)
    × (verdict ≡ verdict_of from shown)

-- The first parts of these bytes have this output and these notes.
abbrev pub ShowsFirst : Format → (Tree → List ℕ → Type 0) → ((List ℕ → Option Source) → List (List ℕ) → Type 0)
    → List ℕ → (List ℕ → List ℕ → Type 0) → Type 0
ShowsFirst from gives found bytes holds = (shown : List ShownRow) × (others : List (List ℕ))
    × (parts_of bytes ≡ map (λ s. s.row) shown ++ others) × All (IsShown from gives found) shown
    × holds (text_of shown) (notes_from 1 shown)
