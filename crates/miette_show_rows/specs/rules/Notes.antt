-- Kinds of lines, and the notes on unreadable ones.
use Rattle.std.specs.Prelude.{ℕ, List, [], ◌++◌, Bool, true, false, codes, decimal}
use Rattle.miette_show_rows.specs.declared.verdict.RowKind.{RowKind}
use Rattle.miette_show_rows.specs.declared.verdict.RowKind.TheVariants.{Passed, Unread, Messages, Failed}
use Rattle.miette_show_rows.specs.declared.verdict.Failure.{Failure}
use Rattle.miette_show_rows.specs.declared.verdict.Failure.TheVariants.{Build, Tool}

abbrev pub kind_is_unread : RowKind → Bool
kind_is_unread Passed = false
kind_is_unread Unread = true
kind_is_unread (Messages grave) = false
kind_is_unread (Failed what) = false

abbrev pub kind_is_error : RowKind → Bool
kind_is_error Passed = false
kind_is_error Unread = false
kind_is_error (Messages grave) = grave
kind_is_error (Failed what) = true

-- The line is a value of the format that is read.
abbrev pub kind_is_read : RowKind → Bool
kind_is_read Passed = false
kind_is_read Unread = false
kind_is_read (Messages grave) = true
kind_is_read (Failed what) = true

-- The note on an unreadable line.
abbrev pub note_row : ℕ → List ℕ
note_row n = codes "show: row " ++ (decimal n ++ codes ": no message that can be read\n")

abbrev pub note_of : ℕ → Bool → List ℕ
note_of n true = note_row n
note_of n false = []

abbrev pub failure_words : Failure → List ℕ
failure_words Build = codes "the build failed"
failure_words Tool = codes "the tool failed"

-- The note on a line that reports a failed build or tool.
abbrev pub failure_note : ℕ → Failure → List ℕ
failure_note n what = codes "show: row " ++ (decimal n ++ (codes ": " ++ (failure_words what ++ codes "\n")))
