-- What `show --fix` does: the fixes of each line of input, and the files that it writes.
use Rattle.std.specs.Prelude.{◌≡◌, ◌⊎◌, ℕ, ◌+◌, List, [], ◌∷◌, ◌++◌, Option, Some, None, Bool, true, false, IsUtf8}
use Rattle.std.specs.Prelude.{◌==◌, ◌&&◌, if◌then◌else◌, option_and_then, option_to_list, is_some, codes, decimal}
use Rattle.std.specs.Prelude.{length, map}
use Rattle.std.specs.List.{All, count_by, flat_map, list_all, list_any}
use Rattle.serde_json.specs.Data.{Data}
use Rattle.miette_show_rows.specs.rules.Values.{read}
use Rattle.miette_fixes.specs.rules.ApplyingAll.{taken}
use Rattle.miette_fixes.specs.rules.Edits.{FixModel}
use Rattle.miette_protocol.specs.rules.Reading.{Source}
use Rattle.miette_show_rows.specs.rules.FixesByFile.{fixes_for, text_after_fixes, fixed_file_names}
use Rattle.miette_show_rows.specs.rules.Packages.{SkippedFixes, selected_fixes, skipped_fixes}
use Rattle.miette_show_rows.specs.rules.ApplicableFixes.{FileFixes, RowFixes, machine_applicable_fixes}
use Rattle.miette_show_rows.specs.rules.Looking.{leads_out, named_files}
use Rattle.miette_show_rows.specs.rules.Parts.{count_row_ends, parts_of}
use Rattle.miette_show_rows.specs.rules.Rows.{begins_object}
use Rattle.miette_show_rows.specs.rules.Notes.{kind_is_error, kind_is_unread, note_of}
use Rattle.miette_show_rows.specs.declared.verdict.Verdict.{Verdict}
use Rattle.miette_show_rows.specs.declared.verdict.RowKind.{RowKind}
use Rattle.miette_show_rows.specs.declared.verdict.RowKind.TheVariants.{Passed, Unread, Messages, Failed}

-- ---- one row

abbrev pub row_fixes : (List ℕ → Option Source) → List ℕ → Option (Option RowFixes)
row_fixes files row = option_and_then (machine_applicable_fixes files) (read row)

-- The line's message is an error.
abbrev pub gives_error : Option RowFixes → Bool
gives_error None = false
gives_error (Some r) = r.grave

-- A part that isn't an object, or can't be read, has no fixes. Any other part has those that are machine-applicable.
abbrev pub IsRowFixes : (List ℕ → Option Source) → List ℕ → RowKind → Option RowFixes → Type 0
IsRowFixes files row Passed gives = (begins_object row ≡ false) × (gives ≡ None)
IsRowFixes files row Unread gives =
    (begins_object row ≡ true) × (IsUtf8 row → row_fixes files row ≡ None) × (gives ≡ None)
IsRowFixes files row (Messages grave) gives =
    (begins_object row ≡ true) × IsUtf8 row × (row_fixes files row ≡ Some gives) × (grave ≡ gives_error gives)
IsRowFixes files row (Failed what) gives = ⊥

-- A part, its kind, and its fixes if it has a message.
pub record LineFixes : Type 0 where
  pub row : List ℕ
  pub kind : RowKind
  pub gives : Option RowFixes

-- Files are found after all names of the part are known.
abbrev pub IsGiving : ((List ℕ → Option Source) → List (List ℕ) → Type 0) → LineFixes → Type 0
IsGiving found s = (files : List ℕ → Option Source)
    × ((d : Data) → IsUtf8 s.row → begins_object s.row ≡ true → read s.row ≡ Some d → found files (named_files d))
    × IsRowFixes files s.row s.kind s.gives

-- ---- all rows

abbrev pub given : List LineFixes → List RowFixes
given all = flat_map (λ s. option_to_list s.gives) all

abbrev pub unread_notes : ℕ → List LineFixes → List ℕ
unread_notes n [] = []
unread_notes n (s ∷ ss) = note_of n (kind_is_unread s.kind) ++ unread_notes (n + count_row_ends s.row) ss

-- ---- files

-- What happened to a file: its text after the fixes, and which fixes were taken if it was written.
pub record FileChange : Type 0 where
  pub name : List ℕ
  pub text : List ℕ
  pub taken : Option (List Bool)

-- The file's text after the fixes, and which fixes are taken.
abbrev pub HasTextAfterFixes : Option Source → List FixModel → List ℕ → List Bool → Type 0
HasTextAfterFixes None fixes text which = ⊥
HasTextAfterFixes (Some file) fixes text which =
    (text ≡ text_after_fixes file.bytes fixes) × (which ≡ taken (length file.bytes) [] (map (λ fix. fix.edits) fixes))

-- A file that wasn't written isn't there, leads out of the folder, or may be refused.
abbrev pub IsOutcome : Option Source → Type 0 → Bool → List FixModel → List ℕ → Option (List Bool) → Type 0
IsOutcome file may_refuse out fixes text None = (file ≡ None) ⊎ ((out ≡ true) ⊎ may_refuse)
IsOutcome file may_refuse out fixes text (Some which) = (out ≡ false) × HasTextAfterFixes file fixes text which

-- The outcome for a file with these fixes.
abbrev pub IsChange : (List ℕ → Option Source) → (List ℕ → Type 0) → (List ℕ → List FixModel) → FileChange → Type 0
IsChange files refuses fixes c =
    IsOutcome (files c.name) (refuses c.name) (leads_out c.name) (fixes c.name) c.text c.taken

-- The file that is written.
abbrev pub written_as : List ℕ → List ℕ → Option (List Bool) → List (List ℕ × List ℕ)
written_as name text None = []
written_as name text (Some which) = (name, text) ∷ []

abbrev pub fixed_row : List ℕ → List Bool → List ℕ
fixed_row name which =
    codes "fixed " ++ (name ++ (codes ": " ++ (decimal (count_by (λ b. b) which) ++ (codes " of "
    ++ (decimal (length which) ++ codes " fixes\n")))))

abbrev pub unwritable_row : List ℕ → List ℕ
unwritable_row name = codes "show: " ++ (name ++ codes ": can't be written\n")

-- The line for a file that is written, or for one that isn't.
abbrev pub row_if_written : List ℕ → Option (List Bool) → List ℕ
row_if_written name None = []
row_if_written name (Some which) = fixed_row name which

abbrev pub fault_if_unwritten : List ℕ → Option (List Bool) → List ℕ
fault_if_unwritten name None = unwritable_row name
fault_if_unwritten name (Some which) = []

abbrev pub is_written : FileChange → Bool
is_written c = is_some c.taken

abbrev pub written_by_change : FileChange → List (List ℕ × List ℕ)
written_by_change c = written_as c.name c.text c.taken

abbrev pub change_row : FileChange → List ℕ
change_row c = row_if_written c.name c.taken

abbrev pub change_fault : FileChange → List ℕ
change_fault c = fault_if_unwritten c.name c.taken

-- ---- what is left

abbrev pub package_name : List ℕ → List ℕ
package_name name = if length name == 0 then codes "what was compiled" else name

-- The line for a package whose fixes are skipped because it has errors.
abbrev pub skipped_package_row : List ℕ → List ℕ
skipped_package_row name =
    codes "show: " ++ (package_name name ++ codes " has errors: not fixed (--broken-code fixes it)\n")

-- The line for a file that changed since it was compiled.
abbrev pub outdated_file_row : List ℕ → List ℕ
outdated_file_row name = codes "show: " ++ (name ++ codes ": isn't what was compiled\n")

abbrev pub skipped_rows : SkippedFixes → List ℕ
skipped_rows left = flat_map skipped_package_row left.packages ++ flat_map outdated_file_row left.files

-- Every file was written, and none changed since it was compiled.
abbrev pub are_all_written : List FileChange → SkippedFixes → Bool
are_all_written changes left = list_all is_written changes && (length left.files == 0)

-- What goes to standard error: skipped fixes, and files that weren't written.
abbrev pub change_faults : List FileChange → SkippedFixes → List ℕ
change_faults changes left = skipped_rows left ++ flat_map change_fault changes

-- ---- a run

abbrev pub fixes_verdict : List LineFixes → Verdict
fixes_verdict all = record {
  unread = list_any (λ s. kind_is_unread s.kind) all;
  error = list_any (λ s. kind_is_error s.kind) all;
}

-- The parts of these bytes have fixes, and the predicate holds for the fixes and for the notes on unreadable lines.
abbrev pub LinesGiveFixes : ((List ℕ → Option Source) → List (List ℕ) → Type 0) → List ℕ
    → (List RowFixes → List ℕ → Type 0) → Verdict → Type 0
LinesGiveFixes found bytes holds verdict = (all : List LineFixes) × (map (λ s. s.row) all ≡ parts_of bytes)
    × All (IsGiving found) all × holds (given all) (unread_notes 1 all) × (verdict ≡ fixes_verdict all)

-- Each file is changed by its fixes, and the predicate holds for the changes.
abbrev pub Changes : (List ℕ → Option Source) → (List ℕ → Type 0) → (List ℕ → List FixModel) → List (List ℕ)
    → (List FileChange → Type 0) → Type 0
Changes files refuses fixes names holds = (changes : List FileChange) × (map (λ c. c.name) changes ≡ names)
    × All (IsChange files refuses fixes) changes × holds changes

-- Each file with fixes is changed, once all of them are known. The predicate holds for the changes.
abbrev pub ChangesAll : ((List ℕ → Option Source) → List (List ℕ) → Type 0) → (List ℕ → Type 0) → List FileFixes
    → (List FileChange → Type 0) → Type 0
ChangesAll found refuses fixes holds = (files : List ℕ → Option Source) × found files (fixed_file_names fixes)
    × Changes files refuses (λ name. fixes_for name fixes) (fixed_file_names fixes) holds

-- `show --fix` over these bytes. Fixes of packages with errors count only if `broken` is set. The predicate holds for
-- the changed files, the skipped fixes, and the notes on unreadable lines.
abbrev pub FixesFiles : ((List ℕ → Option Source) → List (List ℕ) → Type 0) → (List ℕ → Type 0) → Bool → List ℕ
    → (List FileChange → SkippedFixes → List ℕ → Type 0) → Verdict → Type 0
FixesFiles found refuses broken bytes holds verdict = LinesGiveFixes found bytes (λ rows notes.
    ChangesAll found refuses (selected_fixes broken rows) (λ changes. holds changes (skipped_fixes broken rows) notes))
    verdict

-- ---- a run that is broken off

-- The first files are changed, and the predicate holds for the changes.
abbrev pub ChangesFirst : (List ℕ → Option Source) → (List ℕ → Type 0) → (List ℕ → List FixModel) → List (List ℕ)
    → (List FileChange → Type 0) → Type 0
ChangesFirst files refuses fixes names holds = (changes : List FileChange) × (others : List (List ℕ))
    × (names ≡ map (λ c. c.name) changes ++ others) × All (IsChange files refuses fixes) changes × holds changes

-- The first files with fixes are changed, and the predicate holds for the changes.
abbrev pub ChangesSome : ((List ℕ → Option Source) → List (List ℕ) → Type 0) → (List ℕ → Type 0) → List FileFixes
    → (List FileChange → Type 0) → Type 0
ChangesSome found refuses fixes holds = (files : List ℕ → Option Source) × found files (fixed_file_names fixes)
    × ChangesFirst files refuses (λ name. fixes_for name fixes) (fixed_file_names fixes) holds

-- The first parts of these bytes are read, and the predicate holds for the notes on unreadable lines.
abbrev pub FirstLinesGiveFixes : ((List ℕ → Option Source) → List (List ℕ) → Type 0) → List ℕ → (List ℕ → Type 0)
    → Type 0
FirstLinesGiveFixes found bytes holds = (all : List LineFixes) × (others : List (List ℕ))
    × (parts_of bytes ≡ map (λ s. s.row) all ++ others) × All (IsGiving found) all × holds (unread_notes 1 all)

-- `show --fix` that stops early: all parts are read, but only the first files are changed.
abbrev pub FixesFirstFiles : ((List ℕ → Option Source) → List (List ℕ) → Type 0) → (List ℕ → Type 0) → Bool → List ℕ
    → (List FileChange → SkippedFixes → List ℕ → Type 0) → Type 0
FixesFirstFiles found refuses broken bytes holds = (verdict : Verdict) × LinesGiveFixes found bytes (λ rows notes.
    ChangesSome found refuses (selected_fixes broken rows) (λ changes. holds changes (skipped_fixes broken rows) notes))
    verdict
