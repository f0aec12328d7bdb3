-- The output of `show --sarif` and `show --lsp`: one log of all messages.
use Rattle.std.specs.Prelude.{◌≡◌, ℕ, ◌+◌, List, [], ◌∷◌, ◌++◌, Option, Some, None, Bool, true, false, IsUtf8, map}
use Rattle.std.specs.Prelude.{◌||◌, ◌&&◌, ◌==◌, codes, decimal, filter, if◌then◌else◌, is_none, not}
use Rattle.std.specs.List.{All, before_first, flat_map, list_any}
use Rattle.serde_json.specs.Data.{Data}
use Rattle.miette_show_rows.specs.rules.Values.{read}
use Rattle.miette_protocol.specs.rules.Reading.{Source}
use Rattle.miette_tree.specs.rules.Tree.{Tree, head, source_of}
use Rattle.miette_show_rows.specs.rules.Parts.{count_row_ends, parts_of}
use Rattle.miette_show.specs.rules.ShownRow.{begins_message, passed_on, row_failure, row_trees, is_error_tree}
use Rattle.miette_show.specs.rules.ValueKinds.{is_missing}
use Rattle.miette_show_rows.specs.rules.Notes.{kind_is_error, kind_is_read, kind_is_unread}
use Rattle.miette_show_rows.specs.rules.Looking.{named_files}
use Rattle.miette_show_rows.specs.declared.verdict.RowKind.{RowKind}
use Rattle.miette_show_rows.specs.declared.verdict.RowKind.TheVariants.{Passed, Unread, Messages, Failed}
use Rattle.miette_show_rows.specs.declared.verdict.Verdict.{Verdict}
use Rattle.miette_show.specs.declared.words.Format.{Format}

-- The reports of a part by its kind. Parts that don't start like a message, or can't be read, have none.
abbrev pub IsRowTrees : Format → (List ℕ → Option Source) → List ℕ → RowKind → List Tree → Type 0
IsRowTrees from files row Passed ts = (begins_message from row ≡ false) × (ts ≡ [])
IsRowTrees from files row Unread ts =
    (begins_message from row ≡ true) × (IsUtf8 row → row_trees from files row ≡ None) × (ts ≡ [])
IsRowTrees from files row (Messages grave) ts =
    (begins_message from row ≡ true) × IsUtf8 row × (row_trees from files row ≡ Some ts)
    × (grave ≡ list_any is_error_tree ts) × (row_failure from row ≡ None)
IsRowTrees from files row (Failed what) ts =
    (begins_message from row ≡ true) × IsUtf8 row × (row_trees from files row ≡ Some ts)
    × (row_failure from row ≡ Some what)

-- ---- reports that are left out

-- A report without a location is left out if the log needs locations (`placed`).
abbrev pub is_unplaced : Bool → Tree → Bool
is_unplaced placed t = is_none (source_of t) && placed

abbrev pub is_logged : Bool → Tree → Bool
is_logged placed t = not (is_unplaced placed t)

-- The note on such a report, with the first line of its message.
abbrev pub unplaced_row : ℕ → List ℕ → List ℕ
unplaced_row n message = codes "show: row " ++ (decimal n ++ (codes ": not in the log, it has no place: "
    ++ (before_first (λ b. b == 10) message ++ codes "\n")))

abbrev pub unplaced_note : Bool → ℕ → Tree → List ℕ
unplaced_note placed n t = if is_unplaced placed t then unplaced_row n (head t).message else []

-- ---- a part

-- A part, its kind and its reports.
pub record LoggedRow : Type 0 where
  pub row : List ℕ
  pub kind : RowKind
  pub trees : List Tree

-- Files are found after all names of the part are known.
abbrev pub IsLogged : Format → ((List ℕ → Option Source) → List (List ℕ) → Type 0) → (List ℕ → Option Source)
    → LoggedRow
    → Type 0
IsLogged from found files s =
    ((d : Data) → IsUtf8 s.row → begins_message from s.row ≡ true → read s.row ≡ Some d → found files (named_files d))
    × IsRowTrees from files s.row s.kind s.trees

-- What goes to the error stream for a part: its lines, and a note for each report that is left out.
abbrev pub said_beside : Bool → ℕ → RowKind → List ℕ → List Tree → List ℕ
said_beside placed n kind row ts = passed_on n kind row ++ flat_map (unplaced_note placed n) ts

abbrev pub log_notes : Bool → ℕ → List LoggedRow → List ℕ
log_notes placed n [] = []
log_notes placed n (s ∷ ss) =
    said_beside placed n s.kind s.row s.trees ++ log_notes placed (n + count_row_ends s.row) ss

abbrev pub verdict_of : Format → List LoggedRow → Verdict
verdict_of from logged = record {
  unread = list_any (λ s. kind_is_unread s.kind) logged || is_missing from (list_any (λ s. kind_is_read s.kind) logged);
  error = list_any (λ s. kind_is_error s.kind) logged;
}

abbrev pub trees_of : Bool → List LoggedRow → List Tree
trees_of placed logged = flat_map (λ s. filter (is_logged placed) s.trees) logged

-- The parts of these bytes have reports over one set of files. The predicate holds for the logged reports in order and
-- for the error stream.
abbrev pub Logs : Format → Bool → ((List ℕ → Option Source) → List (List ℕ) → Type 0) → List ℕ
    → (List Tree → List ℕ → Type 0) → Verdict → Type 0
Logs from placed found bytes holds verdict = (files : List ℕ → Option Source) × (logged : List LoggedRow)
    × (map (λ s. s.row) logged ≡ parts_of bytes) × All (IsLogged from found files) logged
    × holds (trees_of placed logged) (log_notes placed 1 logged) × (verdict ≡ verdict_of from logged)

-- The same for some verdict.
abbrev pub LogsSome : Format → Bool → ((List ℕ → Option Source) → List (List ℕ) → Type 0) → List ℕ
    → (List Tree → List ℕ → Type 0) → Type 0
LogsSome from placed found bytes holds = (verdict : Verdict) × Logs from placed found bytes holds verdict

-- The first parts of these bytes have reports, and the predicate holds for their error stream.
abbrev pub LogsFirst : Format → Bool → ((List ℕ → Option Source) → List (List ℕ) → Type 0) → List ℕ
    → (List ℕ → Type 0) → Type 0
LogsFirst from placed found bytes holds = (files : List ℕ → Option Source) × (logged : List LoggedRow)
    × (others : List (List ℕ)) × (parts_of bytes ≡ map (λ s. s.row) logged ++ others)
    × All (IsLogged from found files) logged × holds (log_notes placed 1 logged)
