-- Parts whose reports go to one log.
use Rattle.std.specs.Prelude.{◌≡◌, ℕ, List, ◌++◌, Bool, Option, Some, true, IsUtf8, map}
use Rattle.std.specs.List.{All}
use Rattle.serde_json.specs.Data.{Data}
use Rattle.miette_show_rows.specs.rules.Values.{read}
use Rattle.miette_protocol.specs.rules.Reading.{Source}
use Rattle.miette_tree.specs.rules.Tree.{Tree}
use Rattle.miette_show.specs.rules.Logging.{IsRowTrees, LoggedRow, log_notes, trees_of, verdict_of}
use Rattle.miette_show.specs.rules.ShownRow.{begins_message}
use Rattle.miette_show_rows.specs.rules.Looking.{named_files}
use Rattle.miette_show_rows.specs.declared.verdict.Verdict.{Verdict}
use Rattle.miette_show.specs.declared.words.Format.{Format}

-- All names in a part are known.
abbrev pub AreKnown : Format → (List ℕ → Type 0) → List ℕ → Type 0
AreKnown from knows row =
    (d : Data) → IsUtf8 row → begins_message from row ≡ true → read row ≡ Some d → All knows (named_files d)

-- These parts have reports over the files. The predicate holds for the logged reports and the error stream.
abbrev pub AreLogged : Format → Bool → (List ℕ → Option Source) → List (List ℕ) → (List Tree → List ℕ → Type 0)
    → Verdict → Type 0
AreLogged from placed files parts holds verdict = (logged : List LoggedRow) × (map (λ s. s.row) logged ≡ parts)
    × All (λ s. IsRowTrees from files s.row s.kind s.trees) logged
    × holds (trees_of placed logged) (log_notes placed 1 logged) × (verdict ≡ verdict_of from logged)

-- The first parts have reports over the files. The predicate holds for their error stream.
abbrev pub AreLoggedFirst : Format → Bool → (List ℕ → Option Source) → List (List ℕ) → (List ℕ → Type 0) → Type 0
AreLoggedFirst from placed files parts holds = (logged : List LoggedRow) × (others : List (List ℕ))
    × (parts ≡ map (λ s. s.row) logged ++ others) × All (λ s. IsRowTrees from files s.row s.kind s.trees) logged
    × holds (log_notes placed 1 logged)
