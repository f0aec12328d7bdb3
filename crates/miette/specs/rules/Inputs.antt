-- Input of a program: its name in reports, and the report if it gives no text.
use Rattle.std.specs.Prelude.{◌≡◌, ◌⊎◌, ℕ, List, [], ◌∷◌, ◌++◌, Some, None, false, codes, if◌then◌else◌}
use Rattle.std.specs.Str.{bytes_eq}
use Rattle.std.specs.Str.Lossy.{utf8_valid_len}
use Rattle.miette_protocol.specs.rules.Reading.{named_source, plain_source}
use Rattle.miette_protocol.specs.views.Diagnostic.{message_alone}
use Rattle.miette_protocol.specs.views.Meaning.{Label, Meaning}
use Rattle.miette_tree.specs.rules.Diagnosis.{plain_diagnosis}
use Rattle.miette_tree.specs.rules.Tree.{Tree, single_report, with_source, wrapped_tree}
use Rattle.miette_tree.specs.views.Report.{out_of_memory_alone}

-- the name that reports use for an input: `-` is standard input, anything else a file
abbrev pub shown_name : List ℕ → List ℕ
shown_name word = if bytes_eq word (codes "-") then codes "<stdin>" else word

-- the label on the first byte that is not text
abbrev pub stop_label : ℕ → Label
stop_label stop = record {
  text = Some (codes "no character begins with this byte");
  span = record { offset = stop; len = 1 };
  primary = false;
  context = None;
}

-- the diagnostic of an input that is not text from there on
abbrev pub stop_meaning : List ℕ → ℕ → Meaning
stop_meaning name stop =
    record (message_alone (name ++ codes " isn't UTF-8")) { labels = Some (stop_label stop ∷ []) }

-- the report of an input that is not text; the label is after its longest prefix in UTF-8
abbrev pub no_text : List ℕ → List ℕ → Tree
no_text name bytes =
    with_source (named_source (plain_source bytes) name None)
    (single_report (plain_diagnosis (stop_meaning name (utf8_valid_len bytes))))

-- that report, or the one of a failed allocation
abbrev pub IsNoText : List ℕ → List ℕ → Tree → Type 0
IsNoText name bytes t = (t ≡ no_text name bytes) ⊎ (t ≡ single_report (plain_diagnosis out_of_memory_alone))

-- the report of an input that could not be read, for some reason
abbrev pub IsUnreadInput : List ℕ → Tree → Type 0
IsUnreadInput name t = (reason : Tree) × (t ≡ wrapped_tree (codes "could not read " ++ name) reason)

-- the report of an input that gives no text: it can't be read, or it is not UTF-8
abbrev pub GivesNoText : List ℕ → Tree → Type 0
GivesNoText name t = IsUnreadInput name t ⊎ ((bytes : List ℕ) × IsNoText name bytes t)
