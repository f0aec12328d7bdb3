-- What a `MietteDiagnostic` represents, and what its builders return.
use Rattle.std.specs.Prelude.{ℕ, Bool, List, [], ◌∷◌, ◌++◌, Option, Some, None, string_bytes, unwrap_or}
use Rattle.std.specs.Option.{option_map}
use Rattle.miette_protocol.specs.rules.Reading.{Span}
use Rattle.miette_protocol.specs.views.Meaning.{Meaning, Label}
use Rattle.miette_protocol.specs.declared.diagnostic.MietteDiagnostic.{MietteDiagnostic}

-- the public fields, as texts and lists
abbrev pub meaning_of : MietteDiagnostic → Meaning
meaning_of it = record {
  message = string_bytes it.message;
  code = option_map string_bytes it.code;
  severity = it.severity;
  help = option_map string_bytes it.help;
  url = option_map string_bytes it.url;
  labels = option_map (λ list. list.items) it.labels;
}

-- a message and nothing else
abbrev pub message_alone : List ℕ → Meaning
message_alone m = record { message = m; code = None; severity = None; help = None; url = None; labels = None }

-- appends labels to a list that may be missing
abbrev pub appended_labels : Option (List Label) → List Label → Option (List Label)
appended_labels labels more = Some (unwrap_or labels [] ++ more)

-- appends a label with a span
abbrev pub with_label_at : Meaning → Span → List ℕ → Bool → Meaning
with_label_at m span text primary =
    let label : Label = record { text = Some text; span = span; primary = primary; context = None } in
    record m { labels = appended_labels m.labels (label ∷ []) }
