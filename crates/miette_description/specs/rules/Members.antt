-- The members of a description, and which of them are optional.
use Rattle.std.specs.Prelude.{ℕ, List, [], ◌∷◌, Option, Some, None, option_map, option_and_then, is_some, unwrap_or}
use Rattle.std.specs.Prelude.{false, if◌then◌else◌, codes, bytes_eq}
use Rattle.serde_json.specs.Data.{Data, Items, no_items, item}
use Rattle.serde_json.specs.Find.{get, as_null, as_bool, as_number, as_str, as_array, as_u64}
use Rattle.miette_protocol.specs.rules.Reading.{Source, plain_source, named_source}
use Rattle.miette_protocol.specs.views.Meaning.{Label, context_count, Meaning}
use Rattle.miette_fixes.specs.declared.applicability.Applicability.{Applicability}
use Rattle.miette_fixes.specs.declared.applicability.Applicability.TheVariants.{MachineApplicable, MaybeIncorrect}
use Rattle.miette_fixes.specs.declared.applicability.Applicability.TheVariants.{HasPlaceholders, Unspecified}
use Rattle.miette_fixes.specs.rules.Edits.{FixModel, Replacement}
use Rattle.miette_protocol.specs.declared.protocol.Severity.{Severity}
use Rattle.miette_protocol.specs.declared.protocol.Severity.TheVariants.{Advice, Warning, Error}
use Rattle.miette_tree.specs.rules.Diagnosis.{Diagnosis, Section, plain_diagnosis}

-- applies a function to a value that may be missing
abbrev pub and_then : {A B : Type 0} → Option A → (A → Option B) → Option B
and_then o f = option_and_then f o

-- null counts as absent
abbrev pub present : Option Data → Option Data
present None = None
present (Some d) = if is_some (as_null d) then None else Some d

abbrev pub at_key : List ℕ → Data → Option Data
at_key key d = present (get key d)

-- an optional value that has a type if present
abbrev pub optional_value : {A : Type 0} → (Data → Option A) → Option Data → Option (Option A)
optional_value reads None = Some None
optional_value reads (Some d) = option_map Some (reads d)

-- a number that is a `u64`
abbrev pub whole : Data → Option ℕ
whole d = option_and_then as_u64 (as_number d)

-- a list of items of one type
abbrev pub all_items : {A : Type 0} → (Data → Option A) → Items → Option (List A)
all_items reads no_items = Some []
all_items reads (item d ds) = and_then (reads d) (λ x. and_then (all_items reads ds) (λ xs. Some (x ∷ xs)))

abbrev pub list_of : {A : Type 0} → (Data → Option A) → Data → Option (List A)
list_of reads d = and_then (as_array d) (all_items reads)

abbrev pub named_severity : List ℕ → Option Severity
named_severity name =
    if bytes_eq name (codes "advice") then Some Advice
    else (if bytes_eq name (codes "warning") then Some Warning
    else (if bytes_eq name (codes "error") then Some Error else None))

abbrev pub severity_of : Data → Option Severity
severity_of d = and_then (as_str d) named_severity

-- a number of context lines of at least 1
abbrev pub context_lines_in : Data → Option ℕ
context_lines_in d = context_count (whole d)

abbrev pub label_of : Data → Option Label
label_of d =
    and_then (and_then (at_key (codes "offset") d) whole) (λ offset.
    and_then (and_then (at_key (codes "length") d) whole) (λ length.
    and_then (optional_value as_str (at_key (codes "label") d)) (λ text.
    and_then (optional_value as_bool (at_key (codes "primary") d)) (λ primary.
    and_then (optional_value context_lines_in (at_key (codes "context") d)) (λ context.
    Some (record {
      text = text;
      span = record { offset = offset; len = length };
      primary = unwrap_or primary false;
      context = context;
    }))))))

-- bytes, with a name if there is one; a language without a name is ignored
abbrev pub source_named : List ℕ → Option (List ℕ) → Option (List ℕ) → Source
source_named bytes None language = plain_source bytes
source_named bytes (Some name) language = named_source (plain_source bytes) name language

abbrev pub described_source : Data → Option Source
described_source d =
    and_then (and_then (at_key (codes "text") d) as_str) (λ bytes.
    and_then (optional_value as_str (at_key (codes "name") d)) (λ name.
    and_then (optional_value as_str (at_key (codes "language") d)) (λ language.
    Some (source_named bytes name language))))

-- labels over a further source, which is required
abbrev pub snippets_of : Data → Option Section
snippets_of d =
    and_then (and_then (at_key (codes "source") d) described_source) (λ source.
    and_then (optional_value (list_of label_of) (at_key (codes "labels") d)) (λ labels.
    Some (record { source = source; labels = unwrap_or labels [] })))

abbrev pub edit_of : Data → Option Replacement
edit_of d =
    and_then (and_then (at_key (codes "offset") d) whole) (λ offset.
    and_then (and_then (at_key (codes "length") d) whole) (λ length.
    and_then (and_then (at_key (codes "text") d) as_str) (λ text.
    Some (record { span = record { offset = offset; len = length }; text = text }))))

abbrev pub named_applicability : List ℕ → Option Applicability
named_applicability name =
    if bytes_eq name (codes "machine-applicable") then Some MachineApplicable
    else (if bytes_eq name (codes "maybe-incorrect") then Some MaybeIncorrect
    else (if bytes_eq name (codes "has-placeholders") then Some HasPlaceholders
    else (if bytes_eq name (codes "unspecified") then Some Unspecified else None)))

abbrev pub applicability_of : Data → Option Applicability
applicability_of d = and_then (as_str d) named_applicability

-- a fix; it has no edits if none are listed
abbrev pub fix_of : Data → Option FixModel
fix_of d =
    and_then (and_then (at_key (codes "message") d) as_str) (λ message.
    and_then (optional_value applicability_of (at_key (codes "applicability") d)) (λ applicability.
    and_then (optional_value (list_of edit_of) (at_key (codes "edits") d)) (λ edits.
    Some (record {
      message = message;
      applicability = unwrap_or applicability Unspecified;
      edits = unwrap_or edits [];
    }))))

-- the diagnostic of a description
abbrev pub meaning_in : Data → Option Meaning
meaning_in d =
    and_then (and_then (at_key (codes "message") d) as_str) (λ message.
    and_then (optional_value as_str (at_key (codes "code") d)) (λ code.
    and_then (optional_value severity_of (at_key (codes "severity") d)) (λ severity.
    and_then (optional_value as_str (at_key (codes "help") d)) (λ help.
    and_then (optional_value as_str (at_key (codes "url") d)) (λ url.
    and_then (optional_value (list_of label_of) (at_key (codes "labels") d)) (λ labels.
    Some (record { message = message; code = code; severity = severity; help = help; url = url; labels = labels })))))))

-- a diagnostic with labels over further sources and fixes
abbrev pub diagnosis_with : Meaning → List Section → List FixModel → Diagnosis
diagnosis_with m snippets fixes = record (plain_diagnosis m) { snippets = snippets; fixes = fixes }

-- the parts of the report itself
abbrev pub diagnosis_in : Data → Option Diagnosis
diagnosis_in d =
    and_then (meaning_in d) (λ m.
    and_then (optional_value (list_of snippets_of) (at_key (codes "snippets") d)) (λ snippets.
    and_then (optional_value (list_of fix_of) (at_key (codes "fixes") d)) (λ fixes.
    Some (diagnosis_with m (unwrap_or snippets []) (unwrap_or fixes [])))))
