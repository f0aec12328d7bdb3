-- What `{:?}` prints for offsets, spans, labels and named sources. Texts that aren't ASCII are unspecified.
use Rattle.std.specs.Prelude.{ℕ, List, ◌++◌, Bool, Option, Some, codes, if◌then◌else◌}
use Rattle.std.specs.Fmt.{◌++?◌, debug_option, debug_str, decimal}
use Rattle.miette_protocol.specs.rules.Reading.{Span}
use Rattle.miette_protocol.specs.views.Meaning.{Label}

-- `SourceOffset(9)`
abbrev pub offset_form : ℕ → List ℕ
offset_form n = codes "SourceOffset(" ++ (decimal n ++ codes ")")

-- `SourceSpan { offset: SourceOffset(9), length: 4 }`
abbrev pub span_form : Span → List ℕ
span_form s = codes "SourceSpan { offset: " ++ (offset_form s.offset ++ (codes ", length: " ++ (decimal s.len
    ++ codes " }")))

-- `true`, `false`
abbrev pub flag_form : Bool → List ℕ
flag_form b = if b then codes "true" else codes "false"

-- `None`, `Some("text")`
abbrev pub text_form : Option (List ℕ) → Option (List ℕ)
text_form = debug_option debug_str

-- `None`, `Some(2)`
abbrev pub count_form : Option ℕ → Option (List ℕ)
count_form = debug_option (λ n. Some (decimal n))

-- `LabeledSpan { label: Some("text"), span: SourceSpan { offset: SourceOffset(9), length: 4 }, primary: false,
-- context_lines: None }`, in one line
abbrev pub label_form : Label → Option (List ℕ)
label_form it = (Some (codes "LabeledSpan { label: ") ++? text_form it.text)
    ++? (Some (codes ", span: ") ++? Some (span_form it.span))
    ++? (Some (codes ", primary: ") ++? Some (flag_form it.primary))
    ++? (Some (codes ", context_lines: ") ++? count_form it.context)
    ++? Some (codes " }")

-- `NamedSource { name: "app.toml", source: "<redacted>", language: None }`
abbrev pub named_form : List ℕ → Option (List ℕ) → Option (List ℕ)
named_form name language = (Some (codes "NamedSource { name: ") ++? debug_str name)
    ++? (Some (codes ", source: \"<redacted>\", language: ") ++? text_form language)
    ++? Some (codes " }")
