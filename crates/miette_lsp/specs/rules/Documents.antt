-- Diagnostics grouped by source, as `textDocument/publishDiagnostics` of the Language Server Protocol (3.17) takes
-- them.
use Rattle.std.specs.Prelude.{ℕ, List, [], ◌∷◌, ◌++◌, map, codes, Bool, false, if◌then◌else◌, Option, Some, None}
use Rattle.std.specs.Option.{option_map}
use Rattle.std.specs.Str.{bytes_eq}
use Rattle.indexmap.specs.IndexSet.{insert_key}
use Rattle.miette_json.specs.rules.Json.{Json, string}
use Rattle.miette_sarif.specs.rules.Artifacts.{all_named, untitled_in, uri_of}
use Rattle.miette_sarif.specs.rules.Findings.{Finding, SarifLocation, PhysicalLocation, SourceName}
use Rattle.miette_sarif.specs.rules.Objects.{array_of, object_of, pair}
use Rattle.miette_lsp.specs.rules.Diagnostics.{diagnostic}

-- ---- which sources

abbrev pub place_source : Option PhysicalLocation → Option SourceName
place_source None = None
place_source (Some p) = Some p.source

-- the source of a location, if it has one
abbrev pub mark_source : Option SarifLocation → Option SourceName
mark_source None = None
mark_source (Some m) = place_source m.place

-- the URI of the source of a finding, if it has one; sources without a name are numbered in this order
abbrev pub finding_uri : List ℕ → Finding → Option (List ℕ)
finding_uri untitled f = option_map (uri_of untitled) (mark_source f.primary)

abbrev pub with_uri : Option (List ℕ) → List (List ℕ) → List (List ℕ)
with_uri None uris = uris
with_uri (Some uri) uris = insert_key bytes_eq uris uri

-- each URI once, in the order of its first finding, after the given ones
abbrev pub uris_after : List ℕ → List (List ℕ) → List Finding → List (List ℕ)
uris_after untitled before [] = before
uris_after untitled before (f ∷ fs) = uris_after untitled (with_uri (finding_uri untitled f) before) fs

abbrev pub finding_uris : List ℕ → List Finding → List (List ℕ)
finding_uris untitled fs = uris_after untitled [] fs

-- ---- documents

abbrev pub is_uri : List ℕ → Option (List ℕ) → Bool
is_uri uri None = false
is_uri uri (Some other) = bytes_eq uri other

-- the diagnostics of findings in the source with this URI, in order
abbrev pub diagnostics_at : List ℕ → List ℕ → List Finding → List ℕ → List Json
diagnostics_at tool untitled [] uri = []
diagnostics_at tool untitled (f ∷ fs) uri =
    if is_uri uri (finding_uri untitled f) then diagnostic tool untitled f ∷ diagnostics_at tool untitled fs uri
    else diagnostics_at tool untitled fs uri

-- `{"uri": "a.rs","diagnostics": [..]}`
abbrev pub document : List ℕ → List Json → Json
document uri diagnostics =
    object_of (pair (codes "uri") (string uri) ++ pair (codes "diagnostics") (array_of diagnostics))

abbrev pub documents_in : List ℕ → List ℕ → List Finding → List Json
documents_in tool untitled fs =
    map (λ uri. document uri (diagnostics_at tool untitled fs uri)) (finding_uris untitled fs)

-- sources without a name are numbered as in a SARIF log
abbrev pub documents : List ℕ → List Finding → Json
documents tool fs = array_of (documents_in tool (untitled_in (all_named fs)) fs)

-- the diagnostics of all findings in order, whichever source they are in
abbrev pub all_diagnostics : List ℕ → List Finding → List Json
all_diagnostics tool fs = map (diagnostic tool (untitled_in (all_named fs))) fs
