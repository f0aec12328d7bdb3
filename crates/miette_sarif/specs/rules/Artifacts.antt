-- The artifacts of a log: the sources that results name, as URIs. Each is listed once, in the order of its first use.
use Rattle.std.specs.Prelude.{ℕ, ◌+◌, List, [], ◌∷◌, ◌++◌, map, codes, decimal, if◌then◌else◌, Bool}
use Rattle.std.specs.Prelude.{Option, Some, None, unwrap_or, position, nat_eq}
use Rattle.std.specs.Str.{bytes_eq}
use Rattle.indexmap.specs.IndexSet.{insert_key, insert_all}
use Rattle.miette_lines.specs.rules.Lists.{is_nil}
use Rattle.miette_json.specs.rules.Json.{Json, number, string}
use Rattle.miette_sarif.specs.rules.Findings.{SourceName, PhysicalLocation, SarifLocation, ApplicableFix, Finding}
use Rattle.miette_sarif.specs.rules.Objects.{object_of, pair}
use Rattle.miette_sarif.specs.rules.Uris.{name_uri}

-- ---- which sources are named

abbrev pub named_in_place : Option PhysicalLocation → List SourceName
named_in_place None = []
named_in_place (Some p) = p.source ∷ []

abbrev pub named_in_primary : Option SarifLocation → List SourceName
named_in_primary None = []
named_in_primary (Some m) = named_in_place m.place

abbrev pub named_in_marks : List SarifLocation → List SourceName
named_in_marks [] = []
named_in_marks (m ∷ ms) = named_in_place m.place ++ named_in_marks ms

abbrev pub named_in_fixes : List ApplicableFix → List SourceName
named_in_fixes fixes = map (λ fix. fix.source) fixes

-- the sources that a result names: by its primary label, its other labels and its fixes
abbrev pub named_in : Finding → List SourceName
named_in f = named_in_primary f.primary ++ (named_in_marks f.locations ++ named_in_fixes f.fixes)

abbrev pub all_named : List Finding → List SourceName
all_named [] = []
all_named (f ∷ fs) = named_in f ++ all_named fs

-- ---- uris

-- the numbers of sources without a name, each once, after the given ones
abbrev pub untitled_after : List ℕ → List SourceName → List ℕ
untitled_after before [] = before
untitled_after before (s ∷ ss) = untitled_after (if is_nil s.name then insert_key nat_eq before s.number else before) ss

abbrev pub untitled_in : List SourceName → List ℕ
untitled_in names = untitled_after [] names

-- the index of the first item that passes a test; there is always one
abbrev pub index_of : {A : Type 0} → (A → Bool) → List A → ℕ
index_of test xs = unwrap_or (position test xs) 0

-- the URI of a source: that of its name, else `untitled:1` for the first source without a name, and so on
abbrev pub uri_of : List ℕ → SourceName → List ℕ
uri_of untitled s =
    if is_nil s.name then codes "untitled:" ++ decimal (index_of (nat_eq s.number) untitled + 1) else name_uri s.name

-- the numbers of the sources without a name, and the URIs of all sources
pub record Artifacts : Type 0 where
  pub untitled : List ℕ
  pub uris : List (List ℕ)

abbrev pub uris_in : List ℕ → List SourceName → List (List ℕ)
uris_in untitled names = insert_all bytes_eq [] (map (uri_of untitled) names)

abbrev pub artifacts_in : List SourceName → Artifacts
artifacts_in names = record { untitled = untitled_in names; uris = uris_in (untitled_in names) names }

-- ---- values

-- a URI and the index of its artifact
abbrev pub artifact_location_at : List (List ℕ) → List ℕ → Json
artifact_location_at uris uri =
    object_of (pair (codes "uri") (string uri) ++ pair (codes "index") (number (index_of (bytes_eq uri) uris)))

abbrev pub artifact_location : Artifacts → SourceName → Json
artifact_location a s = artifact_location_at a.uris (uri_of a.untitled s)

abbrev pub artifact : List ℕ → Json
artifact uri = object_of (pair (codes "location") (object_of (pair (codes "uri") (string uri))))

abbrev pub artifact_values : Artifacts → List Json
artifact_values a = map artifact a.uris
