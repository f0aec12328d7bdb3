-- Regions and locations as JSON values.
use Rattle.std.specs.Prelude.{ℕ, ◌+◌, ◌-◌, List, [], ◌∷◌, ◌++◌, codes, Option, Some, None}
use Rattle.miette_json.specs.rules.Json.{Json, number}
use Rattle.miette_positions.specs.declared.position.Position.{Position}
use Rattle.miette_positions.specs.declared.position.Stretch.{Stretch}
use Rattle.miette_sarif.specs.rules.Artifacts.{Artifacts, artifact_location}
use Rattle.miette_sarif.specs.rules.Findings.{SarifRegion, PhysicalLocation, SarifLocation}
use Rattle.miette_sarif.specs.rules.Messages.{doubled}
use Rattle.miette_sarif.specs.rules.Objects.{Pairs, object_of, pair, message_of}

-- a line and a column, both counted from 1
abbrev pub position_pairs : List ℕ → List ℕ → Position → Pairs
position_pairs line column p = pair line (number (p.line + 1)) ++ pair column (number (p.column + 1))

abbrev pub line_pairs : Stretch → Pairs
line_pairs s = position_pairs (codes "startLine") (codes "startColumn") s.start.position
    ++ position_pairs (codes "endLine") (codes "endColumn") s.end.position

abbrev pub byte_pairs : Stretch → Pairs
byte_pairs s = pair (codes "byteOffset") (number s.start.offset)
    ++ pair (codes "byteLength") (number (s.end.offset - s.start.offset))

abbrev pub snippet_pairs : Option (List ℕ) → Pairs
snippet_pairs None = []
snippet_pairs (Some text) = pair (codes "snippet") (message_of text)

abbrev pub region : SarifRegion → Json
region a = object_of (line_pairs a.stretch ++ (byte_pairs a.stretch ++ snippet_pairs a.snippet))

abbrev pub region_pairs : Option SarifRegion → Pairs
region_pairs None = []
region_pairs (Some a) = pair (codes "region") (region a)

abbrev pub place_value : Artifacts → PhysicalLocation → Json
place_value a p = object_of (pair (codes "artifactLocation") (artifact_location a p.source) ++ region_pairs p.area)

abbrev pub place_pairs : Artifacts → Option PhysicalLocation → Pairs
place_pairs a None = []
place_pairs a (Some p) = pair (codes "physicalLocation") (place_value a p)

abbrev pub text_pairs : List ℕ → Pairs
text_pairs [] = []
text_pairs (c ∷ cs) = pair (codes "message") (message_of (doubled (c ∷ cs)))

-- a location after the given first members
abbrev pub location : Artifacts → Pairs → SarifLocation → Json
location a first m = object_of (first ++ (place_pairs a m.place ++ text_pairs m.text))

abbrev pub primary_locations : Artifacts → Option SarifLocation → List Json
primary_locations a None = []
primary_locations a (Some m) = location a [] m ∷ []

-- locations with ids from this number on
abbrev pub related_from : Artifacts → ℕ → List SarifLocation → List Json
related_from a id [] = []
related_from a id (m ∷ ms) =
    location a (pair (codes "id") (number id)) m ∷ related_from a (id + 1) ms
