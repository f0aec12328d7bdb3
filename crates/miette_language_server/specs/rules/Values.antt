-- Places, edits and fixes as values of the Language Server Protocol (3.17).
use Rattle.std.specs.Prelude.{ℕ, List, codes, map}
use Rattle.std.specs.Option.{option_map_or}
use Rattle.serde_json.specs.Data.{Data, array, member, no_members, number, object, string, unsigned}
use Rattle.serde_json.specs.View.{items_of}
use Rattle.miette_protocol.specs.rules.Reading.{Span}
use Rattle.miette_fixes.specs.rules.Edits.{FixModel, Replacement}
use Rattle.miette_fixes.specs.rules.Texts.{applicability_name}
use Rattle.miette_positions.specs.declared.position.Position.{Position}
use Rattle.miette_positions.specs.declared.position.Region.{Region}
use Rattle.miette_positions.specs.rules.Regions.{EncodedSource, region_of}

abbrev pub list_value : List Data → Data
list_value ds = array (items_of ds)

-- both count from 0
abbrev pub position_value : Position → Data
position_value p = object (member (codes "character") (number (unsigned p.column))
    (member (codes "line") (number (unsigned p.line)) no_members))

abbrev pub range_value : Region → Data
range_value r = object (member (codes "end") (position_value r.end)
    (member (codes "start") (position_value r.start) no_members))

-- the empty region at the beginning of a source
abbrev pub empty_region : Region
empty_region = record { start = record { line = 0; column = 0 }; end = record { line = 0; column = 0 } }

-- the region of a span; the empty one at the beginning if the span is out of bounds
abbrev pub part : EncodedSource → Span → Region
part source span = option_map_or (λ r. r) (region_of source.encoding source.source span) empty_region

abbrev pub edit_value : EncodedSource → Replacement → Data
edit_value source e = object (member (codes "newText") (string e.text)
    (member (codes "range") (range_value (part source e.span)) no_members))

abbrev pub edits_value : EncodedSource → List Replacement → Data
edits_value source edits = list_value (map (edit_value source) edits)

-- a fix of the document with this URI
abbrev pub fix_value : List ℕ → EncodedSource → FixModel → Data
fix_value uri source fix = object (member (codes "applicability") (string (applicability_name fix.applicability))
    (member (codes "edits") (edits_value source fix.edits)
    (member (codes "title") (string fix.message)
    (member (codes "uri") (string uri) no_members))))
