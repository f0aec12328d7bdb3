-- The annotations of a GCC diagnostic in its JSON format (`-fdiagnostics-format=json`).
use Rattle.std.specs.Prelude.{ℕ, ◌+◌, ◌-◌, List, [], ◌∷◌, ◌++◌, Option, Some, None, Bool, true, false, if◌then◌else◌}
use Rattle.std.specs.Prelude.{option_and_then, is_none, unwrap_or, map, nat_le, bytes_eq, codes, decimal}
use Rattle.std.specs.List.{flat_map}
use Rattle.serde_json.specs.Data.{Data}
use Rattle.miette_protocol.specs.rules.Reading.{Source}
use Rattle.miette_read.specs.rules.Members.{member_object, member_objects, member_text, member_number}
use Rattle.miette_read.specs.rules.Places.{ByteRange, ToolLocation, Annotation}
use Rattle.miette_read.specs.rules.Rustc.{maybe_row, label_rows, range_from_offsets}
use Rattle.miette_read_gcc.specs.rules.Lines.{offset_at}

-- What locations are looked up with: the files, and the number of a line's first column.
pub record GccContext : Type 0 where
  pub files : List ℕ → Option Source
  pub origin : ℕ

-- ---- points

-- A point in a file: its line, the bytes before it on that line, and its column as GCC shows it.
pub record Point : Type 0 where
  pub file : List ℕ
  pub line : Option ℕ
  pub before : Option ℕ
  pub column : ℕ

-- The number of bytes before a column. `None` if the column is before the line's first one.
abbrev pub before_column : ℕ → Option ℕ → Option ℕ
before_column origin None = None
before_column origin (Some column) = if nat_le origin column then Some (column - origin) else None

abbrev pub point_of : ℕ → Data → Point
point_of origin d = record {
  file = unwrap_or (member_text (codes "file") d) [];
  line = member_number (codes "line") d;
  before = before_column origin (member_number (codes "byte-column") d);
  column = unwrap_or (member_number (codes "column") d) 0;
}

abbrev pub missing_point : Point
missing_point = record { file = []; line = None; before = None; column = 0 }

-- The point at a key, if it is there.
abbrev pub point_by : ℕ → Option Data → Point
point_by origin None = missing_point
point_by origin (Some d) = point_of origin d

abbrev pub point_at : ℕ → List ℕ → Data → Point
point_at origin key d = point_by origin (member_object key d)

-- The point at a key of a location, or else its caret.
abbrev pub else_caret : Option Data → Data → Option Data
else_caret None l = member_object (codes "caret") l
else_caret (Some p) l = Some p

abbrev pub end_at : ℕ → List ℕ → Data → Point
end_at origin key l = point_by origin (else_caret (member_object key l) l)

abbrev pub offset_by : List ℕ → ℕ → Option ℕ → Option ℕ → Option ℕ
offset_by bytes further None before = None
offset_by bytes further (Some line) None = None
offset_by bytes further (Some line) (Some before) = offset_at bytes line (before + further)

-- The offset `further` bytes after a point, on its line.
abbrev pub offset_of : List ℕ → ℕ → Point → Option ℕ
offset_of bytes further p = offset_by bytes further p.line p.before

-- ---- places: from one point up to what stands after another one, of the same file

abbrev pub range_between : ℕ → Point → Point → Source → Option ByteRange
range_between further start end source =
    range_from_offsets (offset_of source.bytes 0 start) (offset_of source.bytes further end)

abbrev pub shared_file : (List ℕ → Option Source) → Point → Point → Option Source
shared_file files start end = if bytes_eq start.file end.file then files start.file else None

abbrev pub location_between : (List ℕ → Option Source) → ℕ → Point → Point → ToolLocation
location_between files further start end = record {
  name = start.file;
  stretch = option_and_then (range_between further start end) (shared_file files start end);
  line = unwrap_or start.line 0;
  column = start.column;
}

-- The range of a location, including the byte at its end point.
abbrev pub caret_location : GccContext → Data → ToolLocation
caret_location g l =
    location_between g.files 1 (end_at g.origin (codes "start") l) (end_at g.origin (codes "finish") l)

-- ---- what is said

-- The annotation of a location. A note's first location has the note's message. The diagnostic's own locations have
-- their labels only.
abbrev pub location_annotation : GccContext → Option (List ℕ) → Bool → Data → Annotation
location_annotation g words first l = record {
  rows = (if first then maybe_row words else []) ++ label_rows l;
  place = Some (caret_location g l);
  primary = first;
  own = is_none words;
}

abbrev pub location_annotations : GccContext → Option (List ℕ) → List Data → List Annotation
location_annotations g words [] = []
location_annotations g words (l ∷ ls) = location_annotation g words true l ∷ map (location_annotation g words false) ls

abbrev pub event_row : ℕ → Data → List ℕ
event_row n e = (codes "(" ++ decimal n) ++ (codes ") " ++ unwrap_or (member_text (codes "description") e) [])

abbrev pub event_location : GccContext → Data → ToolLocation
event_location g e =
    location_between g.files 1 (point_at g.origin (codes "location") e) (point_at g.origin (codes "location") e)

abbrev pub event_annotation : GccContext → ℕ → Data → Annotation
event_annotation g n e = record {
  rows = event_row n e ∷ [];
  place = Some (event_location g e);
  primary = false;
  own = false;
}

-- The events of a path (`-fanalyzer`), numbered from `n`.
abbrev pub event_annotations : GccContext → ℕ → List Data → List Annotation
event_annotations g n [] = []
event_annotations g n (e ∷ es) = event_annotation g n e ∷ event_annotations g (n + 1) es

abbrev pub message_of : Data → List ℕ
message_of d = unwrap_or (member_text (codes "message") d) []

abbrev pub unlocated_row : List ℕ → Annotation
unlocated_row row = record { rows = row ∷ []; place = None; primary = false; own = false }

-- A note without locations is an annotation without a location.
abbrev pub note_annotations_by : GccContext → List ℕ → List Data → List Annotation
note_annotations_by g message [] = unlocated_row message ∷ []
note_annotations_by g message (l ∷ ls) = location_annotations g (Some message) (l ∷ ls)

abbrev pub note_annotations : GccContext → Data → List Annotation
note_annotations g c = note_annotations_by g (message_of c) (member_objects (codes "locations") c)

-- The diagnostic's own locations, then the events of its path, then its notes.
abbrev pub diagnostic_annotations : GccContext → Data → List Annotation
diagnostic_annotations g d =
    (location_annotations g None (member_objects (codes "locations") d)
    ++ event_annotations g 1 (member_objects (codes "path") d))
    ++ flat_map (note_annotations g) (member_objects (codes "children") d)
