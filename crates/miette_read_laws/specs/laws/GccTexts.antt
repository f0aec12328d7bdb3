-- The texts of a GCC diagnostic other than its message. Its suggestions have no texts.
use Rattle.std.specs.Prelude.{ℕ, List, [], ◌∷◌, ◌++◌, codes, unwrap_or}
use Rattle.std.specs.List.{flat_map}
use Rattle.serde_json.specs.Data.{Data}
use Rattle.miette_read_gcc.specs.rules.Gcc.{message_of}
use Rattle.miette_read.specs.rules.Members.{member_objects, member_text}
use Rattle.miette_read.specs.rules.Rustc.{label_rows}

-- The labels of the locations of a diagnostic or note.
abbrev pub location_texts : Data → List (List ℕ)
location_texts d = flat_map label_rows (member_objects (codes "locations") d)

abbrev pub note_texts : Data → List (List ℕ)
note_texts c = message_of c ∷ location_texts c

-- The description of an event.
abbrev pub event_texts : Data → List (List ℕ)
event_texts e = unwrap_or (member_text (codes "description") e) [] ∷ []

abbrev pub texts_of : Data → List (List ℕ)
texts_of d =
    location_texts d
    ++ (flat_map event_texts (member_objects (codes "path") d) ++ flat_map note_texts
    (member_objects (codes "children") d))
