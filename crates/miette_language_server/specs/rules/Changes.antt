-- Applies the client's changes to a text.
use Rattle.std.specs.Prelude.{ℕ, List, [], ◌∷◌, ◌++◌, Option, Some, None, codes, drop, max, take}
use Rattle.std.specs.Option.{option_map_or}
use Rattle.serde_json.specs.Data.{Data}
use Rattle.miette_positions.specs.declared.position.Position.{Position}
use Rattle.miette_positions.specs.declared.position.PositionEncoding.TheVariants.{Utf16}
use Rattle.miette_positions.specs.declared.position.Region.{Region}
use Rattle.miette_positions.specs.rules.Regions.{stop_at}
use Rattle.miette_language_server.specs.rules.Members.{region_at, text_at}

-- The offset of a position. Beyond a line's text it is the text's end, inside a character the character's start, and
-- beyond the last line the end of the source.
abbrev pub offset : List ℕ → Position → ℕ
offset source p = (stop_at Utf16 source p).offset

-- the source with a text instead of the bytes between two offsets; none are removed unless the second offset is greater
abbrev pub spliced : List ℕ → ℕ → ℕ → List ℕ → List ℕ
spliced source from to text = take from source ++ (text ++ drop (max from to) source)

-- the source with a text instead of a region, or of all of it
abbrev pub replace_region : List ℕ → List ℕ → Option Region → List ℕ
replace_region source text None = text
replace_region source text (Some r) = spliced source (offset source r.start) (offset source r.end) text

-- the source after a change; a change without a text has no effect
abbrev pub changed : List ℕ → Data → List ℕ
changed source d =
    option_map_or (λ text. replace_region source text (region_at (codes "/range") d)) (text_at (codes "/text") d) source

-- the source after changes, one after another
abbrev pub apply_changes : List ℕ → List Data → List ℕ
apply_changes source [] = source
apply_changes source (d ∷ ds) = apply_changes (changed source d) ds
