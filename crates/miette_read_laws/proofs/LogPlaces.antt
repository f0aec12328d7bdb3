-- The places of a log: the files that its locations stand for, and the stretches of its regions.
use Rattle.std.proofs.Common.{◌≡◌, ℕ, ◌+◌, ◌-◌, List, [], ◌++◌, Bool, true, false, ◌||◌, Option, Some, None, IfSome}
use Rattle.std.proofs.Common.{refl, ap, ◌∙◌, codes, option_and_then, option_map, unwrap_or, is_some, add-sub_cancel}
use Rattle.std.specs.Prelude.{if◌then◌else◌}
use Rattle.std.specs.Option.{option_or}
use Rattle.serde_json.specs.Data.{Data}
use Rattle.serde_json.specs.Find.{as_number, as_str, as_u64, get}
use Rattle.miette_positions.specs.declared.position.PositionEncoding.TheVariants.{Utf16}
use Rattle.miette_positions.specs.declared.position.Stretch.{Stretch}
use Rattle.miette_protocol.specs.rules.Reading.{Source}
use Rattle.miette_read.specs.rules.Members.{member_object, objects_alone, member_number}
use Rattle.miette_read.specs.rules.Places as places
use Rattle.miette_read.specs.rules.Rustc.{range_from_offsets}
use Rattle.miette_sarif.specs.rules.Artifacts.{Artifacts, artifact_location, uri_of}
use Rattle.miette_sarif.specs.rules.Codes.{Rules}
use Rattle.miette_sarif.specs.rules.Findings.{SourceName}
use Rattle.miette_read_sarif.specs.rules.Bases as bases
use Rattle.miette_read_sarif.specs.rules.Bases.{after_base, base_uri, is_absolute_uri, most_bases, own_uri}
use Rattle.miette_read_sarif.specs.rules.Descriptors.{item_at}
use Rattle.miette_read_sarif.specs.rules.Regions.{end_columns, end_line, has_chars, has_bytes, has_line}
use Rattle.miette_read_sarif.specs.rules.Regions.{line_range, offset_at, start_column, start_line, range_by_bytes}
use Rattle.miette_read_sarif.specs.rules.Regions.{range_by_chars, region_range}
use Rattle.miette_read_sarif.specs.rules.Results.{RunContext, file_at, file_by, location_of, region_location}
use Rattle.miette_read_sarif.specs.rules.Results.{with_begin}
use Rattle.miette_read_sarif.specs.rules.Uris.{uri_file_name}
use Rattle.miette_read_laws.specs.laws.Data.{data_of}
use Rattle.miette_read_laws.specs.laws.Kept.{file_name, location_kept}
use Rattle.miette_read_laws.specs.laws.RegionsBack.{IsIn, lines_back, log_newlines, offsets_of}
use Rattle.miette_read_laws.proofs.RunContext.{log_context}
use Rattle.miette_read_laws.proofs.Members.{AreLines, base_read, uri_read}
use Rattle.miette_read_laws.proofs.RegionsBack.{in_back}

-- ---- names

no_base : base_uri most_bases None None ≡ []
unfolding base_uri
no_base = refl

alone_by : (uri : List ℕ) (b : Bool) → (if b then uri else [] ++ uri) ≡ uri
alone_by uri true = refl
alone_by uri false = refl

pub name_read : (a : Artifacts) (s : SourceName) → bases.file_name None (data_of (artifact_location a s))
    ≡ file_name a s
name_read a s =
    let l : Data = data_of (artifact_location a s) in
    let uri : List ℕ = uri_of a.untitled s in
    ap (λ o. uri_file_name (after_base (base_uri most_bases None (option_and_then
    (λ id. option_and_then (member_object id) None) (option_and_then as_str o))) (own_uri l))) (base_read a s)
    ∙ (ap (λ base. uri_file_name (after_base base (own_uri l))) no_base
    ∙ (ap (λ o. uri_file_name (after_base [] (unwrap_or (option_and_then as_str o) []))) (uri_read a s)
    ∙ ap uri_file_name (alone_by uri (is_absolute_uri uri))))

-- ---- files

module _ (files : List ℕ → Option Source) (r : Rules) (artifacts : List Data) (a : Artifacts) where
  abbrev g : RunContext
  g = log_context files r artifacts

  pub file_located : (s : SourceName) → file_by g (data_of (artifact_location a s))
      ≡ Some (data_of (artifact_location a s))
  file_located s =
      let l : Data = data_of (artifact_location a s) in
      ap (λ o. option_or (if is_some (option_and_then as_str o) then Some l else None)
      (option_and_then location_of (item_at artifacts (member_number (codes "index") l)))) (uri_read a s)

  pub file_read : (d : Data) (s : SourceName) → get (codes "artifactLocation") d
      ≡ Some (data_of (artifact_location a s))
      → file_at g d ≡ Some (data_of (artifact_location a s))
  file_read d s e =
      ap (λ o. option_and_then (file_by g) (option_and_then objects_alone o)) e ∙ file_located s

-- ---- regions

module _ (d : Data) (s : Stretch) (h : AreLines d s) where
  abbrev whole : Option Data → Option ℕ
  whole o = option_and_then as_u64 (option_and_then as_number o)

  pub line_told : has_line d ≡ true
  line_told = ap (λ o. is_some (whole o)) h.start_line

  pub first_line : start_line d ≡ s.start.position.line + 1
  first_line = ap (λ o. unwrap_or (whole o) 0) h.start_line

  pub first_column : start_column d ≡ s.start.position.column + 1
  first_column = ap (λ o. unwrap_or (whole o) 1) h.start_column

  last_line : end_line d ≡ s.end.position.line + 1
  last_line = ap (λ o. unwrap_or (whole o) (start_line d)) h.end_line

  last_columns : (bytes : List ℕ) → end_columns bytes (member_number (codes "endColumn") d) ≡ s.end.position.column
  last_columns bytes =
      ap (λ o. end_columns bytes (whole o)) h.end_column ∙ add-sub_cancel s.end.position.column 1

  first_columns : start_column d - 1 ≡ s.start.position.column
  first_columns = ap (λ n. n - 1) first_column ∙ add-sub_cancel s.start.position.column 1

  lines_read : (bytes : List ℕ) → line_range Utf16 log_newlines bytes d ≡ lines_back bytes s
  lines_read bytes =
      let last : Option ℕ =
      offset_at Utf16 log_newlines bytes (end_line d) (end_columns bytes (member_number (codes "endColumn") d)) in
      let first : Option ℕ = offset_at Utf16 log_newlines bytes (s.start.position.line + 1) s.start.position.column in
      ap (λ n. range_from_offsets (offset_at Utf16 log_newlines bytes n (start_column d - 1)) last) first_line
      ∙ (ap (λ n. range_from_offsets (offset_at Utf16 log_newlines bytes (s.start.position.line + 1) n) last)
      first_columns
      ∙ (ap (λ n. range_from_offsets first (offset_at Utf16 log_newlines bytes n
      (end_columns bytes (member_number (codes "endColumn") d)))) last_line
      ∙ ap (λ n. range_from_offsets first (offset_at Utf16 log_newlines bytes (s.end.position.line + 1) n))
      (last_columns bytes)))

  pub stretch_read : (bytes : List ℕ) → region_range Utf16 log_newlines bytes d ≡ lines_back bytes s
  stretch_read bytes =
      ap (λ b. if b then line_range Utf16 log_newlines bytes d
      else if has_chars d then range_by_chars Utf16 bytes d else range_by_bytes bytes d) line_told
      ∙ lines_read bytes

  pub begin_told : with_begin d ≡ Some d
  begin_told = ap (λ b. if b || (has_chars d || has_bytes d) then Some d else None) line_told

  stretch_found : (o : Option Source) → IfSome o (λ source. IsIn source.bytes s)
      → option_and_then (λ (source : Source). region_range Utf16 log_newlines source.bytes d) o
      ≡ option_map (λ source. offsets_of s) o
  stretch_found None over = refl
  stretch_found (Some source) over = stretch_read source.bytes ∙ in_back source.bytes s over

  abbrev made : List ℕ → Option places.ByteRange → ℕ → ℕ → places.ToolLocation
  made name stretch line column = record { name = name; stretch = stretch; line = line; column = column }

  pub place_read : (files : List ℕ → Option Source) (r : Rules) (artifacts : List Data) (name : List ℕ)
      → IfSome (files name) (λ source. IsIn source.bytes s)
      → region_location (log_context files r artifacts) name d ≡ location_kept files name s
  place_read files r artifacts name over =
      ap (λ it. made name it (start_line d) (start_column d)) (stretch_found (files name) over)
      ∙ (ap (λ n. made name (option_map (λ source. offsets_of s) (files name)) n (start_column d)) first_line
      ∙ ap (made name (option_map (λ source. offsets_of s) (files name)) (s.start.position.line + 1)) first_column)
