-- What a result tells at places.
use Rattle.std.proofs.Common.{◌≡◌, ℕ, ◌+◌, List, [], ◌∷◌, ◌++◌, Bool, true, false, Option, Some, None, IfSome, map}
use Rattle.std.proofs.Common.{refl, ap, ◌∙◌, append-nil, codes, filter, option_and_then, option_map}
use Rattle.std.specs.Prelude.{if◌then◌else◌, is_none}
use Rattle.std.specs.List.{AllByRecursion, cons_option, filter_map, flat_map}
use Rattle.serde_json.specs.Data.{Data}
use Rattle.serde_json.specs.Find.{as_array}
use Rattle.miette_json.specs.rules.Json.{Json}
use Rattle.miette_protocol.specs.rules.Reading.{Source}
use Rattle.miette_read.specs.rules.Members.{is_object, array_items, member_object, objects_alone, member_objects}
use Rattle.miette_read.specs.rules.Members.{nonempty_text}
use Rattle.miette_read.specs.rules.Places.{Annotation}
use Rattle.miette_read.specs.rules.Rustc.{maybe_row}
use Rattle.miette_sarif.specs.rules.Artifacts.{Artifacts, artifact_location}
use Rattle.miette_sarif.specs.rules.Codes.{Rules}
use Rattle.miette_sarif.specs.rules.Findings.{SarifRegion, SarifLocation, PhysicalLocation, SourceName}
use Rattle.miette_sarif.specs.rules.Places.{place_value, primary_locations, region, related_from}
use Rattle.miette_read_sarif.specs.rules.Bases as bases
use Rattle.miette_read_sarif.specs.rules.Results.{RunContext, file_at, file_of, flow_annotations, located_annotation}
use Rattle.miette_read_sarif.specs.rules.Results.{message_in}
use Rattle.miette_read_sarif.specs.rules.Results.{message_text, own_annotations, region_location, region_of}
use Rattle.miette_read_sarif.specs.rules.Results.{related_annotations}
use Rattle.miette_read_sarif.specs.rules.Results.{unlocated_text, whole_row}
use Rattle.miette_read_sarif.specs.rules.Results.{annotation_in_file, annotation_in_region, result_annotations}
use Rattle.miette_read_sarif.specs.rules.Results.{with_begin}
use Rattle.miette_read_sarif.specs.rules.Wholes.{FileAnnotations, bare_file, result_file_annotations, whole_file}
use Rattle.miette_read_laws.specs.laws.Data.{data_of}
use Rattle.miette_read_laws.specs.laws.Files.{IsMarkOver, IsOver, IsPlaceOver}
use Rattle.miette_read_laws.specs.laws.Kept.{bare_kept, file_name, mark_alone, mark_kept, primary_kept}
use Rattle.miette_read_laws.specs.laws.Kept.{annotation_by, annotation_over, whole_kept, words}
use Rattle.miette_read_laws.proofs.RunContext.{log_context}
use Rattle.miette_read_laws.proofs.Members.{all_related, area_lines, artifact_read, flows_read, location_by}
use Rattle.miette_read_laws.proofs.Members.{physical_read, places_read, region_read, related_read, result_by}
use Rattle.miette_read_laws.proofs.Members.{text_read, text_value}
use Rattle.miette_read_laws.proofs.Objects.{objects_in}
use Rattle.miette_read_laws.proofs.LogPlaces.{begin_told, file_read, line_told, name_read, place_read}
use Rattle.miette_read_laws.proofs.Texts.{text_shown}

module _ (files : List ℕ → Option Source) (r : Rules) (artifacts : List Data) (a : Artifacts) where
  abbrev g : RunContext
  g = log_context files r artifacts

  -- ---- its text

  words_by : (text : List ℕ) → nonempty_text (option_and_then (message_text None)
      (option_and_then objects_alone (text_value text))) ≡ words text
  words_by [] = refl
  words_by (c ∷ cs) = ap nonempty_text (text_shown None (c ∷ cs))

  words_read : (id : Option ℕ) (place : Option PhysicalLocation) (text : List ℕ)
      → nonempty_text (message_in None (location_by a id place text)) ≡ words text
  words_read id place text =
      ap (λ o. nonempty_text (option_and_then (message_text None) (option_and_then objects_alone o)))
      (text_read a id place text)
      ∙ words_by text

  -- ---- its place

  abbrev located_at : SourceName → Data
  located_at s = data_of (artifact_location a s)

  abbrev area_data : Option SarifRegion → Option Data
  area_data area = option_map (λ it. data_of (region it)) area

  begin_by : (area : Option SarifRegion)
      → option_and_then with_begin (option_and_then objects_alone (area_data area)) ≡ area_data area
  begin_by None = refl
  begin_by (Some area) = begin_told (data_of (region area)) area.stretch (area_lines area)

  abbrev told_in_place : Option (List ℕ) → Bool → Option Data → Annotation
  told_in_place text own place =
      annotation_in_file g text true own (option_and_then (file_at g) place)
      (option_and_then with_begin (option_and_then (member_object (codes "region")) place))

  area_told : (text : Option (List ℕ)) (own : Bool) (s : SourceName) (area : Option SarifRegion)
      → IfSome area (λ (it : SarifRegion). IsOver files a s it.stretch)
      → annotation_in_file g text true own (Some (located_at s)) (area_data area)
      ≡ annotation_over files a own text s area
  area_told text own s None over = ap (λ name. unlocated_text (whole_row name text) own) (name_read a s)
  area_told text own s (Some area) over =
      let d : Data = data_of (region area) in
      ap (λ b. annotation_in_region text true own b (region_location g (bases.file_name None (located_at s)) d))
      (line_told d area.stretch (area_lines area))
      ∙ ap (λ (it : _). record { rows = maybe_row text; place = Some it; primary = true; own = own })
      (ap (λ name. region_location g name d) (name_read a s)
      ∙ place_read d area.stretch (area_lines area) files r artifacts (file_name a s) over)

  place_told : (text : Option (List ℕ)) (own : Bool) (place : Option PhysicalLocation)
      → IfSome place (IsPlaceOver files a)
      → told_in_place text own (option_and_then objects_alone (option_map (λ p. data_of (place_value a p)) place))
      ≡ annotation_by files a own text place
  place_told text own None over = refl
  place_told text own (Some p) over =
      let d : Data = data_of (place_value a p) in
      ap (λ o. annotation_in_file g text true own o
      (option_and_then with_begin (member_object (codes "region") d))) (file_read files r artifacts a d p.source
      (artifact_read a p))
      ∙ (ap (λ o. annotation_in_file g text true own (Some (located_at p.source))
      (option_and_then with_begin (option_and_then objects_alone o))) (region_read a p)
      ∙ (ap (annotation_in_file g text true own (Some (located_at p.source))) (begin_by p.area)
      ∙ area_told text own p.source p.area over))

  mark_told : (id : Option ℕ) (own : Bool) (m : SarifLocation) → IsMarkOver files a m
      → located_annotation g true own (location_by a id m.place m.text) ≡ mark_kept files a own m
  mark_told id own m over =
      let l : Data = location_by a id m.place m.text in
      ap (λ text. annotation_in_file g text true own (file_of g l) (region_of l)) (words_read id m.place m.text)
      ∙ (ap (λ o. told_in_place (words m.text) own (option_and_then objects_alone o))
      (physical_read a id m.place m.text)
      ∙ place_told (words m.text) own m.place over)

  -- ---- its file as a whole

  none_mapped : {X Y : Type 0} (f : X → Y) (o : Option X) → is_none (option_map f o) ≡ is_none o
  none_mapped f None = refl
  none_mapped f (Some x) = refl

  abbrev whole_in : Option Data → Option Data → Option (List ℕ)
  whole_in region file = if is_none region then option_map (bases.file_name None) file else None

  abbrev whole_in_place : Option Data → Option (List ℕ)
  whole_in_place place =
      whole_in (option_and_then with_begin (option_and_then (member_object (codes "region")) place))
      (option_and_then (file_at g) place)

  whole_by : (place : Option PhysicalLocation)
      → whole_in_place (option_and_then objects_alone (option_map (λ p. data_of (place_value a p)) place))
      ≡ whole_kept a place
  whole_by None = refl
  whole_by (Some p) =
      let d : Data = data_of (place_value a p) in
      ap (λ o. whole_in (option_and_then with_begin (member_object (codes "region") d)) o)
      (file_read files r artifacts a d p.source (artifact_read a p))
      ∙ (ap (λ o. whole_in (option_and_then with_begin (option_and_then objects_alone o))
      (Some (located_at p.source))) (region_read a p)
      ∙ (ap (λ o. whole_in o (Some (located_at p.source))) (begin_by p.area)
      ∙ (ap (λ b. if b then Some (bases.file_name None (located_at p.source)) else None)
      (none_mapped (λ it. data_of (region it)) p.area)
      ∙ ap (λ name. if is_none p.area then Some name else None) (name_read a p.source))))

  whole_read : (id : Option ℕ) (place : Option PhysicalLocation) (text : List ℕ)
      → whole_file g (location_by a id place text) ≡ whole_kept a place
  whole_read id place text =
      ap (λ o. whole_in_place (option_and_then objects_alone o)) (physical_read a id place text) ∙ whole_by place

  bare_read : (id : Option ℕ) (m : SarifLocation) → bare_file g (location_by a id m.place m.text) ≡ bare_kept a m
  bare_read id m =
      ap (λ o. if is_none o then whole_file g (location_by a id m.place m.text) else None)
      (words_read id m.place m.text)
      ∙ ap (λ o. if is_none (words m.text) then o else None) (whole_read id m.place m.text)

  -- ---- all of them

  wholes_read : (o : Option SarifLocation) → filter_map (whole_file g) (map data_of (primary_locations a o))
      ≡ filter_map (λ (m : SarifLocation). whole_kept a m.place) (mark_alone o)
  wholes_read None = refl
  wholes_read (Some m) = ap (λ it. cons_option it []) (whole_read None m.place m.text)

  others_bare : (id : ℕ) (ms : List SarifLocation) → filter_map (bare_file g) (map data_of (related_from a id ms))
      ≡ filter_map (bare_kept a) ms
  others_bare id [] = refl
  others_bare id (m ∷ ms) =
      ap (λ it. cons_option it (filter_map (bare_file g) (map data_of (related_from a (id + 1) ms))))
      (bare_read (Some id) m)
      ∙ ap (cons_option (bare_kept a m)) (others_bare (id + 1) ms)

  bares_read : (o : Option SarifLocation) (ms : List SarifLocation)
      → filter_map (bare_file g) (map data_of (primary_locations a o) ++ map data_of (related_from a 1 ms))
      ≡ filter_map (bare_kept a) (mark_alone o ++ ms)
  bares_read None ms = others_bare 1 ms
  bares_read (Some m) ms =
      ap (λ it. cons_option it (filter_map (bare_file g) (map data_of (related_from a 1 ms)))) (bare_read None m)
      ∙ ap (cons_option (bare_kept a m)) (others_bare 1 ms)

  primary_told : (o : Option SarifLocation) → IfSome o (IsMarkOver files a)
      → own_annotations g (map data_of (primary_locations a o)) ≡ primary_kept files a o
  primary_told None over = refl
  primary_told (Some m) over = ap (λ t. t ∷ []) (mark_told None true m over)

  marks_told : (id : ℕ) (ms : List SarifLocation) → AllByRecursion (IsMarkOver files a) ms
      → map (located_annotation g true false) (map data_of (related_from a id ms)) ≡ map (mark_kept files a false) ms
  marks_told id [] over = refl
  marks_told id (m ∷ ms) over =
      ap (λ t. t ∷ map (located_annotation g true false) (map data_of (related_from a (id + 1) ms)))
      (mark_told (Some id) false m over.0)
      ∙ ap (λ ts. mark_kept files a false m ∷ ts) (marks_told (id + 1) ms over.1)

  module _ (level text : List ℕ) (xs : List Json) (code : List ℕ) (o : Option SarifLocation) (ms : List SarifLocation)
    where
      abbrev d : Data
      d = result_by r level text (primary_locations a o) (related_from a 1 ms) xs code

      flows_told : flat_map (flow_annotations g) (member_objects (codes "codeFlows") d) ≡ []
      flows_told =
          ap (λ flows. flat_map (flow_annotations g) (filter is_object (array_items (option_and_then as_array flows))))
          (flows_read r level text (primary_locations a o) (related_from a 1 ms) xs code)

      one_object : (p : Option SarifLocation) → AllByRecursion (λ v. is_object (data_of v) ≡ true) (primary_locations a p)
      one_object None = tt
      one_object (Some m) = (refl, tt)

      own_locations : member_objects (codes "locations") d ≡ map data_of (primary_locations a o)
      own_locations =
          objects_in (codes "locations") d (primary_locations a o)
          (places_read r level text (primary_locations a o) (related_from a 1 ms) xs code) (one_object o)

      related_locations : member_objects (codes "relatedLocations") d ≡ map data_of (related_from a 1 ms)
      related_locations =
          objects_in (codes "relatedLocations") d (related_from a 1 ms)
          (related_read r level text (primary_locations a o) (related_from a 1 ms) xs code) (all_related a 1 ms)

      places_told : IfSome o (IsMarkOver files a)
          → own_annotations g (member_objects (codes "locations") d) ≡ primary_kept files a o
      places_told over = ap (own_annotations g) own_locations ∙ primary_told o over

      others_told : AllByRecursion (IsMarkOver files a) ms → related_annotations g d ≡ map (mark_kept files a false) ms
      others_told over = ap (map (located_annotation g true false)) related_locations ∙ marks_told 1 ms over

      told_read : IfSome o (IsMarkOver files a) → AllByRecursion (IsMarkOver files a) ms
          → result_annotations g d ≡ primary_kept files a o ++ map (mark_kept files a false) ms
      told_read first others =
          ap (λ flows. (own_annotations g (member_objects (codes "locations") d) ++ related_annotations g d) ++ flows)
          flows_told
          ∙ (append-nil (own_annotations g (member_objects (codes "locations") d) ++ related_annotations g d)
          ∙ (ap (λ ts. ts ++ related_annotations g d) (places_told first)
          ∙ ap (λ ts. primary_kept files a o ++ ts) (others_told others)))

      abbrev telling_with : List Annotation → List (List ℕ) → List (List ℕ) → FileAnnotations
      telling_with told wholes bares = record { told = told; wholes = wholes; bares = bares }

      pub telling_read : IfSome o (IsMarkOver files a) → AllByRecursion (IsMarkOver files a) ms
          → result_file_annotations g d ≡ telling_with (primary_kept files a o ++ map (mark_kept files a false) ms)
          (filter_map (λ (m : SarifLocation). whole_kept a m.place) (mark_alone o))
          (filter_map (bare_kept a) (mark_alone o ++ ms))
      telling_read first others =
          let told : List Annotation = primary_kept files a o ++ map (mark_kept files a false) ms in
          let own : List Data = member_objects (codes "locations") d in
          let related : List Data = member_objects (codes "relatedLocations") d in
          ap (λ it. telling_with it (filter_map (whole_file g) own) (filter_map (bare_file g) (own ++ related)))
          (told_read first others)
          ∙ (ap (λ ls. telling_with told (filter_map (whole_file g) ls) (filter_map (bare_file g) (ls ++ related)))
          own_locations
          ∙ (ap (λ it. telling_with told it
          (filter_map (bare_file g) (map data_of (primary_locations a o) ++ related))) (wholes_read o)
          ∙ (ap (λ ls. telling_with told (filter_map (λ (m : SarifLocation). whole_kept a m.place) (mark_alone o))
          (filter_map (bare_file g) (map data_of (primary_locations a o) ++ ls))) related_locations
          ∙ ap (telling_with told (filter_map (λ (m : SarifLocation). whole_kept a m.place) (mark_alone o)))
          (bares_read o ms))))
