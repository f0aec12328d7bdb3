-- The texts of a result of a SARIF log stand in its report.
use Rattle.std.proofs.Common.{ℕ, ◌+◌, List, [], ◌∷◌, ◌++◌, Option, Some, None, Bool, true}
use Rattle.std.proofs.Common.{false, IfSome, codes, inl, inr}
use Rattle.std.specs.Prelude.{◌||◌, if◌then◌else◌, decimal, is_some, option_and_then}
use Rattle.std.specs.List.{AllByRecursion, flat_map, fold}
use Rattle.serde_json.specs.Data.{Data}
use Rattle.miette_protocol.specs.rules.Reading.{Source}
use Rattle.miette_read.specs.rules.Kept.{IsPart}
use Rattle.miette_read.specs.rules.Members.{member_object, member_objects, nonempty_text}
use Rattle.miette_read.specs.rules.Places.{ToolLocation, Annotation}
use Rattle.miette_read.specs.rules.Reports.{MessageParts}
use Rattle.miette_read.specs.rules.Rustc.{maybe_row}
use Rattle.miette_read.specs.rules.AnnotationLabels.{label_lists}
use Rattle.miette_read_sarif.specs.rules.Bases.{file_name}
use Rattle.miette_read_sarif.specs.rules.Logs.{notification_tree, result_in}
use Rattle.miette_read_sarif.specs.rules.Notices.{notification_parts}
use Rattle.miette_read_sarif.specs.rules.Proposals.{SuggestionDraft, suggestion_draft, suggestion_drafts}
use Rattle.miette_read_sarif.specs.rules.Proposals.{draft_edits, drafts_help}
use Rattle.miette_read_sarif.specs.rules.Proposals.{with_help}
use Rattle.miette_read_sarif.specs.rules.Regions.{has_line}
use Rattle.miette_read_sarif.specs.rules.Results.{RunContext, file_of, file_row, flow_annotations, located_annotation}
use Rattle.miette_read_sarif.specs.rules.Results.{message_in}
use Rattle.miette_read_sarif.specs.rules.Results.{message_text, own_annotations, region_location, region_of}
use Rattle.miette_read_sarif.specs.rules.Results.{related_annotations}
use Rattle.miette_read_sarif.specs.rules.Results.{unlocated_text, result_parts}
use Rattle.miette_read_sarif.specs.rules.Results.{step_annotation_by, step_row, step_annotation, step_annotations}
use Rattle.miette_read_sarif.specs.rules.Results.{thread_annotations, annotation_in_file}
use Rattle.miette_read_sarif.specs.rules.Results.{result_annotations}
use Rattle.miette_read_sarif.specs.rules.Wholes.{FileAnnotations, all_annotations, file_named, found_file}
use Rattle.miette_read_sarif.specs.rules.Wholes.{file_name_annotation}
use Rattle.miette_read_sarif.specs.rules.Wholes.{notification_file_annotations, result_file_annotations, own_whole_file}
use Rattle.miette_read_sarif.proofs.LogsHold.{IsUnmarked}
use Rattle.miette_read_laws.specs.laws.LogTexts.{fix_texts, flow_texts, location_texts, step_texts}
use Rattle.miette_read_laws.specs.laws.LogTexts.{step_texts_by, texts_of, thread_texts}
use Rattle.miette_read.specs.laws.MessageTexts.{IsInReport}
use Rattle.miette_read.proofs.Holding.{Has, all_each, all_flat, all_more, has_after}
use Rattle.miette_read.proofs.Holding.{has_flat, has_map, has_more, has_split}
use Rattle.miette_read.proofs.KeptRows.{part_after, part_self, part_within, row_joined}
use Rattle.miette_read.proofs.KeptStanding.{Says}
use Rattle.miette_read_laws.proofs.LogOffers.{IsHelped, IsOfferedBy, IsProposed, draft_proposed, help_over}
use Rattle.miette_read_laws.proofs.LogOffers.{help_there, offered_over, annotation_over, whole_plain}

abbrev Tells : List ℕ → Annotation → Type 0
Tells text t = Has (IsPart text) t.rows

-- ---- locations

named : (row name : List ℕ) → IsPart row (name ++ (codes ": " ++ row))
named row name =
    part_within row (codes ": " ++ row) (name ++ (codes ": " ++ row)) (part_after row (codes ": "))
    (part_after (codes ": " ++ row) name)

module _ (g : RunContext) where
  said_by : (text row : List ℕ) → IsPart text row → (primary own : Bool) (place : ToolLocation) (b : Bool)
      → Tells text (if b then record { rows = maybe_row (Some row); place = Some place; primary = primary; own = own }
      else unlocated_text (Some (file_row place.name (Some row))) own)
  said_by text row h primary own place true = inl h
  said_by text row h primary own place false =
      inl (part_within text row (file_row place.name (Some row)) h (named row place.name))

  member_nonempty_text : (text row : List ℕ) → IsPart text row → (primary own : Bool) (file : Option Data)
      (region : Option Data)
      → Tells text (annotation_in_file g (Some row) primary own file region)
  member_nonempty_text text row h primary own None region = inl h
  member_nonempty_text text row h primary own (Some file) None =
      inl (part_within text row (file_row (file_name g.bases file) (Some row)) h (named row (file_name g.bases file)))
  member_nonempty_text text row h primary own (Some file) (Some region) =
      let place = region_location g (file_name g.bases file) region in
      said_by text row h primary own place (has_line region || is_some place.stretch)

  abbrev IsSaid : List ℕ → Data → Type 0
  IsSaid text l = (primary own : Bool) → Tells text (located_annotation g primary own l)

  location_by : (o : Option (List ℕ)) (file : Option Data) (region : Option Data)
      → AllByRecursion (λ text. (primary own : Bool) → Tells text (annotation_in_file g o primary own file region))
      (maybe_row o)
  location_by None file region = tt
  location_by (Some text) file region =
      ((λ primary own. member_nonempty_text text text (part_self text) primary own file region), tt)

  locations_have : (ls : List Data)
      → AllByRecursion (λ text. Has (IsSaid text) ls) (flat_map (location_texts g) ls)
  locations_have ls =
      all_flat IsSaid (location_texts g)
      (λ l. location_by (nonempty_text (message_in g.strings l)) (file_of g l) (region_of l)) ls

  own_says : (text : List ℕ) (ls : List Data) → Has (IsSaid text) ls → Says (own_annotations g ls) text
  own_says text [] h = absurd h
  own_says text (l ∷ ls) (inl h) = inl (h true true)
  own_says text (l ∷ ls) (inr h) =
      inr (has_map (IsSaid text) (Tells text) (located_annotation g false true) (λ l it. it false true) ls h)

  -- ---- steps of flows

  in_step : (text : List ℕ) (n : ℕ) → IsPart text (step_row n (Some text))
  in_step text n =
      part_within text (32 ∷ text) (step_row n (Some text)) (part_after text (32 ∷ []))
      (part_after (32 ∷ text) ((codes "(" ++ decimal n) ++ codes ")"))

  abbrev IsStep : List ℕ → Data → Type 0
  IsStep text s = (n : ℕ) → Tells text (step_annotation g n s)

  step_said : (o : Option (List ℕ)) (file : Option Data) (region : Option Data)
      → AllByRecursion (λ text. (n : ℕ) → Tells text (annotation_in_file g (Some (step_row n o)) false false file
      region))
      (maybe_row o)
  step_said None file region = tt
  step_said (Some text) file region =
      ((λ n. member_nonempty_text text (step_row n (Some text)) (in_step text n) false false file region), tt)

  step_tells : (o : Option Data) → AllByRecursion (λ text. (n : ℕ) → Tells text (step_annotation_by g n o))
      (step_texts_by g o)
  step_tells None = tt
  step_tells (Some l) = step_said (nonempty_text (message_in g.strings l)) (file_of g l) (region_of l)

  steps_say : (text : List ℕ) (n : ℕ) (ss : List Data) → Has (IsStep text) ss → Says (step_annotations g n ss) text
  steps_say text n [] h = absurd h
  steps_say text n (s ∷ ss) (inl h) = inl (h n)
  steps_say text n (s ∷ ss) (inr h) = inr (steps_say text (n + 1) ss h)

  thread_says : (t : Data) → AllByRecursion (λ text. Says (thread_annotations g t) text) (thread_texts g t)
  thread_says t =
      let steps = member_objects (codes "locations") t in
      all_each (λ text. Has (IsStep text) steps) (λ text. Says (thread_annotations g t) text)
      (λ text. steps_say text 1 steps) (thread_texts g t)
      (all_flat IsStep (step_texts g) (λ s. step_tells (member_object (codes "location") s)) steps)

  abbrev IsThread : List ℕ → Data → Type 0
  IsThread text t = Says (thread_annotations g t) text

  flow_says : (f : Data) → AllByRecursion (λ text. Says (flow_annotations g f) text) (flow_texts g f)
  flow_says f =
      let threads = member_objects (codes "threadFlows") f in
      all_each (λ text. Has (IsThread text) threads) (λ text. Says (flow_annotations g f) text)
      (λ text. has_flat (IsThread text) (Tells text) (thread_annotations g) (λ t it. it) threads) (flow_texts g f)
      (all_flat IsThread (thread_texts g) thread_says threads)

-- ---- all of them

module _ (g : RunContext) (r : Data) where
  abbrev places : List Data
  places = member_objects (codes "locations") r

  abbrev related : List Data
  related = member_objects (codes "relatedLocations") r

  abbrev flows : List Data
  flows = member_objects (codes "codeFlows") r

  abbrev proposals : List Data
  proposals = member_objects (codes "fixes") r

  abbrev drafts : List SuggestionDraft
  drafts = suggestion_drafts g r

  abbrev telling : FileAnnotations
  telling = result_file_annotations g r

  abbrev told : List Annotation
  told = all_annotations g.files telling

  abbrev says : MessageParts
  says = result_parts g (drafts_help g.files drafts) r

  abbrev whole : Option (List ℕ × Source)
  whole = option_and_then (file_named g.files) (own_whole_file g.files telling)

  abbrev told_own : List Annotation
  told_own = own_annotations g places

  abbrev told_flows : List Annotation
  told_flows = flat_map (flow_annotations g) flows

  abbrev IsFlow : List ℕ → Data → Type 0
  IsFlow text f = Says (flow_annotations g f) text

  abbrev IsFix : List ℕ → Data → Type 0
  IsFix text f = IsProposed g.files text (suggestion_draft g f)

  plain : IfSome whole (λ file. IsUnmarked (label_lists g.files told))
  plain = whole_plain g.files telling

  stands : (text : List ℕ) → Says (result_annotations g r) text → IsInReport (result_in g r) text
  stands text h =
      annotation_over g.files says told drafts text whole plain
      (has_more (Tells text) (result_annotations g r) (flat_map (file_name_annotation (found_file g.files telling))
      telling.bares) h)

  own_stands : (text : List ℕ) → Has (IsSaid g text) places → IsInReport (result_in g r) text
  own_stands text h =
      stands text (has_more (Tells text) (told_own ++ related_annotations g r) told_flows
      (has_more (Tells text) told_own (related_annotations g r) (own_says g text places h)))

  related_stands : (text : List ℕ) → Has (IsSaid g text) related → IsInReport (result_in g r) text
  related_stands text h =
      stands text (has_more (Tells text) (told_own ++ related_annotations g r) told_flows
      (has_after (Tells text) told_own (related_annotations g r)
      (has_map (IsSaid g text) (Tells text) (located_annotation g true false) (λ l it. it true false) related h)))

  flow_stands : (text : List ℕ) → Has (IsFlow text) flows → IsInReport (result_in g r) text
  flow_stands text h =
      stands text (has_after (Tells text) (told_own ++ related_annotations g r) told_flows
      (has_flat (IsFlow text) (Tells text) (flow_annotations g) (λ f it. it) flows h))

  draft_stands : (text : List ℕ) → Has (IsProposed g.files text) drafts → IsInReport (result_in g r) text
  draft_stands text h =
      elim (has_split (IsHelped g.files text) (IsOfferedBy g.files text) drafts h) [
        | inl help ↦
            help_over g.files says told drafts text whole plain
            (row_joined text (fold (with_help g.files) [] drafts) (help_there g.files text drafts [] help))
        | inr offered ↦ offered_over g.files says told drafts text whole plain offered
      ]

  fix_stands : (text : List ℕ) → Has (IsFix text) proposals → IsInReport (result_in g r) text
  fix_stands text h =
      draft_stands text (has_map (IsFix text) (IsProposed g.files text) (suggestion_draft g) (λ f it. it) proposals h)

  pub log_stand : AllByRecursion (IsInReport (result_in g r)) (texts_of g r)
  log_stand =
      all_more (IsInReport (result_in g r)) (flat_map (location_texts g) places)
      (flat_map (location_texts g) related ++ (flat_map (flow_texts g) flows ++ flat_map (fix_texts g) proposals))
      (all_each (λ text. Has (IsSaid g text) places) (IsInReport (result_in g r)) own_stands
      (flat_map (location_texts g) places) (locations_have g places))
      (all_more (IsInReport (result_in g r)) (flat_map (location_texts g) related)
      (flat_map (flow_texts g) flows ++ flat_map (fix_texts g) proposals)
      (all_each (λ text. Has (IsSaid g text) related) (IsInReport (result_in g r)) related_stands
      (flat_map (location_texts g) related) (locations_have g related))
      (all_more (IsInReport (result_in g r)) (flat_map (flow_texts g) flows) (flat_map (fix_texts g) proposals)
      (all_each (λ text. Has (IsFlow text) flows) (IsInReport (result_in g r)) flow_stands
      (flat_map (flow_texts g) flows) (all_flat IsFlow (flow_texts g) (flow_says g) flows))
      (all_each (λ text. Has (IsFix text) proposals) (IsInReport (result_in g r)) fix_stands
      (flat_map (fix_texts g) proposals)
      (all_flat IsFix (fix_texts g) (λ f. draft_proposed g.files (draft_edits g f)
      (option_and_then (message_text g.strings) (member_object (codes "description") f)))
      proposals))))

-- ---- of what the tool says of itself

pub notices_stand : (g : RunContext) (n : Data)
    → AllByRecursion (IsInReport (notification_tree g n)) (flat_map (location_texts g)
    (member_objects (codes "locations") n))
notices_stand g n =
    let places : List Data = member_objects (codes "locations") n in
    let telling : FileAnnotations = notification_file_annotations g n in
    all_each (λ text. Has (IsSaid g text) places) (IsInReport (notification_tree g n))
    (λ text h. annotation_over g.files (notification_parts n) (all_annotations g.files telling) [] text
    (option_and_then (file_named g.files) (own_whole_file g.files telling)) (whole_plain g.files telling)
    (has_more (Tells text) (own_annotations g places) (flat_map (file_name_annotation (found_file g.files telling))
    telling.bares)
    (own_says g text places h))) (flat_map (location_texts g) places) (locations_have g places)
