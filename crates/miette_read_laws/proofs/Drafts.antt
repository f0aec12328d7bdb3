-- What a result proposes.
use Rattle.std.proofs.Common.{◌≡◌, ℕ, List, [], ◌∷◌, ◌++◌, Bool, true, false, Option, None, IfSome, map, refl, ap}
use Rattle.std.proofs.Common.{◌∙◌, sym, subst, append-nil, codes, option_and_then, unwrap_or}
use Rattle.std.specs.Prelude.{if◌then◌else◌}
use Rattle.std.specs.List.{AllByRecursion, flat_map, list_any}
use Rattle.std.specs.Str.{bytes_eq}
use Rattle.indexmap.specs.IndexSet.{insert_key}
use Rattle.serde_json.specs.Data.{Data}
use Rattle.serde_json.specs.Find.{as_str}
use Rattle.miette_json.specs.rules.Json.{Json, json_text}
use Rattle.miette_protocol.specs.rules.Reading.{Source}
use Rattle.miette_read.specs.rules.Members.{member_object, objects_alone, nonempty_text, member_text}
use Rattle.miette_read.specs.rules.Places.{ToolLocation}
use Rattle.miette_sarif.specs.rules.Artifacts.{Artifacts}
use Rattle.miette_sarif.specs.rules.Codes.{Rules}
use Rattle.miette_sarif.specs.rules.Findings.{ApplicableFix, ReplacementValue}
use Rattle.miette_sarif.specs.rules.Objects.{object_of}
use Rattle.miette_sarif.specs.rules.Places.{line_pairs}
use Rattle.miette_sarif.specs.rules.Results.{change, first_values, sarif_fix_value, sarif_fix_values, replacement}
use Rattle.miette_read_sarif.specs.rules.Proposals.{change_edits, change_name, description, draft_with_message}
use Rattle.miette_read_sarif.specs.rules.Proposals.{suggestion_draft}
use Rattle.miette_read_sarif.specs.rules.Proposals.{suggestion_drafts}
use Rattle.miette_read_sarif.specs.rules.Proposals.{draft_edits, named, inserted_content, region_location_or_none}
use Rattle.miette_read_sarif.specs.rules.Proposals.{replacement_in}
use Rattle.miette_read_sarif.specs.rules.Results.{RunContext, message_text, region_location}
use Rattle.miette_read_laws.specs.laws.Data.{data_of}
use Rattle.miette_read_laws.specs.laws.Files.{IsFixOver}
use Rattle.miette_read_laws.specs.laws.Kept.{edit_kept, file_name, first_fixes, fix_kept, location_kept}
use Rattle.miette_read_laws.specs.laws.Kept.{words}
use Rattle.miette_read_laws.specs.laws.RegionsBack.{IsIn}
use Rattle.miette_read_laws.proofs.RunContext.{log_context}
use Rattle.miette_read_laws.proofs.Members.{changed_read, changes_read, deleted_read, description_read}
use Rattle.miette_read_laws.proofs.Members.{fixes_read}
use Rattle.miette_read_laws.proofs.Members.{inserted_read, inserted_value, lines_alone, own_text_read}
use Rattle.miette_read_laws.proofs.Members.{replacements_read, result_by}
use Rattle.miette_read_laws.proofs.Objects.{IsObject, all_objects, objects_in, objects_listed}
use Rattle.miette_read_laws.proofs.LogPlaces.{file_read, name_read, place_read}
use Rattle.miette_read_laws.proofs.Texts.{text_shown}

-- ---- of equal ones the first

values_by : (a : Artifacts) (fix : ApplicableFix) (vs : List Json) (fixes : List ApplicableFix) (b : Bool)
    → vs ≡ map (sarif_fix_value a) fixes
    → (if b then [] else sarif_fix_value a fix ∷ []) ++ vs ≡ map (sarif_fix_value a)
    ((if b then [] else fix ∷ []) ++ fixes)
values_by a fix vs fixes true e = e
values_by a fix vs fixes false e = ap (λ us. sarif_fix_value a fix ∷ us) e

values_first : (a : Artifacts) (before : List (List ℕ)) (fixes : List ApplicableFix)
    → first_values before (map (sarif_fix_value a) fixes) ≡ map (sarif_fix_value a) (first_fixes a before fixes)
values_first a before [] = refl
values_first a before (fix ∷ fixes) =
    let text : List ℕ = json_text (sarif_fix_value a fix) in
    let after : List (List ℕ) = insert_key bytes_eq before text in
    values_by a fix (first_values after (map (sarif_fix_value a) fixes)) (first_fixes a after fixes)
    (list_any (bytes_eq text) before) (values_first a after fixes)

-- what holds of each fix holds of those that are kept
kept_by : (P : ApplicableFix → Type 0) (fix : ApplicableFix) (fixes : List ApplicableFix) (b : Bool) → P fix
    → AllByRecursion P fixes
    → AllByRecursion P ((if b then [] else fix ∷ []) ++ fixes)
kept_by P fix fixes true p h = h
kept_by P fix fixes false p h = (p, h)

kept_hold : (P : ApplicableFix → Type 0) (a : Artifacts) (before : List (List ℕ)) (fixes : List ApplicableFix)
    → AllByRecursion P fixes → AllByRecursion P (first_fixes a before fixes)
kept_hold P a before [] h = tt
kept_hold P a before (fix ∷ fixes) h =
    let text : List ℕ = json_text (sarif_fix_value a fix) in
    let after : List (List ℕ) = insert_key bytes_eq before text in
    kept_by P fix (first_fixes a after fixes) (list_any (bytes_eq text) before) h.0 (kept_hold P a after fixes h.1)

module _ (files : List ℕ → Option Source) (r : Rules) (artifacts : List Data) (a : Artifacts) where
  abbrev g : RunContext
  g = log_context files r artifacts

  -- ---- edits

  text_by : (text : List ℕ)
      → unwrap_or (option_and_then (member_text (codes "text")) (option_and_then objects_alone (inserted_value text)))
      []
      ≡ text
  text_by [] = refl
  text_by (c ∷ cs) = ap (λ o. unwrap_or (option_and_then as_str o) []) (own_text_read (c ∷ cs))

  text_read : (it : ReplacementValue) → inserted_content (data_of (replacement it)) ≡ it.text
  text_read it =
      ap (λ o. unwrap_or (option_and_then (member_text (codes "text")) (option_and_then objects_alone o)) [])
      (inserted_read it)
      ∙ text_by it.text

  deleted_placed : (name : List ℕ) (it : ReplacementValue)
      → region_location_or_none g name (member_object (codes "deletedRegion") (data_of (replacement it)))
      ≡ region_location g name (data_of (object_of (line_pairs it.deleted)))
  deleted_placed name it = ap (λ o. region_location_or_none g name (option_and_then objects_alone o)) (deleted_read it)

  edit_read : (name : List ℕ) (it : ReplacementValue) → IfSome (files name) (λ source. IsIn source.bytes it.deleted)
      → replacement_in g name (data_of (replacement it)) ≡ edit_kept files name it
  edit_read name it over =
      let d : Data = data_of (object_of (line_pairs it.deleted)) in
      ap (λ (p : ToolLocation). (p, inserted_content (data_of (replacement it))))
      (deleted_placed name it ∙ place_read d it.deleted (lines_alone it.deleted) files r artifacts name over)
      ∙ ap (λ (text : List ℕ). (location_kept files name it.deleted, text)) (text_read it)

  edits_read : (name : List ℕ) (its : List ReplacementValue)
      → AllByRecursion (λ (it : ReplacementValue). IfSome (files name) (λ source. IsIn source.bytes it.deleted)) its
      → map (replacement_in g name) (map data_of (map replacement its)) ≡ map (edit_kept files name) its
  edits_read name [] over = refl
  edits_read name (it ∷ its) over =
      ap (λ e. e ∷ map (replacement_in g name) (map data_of (map replacement its))) (edit_read name it over.0)
      ∙ ap (λ es. edit_kept files name it ∷ es) (edits_read name its over.1)

  -- ---- a fix

  change_named : (fix : ApplicableFix) → change_name g (data_of (change a fix)) ≡ file_name a fix.source
  change_named fix =
      ap (named None) (file_read files r artifacts a (data_of (change a fix)) fix.source (changed_read a fix))
      ∙ name_read a fix.source

  change_read : (fix : ApplicableFix) → IsFixOver files a fix → change_edits g (data_of (change a fix))
      ≡ map (edit_kept files (file_name a fix.source)) fix.replacements
  change_read fix over =
      let d : Data = data_of (change a fix) in
      ap (map (replacement_in g (change_name g d))) (objects_listed (codes "replacements") d
      (map replacement fix.replacements) (replacements_read a fix)
      (all_objects replacement (λ it. refl) fix.replacements))
      ∙ (ap (λ name. map (replacement_in g name) (map data_of (map replacement fix.replacements))) (change_named fix)
      ∙ edits_read (file_name a fix.source) fix.replacements over)

  all_edits : (fix : ApplicableFix) → IsFixOver files a fix → draft_edits g (data_of (sarif_fix_value a fix))
      ≡ map (edit_kept files (file_name a fix.source)) fix.replacements
  all_edits fix over =
      ap (flat_map (change_edits g)) (objects_in (codes "artifactChanges") (data_of (sarif_fix_value a fix))
      (change a fix ∷ []) (changes_read a fix) (refl, tt))
      ∙ (append-nil (change_edits g (data_of (change a fix))) ∙ change_read fix over)

  described : (fix : ApplicableFix) → description None (data_of (sarif_fix_value a fix)) ≡ words fix.message
  described fix =
      ap (λ o. nonempty_text (option_and_then (message_text None) (option_and_then objects_alone o)))
      (description_read a fix)
      ∙ ap nonempty_text (text_shown None fix.message)

  fix_read : (fix : ApplicableFix) → IsFixOver files a fix → suggestion_draft g (data_of (sarif_fix_value a fix))
      ≡ fix_kept files a fix
  fix_read fix over =
      ap (λ o. draft_with_message o (draft_edits g (data_of (sarif_fix_value a fix)))) (described fix)
      ∙ ap (draft_with_message (words fix.message)) (all_edits fix over)

  fixes_drafted : (fixes : List ApplicableFix) → AllByRecursion (IsFixOver files a) fixes
      → map (suggestion_draft g) (map data_of (map (sarif_fix_value a) fixes)) ≡ map (fix_kept files a) fixes
  fixes_drafted [] over = refl
  fixes_drafted (fix ∷ fixes) over =
      ap (λ d. d ∷ map (suggestion_draft g) (map data_of (map (sarif_fix_value a) fixes))) (fix_read fix over.0)
      ∙ ap (λ ds. fix_kept files a fix ∷ ds) (fixes_drafted fixes over.1)

  -- ---- all of them

  all_drafted : (fixes : List ApplicableFix) → AllByRecursion (IsFixOver files a) fixes
      → map (suggestion_draft g) (map data_of (sarif_fix_values a fixes))
      ≡ map (fix_kept files a) (first_fixes a [] fixes)
  all_drafted fixes over =
      ap (λ vs. map (suggestion_draft g) (map data_of vs)) (values_first a [] fixes)
      ∙ fixes_drafted (first_fixes a [] fixes) (kept_hold (IsFixOver files a) a [] fixes over)

  objects_first : (fixes : List ApplicableFix) → AllByRecursion IsObject (sarif_fix_values a fixes)
  objects_first fixes =
      subst (AllByRecursion IsObject) (sym (values_first a [] fixes))
      (all_objects (sarif_fix_value a) (λ fix. refl) (first_fixes a [] fixes))

  pub drafts_read : (level text : List ℕ) (ls rs : List Json) (code : List ℕ) (fixes : List ApplicableFix)
      → AllByRecursion (IsFixOver files a) fixes
      → suggestion_drafts g (result_by r level text ls rs (sarif_fix_values a fixes) code)
      ≡ map (fix_kept files a) (first_fixes a [] fixes)
  drafts_read level text ls rs code fixes over =
      let d : Data = result_by r level text ls rs (sarif_fix_values a fixes) code in
      ap (map (suggestion_draft g)) (objects_in (codes "fixes") d (sarif_fix_values a fixes)
      (fixes_read r level text ls rs (sarif_fix_values a fixes) code) (objects_first fixes))
      ∙ all_drafted fixes over
