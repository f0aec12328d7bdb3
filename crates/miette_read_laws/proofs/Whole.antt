-- A log reads back as one report of each finding.
use Rattle.std.proofs.Common.{◌≡◌, ℕ, List, [], ◌∷◌, ◌++◌, Option, Some, None, map, refl, ap, ◌∙◌, append-nil, codes}
use Rattle.std.proofs.Common.{filter, is_some, option_and_then, true, unwrap_or}
use Rattle.std.specs.Prelude.{◌&&◌, if◌then◌else◌, nat_eq}
use Rattle.std.specs.List.{AllByRecursion, flat_map, starts_with}
use Rattle.serde_json.specs.Data.{Data, string}
use Rattle.serde_json.specs.Find.{as_array, as_str, get}
use Rattle.miette_json.specs.rules.Json as json
use Rattle.miette_json.specs.rules.Json.{Json}
use Rattle.miette_protocol.specs.rules.Reading.{Source}
use Rattle.miette_read.specs.rules.Members.{member_objects}
use Rattle.miette_read.specs.rules.Reports.{MessageParts}
use Rattle.miette_read.proofs.Holding.{Has, Is, all_each, all_there, has_each}
use Rattle.miette_sarif.specs.rules.Artifacts.{Artifacts, all_named, artifact_values, artifacts_in}
use Rattle.miette_sarif.specs.rules.Codes.{Rules, rules_in}
use Rattle.miette_sarif.specs.rules.Findings.{Finding}
use Rattle.miette_sarif.specs.rules.Log.{ToolName, log, run, schema}
use Rattle.miette_sarif.specs.rules.Objects.{Pairs, array_of, pair}
use Rattle.miette_sarif.specs.rules.Places.{primary_locations, related_from}
use Rattle.miette_sarif.specs.rules.Results.{sarif_fix_values, result_message_text, result_of, results}
use Rattle.miette_read_sarif.specs.rules.Counting.{is_counted, results_of}
use Rattle.miette_read_sarif.specs.rules.Logs.{run_context_of, has_sarif_runs, notification_tree, result_tree}
use Rattle.miette_read_sarif.specs.rules.Logs.{run_trees, sarif_trees}
use Rattle.miette_read_sarif.specs.rules.Proposals.{SuggestionDraft, suggestion_drafts, drafts_help}
use Rattle.miette_read_sarif.specs.rules.Results.{RunContext, result_context, result_parts}
use Rattle.miette_read_sarif.specs.rules.Wholes.{FileAnnotations, result_file_annotations, file_annotations_tree}
use Rattle.miette_read_laws.specs.laws.Data.{data_of}
use Rattle.miette_read_laws.specs.laws.Files.{AreFindingsOver, IsFindingOver}
use Rattle.miette_read_laws.specs.laws.Kept.{fixes_kept, message_rows, report_kept, report_with, parts_kept}
use Rattle.miette_read_laws.specs.laws.Kept.{annotations_kept}
use Rattle.miette_read_laws.specs.laws.Links.{without_links}
use Rattle.miette_read_laws.proofs.Counted.{all_count, no_notices}
use Rattle.miette_read_laws.proofs.Drafts.{drafts_read}
use Rattle.miette_read_laws.proofs.RunContext.{found, ground_read, log_context, results_read}
use Rattle.miette_read_laws.proofs.Objects.{all_objects, object_read, objects_listed}
use Rattle.miette_read_laws.proofs.Rules.{HasCode}
use Rattle.miette_read_laws.proofs.MessageParts.{said_read, same_ground}
use Rattle.miette_read_laws.proofs.Texts.{rows_shown}
use Rattle.miette_read_laws.proofs.Annotation.{telling_read}

module _ (files : List ℕ → Option Source) (tool : ToolName) (fs : List Finding) where
  abbrev r : Rules
  r = rules_in fs

  abbrev a : Artifacts
  a = artifacts_in (all_named fs)

  abbrev run_results : List Json
  run_results = results r a fs

  abbrev listed_artifacts : List Data
  listed_artifacts = found tool r run_results (artifact_values a)

  abbrev g : RunContext
  g = log_context files r listed_artifacts

  abbrev first : RunContext
  first = run_context_of files (data_of (run tool fs))

  abbrev d : Finding → Data
  d f = data_of (result_of r a f)

  run_ground : first ≡ g
  run_ground = ground_read tool r run_results files (artifact_values a)

  -- ---- one result

  module _ (f : Finding) (h : HasCode f.code fs) where
    abbrev ls : List Json
    ls = primary_locations a f.primary

    abbrev rs : List Json
    rs = related_from a 1 f.locations

    abbrev xs : List Json
    xs = sarif_fix_values a f.fixes

    own_ground : result_context first (d f) ≡ g
    own_ground =
        ap (λ it. result_context it (d f)) run_ground
        ∙ same_ground files listed_artifacts fs f.level (result_message_text r f) ls rs xs f.code h

    pub one_said : (help : Option (List ℕ)) → result_parts (result_context first (d f)) help (d f)
        ≡ parts_kept fs help f
    one_said help =
        ap (λ it. result_parts it help (d f)) own_ground
        ∙ said_read files listed_artifacts fs f.level (result_message_text r f) ls rs xs help f.code
        (without_links (message_rows r f)) h (rows_shown None r f)

    pub one_told : IsFindingOver files a f → result_file_annotations (result_context first (d f)) (d f)
        ≡ annotations_kept files a f
    one_told over =
        ap (λ it. result_file_annotations it (d f)) own_ground
        ∙ telling_read files r listed_artifacts a f.level (result_message_text r f) xs f.code f.primary f.locations
        over.primary
        over.marks

    pub one_drafted : IsFindingOver files a f → suggestion_drafts (result_context first (d f)) (d f)
        ≡ fixes_kept files a f
    one_drafted over =
        ap (λ it. suggestion_drafts it (d f)) own_ground
        ∙ drafts_read files r listed_artifacts a f.level (result_message_text r f) ls rs f.code f.fixes over.fixes

    pub one_read : IsFindingOver files a f → result_tree first (d f) ≡ report_with files fs a (fixes_kept files a f) f
    one_read over =
        let k : RunContext = result_context first (d f) in
        let kept : List SuggestionDraft = fixes_kept files a f in
        let telling : FileAnnotations = result_file_annotations k (d f) in
        ap (λ (drafts : List SuggestionDraft). file_annotations_tree files
        (result_parts k (drafts_help files drafts) (d f)) telling drafts)
        (one_drafted over)
        ∙ (ap (λ (it : FileAnnotations). file_annotations_tree files (result_parts k (drafts_help files kept) (d f)) it
        kept) (one_told over)
        ∙ ap (λ (said : MessageParts). file_annotations_tree files said (annotations_kept files a f) kept)
        (one_said (drafts_help files kept)))

  -- ---- all of them

  coded : AllByRecursion (λ (f : Finding). HasCode f.code fs) fs
  coded =
      all_each (λ (f : Finding). Has (Is f) fs) (λ (f : Finding). HasCode f.code fs)
      (λ f h. has_each (Is f) (λ (it : Finding). it.code ≡ f.code) (λ it e. ap (λ (x : Finding). x.code) e) fs h) fs
      (all_there fs)

  all_by : (gs : List Finding) → AllByRecursion (λ (f : Finding). HasCode f.code fs) gs
      → AllByRecursion (IsFindingOver files a) gs
      → map (result_tree first) (map data_of (results r a gs))
      ≡ map (λ f. report_with files fs a (fixes_kept files a f) f) gs
  all_by [] h over = refl
  all_by (f ∷ gs) h over =
      ap (λ t. t ∷ map (result_tree first) (map data_of (results r a gs))) (one_read f h.0 over.0)
      ∙ ap (λ ts. report_with files fs a (fixes_kept files a f) f ∷ ts) (all_by gs h.1 over.1)

  run_read : AreFindingsOver files fs → run_trees files (data_of (run tool fs)) ≡ map (report_kept files fs) fs
  run_read over =
      let d : Data = data_of (run tool fs) in
      ap (λ ns. map (notification_tree first) ns ++ map (result_tree first) (results_of d))
      (no_notices tool r run_results (artifact_values a))
      ∙ (ap (λ ds. map (result_tree first) (filter is_counted ds)) (objects_listed (codes "results") d run_results
      (results_read tool r run_results (artifact_values a)) (all_objects (result_of r a) (λ f. refl) fs))
      ∙ (ap (map (result_tree first)) (all_count r a fs) ∙ all_by fs coded over))

  -- ---- the log

  abbrev log_pairs : Pairs
  log_pairs = pair (codes "$schema") (json.string schema) ++ (pair (codes "version") (json.string (codes "2.1.0"))
      ++ pair (codes "runs") (array_of (run tool fs ∷ [])))

  runs_read : get (codes "runs") (data_of (log tool fs)) ≡ Some (data_of (array_of (run tool fs ∷ [])))
  runs_read = object_read (codes "runs") log_pairs

  version_read : get (codes "version") (data_of (log tool fs)) ≡ Some (string (codes "2.1.0"))
  version_read = object_read (codes "version") log_pairs

  has_both : has_sarif_runs (data_of (log tool fs)) ≡ true
  has_both =
      ap (λ o. starts_with nat_eq (unwrap_or (option_and_then as_str o) (codes "2.1")) (codes "2.1")
      && is_some (option_and_then as_array (get (codes "runs") (data_of (log tool fs))))) version_read
      ∙ ap (λ o. is_some (option_and_then as_array o)) runs_read

  pub log_read : AreFindingsOver files fs
      → sarif_trees files (data_of (log tool fs)) ≡ Some (map (report_kept files fs) fs)
  log_read over =
      let runs : List Data = member_objects (codes "runs") (data_of (log tool fs)) in
      ap (λ b. if b then Some (flat_map (run_trees files) runs) else None) has_both
      ∙ (ap (λ ds. Some (flat_map (run_trees files) ds)) (objects_listed (codes "runs") (data_of (log tool fs))
      (run tool fs ∷ []) runs_read (refl, tt))
      ∙ (ap (λ ts. Some ts) (append-nil (run_trees files (data_of (run tool fs))) ∙ run_read over)))

  -- ---- clauses

  said_all : (gs : List Finding) → AllByRecursion (λ (f : Finding). HasCode f.code fs) gs
      → AllByRecursion (λ f. (help : Option (List ℕ)) → result_parts (result_context first (d f)) help (d f)
      ≡ parts_kept fs help f) gs
  said_all [] h = tt
  said_all (f ∷ gs) h = (one_said f h.0, said_all gs h.1)

  told_all : (gs : List Finding) → AllByRecursion (λ (f : Finding). HasCode f.code fs) gs
      → AllByRecursion (IsFindingOver files a) gs
      → AllByRecursion (λ f. result_file_annotations (result_context first (d f)) (d f) ≡ annotations_kept files a f) gs
  told_all [] h over = tt
  told_all (f ∷ gs) h over = (one_told f h.0 over.0, told_all gs h.1 over.1)

  drafted_all : (gs : List Finding) → AllByRecursion (λ (f : Finding). HasCode f.code fs) gs
      → AllByRecursion (IsFindingOver files a) gs
      → AllByRecursion (λ f. suggestion_drafts (result_context first (d f)) (d f) ≡ fixes_kept files a f) gs
  drafted_all [] h over = tt
  drafted_all (f ∷ gs) h over = (one_drafted f h.0 over.0, drafted_all gs h.1 over.1)

  pub all_said : AllByRecursion (λ f. (help : Option (List ℕ)) → result_parts (result_context first (d f)) help (d f)
      ≡ parts_kept fs help f) fs
  all_said = said_all fs coded

  pub all_told : AreFindingsOver files fs
      → AllByRecursion (λ f. result_file_annotations (result_context first (d f)) (d f) ≡ annotations_kept files a f) fs
  all_told over = told_all fs coded over

  pub all_drafted : AreFindingsOver files fs
      → AllByRecursion (λ f. suggestion_drafts (result_context first (d f)) (d f) ≡ fixes_kept files a f) fs
  all_drafted over = drafted_all fs coded over
