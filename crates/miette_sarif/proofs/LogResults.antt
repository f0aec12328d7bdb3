-- A log has a result for each printed report, in which its texts stand.
use Rattle.std.proofs.Common.{◌≡◌, ◌⊎◌, ℕ, ◌+◌, List, [], ◌++◌, Option, Some, None, length, map, refl, sym, subst}
use Rattle.std.proofs.Common.{codes}
use Rattle.std.specs.Prelude.{IfSome, unwrap_or}
use Rattle.std.specs.List.{AllByRecursion, AllZip, Contains}
use Rattle.std.proofs.lemmas.List.{map-append}
use Rattle.miette_json.specs.rules.Denotes.{Denotes}
use Rattle.miette_json.specs.rules.Json.{Json}
use Rattle.miette_json.specs.rules.JsonReport.{AreFurther}
use Rattle.miette_protocol.specs.rules.Reading.{Source}
use Rattle.miette_sarif.specs.rules.Artifacts.{Artifacts, all_named, artifacts_in}
use Rattle.miette_sarif.specs.rules.Codes.{Rules, help_uri, rule_value, rules_in as rules_of}
use Rattle.miette_sarif.specs.rules.Findings.{Finding, SnapshotValue}
use Rattle.miette_sarif.specs.rules.FindingList.{all_findings, cause_marks, cause_proposals, cause_refused, finding}
use Rattle.miette_sarif.specs.rules.FindingList.{findings}
use Rattle.miette_sarif.specs.rules.Log.{ToolName, log}
use Rattle.miette_sarif.specs.rules.LogText.{IsLogOf}
use Rattle.miette_sarif.specs.rules.Marks.{SourceLabels, source_labels_of, other_marks, primary_in, further_snapshots}
use Rattle.miette_sarif.specs.rules.Messages.{doubled, maybe_row, row, rows}
use Rattle.miette_sarif.specs.rules.Proposals.{proposals, refused}
use Rattle.miette_sarif.specs.rules.Results.{result_of, see_row}
use Rattle.miette_sarif.specs.rules.SourceSnapshot.{count_causes, count_here, count_in, count_own, snapshot_or}
use Rattle.miette_sarif.specs.rules.SourceAnswers.{AllAnswers, AreAnswers, AreOfCauses, RelatedSourceAnswers}
use Rattle.miette_sarif.specs.rules.SourceAnswers.{SourceAnswers, SourceFaults, no_source_faults}
use Rattle.miette_sarif.specs.rules.Uris.{address_uri}
use Rattle.miette_tree.specs.rules.Answers.{first_answers, later_answers, answer_or, related_answers}
use Rattle.miette_tree.specs.rules.Diagnosis.{Diagnosis}
use Rattle.miette_tree.specs.rules.Tree.{Cause, Tree, Trees, effective, more_trees, no_trees, tree}
use Rattle.miette_sarif.specs.laws.ReportTexts.{Tells, TellsCode, all_printed, printed, results_in, rules_in}
use Rattle.miette_sarif.specs.laws.Values.{StandsIn}
use Rattle.miette_sarif.proofs.Addresses.{rule_there}
use Rattle.miette_sarif.proofs.LogLabels.{all_groups_say}
use Rattle.miette_sarif.proofs.Listed.{results_listed, rules_listed}
use Rattle.miette_sarif.proofs.Lists.{all_split, zip_append}
use Rattle.miette_sarif.proofs.Parts.{part_self}
use Rattle.miette_sarif.proofs.LogPlaces.{IsSeen, RowStands, causes_told as cause_places_told, places_told, seen_own}
use Rattle.miette_sarif.proofs.LogRows.{FixStands, Holds, MarkStands, code_read, fixes_read, in_result_message}
use Rattle.miette_sarif.proofs.LogRows.{left_holds, level_read, marks_read, none_says, primary_read, right_holds}
use Rattle.miette_sarif.proofs.LogRows.{row_stands, rows_stand, url_told}

-- ---- one result

-- the parts of its message
module _ (r : Rules) (a : Artifacts) (f : Finding) where
  after_message : Holds (result_of r a f) (rows (codes "caused by: ") f.causes ++ (maybe_row (codes "help: ") f.help
      ++ (rows (codes "fix: ") f.unapplied ++ see_row (r.uri f.code) f.url)))
  after_message =
      right_holds (result_of r a f) (doubled f.message) (rows (codes "caused by: ") f.causes
      ++ (maybe_row (codes "help: ") f.help ++ (rows (codes "fix: ") f.unapplied ++ see_row (r.uri f.code) f.url)))
      (in_result_message r a f)

  after_causes : Holds (result_of r a f) (maybe_row (codes "help: ") f.help
      ++ (rows (codes "fix: ") f.unapplied ++ see_row (r.uri f.code) f.url))
  after_causes =
      right_holds (result_of r a f) (rows (codes "caused by: ") f.causes) (maybe_row (codes "help: ") f.help
      ++ (rows (codes "fix: ") f.unapplied ++ see_row (r.uri f.code) f.url)) after_message

  after_help : Holds (result_of r a f) (rows (codes "fix: ") f.unapplied ++ see_row (r.uri f.code) f.url)
  after_help =
      right_holds (result_of r a f) (maybe_row (codes "help: ") f.help)
      (rows (codes "fix: ") f.unapplied ++ see_row (r.uri f.code) f.url) after_causes

  message_told : StandsIn (result_of r a f) (doubled f.message)
  message_told =
      left_holds (result_of r a f) (doubled f.message) (rows (codes "caused by: ") f.causes
      ++ (maybe_row (codes "help: ") f.help ++ (rows (codes "fix: ") f.unapplied ++ see_row (r.uri f.code) f.url)))
      (in_result_message r a f) (doubled f.message) (part_self (doubled f.message))

  causes_told : AllByRecursion (λ t. StandsIn (result_of r a f) (row (codes "caused by: ") t)) f.causes
  causes_told =
      rows_stand (result_of r a f) (codes "caused by: ") f.causes
      (left_holds (result_of r a f) (rows (codes "caused by: ") f.causes) (maybe_row (codes "help: ") f.help
      ++ (rows (codes "fix: ") f.unapplied ++ see_row (r.uri f.code) f.url)) after_message)

  help_told : IfSome f.help (λ t. StandsIn (result_of r a f) (row (codes "help: ") t))
  help_told =
      row_stands (result_of r a f) (codes "help: ") f.help
      (left_holds (result_of r a f) (maybe_row (codes "help: ") f.help)
      (rows (codes "fix: ") f.unapplied ++ see_row (r.uri f.code) f.url) after_causes)

  unapplied_told : AllByRecursion (λ t. StandsIn (result_of r a f) (row (codes "fix: ") t)) f.unapplied
  unapplied_told =
      rows_stand (result_of r a f) (codes "fix: ") f.unapplied
      (left_holds (result_of r a f) (rows (codes "fix: ") f.unapplied) (see_row (r.uri f.code) f.url) after_help)

  see_holds : Holds (result_of r a f) (see_row (r.uri f.code) f.url)
  see_holds =
      right_holds (result_of r a f) (rows (codes "fix: ") f.unapplied) (see_row (r.uri f.code) f.url) after_help

code_told : (v : Json) (o : Option (List ℕ)) → TellsCode v (unwrap_or o []) → IfSome o (TellsCode v)
code_told v None h = tt
code_told v (Some code) h = h

seen_url : (v : Json) (listed_rules : List Json) (code : List ℕ) (uri o : Option (List ℕ))
    → IfSome uri (λ u. Contains listed_rules (rule_value code (Some u))) → Holds v (see_row uri o)
    → IfSome o (λ url. StandsIn v (row (codes "see: ") url)
    ⊎ Contains listed_rules (rule_value code (Some (address_uri url))))
seen_url v listed_rules code uri None known up = tt
seen_url v listed_rules code uri (Some url) known up = url_told v listed_rules code uri url known up

-- the address of a rule of these findings is listed in a log
abbrev Known : Json → List Finding → Type 0
Known v fs =
    (code uri : List ℕ) → help_uri code fs ≡ Some uri → Contains (rules_in v) (rule_value code (Some uri))

known_at : (v : Json) (fs : List Finding) (code : List ℕ) (o : Option (List ℕ)) → Known v fs → help_uri code fs ≡ o
    → IfSome o (λ uri. Contains (rules_in v) (rule_value code (Some uri)))
known_at v fs code None known e = tt
known_at v fs code (Some uri) known e = known code uri e

finding_told : (v : Json) (fs : List Finding) (a : Artifacts) → Known v fs → (outer s : Option Source)
    (over : Option SnapshotValue) (faults : SourceFaults) (n : ℕ) (m : Diagnosis) (c : Cause) (ts : Trees)
    → IsSeen (effective s outer) over → AreFurther faults.report.further m.snippets → AreOfCauses faults.causes c
    → Tells v (record { source = effective s outer; report = tree m s c ts })
    (result_of (rules_of fs) a (finding over faults n m c))
finding_told v fs a known outer s over faults n m c ts is may causes =
    let r : Rules = rules_of fs in
    let f : Finding = finding over faults n m c in
    let result : Json = result_of r a f in
    let later : ℕ = n + length m.snippets in
    let code : List ℕ = unwrap_or m.code [] in
    let gs : List SourceLabels = source_labels_of over (further_snapshots faults.report.further n m.snippets) m in
    let locations = all_split (MarkStands result a) (other_marks (primary_in gs) gs)
    (cause_marks over faults.causes later c) (marks_read r a f) in
    let applied = all_split (FixStands result a) (proposals over m.fixes)
    (cause_proposals over faults.causes later c) (fixes_read r a f) in
    let others = all_split (RowStands result) (refused over m.fixes) (cause_refused over faults.causes later c)
    (unapplied_told r a f) in
    let groups = all_groups_say (MarkStands result a) over gs (none_says r a f) (primary_read r a f) locations.0 in
    record {
      severity = level_read r a f;
      code = code_told result m.code (code_read r a f);
      message = message_told r a f;
      causes = causes_told r a f;
      help = help_told r a f;
      url = seen_url result (rules_in v) code (help_uri code fs) m.url
          (known_at v fs code (help_uri code fs) known refl) (see_holds r a f);
      places = places_told result a (effective s outer) over faults.report.further n m is may groups applied.0
          others.0;
      cause_places = cause_places_told result a (effective s outer) over faults.causes later c (none_says r a f) is
          causes locations.1 applied.1 others.1;
    }

-- ---- all results

mutual
  tree_told : (v : Json) (fs : List Finding) (a : Artifacts) → Known v fs → (n : ℕ) (outer : Option Source)
      (inherited : Option SnapshotValue) (answers : SourceAnswers) (t : Tree) → IsSeen outer inherited
      → AreAnswers answers t
      → AllZip (Tells v) (printed outer t) (map (result_of (rules_of fs) a) (findings n inherited answers t))
  tree_told v fs a known n outer inherited answers (tree m s c r) is may =
      let faults : SourceFaults = answer_or no_source_faults answers in
      let over : Option SnapshotValue = snapshot_or faults.report.own n s inherited in
      let seen_here : IsSeen (effective s outer) over =
      seen_own s outer faults.report.own n inherited may.0.0 is in (
        finding_told v fs a known outer s over faults (n + count_own s) m c r seen_here may.0.1 may.1,
        trees_told v fs a known (n + count_here s m.snippets + count_causes c) (effective s outer) over
            (related_answers answers) r seen_here may.2,
      )

  trees_told : (v : Json) (fs : List Finding) (a : Artifacts) → Known v fs → (n : ℕ) (outer : Option Source)
      (inherited : Option SnapshotValue) (answers : RelatedSourceAnswers) (ts : Trees) → IsSeen outer inherited
      → AllAnswers answers ts
      → AllZip (Tells v) (all_printed outer ts) (map (result_of (rules_of fs) a) (all_findings n inherited answers ts))
  trees_told v fs a known n outer inherited answers no_trees is may = tt
  trees_told v fs a known n outer inherited answers (more_trees t ts) is may =
      let first : List Finding = findings n inherited (first_answers answers) t in
      let more : List Finding = all_findings (n + count_in t) inherited (later_answers answers) ts in
      subst (AllZip (Tells v) (printed outer t ++ all_printed outer ts))
      (sym (map-append (result_of (rules_of fs) a) first more))
      (zip_append (Tells v) (printed outer t) (all_printed outer ts) (map (result_of (rules_of fs) a) first)
      (map (result_of (rules_of fs) a) more)
      (tree_told v fs a known n outer inherited (first_answers answers) t is may.0)
      (trees_told v fs a known (n + count_in t) outer inherited (later_answers answers) ts is may.1))

known_listed : (tool : ToolName) (fs : List Finding) → Known (log tool fs) fs
known_listed tool fs code uri e =
    subst (λ (rules : List Json). Contains rules (rule_value code (Some uri))) (sym (rules_listed tool fs))
    (rule_there code fs uri e)

pub log_told : (tool : ToolName) (ts : Trees) (bytes : List ℕ) (v : Json) → IsLogOf tool ts bytes → Denotes bytes v
    → AllZip (Tells v) (all_printed None ts) (results_in v)
log_told tool ts bytes v h denotes =
    let fs : List Finding = h.findings in
    let a : Artifacts = artifacts_in (all_named fs) in
    let told = trees_told (log tool fs) fs a (known_listed tool fs) 0 None None h.found.answers ts tt
    h.found.possible in
    let all : AllZip (Tells (log tool fs)) (all_printed None ts) (map (result_of (rules_of fs) a) fs) =
    subst (λ (gs : List Finding).
    AllZip (Tells (log tool fs)) (all_printed None ts) (map (result_of (rules_of fs) a) gs)) (sym h.found.are) told in
    let listed : AllZip (Tells (log tool fs)) (all_printed None ts) (results_in (log tool fs)) =
    subst (AllZip (Tells (log tool fs)) (all_printed None ts)) (sym (results_listed tool fs)) all in
    subst (λ (w : Json). AllZip (Tells w) (all_printed None ts) (results_in w)) (sym (h.only v denotes)) listed
