-- The findings of reports are over files that have the texts of their sources.
use Rattle.std.proofs.Common.{◌≡◌, ℕ, ◌+◌, Bool, true, false, List, [], ◌∷◌, ◌++◌, Option, Some, None, IfSome, ap}
use Rattle.std.proofs.Common.{sym, subst, ◌∙◌, codes, length, unwrap_or, decimal, nat_eq}
use Rattle.std.specs.List.{AllByRecursion}
use Rattle.miette_json.specs.rules.JsonReport.{first_fault, later_faults}
use Rattle.miette_protocol.specs.rules.Reading.{Source}
use Rattle.miette_read.specs.rules.Members.{nonempty_text}
use Rattle.miette_sarif.specs.rules.Artifacts.{Artifacts, all_named, artifacts_in, index_of}
use Rattle.miette_sarif.specs.rules.Findings.{Finding, SnapshotValue}
use Rattle.miette_sarif.specs.rules.FindingList.{AreFindingsOf, all_findings, cause_marks, cause_proposals, finding}
use Rattle.miette_sarif.specs.rules.FindingList.{findings}
use Rattle.miette_sarif.specs.rules.Marks.{SourceLabels, further_groups, source_labels_of, marks_of, other_marks}
use Rattle.miette_sarif.specs.rules.Marks.{primary_in}
use Rattle.miette_sarif.specs.rules.Marks.{further_snapshots}
use Rattle.miette_sarif.specs.rules.Proposals.{proposals}
use Rattle.miette_sarif.specs.rules.SourceSnapshot.{count_causes, count_here, count_in, count_own, seen, snapshot_or}
use Rattle.miette_sarif.specs.rules.SourceAnswers.{Faults, RelatedSourceAnswers, SourceAnswers, SourceFaults}
use Rattle.miette_sarif.specs.rules.SourceAnswers.{first_faults}
use Rattle.miette_sarif.specs.rules.SourceAnswers.{later_causes, no_source_faults}
use Rattle.miette_sarif.specs.rules.Uris.{name_uri}
use Rattle.miette_read_sarif.specs.rules.Uris.{uri_file_name}
use Rattle.miette_tree.specs.rules.Answers.{first_answers, later_answers, answer_or, related_answers}
use Rattle.miette_tree.specs.rules.Diagnosis.{Diagnosis, Section}
use Rattle.miette_tree.specs.rules.Tree.{Cause, Tree, Trees, diagnostic, more_trees, no_trees, texts, tree}
use Rattle.miette_read_laws.specs.laws.Files.{AreFindingsOver, IsFindingOver, IsFixOver, IsMarkOver}
use Rattle.miette_read_laws.specs.laws.Kept.{file_name}
use Rattle.miette_read_laws.specs.laws.Sources.{AllOfCauses, AllSources, AreFilesOf, EachOfAll, HasText}
use Rattle.miette_read_laws.proofs.NamesBack.{untitled_back}
use Rattle.miette_read_laws.proofs.Over.{IsGroupThere, IsThere, all_more, fixes_are, groups_are, others_are}
use Rattle.miette_read_laws.proofs.Over.{primary_is, primary_over}

module _ (files : List ℕ → Option Source) (a : Artifacts)
    (none : (k : ℕ) → files (codes "untitled:" ++ decimal k) ≡ None) where
  -- ---- sources

  abbrev Reads : List ℕ → List ℕ → Type 0
  Reads name bytes = IfSome (files name) (λ (file : Source). file.bytes ≡ bytes)

  untitled_reads : (bytes : List ℕ) (k : ℕ) → Reads (uri_file_name (codes "untitled:" ++ decimal k)) bytes
  untitled_reads bytes k =
      subst (λ (o : Option Source). IfSome o (λ (file : Source). file.bytes ≡ bytes))
      (sym (ap files (untitled_back k) ∙ none k)) tt

  named_reads : (name : Option (List ℕ)) (bytes : List ℕ) (n : ℕ)
      → IfSome (nonempty_text name) (λ it. Reads (uri_file_name (name_uri it)) bytes)
      → Reads (file_name a (record { name = unwrap_or name []; number = n })) bytes
  named_reads None bytes n h = untitled_reads bytes (index_of (nat_eq n) a.untitled + 1)
  named_reads (Some []) bytes n h = untitled_reads bytes (index_of (nat_eq n) a.untitled + 1)
  named_reads (Some (c ∷ cs)) bytes n h = h

  seen_there : (fault : Bool) (n : ℕ) (s : Source) → HasText files s → IsThere files a (seen fault n s)
  seen_there true n s h = tt
  seen_there false n s h = named_reads s.name s.bytes n h

  own_there : (fault : Bool) (n : ℕ) (own : Option Source) (inherited : Option SnapshotValue)
      → IfSome own (HasText files) → IfSome inherited (IsThere files a)
      → IfSome (snapshot_or fault n own inherited) (IsThere files a)
  own_there fault n None inherited h g = g
  own_there fault n (Some s) inherited h g = seen_there fault n s h

  further_there : (faults : List Bool) (n : ℕ) (ss : List Section)
      → AllByRecursion (λ (section : Section). HasText files section.source) ss
      → AllByRecursion (IsGroupThere files a) (further_groups (further_snapshots faults n ss) ss)
  further_there faults n [] h = tt
  further_there faults n (s ∷ ss) h =
      (seen_there (first_fault faults) n s.source h.0, further_there (later_faults faults) (n + 1) ss h.1)

  groups_there : (over : Option SnapshotValue) (faults : List Bool) (n : ℕ) (m : Diagnosis)
      → IfSome over (IsThere files a) → AllByRecursion (λ (section : Section). HasText files section.source) m.snippets
      → AllByRecursion (IsGroupThere files a) (source_labels_of over (further_snapshots faults n m.snippets) m)
  groups_there over faults n m h g = (h, further_there faults n m.snippets g)

  -- ---- causes

  causes_marked : (over : Option SnapshotValue) (faults : List Faults) (n : ℕ) (c : Cause)
      → IfSome over (IsThere files a) → AllOfCauses (HasText files) c
      → AllByRecursion (IsMarkOver files a) (cause_marks over faults n c)
  causes_marked over faults n (texts ts) h g = tt
  causes_marked over faults n (diagnostic (tree m s c r)) h g =
      let own : Option SnapshotValue = snapshot_or (first_faults faults).own n s over in
      let further : List SnapshotValue = further_snapshots (first_faults faults).further (n + count_own s) m.snippets in
      let next : ℕ = n + count_here s m.snippets in
      all_more (IsMarkOver files a) (marks_of (source_labels_of own further m))
      (cause_marks over (later_causes faults) next c)
      (groups_are files a (source_labels_of own further m)
      (groups_there own (first_faults faults).further (n + count_own s) m
      (own_there (first_faults faults).own n s over g.0.0 h) g.0.1))
      (causes_marked over (later_causes faults) next c h g.1)

  causes_fixed : (over : Option SnapshotValue) (faults : List Faults) (n : ℕ) (c : Cause)
      → IfSome over (IsThere files a) → AllOfCauses (HasText files) c
      → AllByRecursion (IsFixOver files a) (cause_proposals over faults n c)
  causes_fixed over faults n (texts ts) h g = tt
  causes_fixed over faults n (diagnostic (tree m s c r)) h g =
      let own : Option SnapshotValue = snapshot_or (first_faults faults).own n s over in
      let next : ℕ = n + count_here s m.snippets in
      all_more (IsFixOver files a) (proposals own m.fixes) (cause_proposals over (later_causes faults) next c)
      (fixes_are files a own m.fixes (own_there (first_faults faults).own n s over g.0.0 h))
      (causes_fixed over (later_causes faults) next c h g.1)

  -- ---- findings

  finding_over : (over : Option SnapshotValue) (faults : SourceFaults) (n : ℕ) (m : Diagnosis) (c : Cause)
      → IfSome over (IsThere files a) → AllByRecursion (λ (section : Section). HasText files section.source) m.snippets
      → AllOfCauses (HasText files) c → IsFindingOver files a (finding over faults n m c)
  finding_over over faults n m c h g k =
      let gs : List SourceLabels = source_labels_of over (further_snapshots faults.report.further n m.snippets) m in
      let later : ℕ = n + length m.snippets in
      let there = groups_there over faults.report.further n m h g in
      let picked = primary_over files a gs there in
      record {
        primary = primary_is files a (primary_in gs) over picked;
        marks = all_more (IsMarkOver files a) (other_marks (primary_in gs) gs) (cause_marks over faults.causes later c)
            (others_are files a (primary_in gs) gs there picked) (causes_marked over faults.causes later c h k);
        fixes = all_more (IsFixOver files a) (proposals over m.fixes) (cause_proposals over faults.causes later c)
            (fixes_are files a over m.fixes h) (causes_fixed over faults.causes later c h k);
      }

  mutual
    tree_over : (n : ℕ) (inherited : Option SnapshotValue) (answers : SourceAnswers) (t : Tree)
        → IfSome inherited (IsThere files a) → AllSources (HasText files) t
        → AllByRecursion (IsFindingOver files a) (findings n inherited answers t)
    tree_over n inherited answers (tree m s c r) h g =
        let faults : SourceFaults = answer_or no_source_faults answers in
        let over : Option SnapshotValue = snapshot_or faults.report.own n s inherited in
        let there = own_there faults.report.own n s inherited g.0.0 h in (
          finding_over over faults (n + count_own s) m c there g.0.1 g.1,
          trees_over (n + count_here s m.snippets + count_causes c) over (related_answers answers) r there g.2,
        )

    trees_over : (n : ℕ) (inherited : Option SnapshotValue) (answers : RelatedSourceAnswers) (ts : Trees)
        → IfSome inherited (IsThere files a) → EachOfAll (HasText files) ts
        → AllByRecursion (IsFindingOver files a) (all_findings n inherited answers ts)
    trees_over n inherited answers no_trees h g = tt
    trees_over n inherited answers (more_trees t ts) h g =
        all_more (IsFindingOver files a) (findings n inherited (first_answers answers) t)
        (all_findings (n + count_in t) inherited (later_answers answers) ts)
        (tree_over n inherited (first_answers answers) t h g.0)
        (trees_over (n + count_in t) inherited (later_answers answers) ts h g.1)

pub findings_over : (files : List ℕ → Option Source) (ts : Trees) (fs : List Finding) → AreFilesOf files ts
    → AreFindingsOf ts fs → AreFindingsOver files fs
findings_over files ts fs there found =
    let a : Artifacts = artifacts_in (all_named fs) in
    subst (AllByRecursion (IsFindingOver files a)) (sym found.are)
    (trees_over files a there.untitled 0 None found.answers ts tt there.texts)
