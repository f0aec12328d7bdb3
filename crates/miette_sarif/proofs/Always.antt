-- Where all sources always read, no answers of theirs give other findings.
use Rattle.std.proofs.Common.{◌≡◌, ℕ, ◌+◌, Bool, true, false, Some, List, [], ◌∷◌, ◌++◌, length, Option, All}
use Rattle.std.proofs.Common.{refl, ap, ◌∙◌}
use Rattle.std.proofs.lemmas.List.Elements.{All-head, All-tail}
use Rattle.miette_json.specs.rules.JsonReport.{AreFurther, first_fault, later_faults}
use Rattle.miette_tree.proofs.Readings.{fault_free}
use Rattle.miette_tree.specs.rules.Answers.{first_answers, later_answers, no_more, answer_or, related_answers, unlisted}
use Rattle.miette_tree.specs.rules.Diagnosis.{Diagnosis, Section}
use Rattle.miette_tree.specs.rules.Reads.{AllAlwaysRead, AlwaysReads, CauseAlwaysReads}
use Rattle.miette_tree.specs.rules.Tree.{Cause, diagnostic, texts, Tree, tree, Trees, more_trees, no_trees}
use Rattle.miette_sarif.specs.rules.Findings.{Finding, SarifLocation, ApplicableFix, SnapshotValue}
use Rattle.miette_sarif.specs.rules.FindingList.{all_findings, cause_marks, cause_proposals, cause_refused, finding}
use Rattle.miette_sarif.specs.rules.FindingList.{findings}
use Rattle.miette_sarif.specs.rules.Marks.{source_labels_of, marks_of, other_marks, primary_in, primary_mark}
use Rattle.miette_sarif.specs.rules.Marks.{further_snapshots}
use Rattle.miette_sarif.specs.rules.Proposals.{proposals, refused}
use Rattle.miette_sarif.specs.rules.SourceSnapshot.{count_causes, count_here, count_in, count_own, seen, snapshot_or}
use Rattle.miette_sarif.specs.rules.SourceAnswers.{AllAnswers, AreAnswers, AreOfCauses, Faults, RelatedSourceAnswers}
use Rattle.miette_sarif.specs.rules.SourceAnswers.{SourceAnswers, SourceFaults, first_faults, later_causes}
use Rattle.miette_sarif.specs.rules.SourceAnswers.{no_source_faults}
use Rattle.miette_sarif.specs.steps.Gathering.{report_texts}
use Rattle.miette_sarif.proofs.Finds.{made}

abbrev SectionReads : Section → Type 0
SectionReads section = section.source.always_reads ≡ true

-- ---- further sources

further_read : (ss : List Section) (faults : List Bool) (n : ℕ) → All SectionReads ss → AreFurther faults ss
    → further_snapshots faults n ss ≡ further_snapshots [] n ss
further_read [] faults n reads h = refl
further_read (s ∷ ss) faults n reads h =
    ap (λ b. seen b n s.source ∷ further_snapshots (later_faults faults) (n + 1) ss)
    (fault_free (Some s.source) (first_fault faults) h.0 (All-head SectionReads s ss reads))
    ∙ ap (λ l. seen false n s.source ∷ l)
    (further_read ss (later_faults faults) (n + 1) (All-tail SectionReads s ss reads) h.1)

-- ---- causes

marks_read : (over : Option SnapshotValue) (faults : List Faults) (n : ℕ) (c : Cause) → CauseAlwaysReads c
    → AreOfCauses faults c → cause_marks over faults n c ≡ cause_marks over [] n c
marks_read over faults n (texts ts) reads h = refl
marks_read over faults n (diagnostic (tree m s c r)) reads h =
    let own = fault_free s (first_faults faults).own h.0.0 reads.0 in
    let next : ℕ = n + count_here s m.snippets in
    let later : List SarifLocation = cause_marks over (later_causes faults) next c in
    let further : List SnapshotValue = further_snapshots (first_faults faults).further (n + count_own s) m.snippets in
    ap (λ b. marks_of (source_labels_of (snapshot_or b n s over) further m) ++ later) own
    ∙ ap (λ l. marks_of (source_labels_of (snapshot_or false n s over) l m) ++ later)
    (further_read m.snippets (first_faults faults).further (n + count_own s) reads.3 h.0.1)
    ∙ ap (λ l. marks_of (source_labels_of (snapshot_or false n s over)
    (further_snapshots [] (n + count_own s) m.snippets) m) ++ l)
    (marks_read over (later_causes faults) next c reads.1 h.1)

-- what is proposed, and what can't be
edits_read : (over : Option SnapshotValue) (faults : List Faults) (n : ℕ) (c : Cause) → CauseAlwaysReads c
    → AreOfCauses faults c → (cause_proposals over faults n c ≡ cause_proposals over [] n c)
    × (cause_refused over faults n c ≡ cause_refused over [] n c)
edits_read over faults n (texts ts) reads h = (refl, refl)
edits_read over faults n (diagnostic (tree m s c r)) reads h =
    let own = fault_free s (first_faults faults).own h.0.0 reads.0 in
    let next : ℕ = n + count_here s m.snippets in
    let more = edits_read over (later_causes faults) next c reads.1 h.1 in (
      ap (λ b. proposals (snapshot_or b n s over) m.fixes ++ cause_proposals over (later_causes faults) next c) own
          ∙ ap (λ l. proposals (snapshot_or false n s over) m.fixes ++ l) more.0,
      ap (λ b. refused (snapshot_or b n s over) m.fixes ++ cause_refused over (later_causes faults) next c) own
          ∙ ap (λ l. refused (snapshot_or false n s over) m.fixes ++ l) more.1,
    )

-- ---- findings

-- the finding of a report, by its further sources and what its causes add
abbrev found_with : Option SnapshotValue → Diagnosis → Cause → List SnapshotValue → List SarifLocation
    → List ApplicableFix
    → List (List ℕ) → Finding
found_with over m c further locations fixes unapplied =
    let picked = primary_in (source_labels_of over further m) in
    made (report_texts m c) (primary_mark picked over) (other_marks picked (source_labels_of over further m)
    ++ locations)
    (proposals over m.fixes ++ fixes) (refused over m.fixes ++ unapplied)

finding_read : (over : Option SnapshotValue) (faults : SourceFaults) (n : ℕ) (m : Diagnosis) (c : Cause)
    → All SectionReads m.snippets → AreFurther faults.report.further m.snippets → CauseAlwaysReads c
    → AreOfCauses faults.causes c → finding over faults n m c ≡ finding over no_source_faults n m c
finding_read over faults n m c reads h causes_read k =
    let next : ℕ = n + length m.snippets in
    let locations : List SarifLocation = cause_marks over faults.causes next c in
    let fixes : List ApplicableFix = cause_proposals over faults.causes next c in
    let unapplied : List (List ℕ) = cause_refused over faults.causes next c in
    let further : List SnapshotValue = further_snapshots [] n m.snippets in
    ap (λ l. found_with over m c l locations fixes unapplied) (further_read m.snippets faults.report.further n reads h)
    ∙ ap (λ l. found_with over m c further l fixes unapplied) (marks_read over faults.causes next c causes_read k)
    ∙ ap (λ l. found_with over m c further (cause_marks over [] next c) l unapplied)
    (edits_read over faults.causes next c causes_read k).0
    ∙ ap (found_with over m c further (cause_marks over [] next c) (cause_proposals over [] next c))
    (edits_read over faults.causes next c causes_read k).1

mutual
  tree_read : (n : ℕ) (inherited : Option SnapshotValue) (a : SourceAnswers) (t : Tree) → AlwaysReads t → AreAnswers a t
      → findings n inherited a t ≡ findings n inherited unlisted t
  tree_read n inherited a (tree m s c r) reads h =
      let faults : SourceFaults = answer_or no_source_faults a in
      let first : ℕ = n + count_own s in
      let next : ℕ = n + count_here s m.snippets + count_causes c in
      let over : Option SnapshotValue = snapshot_or false n s inherited in
      ap (λ b. finding (snapshot_or b n s inherited) faults first m c
      ∷ all_findings next (snapshot_or b n s inherited) (related_answers a) r)
      (fault_free s faults.report.own h.0.0 reads.0)
      ∙ ap (λ f. f ∷ all_findings next over (related_answers a) r)
      (finding_read over faults first m c reads.3 h.0.1 reads.1 h.1)
      ∙ ap (λ l. finding over no_source_faults first m c ∷ l) (trees_read next over (related_answers a) r reads.2 h.2)

  pub trees_read : (n : ℕ) (inherited : Option SnapshotValue) (a : RelatedSourceAnswers) (ts : Trees) → AllAlwaysRead ts
      → AllAnswers a ts → all_findings n inherited a ts ≡ all_findings n inherited no_more ts
  trees_read n inherited a no_trees reads h = refl
  trees_read n inherited a (more_trees t ts) reads h =
      let next : ℕ = n + count_in t in
      ap (λ l. l ++ all_findings next inherited (later_answers a) ts)
      (tree_read n inherited (first_answers a) t reads.0 h.0)
      ∙ ap (λ l. findings n inherited unlisted t ++ l)
      (trees_read next inherited (later_answers a) ts reads.1 h.1)
