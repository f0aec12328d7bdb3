-- Results of each step that collects findings, for some answers of sources.
use Rattle.std.specs.Prelude.{◌≡◌, ℕ, ◌+◌, List, [], ◌∷◌, ◌++◌, Bool, false, Option, Some, None, unwrap_or}
use Rattle.miette_json.specs.rules.JsonReport.{AreFurther}
use Rattle.miette_tree.specs.rules.Diagnosis.{Diagnosis}
use Rattle.miette_tree.specs.rules.Reads.{MayMeet}
use Rattle.miette_tree.specs.rules.Tree.{Cause, Tree, Trees, cause_of, causes_of, head, source_of}
use Rattle.miette_sarif.specs.rules.Findings.{Finding, SarifLocation, ApplicableFix, SnapshotValue}
use Rattle.miette_sarif.specs.rules.FindingList.{all_findings, cause_marks, cause_proposals, cause_refused, finding}
use Rattle.miette_sarif.specs.rules.FindingList.{findings, level}
use Rattle.miette_sarif.specs.rules.Marks.{source_labels_of, marks_of, other_marks, primary_in, primary_mark}
use Rattle.miette_sarif.specs.rules.Marks.{further_snapshots}
use Rattle.miette_fixes.specs.rules.Edits.{FixModel}
use Rattle.miette_sarif.specs.rules.Proposals.{proposal_over, proposals, refused}
use Rattle.miette_sarif.specs.rules.SourceSnapshot.{count_all, count_in, count_own, snapshot_or}
use Rattle.miette_sarif.specs.rules.SourceAnswers.{AllAnswers, AreAnswers, AreOfCauses, Faults, RelatedSourceAnswers}
use Rattle.miette_sarif.specs.rules.SourceAnswers.{SourceAnswers, SourceFaults}

-- the texts of a report: everything except locations and fixes
pub record ReportTextsValue : Type 0 where
  pub code : List ℕ
  pub level : List ℕ
  pub message : List ℕ
  pub causes : List (List ℕ)
  pub help : Option (List ℕ)
  pub url : Option (List ℕ)

abbrev pub report_texts : Diagnosis → Cause → ReportTextsValue
report_texts m c = record {
  code = unwrap_or m.code [];
  level = level m.severity;
  message = m.message;
  causes = causes_of c;
  help = m.help;
  url = m.url;
}

-- locations, fixes, and messages of fixes that can't be applied
pub record FindingPartsValue : Type 0 where
  pub locations : List SarifLocation
  pub fixes : List ApplicableFix
  pub unapplied : List (List ℕ)

-- with a fix added, or its message if it can't be applied
abbrev pub with_fix : Option ApplicableFix → List ℕ → FindingPartsValue → FindingPartsValue
with_fix None message kept = record kept { unapplied = kept.unapplied ++ message ∷ [] }
with_fix (Some p) message kept = record kept { fixes = kept.fixes ++ p ∷ [] }

abbrev pub with_fixes : Option SnapshotValue → List FixModel → FindingPartsValue → FindingPartsValue
with_fixes over [] kept = kept
with_fixes over (fix ∷ fixes) kept =
    with_fixes over fixes (with_fix (proposal_over over fix) fix.message kept)

-- the primary location is that of the report, and all others were appended
pub record AddsMarks (over : Option SnapshotValue) (n : ℕ) (m : Diagnosis) (primary : Option SarifLocation)
    (old new : List SarifLocation)
    : Type 0 where
  pub faults : List Bool
  pub possible : AreFurther faults m.snippets
  pub first : primary ≡ primary_mark (primary_in (source_labels_of over (further_snapshots faults n m.snippets) m)) over
  pub others : new ≡ old ++ other_marks (primary_in (source_labels_of over (further_snapshots faults n m.snippets) m))
      (source_labels_of over (further_snapshots faults n m.snippets) m)

-- the labels and fixes of a cause over this source were appended
pub record AddsOver (over : Option SnapshotValue) (n : ℕ) (m : Diagnosis) (old new : FindingPartsValue) : Type 0 where
  pub faults : List Bool
  pub possible : AreFurther faults m.snippets
  pub locations : new.locations ≡ old.locations ++ marks_of (source_labels_of over
      (further_snapshots faults n m.snippets) m)
  pub fixes : new.fixes ≡ old.fixes ++ proposals over m.fixes
  pub unapplied : new.unapplied ≡ old.unapplied ++ refused over m.fixes

-- the same for a cause with its own source, else this one
pub record AddsCause (over : Option SnapshotValue) (n : ℕ) (t : Tree) (old new : FindingPartsValue) : Type 0 where
  pub fault : Bool
  pub possible : MayMeet (source_of t) fault
  pub added : AddsOver (snapshot_or fault n (source_of t) over) (n + count_own (source_of t)) (head t) old new

-- the same for all causes of a report
pub record AddsCauses (over : Option SnapshotValue) (n : ℕ) (c : Cause) (old new : FindingPartsValue) : Type 0 where
  pub faults : List Faults
  pub possible : AreOfCauses faults c
  pub locations : new.locations ≡ old.locations ++ cause_marks over faults n c
  pub fixes : new.fixes ≡ old.fixes ++ cause_proposals over faults n c
  pub unapplied : new.unapplied ≡ old.unapplied ++ cause_refused over faults n c

abbrev pub faults_of : List Bool → List Faults → SourceFaults
faults_of further causes = record { report = record { own = false; further = further }; causes = causes }

-- the finding is that of a report with this source
pub record IsFindingOf (over : Option SnapshotValue) (n : ℕ) (t : Tree) (it : Finding) : Type 0 where
  pub further : List Bool
  pub causes : List Faults
  pub possible_further : AreFurther further (head t).snippets
  pub possible_causes : AreOfCauses causes (cause_of t)
  pub is : it ≡ finding over (faults_of further causes) n (head t) (cause_of t)

-- findings, and the number of sources that were read for them
pub record Findings : Type 0 where
  pub findings : List Finding
  pub sources : ℕ

-- the findings of a report and its related reports were appended
pub record AddsFindings (inherited : Option SnapshotValue) (t : Tree) (old new : Findings) : Type 0 where
  pub answers : SourceAnswers
  pub possible : AreAnswers answers t
  pub added : new.findings ≡ old.findings ++ findings old.sources inherited answers t
  pub counted : new.sources ≡ old.sources + count_in t

-- the same for several reports
pub record AddsAllFindings (inherited : Option SnapshotValue) (ts : Trees) (old new : Findings) : Type 0 where
  pub answers : RelatedSourceAnswers
  pub possible : AllAnswers answers ts
  pub added : new.findings ≡ old.findings ++ all_findings old.sources inherited answers ts
  pub counted : new.sources ≡ old.sources + count_all ts
