-- The findings of reports, by their trees and by how the reads of their sources went.
use Rattle.std.specs.Prelude.{◌≡◌, ℕ, ◌+◌, List, [], ◌∷◌, ◌++◌, length, codes, Option, Some, None, unwrap_or}
use Rattle.miette_protocol.specs.declared.protocol.Severity.{Severity}
use Rattle.miette_protocol.specs.declared.protocol.Severity.TheVariants.{Advice, Warning, Error}
use Rattle.miette_tree.specs.rules.Answers.{first_answers, later_answers, no_more, answer_or, related_answers}
use Rattle.miette_tree.specs.rules.Diagnosis.{Diagnosis}
use Rattle.miette_tree.specs.rules.Tree.{Tree, tree, Cause, diagnostic, texts, causes_of, Trees, no_trees, more_trees}
use Rattle.miette_sarif.specs.rules.Findings.{Finding, SarifLocation, ApplicableFix, SnapshotValue}
use Rattle.miette_sarif.specs.rules.Marks.{source_labels_of, marks_of, other_marks, primary_in, primary_mark}
use Rattle.miette_sarif.specs.rules.Marks.{further_snapshots}
use Rattle.miette_sarif.specs.rules.Proposals.{proposals, refused}
use Rattle.miette_sarif.specs.rules.SourceSnapshot.{count_causes, count_here, count_in, count_own, snapshot_or}
use Rattle.miette_sarif.specs.rules.SourceAnswers.{AllAnswers, Faults, RelatedSourceAnswers, SourceAnswers}
use Rattle.miette_sarif.specs.rules.SourceAnswers.{SourceFaults}
use Rattle.miette_sarif.specs.rules.SourceAnswers.{first_faults, later_causes, no_source_faults}

-- ---- causes, each over its own source, else over that of the report

abbrev pub cause_marks : Option SnapshotValue → List Faults → ℕ → Cause → List SarifLocation
cause_marks over faults n (texts ts) = []
cause_marks over faults n (diagnostic (tree m s c r)) =
    marks_of (source_labels_of (snapshot_or (first_faults faults).own n s over)
    (further_snapshots (first_faults faults).further (n + count_own s) m.snippets) m)
    ++ cause_marks over (later_causes faults) (n + count_here s m.snippets) c

abbrev pub cause_proposals : Option SnapshotValue → List Faults → ℕ → Cause → List ApplicableFix
cause_proposals over faults n (texts ts) = []
cause_proposals over faults n (diagnostic (tree m s c r)) =
    proposals (snapshot_or (first_faults faults).own n s over) m.fixes
    ++ cause_proposals over (later_causes faults) (n + count_here s m.snippets) c

abbrev pub cause_refused : Option SnapshotValue → List Faults → ℕ → Cause → List (List ℕ)
cause_refused over faults n (texts ts) = []
cause_refused over faults n (diagnostic (tree m s c r)) =
    refused (snapshot_or (first_faults faults).own n s over) m.fixes
    ++ cause_refused over (later_causes faults) (n + count_here s m.snippets) c

-- ---- findings

abbrev pub level : Option Severity → List ℕ
level None = codes "error"
level (Some Error) = codes "error"
level (Some Warning) = codes "warning"
level (Some Advice) = codes "note"

-- the finding of a report with this source; `n` sources were read before its further ones
abbrev pub finding : Option SnapshotValue → SourceFaults → ℕ → Diagnosis → Cause → Finding
finding over faults n m c =
    let groups = source_labels_of over (further_snapshots faults.report.further n m.snippets) m in
    let later = n + length m.snippets in
    record {
      code = unwrap_or m.code [];
      level = level m.severity;
      message = m.message;
      causes = causes_of c;
      help = m.help;
      url = m.url;
      primary = primary_mark (primary_in groups) over;
      locations = other_marks (primary_in groups) groups ++ cause_marks over faults.causes later c;
      fixes = proposals over m.fixes ++ cause_proposals over faults.causes later c;
      unapplied = refused over m.fixes ++ cause_refused over faults.causes later c;
    }

-- The findings of a report and its related reports, depth first. `n` sources were read before.
abbrev mutual
  pub findings : ℕ → Option SnapshotValue → SourceAnswers → Tree → List Finding
  findings n inherited a (tree m s c r) =
      let faults = answer_or no_source_faults a in
      let over = snapshot_or faults.report.own n s inherited in
      finding over faults (n + count_own s) m c
      ∷ all_findings (n + count_here s m.snippets + count_causes c) over (related_answers a) r

  pub all_findings : ℕ → Option SnapshotValue → RelatedSourceAnswers → Trees → List Finding
  all_findings n inherited a no_trees = []
  all_findings n inherited a (more_trees t ts) =
      findings n inherited (first_answers a) t ++ all_findings (n + count_in t) inherited (later_answers a) ts

-- the findings of reports whose sources always read
abbrev pub read_findings : Trees → List Finding
read_findings ts = all_findings 0 None no_more ts

-- the findings of reports, for some answers that their sources can give
pub record AreFindingsOf (ts : Trees) (found : List Finding) : Type 0 where
  pub answers : RelatedSourceAnswers
  pub possible : AllAnswers answers ts
  pub are : found ≡ all_findings 0 None answers ts
