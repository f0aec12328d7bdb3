-- The finding of a report, put together from its parts.
use Rattle.std.proofs.Common.{◌≡◌, ℕ, ◌+◌, List, [], ◌∷◌, ◌++◌, length, Option, Some, None, refl, sym, ap, ◌∙◌, subst}
use Rattle.std.proofs.Common.{append_assoc, append-nil}
use Rattle.std.specs.Option.{option_map}
use Rattle.miette_fixes.specs.rules.Edits.{FixModel}
use Rattle.miette_tree.specs.rules.Diagnosis.{Diagnosis, Section}
use Rattle.miette_tree.specs.rules.Tree.{Tree, tree, cause_of, head}
use Rattle.miette_sarif.specs.rules.Findings.{Finding, SarifLocation, ApplicableFix, SnapshotValue}
use Rattle.miette_sarif.specs.rules.FindingList.{cause_marks, cause_proposals, cause_refused}
use Rattle.miette_sarif.specs.rules.Marks.{SourceLabels, PrimaryPick, source_labels_of, marks_of, other_marks}
use Rattle.miette_sarif.specs.rules.Marks.{others_in, primary_in}
use Rattle.miette_sarif.specs.rules.Marks.{mark_or, primary_mark, further_snapshots}
use Rattle.miette_sarif.specs.rules.Proposals.{listed_fix, proposal_over, proposals, refused, refused_fix}
use Rattle.miette_sarif.specs.steps.Gathering.{AddsCauses, AddsMarks, AddsOver, IsFindingOf, FindingPartsValue}
use Rattle.miette_sarif.specs.steps.Gathering.{ReportTextsValue, report_texts, with_fix}
use Rattle.miette_sarif.specs.steps.Gathering.{with_fixes}
use Rattle.miette_sarif.specs.steps.SnapshotReads.{AreFurtherSnapshots}

-- ---- fixes

one_fix : (o : Option ApplicableFix) (message : List ℕ) (kept : FindingPartsValue) (ps : List ApplicableFix)
    (rs : List (List ℕ))
    → ((with_fix o message kept).locations ≡ kept.locations)
    × ((with_fix o message kept).fixes ++ ps ≡ kept.fixes ++ listed_fix o ps)
    × ((with_fix o message kept).unapplied ++ rs ≡ kept.unapplied ++ refused_fix o message rs)
one_fix None message kept ps rs = (refl, refl, append_assoc kept.unapplied (message ∷ []) rs)
one_fix (Some p) message kept ps rs = (refl, append_assoc kept.fixes (p ∷ []) ps, refl)

pub fixes_kept : (over : Option SnapshotValue) (fixes : List FixModel) (kept : FindingPartsValue)
    → ((with_fixes over fixes kept).locations ≡ kept.locations)
    × ((with_fixes over fixes kept).fixes ≡ kept.fixes ++ proposals over fixes)
    × ((with_fixes over fixes kept).unapplied ≡ kept.unapplied ++ refused over fixes)
fixes_kept over [] kept = (refl, sym (append-nil kept.fixes), sym (append-nil kept.unapplied))
fixes_kept over (fix ∷ fixes) kept =
    let one = one_fix (proposal_over over fix) fix.message kept (proposals over fixes) (refused over fixes) in
    let rest = fixes_kept over fixes (with_fix (proposal_over over fix) fix.message kept) in
    (rest.0 ∙ one.0, rest.1 ∙ one.1, rest.2 ∙ one.2)

-- ---- a cause

pub cause_over : (over : Option SnapshotValue) (n : ℕ) (m : Diagnosis) (sections : List Section)
    (its same : List SnapshotValue) (groups : List SourceLabels) (fixes : List FixModel)
    (old mid new : FindingPartsValue)
    → AreFurtherSnapshots n sections its → sections ≡ m.snippets → same ≡ its → groups ≡ source_labels_of over same m
    → mid.locations ≡ old.locations ++ marks_of groups → mid.fixes ≡ old.fixes → mid.unapplied ≡ old.unapplied
    → fixes ≡ m.fixes → new ≡ with_fixes over fixes mid → AddsOver over n m old new
cause_over over n m sections its same groups fixes old mid new h e es eg a b d ef i =
    let seen : AreFurtherSnapshots n m.snippets its = subst (λ ss. AreFurtherSnapshots n ss its) e h in
    let all = fixes_kept over m.fixes mid in
    let is : new ≡ with_fixes over m.fixes mid = i ∙ ap (λ fs. with_fixes over fs mid) ef in
    let here : groups ≡ source_labels_of over (further_snapshots seen.faults n m.snippets) m =
    eg ∙ ap (λ x. source_labels_of over x m) (es ∙ seen.are) in
    record {
      faults = seen.faults;
      possible = seen.possible;
      locations = ap (λ k. k.locations) is ∙ all.0 ∙ a ∙ ap (λ gs. old.locations ++ marks_of gs) here;
      fixes = ap (λ k. k.fixes) is ∙ all.1 ∙ ap (λ l. l ++ proposals over m.fixes) b;
      unapplied = ap (λ k. k.unapplied) is ∙ all.2 ∙ ap (λ l. l ++ refused over m.fixes) d;
    }

-- ---- the primary label

pub primary_taken : {X : Type 0} (f : X → SarifLocation) (taken : Option X) (picked : Option PrimaryPick)
    (gs os : List SourceLabels)
    → picked ≡ option_map (λ x. record { mark = f x; others = os }) taken → (taken ≡ None → os ≡ gs)
    → (option_map (λ it. it.mark) picked ≡ option_map f taken) × (others_in picked gs ≡ os)
primary_taken f None picked gs os e h = (ap (option_map (λ it. it.mark)) e, ap (λ p. others_in p gs) e ∙ sym (h refl))
primary_taken f (Some x) picked gs os e h = (ap (option_map (λ it. it.mark)) e, ap (λ p. others_in p gs) e)

pub marks_added : {X : Type 0} (f : X → SarifLocation) (taken : Option X) (over : Option SnapshotValue) (n : ℕ)
    (m : Diagnosis)
    (sections : List Section) (its shown : List SnapshotValue) (groups slice others : List SourceLabels)
    (primary : Option SarifLocation)
    (old new : List SarifLocation) → AreFurtherSnapshots n sections its → sections ≡ m.snippets → shown ≡ its
    → groups ≡ source_labels_of over shown m → slice ≡ groups
    → primary_in slice ≡ option_map (λ x. record { mark = f x; others = others }) taken
    → (taken ≡ None → others ≡ slice) → primary ≡ mark_or (option_map f taken) over → new ≡ old ++ marks_of others
    → AddsMarks over n m primary old new
marks_added f taken over n m sections its shown groups slice others primary old new seen e es eg el p stays place put =
    let here : AreFurtherSnapshots n m.snippets its = subst (λ ss. AreFurtherSnapshots n ss its) e seen in
    let whole : slice ≡ source_labels_of over (further_snapshots here.faults n m.snippets) m =
    el ∙ eg ∙ ap (λ l. source_labels_of over l m) (es ∙ here.are) in
    let took = primary_taken f taken (primary_in slice) slice others p stays in
    record {
      faults = here.faults;
      possible = here.possible;
      first = place ∙ ap (λ o. mark_or o over) (sym took.0)
          ∙ ap (λ gs. primary_mark (primary_in gs) over) whole;
      others = put ∙ ap (λ gs. old ++ marks_of gs) (sym took.1 ∙ ap (λ gs. others_in (primary_in gs) gs) whole);
    }

-- ---- the finding

abbrev pub made : ReportTextsValue → Option SarifLocation → List SarifLocation → List ApplicableFix → List (List ℕ)
    → Finding
made t primary locations fixes unapplied = record {
  code = t.code;
  level = t.level;
  message = t.message;
  causes = t.causes;
  help = t.help;
  url = t.url;
  primary = primary;
  locations = locations;
  fixes = fixes;
  unapplied = unapplied;
}

pub finding_found : (over : Option SnapshotValue) (n next : ℕ) (t : Tree) (primary : Option SarifLocation)
    (telling : ReportTextsValue)
    (none own : List SarifLocation) (fixes : List FixModel) (kept before k : FindingPartsValue) (it : Finding) → none
    ≡ []
    → AddsMarks over n (head t) primary none own → telling ≡ report_texts (head t) (cause_of t) → kept.locations ≡ own
    → kept.fixes ≡ [] → kept.unapplied ≡ [] → fixes ≡ (head t).fixes → before ≡ with_fixes over fixes kept
    → next ≡ n + length (head t).snippets → AddsCauses over next (cause_of t) before k
    → it ≡ made telling primary k.locations k.fixes k.unapplied → IsFindingOf over n t it
finding_found over n next (tree m s c r) primary telling none own fixes kept before k it empty h l keeps fx un ef b e
    below is =
    let g : List SourceLabels = source_labels_of over (further_snapshots h.faults n m.snippets) m in
    let later : ℕ = n + length m.snippets in
    let done = fixes_kept over m.fixes kept in
    let now : before ≡ with_fixes over m.fixes kept = b ∙ ap (λ fs. with_fixes over fs kept) ef in
    let locations : k.locations ≡ other_marks (primary_in g) g ++ cause_marks over below.faults later c =
    below.locations ∙ ap (λ l. l ++ cause_marks over below.faults next c) (ap (λ x. x.locations) now ∙ done.0 ∙ keeps
    ∙ h.others ∙ ap (λ l. l ++ other_marks (primary_in g) g) empty)
    ∙ ap (λ x. other_marks (primary_in g) g ++ cause_marks over below.faults x c) e in
    let fixed : k.fixes ≡ proposals over m.fixes ++ cause_proposals over below.faults later c =
    below.fixes ∙ ap (λ l. l ++ cause_proposals over below.faults next c)
    (ap (λ x. x.fixes) now ∙ done.1 ∙ ap (λ l. l ++ proposals over m.fixes) fx)
    ∙ ap (λ x. proposals over m.fixes ++ cause_proposals over below.faults x c) e in
    let unapplied : k.unapplied ≡ refused over m.fixes ++ cause_refused over below.faults later c =
    below.unapplied ∙ ap (λ l. l ++ cause_refused over below.faults next c)
    (ap (λ x. x.unapplied) now ∙ done.2 ∙ ap (λ l. l ++ refused over m.fixes) un)
    ∙ ap (λ x. refused over m.fixes ++ cause_refused over below.faults x c) e in
    record {
      further = h.faults;
      causes = below.faults;
      possible_further = h.possible;
      possible_causes = below.possible;
      is = is ∙ ap (λ x. made x primary k.locations k.fixes k.unapplied) l
          ∙ ap (λ x. made (report_texts m c) x k.locations k.fixes k.unapplied) h.first
          ∙ ap (λ x. made (report_texts m c) (primary_mark (primary_in g) over) x k.fixes k.unapplied) locations
          ∙ ap (λ x. made (report_texts m c) (primary_mark (primary_in g) over)
          (other_marks (primary_in g) g ++ cause_marks over below.faults later c) x k.unapplied) fixed
          ∙ ap (made (report_texts m c) (primary_mark (primary_in g) over)
          (other_marks (primary_in g) g ++ cause_marks over below.faults later c)
          (proposals over m.fixes ++ cause_proposals over below.faults later c)) unapplied;
    }
