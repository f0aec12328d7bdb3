-- What is gathered so far, and what is left: whatever is answered of the rest, the whole has answers.
use Rattle.std.proofs.Common.{◌≡◌, ℕ, ◌+◌, ◌<◌, ◌≤◌, Bool, List, [], ◌∷◌, ◌++◌, length, map, drop, get_or, Option}
use Rattle.std.proofs.Common.{None, refl, sym, ap, ap₂, ◌∙◌, arith, subst, append_assoc, append-nil, add-one, drop-cons}
use Rattle.std.proofs.lemmas.List.{drop_all}
use Rattle.miette_json.specs.rules.JsonReport.{AreFurther}
use Rattle.miette_protocol.specs.rules.Reading.{Source}
use Rattle.miette_tree.specs.rules.Answers.{and_more, listed, no_more, unlisted}
use Rattle.miette_tree.specs.rules.Diagnosis.{Diagnosis, Section}
use Rattle.miette_tree.specs.rules.Reads.{MayMeet}
use Rattle.miette_tree.specs.rules.Tree.{Cause, diagnostic, texts, Tree, tree, Trees, trees, more_trees, no_trees}
use Rattle.miette_tree.specs.rules.Tree.{cause_of, head, related_of, source_of}
use Rattle.miette_sarif.specs.rules.Findings.{Finding, SnapshotValue}
use Rattle.miette_sarif.specs.rules.FindingList.{all_findings, cause_marks, cause_proposals, cause_refused, finding}
use Rattle.miette_sarif.specs.rules.FindingList.{AreFindingsOf, findings}
use Rattle.miette_sarif.specs.rules.Marks.{source_labels_of, marks_of, further_snapshots}
use Rattle.miette_sarif.specs.rules.Proposals.{proposals, refused}
use Rattle.miette_sarif.specs.rules.SourceSnapshot.{count_all, count_causes, count_in, count_own, seen, snapshot_or}
use Rattle.miette_sarif.specs.rules.SourceAnswers.{AllAnswers, AreOfCauses, Faults, RelatedSourceAnswers}
use Rattle.miette_sarif.specs.rules.SourceAnswers.{SourceFaults}
use Rattle.miette_sarif.specs.steps.Gathering.{AddsFindings, AddsAllFindings, AddsCause, AddsCauses, AddsOver, Findings}
use Rattle.miette_sarif.specs.steps.Gathering.{IsFindingOf, FindingPartsValue}
use Rattle.miette_sarif.specs.steps.SnapshotReads.{IsSnapshot, AreFurtherSnapshots, IsOwnSnapshot, seen_first}
use Rattle.miette_sarif.proofs.Reading.{own_first}

-- ---- lists

pub next_at : {A B : Type 0} (f : A → B) (xs : List A) (i : ℕ) (d : A) → i < length xs
    → map f (drop i xs) ≡ f (get_or xs i d) ∷ map f (drop (i + 1) xs)
next_at f xs i d h =
    ap (map f) (drop-cons xs i d h) ∙ ap (λ n. f (get_or xs i d) ∷ map f (drop n xs)) (sym (add-one i))

pub next_in : {A B : Type 0} (f : A → B) (xs : List A) (i : ℕ) (d : A) → i < length xs → d ≡ get_or xs i d
    → map f (drop i xs) ≡ f d ∷ map f (drop (i + 1) xs)
next_in f xs i d h is = next_at f xs i d h ∙ ap (λ x. f x ∷ map f (drop (i + 1) xs)) (sym is)

pub none_in : {A B : Type 0} (f : A → B) (xs : List A) (i : ℕ) → length xs ≤ i → map f (drop i xs) ≡ []
none_in f xs i h = ap (map f) (drop_all i xs h)

-- ---- further sources

pub record FurtherSoFar (n : ℕ) (all left : List Section) (k : ℕ) (its : List SnapshotValue) : Type 0 where
  pub with_rest : List Bool → List Bool
  pub possible : (more : List Bool) → AreFurther more left → AreFurther (with_rest more) all
  pub seen : (more : List Bool) → its ++ further_snapshots more k left ≡ further_snapshots (with_rest more) n all
  pub counted : k + length left ≡ n + length all

pub no_further : (n : ℕ) (all : List Section) (its : List SnapshotValue) → its ≡ [] → FurtherSoFar n all all n its
no_further n all its e = record {
  with_rest = λ more. more;
  possible = λ more p. p;
  seen = λ more. ap (λ l. l ++ further_snapshots more n all) e;
  counted = refl;
}

further_added : (n : ℕ) (all : List Section) (s : Section) (ss : List Section) (k next : ℕ)
    (its new : List SnapshotValue) (it : SnapshotValue) → FurtherSoFar n all (s ∷ ss) k its → IsSnapshot k s.source it
    → next ≡ k + 1 → new ≡ its ++ it ∷ [] → FurtherSoFar n all ss next new
further_added n all s ss k next its new it r h e f = record {
  with_rest = λ more. r.with_rest (h.fault ∷ more);
  possible = λ more p. r.possible (h.fault ∷ more) (h.possible, p);
  seen = λ more. ap₂ (λ xs m. xs ++ further_snapshots more m ss) f e
      ∙ append_assoc its (it ∷ []) (further_snapshots more (k + 1) ss)
      ∙ ap (λ x. its ++ x ∷ further_snapshots more (k + 1) ss) h.is
      ∙ r.seen (h.fault ∷ more);
  counted = omega (arith, e, r.counted);
}

pub one_further : (n : ℕ) (all left : List Section) (s : Section) (ss : List Section) (source : Source) (k next : ℕ)
    (its new : List SnapshotValue) (it : SnapshotValue) → left ≡ s ∷ ss → FurtherSoFar n all left k its
    → IsSnapshot k source it
    → source ≡ s.source → next ≡ k + 1 → new ≡ its ++ it ∷ [] → FurtherSoFar n all ss next new
one_further n all left s ss source k next its new it is r h from e f =
    further_added n all s ss k next its new it (subst (λ l. FurtherSoFar n all l k its) is r)
    (subst (λ x. IsSnapshot k x it) from h) e f

pub all_further : (n : ℕ) (all left : List Section) (k : ℕ) (its : List SnapshotValue) → left ≡ []
    → FurtherSoFar n all left k its → AreFurtherSnapshots n all its × (k ≡ n + length all)
all_further n all left k its e r =
    let ended : FurtherSoFar n all [] k its = subst (λ l. FurtherSoFar n all l k its) e r in (
      record {
        faults = ended.with_rest [];
        possible = ended.possible [] tt;
        are = sym (append-nil its) ∙ ended.seen [];
      },
      omega (arith, ended.counted),
    )

-- ---- causes

pub record CausesSoFar (over : Option SnapshotValue) (n : ℕ) (all left : Cause) (k : ℕ) (old now : FindingPartsValue)
    : Type 0 where
  pub with_rest : List Faults → List Faults
  pub possible : (more : List Faults) → AreOfCauses more left → AreOfCauses (with_rest more) all
  pub locations : (more : List Faults)
      → now.locations ++ cause_marks over more k left ≡ old.locations ++ cause_marks over (with_rest more) n all
  pub fixes : (more : List Faults)
      → now.fixes ++ cause_proposals over more k left ≡ old.fixes ++ cause_proposals over (with_rest more) n all
  pub unapplied : (more : List Faults)
      → now.unapplied ++ cause_refused over more k left ≡ old.unapplied ++ cause_refused over (with_rest more) n all
  pub counted : k + count_causes left ≡ n + count_causes all

pub no_causes : (over : Option SnapshotValue) (n : ℕ) (all : Cause) (old : FindingPartsValue)
    → CausesSoFar over n all all n old old
no_causes over n all old = record {
  with_rest = λ more. more;
  possible = λ more p. p;
  locations = λ more. refl;
  fixes = λ more. refl;
  unapplied = λ more. refl;
  counted = refl;
}

joined : {A : Type 0} (b c now new goal : List A) → new ≡ now ++ b → now ++ (b ++ c) ≡ goal → new ++ c ≡ goal
joined b c now new goal e f = ap (λ l. l ++ c) e ∙ append_assoc now b c ∙ f

cause_added : (over : Option SnapshotValue) (n : ℕ) (all : Cause) (m : Diagnosis) (s : Option Source) (c : Cause)
    (r : Trees) (k : ℕ) (old now new : FindingPartsValue) (fault : Bool) (possible : MayMeet s fault)
    → CausesSoFar over n all (diagnostic (tree m s c r)) k old now
    → AddsOver (snapshot_or fault k s over) (k + count_own s) m now new
    → CausesSoFar over n all c (k + (count_own s + length m.snippets)) old new
cause_added over n all m s c r k old now new fault possible so_far h =
    let faults : Faults = record { own = fault; further = h.faults } in
    let next : ℕ = k + (count_own s + length m.snippets) in
    record {
      with_rest = λ more. so_far.with_rest (faults ∷ more);
      possible = λ more p. so_far.possible (faults ∷ more) ((possible, h.possible), p);
      locations = λ more. joined (marks_of (source_labels_of (snapshot_or fault k s over)
          (further_snapshots h.faults (k + count_own s) m.snippets) m)) (cause_marks over more next c) now.locations
          new.locations _
          h.locations (so_far.locations (faults ∷ more));
      fixes = λ more. joined (proposals (snapshot_or fault k s over) m.fixes) (cause_proposals over more next c)
          now.fixes new.fixes _ h.fixes (so_far.fixes (faults ∷ more));
      unapplied = λ more. joined (refused (snapshot_or fault k s over) m.fixes) (cause_refused over more next c)
          now.unapplied new.unapplied _ h.unapplied (so_far.unapplied (faults ∷ more));
      counted = omega (arith, so_far.counted);
    }

-- a cause over its own source as it was seen, else over this one
pub cause_over : (over it here : Option SnapshotValue) (t : Tree) (n mid : ℕ) (old new : FindingPartsValue)
    → here ≡ seen_first it over → IsOwnSnapshot n (source_of t) it → mid ≡ n + count_own (source_of t)
    → AddsOver here mid (head t) old new → AddsCause over n t old new
cause_over over it here t n mid old new is o e h =
    let same : here ≡ snapshot_or o.fault n (source_of t) over =
    is ∙ ap (λ x. seen_first x over) o.is ∙ own_first o.fault n (source_of t) over in
    record {
      fault = o.fault;
      possible = o.possible;
      added = subst (λ x. AddsOver x (n + count_own (source_of t)) (head t) old new) same
          (subst (λ x. AddsOver here x (head t) old new) e h);
    }

pub one_cause : (over : Option SnapshotValue) (n : ℕ) (all : Cause) (t : Tree) (k next : ℕ)
    (old now new : FindingPartsValue)
    → CausesSoFar over n all (diagnostic t) k old now → AddsCause over k t now new
    → next ≡ k + count_own (source_of t) + length (head t).snippets
    → CausesSoFar over n all (cause_of t) next old new
one_cause over n all (tree m s c r) k next old now new so_far h e =
    let place : k + (count_own s + length m.snippets) ≡ next = omega (arith, e) in
    subst (λ x. CausesSoFar over n all c x old new) place
    (cause_added over n all m s c r k old now new h.fault h.possible so_far h.added)

pub all_causes : (over : Option SnapshotValue) (n : ℕ) (all left : Cause) (ts : List (List ℕ)) (k : ℕ)
    (old now : FindingPartsValue)
    → texts ts ≡ left → CausesSoFar over n all left k old now
    → AddsCauses over n all old now × (k ≡ n + count_causes all)
all_causes over n all left ts k old now e r =
    let ended : CausesSoFar over n all (texts ts) k old now =
    subst (λ c. CausesSoFar over n all c k old now) (sym e) r in (
      record {
        faults = ended.with_rest [];
        possible = ended.possible [] tt;
        locations = sym (append-nil now.locations) ∙ ended.locations [];
        fixes = sym (append-nil now.fixes) ∙ ended.fixes [];
        unapplied = sym (append-nil now.unapplied) ∙ ended.unapplied [];
      },
      omega (arith, ended.counted),
    )

-- ---- reports

pub record ReportsSoFar (inherited : Option SnapshotValue) (all left : Trees) (old now : Findings) : Type 0 where
  pub with_rest : RelatedSourceAnswers → RelatedSourceAnswers
  pub possible : (more : RelatedSourceAnswers) → AllAnswers more left → AllAnswers (with_rest more) all
  pub found : (more : RelatedSourceAnswers) → now.findings ++ all_findings now.sources inherited more left
      ≡ old.findings ++ all_findings old.sources inherited (with_rest more) all
  pub counted : now.sources + count_all left ≡ old.sources + count_all all

pub no_reports : (inherited : Option SnapshotValue) (all : Trees) (old : Findings)
    → ReportsSoFar inherited all all old old
no_reports inherited all old = record {
  with_rest = λ more. more;
  possible = λ more p. p;
  found = λ more. refl;
  counted = refl;
}

pub one_report : (inherited : Option SnapshotValue) (all : Trees) (t : Tree) (ts : Trees) (old now new : Findings)
    → ReportsSoFar inherited all (more_trees t ts) old now → AddsFindings inherited t now new
    → ReportsSoFar inherited all ts old new
one_report inherited all t ts old now new r h = record {
  with_rest = λ more. r.with_rest (and_more h.answers more);
  possible = λ more p. r.possible (and_more h.answers more) (h.possible, p);
  found = λ more. ap (λ m. new.findings ++ all_findings m inherited more ts) h.counted
      ∙ joined (findings now.sources inherited h.answers t)
      (all_findings (now.sources + count_in t) inherited more ts) now.findings new.findings _ h.added
      (r.found (and_more h.answers more));
  counted = omega (arith, h.counted, r.counted);
}

pub all_reports : (inherited : Option SnapshotValue) (all left : Trees) (old now : Findings) → left ≡ no_trees
    → ReportsSoFar inherited all left old now → AddsAllFindings inherited all old now
all_reports inherited all left old now e r =
    let ended : ReportsSoFar inherited all no_trees old now = subst (λ ts. ReportsSoFar inherited all ts old now) e r in
    record {
      answers = ended.with_rest no_more;
      possible = ended.possible no_more tt;
      added = sym (append-nil now.findings) ∙ ended.found no_more;
      counted = omega (arith, ended.counted);
    }

-- a report, and those that are related to it
pub report_gathered : (inherited it seen : Option SnapshotValue) (t : Tree) (related : Trees) (found : Finding)
    (first : ℕ)
    (old mid new : Findings)
    → seen ≡ seen_first it inherited → IsOwnSnapshot old.sources (source_of t) it
    → first ≡ old.sources + count_own (source_of t) → IsFindingOf seen first t found
    → mid.findings ≡ old.findings ++ found ∷ []
    → mid.sources ≡ first + length (head t).snippets + count_causes (cause_of t) → related ≡ related_of t
    → AddsAllFindings seen related mid new → AddsFindings inherited t old new
report_gathered inherited it seen (tree m s c r) related found first old mid new is o e f g k er h =
    let over : Option SnapshotValue = snapshot_or o.fault old.sources s inherited in
    let same : seen ≡ over =
    is ∙ ap (λ x. seen_first x inherited) o.is ∙ own_first o.fault old.sources s inherited in
    let here : IsFindingOf over (old.sources + count_own s) (tree m s c r) found =
    subst (λ x. IsFindingOf x (old.sources + count_own s) (tree m s c r) found) same
    (subst (λ x. IsFindingOf seen x (tree m s c r) found) e f) in
    let below : AddsAllFindings over r mid new = subst (λ x. AddsAllFindings x r mid new) same
    (subst (λ x. AddsAllFindings seen x mid new) er h) in
    let faults : SourceFaults =
    record { report = record { own = o.fault; further = here.further }; causes = here.causes } in
    let place : mid.sources ≡ old.sources + (count_own s + length m.snippets) + count_causes c =
    omega (arith, k, e) in
    let one : found ≡ finding over faults (old.sources + count_own s) m c = here.is in
    record {
      answers = listed faults unlisted below.answers;
      possible = ((o.possible, here.possible_further), here.possible_causes, below.possible);
      added = below.added ∙ ap (λ n. mid.findings ++ all_findings n over below.answers r) place
          ∙ joined (found ∷ []) (all_findings (old.sources + (count_own s + length m.snippets) + count_causes c) over
          below.answers r) old.findings mid.findings _ g
          (ap (λ x. old.findings ++ x ∷ all_findings (old.sources + (count_own s + length m.snippets) + count_causes c)
          over below.answers r) one);
      counted = omega (arith, below.counted, k, e);
    }

-- all of them, from none on
pub all_found : (ts : Trees) (old new : Findings) → old.findings ≡ [] → old.sources ≡ 0
    → AddsAllFindings None ts old new
    → AreFindingsOf ts new.findings
all_found ts old new e f h = record {
  answers = h.answers;
  possible = h.possible;
  are = h.added ∙ ap₂ (λ l n. l ++ all_findings n None h.answers ts) e f;
}

-- those of one report
pub one_found : (t : Tree) (old new : Findings) → old.findings ≡ [] → old.sources ≡ 0 → AddsFindings None t old new
    → AreFindingsOf (trees (t ∷ [])) new.findings
one_found t old new e f h = record {
  answers = and_more h.answers no_more;
  possible = (h.possible, tt);
  are = h.added ∙ ap₂ (λ l n. l ++ findings n None h.answers t) e f
      ∙ sym (append-nil (findings 0 None h.answers t));
}
