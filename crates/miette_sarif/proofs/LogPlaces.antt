-- What is told at places: the labels and the fixes of a diagnostic, and of those that are causes.
use Rattle.std.proofs.Common.{◌≡◌, ◌⊎◌, ℕ, ◌+◌, Bool, true, List, [], ◌∷◌, ◌++◌, Option, Some, None, refl, ap}
use Rattle.std.proofs.Common.{subst}
use Rattle.std.proofs.Common.{codes, inl, inr}
use Rattle.std.specs.Prelude.{IfSome, decimal, if◌then◌else◌, nat_eq, option_map, unwrap_or}
use Rattle.std.specs.List.{AllByRecursion}
use Rattle.miette_lines.specs.rules.Lists.{is_nil}
use Rattle.miette_fixes.specs.rules.Edits.{FixModel}
use Rattle.miette_json.specs.rules.Json.{Json}
use Rattle.miette_json.specs.rules.JsonReport.{AreFurther, first_fault, later_faults}
use Rattle.miette_protocol.specs.rules.Reading.{Source}
use Rattle.miette_protocol.specs.views.Meaning.{Label}
use Rattle.miette_sarif.specs.rules.Artifacts.{Artifacts, index_of}
use Rattle.miette_sarif.specs.rules.Findings.{PhysicalLocation, SnapshotValue, SourceName}
use Rattle.miette_sarif.specs.rules.FindingList.{cause_marks, cause_proposals, cause_refused}
use Rattle.miette_sarif.specs.rules.Marks.{further_groups, source_labels_of, mark_over, marks_of, place_in}
use Rattle.miette_sarif.specs.rules.Marks.{further_snapshots}
use Rattle.miette_sarif.specs.rules.Messages.{doubled, row}
use Rattle.miette_sarif.specs.rules.Proposals.{proposals, refused}
use Rattle.miette_sarif.specs.rules.SourceSnapshot.{count_here, count_own, seen, snapshot_or}
use Rattle.miette_sarif.specs.rules.SourceAnswers.{AreOfCauses, Faults, first_faults, later_causes}
use Rattle.miette_sarif.specs.rules.Uris.{name_uri}
use Rattle.miette_tree.proofs.Readings.{fault_free}
use Rattle.miette_tree.specs.rules.Diagnosis.{Diagnosis, Section}
use Rattle.miette_tree.specs.rules.DiagnosticParts.{given_labels}
use Rattle.miette_tree.specs.rules.Reads.{MayMeet}
use Rattle.miette_tree.specs.rules.Tree.{Cause, diagnostic, effective, texts, tree}
use Rattle.miette_sarif.specs.laws.ReportTexts.{CannotBeApplied, NamesSource, TellsCauses, TellsFix, TellsLabel}
use Rattle.miette_sarif.specs.laws.ReportTexts.{TellsPlaces}
use Rattle.miette_sarif.specs.laws.Values.{IsPart, StandsIn}
use Rattle.miette_sarif.proofs.Fixes.{TellsBy, fixes_told}
use Rattle.miette_sarif.proofs.LogLabels.{GroupSays, HoldsOfNone, Says, groups_say, order_says}
use Rattle.miette_sarif.proofs.Lists.{all_split, all_weaker}
use Rattle.miette_sarif.proofs.Parts.{part_of_part}
use Rattle.miette_sarif.proofs.LogRows.{FixStands, MarkStands, Names}

-- ---- sources

-- a source that always reads is seen with its name and its text
abbrev pub IsSeen : Option Source → Option SnapshotValue → Type 0
IsSeen None over = Unit {0}
IsSeen (Some s) over =
    s.always_reads ≡ true → (it : SnapshotValue) × (over ≡ Some it) × (it.source.name ≡ unwrap_or s.name [])
    × (it.text ≡ Some s.bytes)

seen_one : (s : Source) (fault : Bool) (n : ℕ) → MayMeet (Some s) fault → IsSeen (Some s) (Some (seen fault n s))
seen_one s fault n may = λ reads. (
  seen fault n s,
  refl,
  ap (λ (b : Bool). (seen b n s).source.name) (fault_free (Some s) fault may reads),
  ap (λ (b : Bool). (seen b n s).text) (fault_free (Some s) fault may reads),
)

pub seen_own : (own inherited : Option Source) (fault : Bool) (n : ℕ) (over : Option SnapshotValue) → MayMeet own fault
    → IsSeen inherited over → IsSeen (effective own inherited) (snapshot_or fault n own over)
seen_own None inherited fault n over may h = h
seen_own (Some s) inherited fault n over may h = seen_one s fault n may

named : (v : Json) (a : Artifacts) (name : Option (List ℕ)) (it : SourceName) → it.name ≡ unwrap_or name []
    → Names v a it → IfSome name (λ x. (x ≡ []) ⊎ StandsIn v (name_uri x))
named v a None it e h = tt
named v a (Some []) it e h = inl refl
named v a (Some (c ∷ cs)) it e h =
    inr (subst (λ (x : List ℕ). StandsIn v (if is_nil x
    then codes "untitled:" ++ decimal (index_of (nat_eq it.number) a.untitled + 1) else name_uri x)) e h)

over_named : (v : Json) (a : Artifacts) (source : Option Source) (over : Option SnapshotValue) → IsSeen source over
    → IfSome over (λ it. Names v a it.source) → NamesSource v source
over_named v a None over is h = tt
over_named v a (Some s) over is h = λ reads.
    let found = is reads in
    named v a s.name found.0.source found.2
    (subst (λ (o : Option SnapshotValue). IfSome o (λ it. Names v a it.source)) found.1 h)

-- ---- labels

text_told : (v : Json) (o : Option (List ℕ)) → StandsIn v (doubled (unwrap_or o []))
    → IfSome o (λ words. StandsIn v (doubled words))
text_told v None h = tt
text_told v (Some words) h = h

mark_named : (v : Json) (a : Artifacts) (over : Option SnapshotValue) (l : Label)
    → IfSome (option_map (λ it. place_in it l.span) over) (λ (p : PhysicalLocation). Names v a p.source)
    → IfSome over (λ it. Names v a it.source)
mark_named v a None l h = tt
mark_named v a (Some it) l h = h

label_told : (v : Json) (a : Artifacts) (source : Option Source) (over : Option SnapshotValue) → IsSeen source over
    → (l : Label) → MarkStands v a (mark_over over l) → TellsLabel v source l
label_told v a source over is l h =
    (text_told v l.text h.0, over_named v a source over is (mark_named v a over l h.1))

labels_told : (v : Json) (a : Artifacts) (source : Option Source) (over : Option SnapshotValue) → IsSeen source over
    → (ls : List Label) → AllByRecursion (Says (MarkStands v a) over) ls → AllByRecursion (TellsLabel v source) ls
labels_told v a source over is ls h =
    all_weaker (Says (MarkStands v a) over) (TellsLabel v source) (label_told v a source over is) ls h

further_told : (v : Json) (a : Artifacts) (faults : List Bool) (n : ℕ) (ss : List Section) → AreFurther faults ss
    → AllByRecursion (GroupSays (MarkStands v a)) (further_groups (further_snapshots faults n ss) ss)
    → AllByRecursion (λ (section : Section). AllByRecursion (TellsLabel v (Some section.source)) section.labels) ss
further_told v a faults n [] may h = tt
further_told v a faults n (s ∷ ss) may h =
    let over : Option SnapshotValue = Some (seen (first_fault faults) n s.source) in (
      labels_told v a (Some s.source) over (seen_one s.source (first_fault faults) n may.0) s.labels
          (order_says (Says (MarkStands v a) over) s.labels h.0),
      further_told v a (later_faults faults) (n + 1) ss may.1 h.1,
    )

-- ---- fixes

goes_down : (v : Json) (part whole : List ℕ) → IsPart part whole → StandsIn v whole → StandsIn v part
goes_down v part whole p h =
    record { whole = h.whole; is_there = h.is_there; is_part = part_of_part part whole h.whole p h.is_part }

-- a row of a fix that can't be applied
abbrev pub RowStands : Json → List ℕ → Type 0
RowStands v message = StandsIn v (row (codes "fix: ") message)

-- over a source that always reads, what can't be applied to its text
refused_told : (source : Option Source) (over : Option SnapshotValue) → IsSeen source over → (fix : FixModel)
    → IfSome over (λ it. IfSome it.text (λ bytes. CannotBeApplied bytes fix))
    → IfSome source (λ s. s.always_reads ≡ true → CannotBeApplied s.bytes fix)
refused_told None over is fix h = tt
refused_told (Some s) over is fix h = λ reads.
    let found = is reads in
    subst (λ (o : Option (List ℕ)). IfSome o (λ bytes. CannotBeApplied bytes fix)) found.3
    (subst (λ (o : Option SnapshotValue). IfSome o (λ it. IfSome it.text (λ bytes. CannotBeApplied bytes fix))) found.1
    h)

fix_told : (v : Json) (a : Artifacts) (source : Option Source) (over : Option SnapshotValue) → IsSeen source over
    → (fix : FixModel)
    → TellsBy (λ words. StandsIn v (doubled words)) (StandsIn v) (Names v a) (RowStands v) over fix
    → TellsFix v source fix
fix_told v a source None is fix h = inr (h, refused_told source None is fix tt)
fix_told v a source (Some it) is fix (inl h) = inl (h.0, h.1, over_named v a source (Some it) is h.2)
fix_told v a source (Some it) is fix (inr h) = inr (h.0, refused_told source (Some it) is fix h.1)

all_fixes_told : (v : Json) (a : Artifacts) (source : Option Source) (over : Option SnapshotValue) → IsSeen source over
    → (fixes : List FixModel) → AllByRecursion (FixStands v a) (proposals over fixes)
    → AllByRecursion (RowStands v) (refused over fixes) → AllByRecursion (TellsFix v source) fixes
all_fixes_told v a source over is fixes h g =
    let Words : List ℕ → Type 0 = λ words. StandsIn v (doubled words) in
    all_weaker (TellsBy Words (StandsIn v) (Names v a) (RowStands v) over) (TellsFix v source)
    (fix_told v a source over is) fixes
    (fixes_told Words (StandsIn v) (Names v a) (RowStands v) (goes_down v) over fixes h g)

-- ---- diagnostics

pub places_told : (v : Json) (a : Artifacts) (source : Option Source) (over : Option SnapshotValue) (faults : List Bool)
    (n : ℕ) (m : Diagnosis) → IsSeen source over → AreFurther faults m.snippets
    → AllByRecursion (GroupSays (MarkStands v a)) (source_labels_of over (further_snapshots faults n m.snippets) m)
    → AllByRecursion (FixStands v a) (proposals over m.fixes) → AllByRecursion (RowStands v) (refused over m.fixes)
    → TellsPlaces v source m
places_told v a source over faults n m is may h applied others = record {
  labels = labels_told v a source over is (given_labels m.labels)
      (order_says (Says (MarkStands v a) over) (given_labels m.labels) h.0);
  further = further_told v a faults n m.snippets may h.1;
  fixes = all_fixes_told v a source over is m.fixes applied others;
}

pub causes_told : (v : Json) (a : Artifacts) (source : Option Source) (over : Option SnapshotValue)
    (faults : List Faults)
    (n : ℕ) (c : Cause) → HoldsOfNone (MarkStands v a) → IsSeen source over → AreOfCauses faults c
    → AllByRecursion (MarkStands v a) (cause_marks over faults n c)
    → AllByRecursion (FixStands v a) (cause_proposals over faults n c)
    → AllByRecursion (RowStands v) (cause_refused over faults n c) → TellsCauses v source c
causes_told v a source over faults n (texts ts) quiet is may locations applied others = tt
causes_told v a source over faults n (diagnostic (tree m s c r)) quiet is may locations applied others =
    let here : Faults = first_faults faults in
    let own : Option SnapshotValue = snapshot_or here.own n s over in
    let further : List SnapshotValue = further_snapshots here.further (n + count_own s) m.snippets in
    let next : ℕ = n + count_here s m.snippets in
    let told = all_split (MarkStands v a) (marks_of (source_labels_of own further m))
    (cause_marks over (later_causes faults) next c) locations in
    let fixed = all_split (FixStands v a) (proposals own m.fixes)
    (cause_proposals over (later_causes faults) next c) applied in
    let rows = all_split (RowStands v) (refused own m.fixes) (cause_refused over (later_causes faults) next c)
    others in (
      places_told v a (effective s source) own here.further (n + count_own s) m
          (seen_own s source here.own n over may.0.0 is) may.0.1
          (groups_say (MarkStands v a) (source_labels_of own further m) quiet told.0) fixed.0 rows.0,
      causes_told v a source over (later_causes faults) next c quiet is may.1 told.1 fixed.1 rows.1,
    )
