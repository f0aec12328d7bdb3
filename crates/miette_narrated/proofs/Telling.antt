-- The text and the answers of a tree, put together from those of its parts.
use Rattle.std.proofs.Common.{◌≡◌, ℕ, ◌≤◌, List, [], ◌∷◌, ◌++◌, length, map, drop, Bool, true, Option, Some, None, refl}
use Rattle.std.proofs.Common.{sym, ap, ap₂, subst, ◌∙◌, append_assoc, append-nil}
use Rattle.std.proofs.lemmas.Bool.{and_parts}
use Rattle.miette_protocol.specs.rules.Reading.{Source}
use Rattle.miette_protocol.specs.views.Meaning.{Label}
use Rattle.miette_tree.proofs.Readings.{own_holds}
use Rattle.miette_tree.specs.rules.Tree.{Tree, tree, Trees, no_trees, more_trees, trees, effective, head, source_of}
use Rattle.miette_tree.specs.rules.Tree.{cause_of, causes_of, related_of}
use Rattle.miette_labels.specs.rules.Around.{group_context}
use Rattle.miette_labels.specs.rules.Groups.{in_order}
use Rattle.miette_labels.proofs.NoFailures.{grouped_none}
use Rattle.miette_tree.specs.rules.Answers.{AnswerTrees}
use Rattle.miette_narrated.specs.rules.Labels.{label_range}
use Rattle.miette_narrated.specs.rules.Snippets.{snippets_of}
use Rattle.miette_narrated.specs.rules.Report.{NarrationSettings, Answers, unlisted, listed, no_more}
use Rattle.miette_narrated.specs.rules.Report.{and_more, own_narrated_answer, related_answers, first_answers}
use Rattle.miette_narrated.specs.rules.Report.{later_answers}
use Rattle.miette_narrated.specs.rules.Report.{head_rows, related_head_rows, cause_rows, causes_if, row_if}
use Rattle.miette_narrated.specs.rules.Report.{snippet_rows, blank_before, related_report, related_reports, narration}
use Rattle.miette_narrated.specs.rules.Report.{NarratedReadAnswers, no_failed_reads, first_fails, later_fails}
use Rattle.miette_narrated.specs.rules.Report.{further_rows}
use Rattle.miette_narrated.specs.rules.Report.{all_narrated_snippets, rows_below_causes}
use Rattle.miette_tree.specs.rules.DiagnosticParts.{given_labels}
use Rattle.miette_tree.specs.rules.Diagnosis.{Diagnosis, Section}
use Rattle.miette_tree.specs.rules.Reads.{report_passes, reports_pass, further_pass, always_reads, report_reads}
use Rattle.miette_narrated.specs.rules.PossibleAnswers.{IsAnswered, AreFurtherReads, ArePossibleReads, AreAnswers}
use Rattle.miette_narrated.specs.rules.PossibleAnswers.{AllAnswers}
use Rattle.miette_narrated.specs.rules.PossibleAnswers.{IsNarrated, reads_for_fixes, fixes_below, all_fixes_below}
use Rattle.miette_narrated.specs.rules.PossibleAnswers.{fixes_read}
use Rattle.miette_narrated.specs.steps.AppendedParts.{AppendsBelow, AppendsNarratedReport, AppendsNarratedRelated}
use Rattle.miette_narrated.proofs.Below.{same_advice}
use Rattle.miette_narrated.proofs.Further.{further_holds}
use Rattle.std.proofs.lemmas.List.{drop_all}

-- ---- related reports, one after the other

-- Some are told, and these are left: whatever answers these have, the whole has some.
pub record RelatedSoFar (context : ℕ) (inherited : Option Source) (all left : Trees) (old now : List ℕ) : Type 0 where
  pub with_rest : AnswerTrees NarratedReadAnswers → AnswerTrees NarratedReadAnswers
  pub possible : (more : AnswerTrees NarratedReadAnswers) → AllAnswers inherited more left
      → AllAnswers inherited (with_rest more) all
  pub joined_is : (more : AnswerTrees NarratedReadAnswers) → now ++ related_reports context inherited more left ≡ old
      ++ (blank_before all ++ related_reports context inherited (with_rest more) all)

pub none_so_far : (context : ℕ) (inherited : Option Source) (all : Trees) (old now : List ℕ) → now ≡ old
    ++ blank_before all → RelatedSoFar context inherited all all old now
none_so_far context inherited all old now e = record {
  with_rest = λ more. more;
  possible = λ more p. p;
  joined_is = λ more. ap (λ x. x ++ related_reports context inherited more all) e
      ∙ append_assoc old (blank_before all) (related_reports context inherited more all);
}

pub one_more : (context : ℕ) (inherited : Option Source) (all : Trees) (t : Tree) (ts : Trees) (old now new : List ℕ)
    → RelatedSoFar context inherited all (more_trees t ts) old now → AppendsNarratedReport context inherited t now new
    → RelatedSoFar context inherited all ts old new
one_more context inherited all t ts old now new r a = record {
  with_rest = λ more. r.with_rest (and_more a.answers more);
  possible = λ more p. r.possible (and_more a.answers more) (a.possible, p);
  joined_is = λ more. ap (λ x. x ++ related_reports context inherited more ts) a.appended
      ∙ append_assoc now (related_report context inherited a.answers t) (related_reports context inherited more ts)
      ∙ r.joined_is (and_more a.answers more);
}

pub all_told : (context : ℕ) (inherited : Option Source) (all : Trees) (old now : List ℕ)
    → RelatedSoFar context inherited all no_trees old now → AppendsNarratedRelated context inherited all old now
all_told context inherited all old now r = record {
  answers = r.with_rest no_more;
  possible =
      r.possible no_more tt;
  appended = sym (append-nil now) ∙ r.joined_is no_more;
}

pub at_the_end : {R : Type 0} (value : R → Tree) (context : ℕ) (inherited : Option Source) (rs : List R) (all : Trees)
    (i : ℕ) (old now : List ℕ) → length rs ≤ i
    → RelatedSoFar context inherited all (trees (map value (drop i rs))) old now
    → RelatedSoFar context inherited all no_trees old now
at_the_end value context inherited rs all i old now h r =
    subst (λ l. RelatedSoFar context inherited all (trees (map value l)) old now) (drop_all i rs h) r

pub blank_some : {R : Type 0} (value : R → Tree) (rs : List R) → (length rs ≡ 0 → ⊥)
    → blank_before (trees (map value rs)) ≡ 10 ∷ []
blank_some value [] h = absurd (h refl)
blank_some value (r ∷ rs) h = refl

-- ---- a report's parts

parts_joined : (old a b q new ti ca be re : List ℕ) → a ≡ old ++ ti → b ≡ a ++ ca → q ≡ b ++ be → new ≡ q ++ re → new
    ≡ old ++ (ti ++ (ca ++ (be ++ re)))
parts_joined old a b q new ti ca be re e f g h = h
    ∙ ap (λ y. y ++ re) (g ∙ ap (λ y. y ++ be) (f ∙ ap (λ y. y ++ ca) e)) ∙ simp append_assoc

pub report_told : (context : ℕ) (inherited : Option Source) (t : Tree) (source : Option Source)
    (related : Trees) (old a b q new : List ℕ)
    → source ≡ effective (source_of t) inherited → related ≡ related_of t
    → a ≡ old ++ related_head_rows (head t) → b ≡ a ++ cause_rows (causes_of (cause_of t))
    → AppendsBelow context source (head t) b q → AppendsNarratedRelated context source related q new
    → AppendsNarratedReport context inherited t old new
report_told context inherited (tree m s c rs) source related old a b q new es er e f below others =
    let own = effective s inherited in
    let here : AppendsBelow context own m b q = subst (λ o. AppendsBelow context o m b q) es below in
    let there : AppendsNarratedRelated context own rs q new = subst (λ ts. AppendsNarratedRelated context own ts q new)
    er
    (subst (λ o. AppendsNarratedRelated context o related q new) es others) in
    record {
      answers = listed here.answers unlisted there.answers;
      possible = (here.possible, there.possible);
      appended = parts_joined old a b q new (related_head_rows m) (cause_rows (causes_of c))
          (rows_below_causes context own here.answers m)
          (blank_before rs ++ related_reports context own there.answers rs) e f here.appended there.appended;
    }

own_none : (s : Option Source) → effective s None ≡ s
own_none None = refl
own_none (Some own) = refl

whole_joined : (start a b q r new hd ca be re ft : List ℕ) → start ≡ [] → a ≡ start ++ hd → b ≡ a ++ ca → q ≡ b
    ++ be → r ≡ q ++ re → new ≡ r ++ ft → new ≡ hd ++ (ca ++ (be ++ (re ++ ft)))
whole_joined start a b q r new hd ca be re ft s e f g h i =
    i ∙ ap (λ y. y ++ ft) (h ∙ ap (λ y. y ++ re) (g ∙ ap (λ y. y ++ be) (f ∙ ap (λ y. y ++ ca)
    (e ∙ ap (λ y. y ++ hd) s)))) ∙ simp append_assoc

pub whole_told : (s : NarrationSettings) (t : Tree) (source : Option Source) (related : Trees)
    (start a b q r new : List ℕ) → source ≡ effective (source_of t) None → related ≡ related_of t → start ≡ []
    → a ≡ start ++ head_rows (head t) → b ≡ a ++ causes_if s.cause_chain (causes_of (cause_of t))
    → AppendsBelow s.context_lines source (head t) b q → AppendsNarratedRelated s.context_lines source related q r
    → new ≡ r ++ row_if [] s.footer → IsNarrated s t new
whole_told s (tree m own c rs) source related start a b q r new es er empty e f below others i =
    let eff = effective own None in
    let here : AppendsBelow s.context_lines eff m b q = subst (λ o. AppendsBelow s.context_lines o m b q) es below in
    let there : AppendsNarratedRelated s.context_lines eff rs q r = subst (λ ts. AppendsNarratedRelated s.context_lines
    eff ts q r) er
    (subst (λ o. AppendsNarratedRelated s.context_lines o related q r) es others) in
    let text : Option Source → List ℕ = λ o. head_rows m ++ (causes_if s.cause_chain (causes_of c)
    ++ (rows_below_causes s.context_lines o here.answers m
    ++ ((blank_before rs ++ related_reports s.context_lines o there.answers rs) ++ row_if [] s.footer))) in
    let made : new ≡ text eff =
    whole_joined start a b q r new (head_rows m) (causes_if s.cause_chain (causes_of c))
    (rows_below_causes s.context_lines eff here.answers m)
    (blank_before rs ++ related_reports s.context_lines eff there.answers rs) (row_if [] s.footer)
    empty e f here.appended there.appended i in
    record {
      answers = listed here.answers unlisted there.answers;
      possible = (here.possible, there.possible);
      is = made ∙ ap text (own_none own);
    }

-- ---- where every source always reads

same_snippets : (context : ℕ) (source : Option Source) (fails : List Bool) (labels : List Label)
    → IsAnswered source labels fails → always_reads source labels ≡ true →
    snippet_rows context source fails labels ≡ snippet_rows context source [] labels
same_snippets context None fails labels h e = refl
same_snippets context (Some source) fails [] h e = refl
same_snippets context (Some source) fails (l ∷ ls) h e =
    ap (snippets_of (group_context context (in_order (l ∷ ls))) source
    (map (label_range (length source.bytes)) (in_order (l ∷ ls))))
    (grouped_none context source fails (in_order (l ∷ ls)) (h.always e))

same_further : (context : ℕ) (fails : List (List Bool)) (sections : List Section) → AreFurtherReads fails sections
    → further_pass always_reads sections ≡ true → further_rows context fails sections
    ≡ further_rows context [] sections
same_further context fails [] h e = refl
same_further context fails (s ∷ ss) h e =
    let p = and_parts (always_reads (Some s.source) s.labels) (further_pass always_reads ss) e in
    ap₂ (λ x y. x ++ y) (same_snippets context (Some s.source) (first_fails fails) s.labels h.0 p.0)
    (same_further context (later_fails fails) ss h.1 p.1)

same_all : (context : ℕ) (source : Option Source) (a : NarratedReadAnswers) (m : Diagnosis)
    → ArePossibleReads source a m
    → always_reads source (given_labels m.labels) ≡ true → further_pass always_reads m.snippets ≡ true
    → all_narrated_snippets context source a m ≡ all_narrated_snippets context source no_failed_reads m
same_all context source a m h own further =
    ap₂ (λ x y. x ++ y) (same_snippets context source a.own (given_labels m.labels) h.0 own)
    (same_further context a.further m.snippets h.1 further)

same_below : (context : ℕ) (source : Option Source) (a : NarratedReadAnswers) (m : Diagnosis)
    → ArePossibleReads source a m
    → always_reads source (given_labels m.labels) ≡ true → further_pass always_reads m.snippets ≡ true
    → reads_for_fixes source m.fixes ≡ true → rows_below_causes context source a m
    ≡ rows_below_causes context source no_failed_reads m
same_below context source a m h own further fixes =
    ap₂ (λ x y. x ++ y) (same_all context source a m h own further) (same_advice source a.fixes m h.2 fixes)

mutual
  same_report : (context : ℕ) (inherited : Option Source) (a : Answers) (t : Tree) → AreAnswers inherited a t
      → report_passes always_reads inherited t ≡ true → fixes_below inherited t ≡ true
      → related_report context inherited a t
      ≡ related_report context inherited unlisted t
  same_report context inherited a (tree m s c r) h e f =
      let own = effective s inherited in
      let p = own_holds always_reads m s inherited c r e in
      let q = and_parts (reads_for_fixes own m.fixes) (all_fixes_below own r) f in
      ap₂ (λ x y. related_head_rows m ++ (cause_rows (causes_of c) ++ (x ++ (blank_before r ++ y))))
      (same_below context own (own_narrated_answer a) m h.0 p.0 (further_holds always_reads m s inherited c r e) q.0)
      (same_reports context own (related_answers a) r h.1 p.1 q.1)

  same_reports : (context : ℕ) (inherited : Option Source) (more : AnswerTrees NarratedReadAnswers) (ts : Trees)
      → AllAnswers inherited more ts → reports_pass always_reads inherited ts ≡ true
      → all_fixes_below inherited ts ≡ true
      → related_reports context inherited more ts ≡ related_reports context inherited no_more ts
  same_reports context inherited more no_trees h e f = refl
  same_reports context inherited more (more_trees t ts) h e f =
      let p = and_parts (report_passes always_reads inherited t) (reports_pass always_reads inherited ts) e in
      let q = and_parts (fixes_below inherited t) (all_fixes_below inherited ts) f in
      ap₂ (λ x y. x ++ y) (same_report context inherited (first_answers more) t h.0 p.0 q.0)
      (same_reports context inherited (later_answers more) ts h.1 p.1 q.1)

same_whole : (s : NarrationSettings) (t : Tree) (a : Answers) → AreAnswers None a t → report_reads t ≡ true
    → fixes_read t ≡ true → narration s t a ≡ narration s t unlisted
same_whole s (tree m own c r) a h e f =
    let p = own_holds always_reads m own None c r e in
    let q = and_parts (reads_for_fixes (effective own None) m.fixes) (all_fixes_below (effective own None) r) f in
    let g = λ (x y : List ℕ). head_rows m ++ (causes_if s.cause_chain (causes_of c)
    ++ (x ++ ((blank_before r ++ y) ++ row_if [] s.footer))) in
    let e0 = own_none own in
    ap₂ g
    (ap (λ o. rows_below_causes s.context_lines o (own_narrated_answer a) m) (sym e0)
    ∙ same_below s.context_lines (effective own None) (own_narrated_answer a) m h.0 p.0
    (further_holds always_reads m own None c r e) q.0
    ∙ ap (λ o. rows_below_causes s.context_lines o no_failed_reads m) e0)
    (ap (λ o. related_reports s.context_lines o (related_answers a) r) (sym e0)
    ∙ same_reports s.context_lines (effective own None) (related_answers a) r h.1 p.1 q.1
    ∙ ap (λ o. related_reports s.context_lines o no_more r) e0)

pub appended_only : (s : NarrationSettings) (t : Tree) (text old new : List ℕ) → IsNarrated s t text → new ≡ old ++ text
    → report_reads t ≡ true → fixes_read t ≡ true → new ≡ old ++ narration s t unlisted
appended_only s t text old new h e r f = e ∙ ap (λ x. old ++ x) (h.is ∙ same_whole s t h.answers h.possible r f)
