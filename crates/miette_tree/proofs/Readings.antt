-- What holds where every source of a report always reads, and where a part of a report is refused.
use Rattle.std.proofs.Common.{◌≡◌, ℕ, zero, suc, ◌<◌, Bool, true, false, ◌&&◌, List, [], ◌∷◌, length, get_or, map}
use Rattle.std.proofs.Common.{Option, Some, None, refl, sym, ap, ap₂, ◌∙◌, arith, All}
use Rattle.std.proofs.lemmas.Bool.{and_from, and_parts, or_right}
use Rattle.std.proofs.lemmas.List.Elements.{All-head, All-nil, All-tail}
use Rattle.std.proofs.Math.Bool.{and-false}
use Rattle.miette_lines.specs.rules.Lists.{is_nil}
use Rattle.miette_protocol.specs.views.Meaning.{Label}
use Rattle.miette_protocol.specs.rules.Reading.{Source}
use Rattle.miette_tree.specs.rules.Diagnosis.{Diagnosis, Section}
use Rattle.miette_tree.specs.rules.Tree.{Tree, tree, Cause, Trees, no_trees, more_trees, trees, effective, head}
use Rattle.miette_tree.specs.rules.Tree.{source_of}
use Rattle.miette_tree.specs.rules.Tree.{related_of}
use Rattle.miette_tree.specs.rules.DiagnosticParts.{given_labels}
use Rattle.miette_tree.specs.rules.Reads.{AlwaysReads, AllAlwaysRead, MayMeet, report_passes, reports_pass}
use Rattle.miette_tree.specs.rules.Reads.{always_reads}
use Rattle.miette_tree.specs.rules.Reads.{accepts, further_pass, report_reads}
use Rattle.miette_tree.proofs.Nesting.{Reads, effective_reads}

-- ---- where every source always reads

no_fault : (b reads : Bool) → reads ≡ true → (b ≡ true → reads ≡ false) → b ≡ false
no_fault false reads r f = refl
no_fault true reads r f = (let no : reads ≡ false = f refl in cc)

-- no read meets a fault
pub fault_free : (s : Option Source) (b : Bool) → MayMeet s b → Reads s → b ≡ false
fault_free None b h r = h
fault_free (Some s) b h r = no_fault b s.always_reads r h

pub source_reads : (source : Option Source) (labels : List Label) → Reads source → always_reads source labels ≡ true
source_reads None labels p = refl
source_reads (Some s) labels p = or_right (is_nil labels) s.always_reads p

-- no further sources
pub none_further : All (λ (section : Section). section.source.always_reads ≡ true) []
none_further = All-nil (λ (section : Section). section.source.always_reads ≡ true)

pub further_read : (sections : List Section) → All (λ section. section.source.always_reads ≡ true) sections
    → further_pass always_reads sections ≡ true
further_read [] q = refl
further_read (section ∷ sections) q =
    let reads : Section → Type 0 = λ s. s.source.always_reads ≡ true in
    and_from (always_reads (Some section.source) section.labels) (further_pass always_reads sections)
    (source_reads (Some section.source) section.labels (All-head reads section sections q))
    (further_read sections (All-tail reads section sections q))

mutual
  tree_reads : (inherited : Option Source) (t : Tree) → Reads inherited → AlwaysReads t
      → report_passes always_reads inherited t ≡ true
  tree_reads inherited (tree m own c r) p q =
      let source = effective own inherited in
      let here : Reads source = effective_reads own inherited q.0 p in
      and_from (always_reads source (given_labels m.labels) && reports_pass always_reads source r)
      (further_pass always_reads m.snippets)
      (and_from (always_reads source (given_labels m.labels)) (reports_pass always_reads source r)
      (source_reads source (given_labels m.labels) here) (trees_read source r here q.2))
      (further_read m.snippets q.3)

  trees_read : (inherited : Option Source) (ts : Trees) → Reads inherited → AllAlwaysRead ts
      → reports_pass always_reads inherited ts ≡ true
  trees_read inherited no_trees p q = refl
  trees_read inherited (more_trees t ts) p q =
      and_from (report_passes always_reads inherited t) (reports_pass always_reads inherited ts)
      (tree_reads inherited t p q.0) (trees_read inherited ts p q.1)

-- so does every source that labels of the report are read from
pub told_reads : (t : Tree) → AlwaysReads t → report_reads t ≡ true
told_reads t q = tree_reads None t tt q

-- what a test finds of a report beside its further sources
pub own_holds : (test : Option Source → List Label → Bool) (m : Diagnosis) (s inherited : Option Source) (c : Cause)
    (r : Trees) → report_passes test inherited (tree m s c r) ≡ true
    → (test (effective s inherited) (given_labels m.labels) ≡ true) ×
    (reports_pass test (effective s inherited) r ≡ true)
own_holds test m s inherited c r e =
    let here = test (effective s inherited) (given_labels m.labels) in
    let below = reports_pass test (effective s inherited) r in
    and_parts here below (and_parts (here && below) (further_pass test m.snippets) e).0

-- ---- where a part is refused

-- a report of which a part beside its further sources fails a test
pub own_fails : (test : Option Source → List Label → Bool) (t : Tree) (inherited : Option Source)
    → (test (effective (source_of t) inherited) (given_labels (head t).labels)
    && reports_pass test (effective (source_of t) inherited) (related_of t)) ≡ false → report_passes test inherited t
    ≡ false
own_fails test (tree m s c r) inherited e = ap (λ b. b && further_pass test m.snippets) e

pub refused_below : (t : Tree) (inherited source : Option Source) (related : Trees) → source
    ≡ effective (source_of t) inherited → related ≡ related_of t →
    reports_pass accepts source related ≡ false → report_passes accepts inherited t ≡ false
refused_below (tree m s c r) inherited source related es er e =
    own_fails accepts (tree m s c r) inherited
    (ap (λ b. accepts (effective s inherited) (given_labels m.labels) && b) (sym (ap₂ (reports_pass accepts) es er) ∙ e)
    ∙ and-false (accepts (effective s inherited) (given_labels m.labels)))

pub one_refused : {R : Type 0} (value : R → Tree) (inherited : Option Source) (rs : List R) (i : ℕ) (d : R) → i
    < length rs → d ≡ get_or rs i d → report_passes accepts inherited (value d) ≡ false →
    reports_pass accepts inherited (trees (map value rs)) ≡ false
one_refused value inherited [] i d lt is e = absurd (omega arith)
one_refused value inherited (r ∷ rs) zero d lt is e =
    ap (λ b. b && reports_pass accepts inherited (trees (map value rs)))
    (ap (λ x. report_passes accepts inherited (value x)) (sym is) ∙ e)
one_refused value inherited (r ∷ rs) (suc i) d lt is e =
    ap (λ b. report_passes accepts inherited (value r) && b) (one_refused value inherited rs i d (omega arith) is e)
    ∙ and-false (report_passes accepts inherited (value r))
