-- Snippets over further sources, told one source after the other.
use Rattle.std.proofs.Common.{◌≡◌, ℕ, zero, suc, ◌+◌, ◌<◌, ◌≤◌, List, [], ◌∷◌, ◌++◌, length, map, drop, get_or, Bool}
use Rattle.std.proofs.Common.{true, false, ◌&&◌, Option, Some, refl, sym, ap, ap₂, subst, ◌∙◌, append_assoc}
use Rattle.std.proofs.Common.{append-nil, add-one, arith}
use Rattle.std.proofs.Math.Bool.{and-false}
use Rattle.std.proofs.Math.Seq.{drop-cons}
use Rattle.std.proofs.lemmas.Bool.{and_parts}
use Rattle.std.proofs.lemmas.List.{drop_all}
use Rattle.miette_protocol.specs.rules.Reading.{Source}
use Rattle.miette_protocol.specs.views.Meaning.{Label}
use Rattle.miette_tree.specs.rules.Diagnosis.{Diagnosis, Section}
use Rattle.miette_tree.specs.rules.DiagnosticParts.{given_labels}
use Rattle.miette_tree.specs.rules.Reads.{accepts, report_passes, reports_pass, further_pass}
use Rattle.miette_tree.specs.rules.Tree.{Tree, tree, Cause, Trees, effective, head, source_of}
use Rattle.miette_narrated.specs.rules.Report.{snippet_rows, further_rows}
use Rattle.miette_narrated.specs.rules.PossibleAnswers.{AreFurtherReads}
use Rattle.miette_narrated.specs.steps.AppendedParts.{AppendsNarratedSnippets, AppendsFurther, AppendsAll}

-- ---- one source after the other

-- Some are told, and these are left: whatever answers these have, the whole has some.
pub record FurtherSoFar (context : ℕ) (all left : List Section) (old now : List ℕ) : Type 0 where
  pub with_rest : List (List Bool) → List (List Bool)
  pub possible : (fails : List (List Bool)) → AreFurtherReads fails left → AreFurtherReads (with_rest fails) all
  pub joined_is : (fails : List (List Bool)) → now ++ further_rows context fails left ≡ old
      ++ further_rows context (with_rest fails) all

pub none_told : (context : ℕ) (all : List Section) (old : List ℕ) → FurtherSoFar context all all old old
none_told context all old = record {
  with_rest = λ fails. fails;
  possible = λ fails p. p;
  joined_is = λ fails. refl;
}

one_told : (context : ℕ) (all : List Section) (s : Section) (ss : List Section) (old now new : List ℕ)
    → FurtherSoFar context all (s ∷ ss) old now → AppendsNarratedSnippets context (Some s.source) s.labels now new
    → FurtherSoFar context all ss old new
one_told context all s ss old now new r a = record {
  with_rest = λ fails. r.with_rest (a.fails ∷ fails);
  possible = λ fails p. r.possible (a.fails ∷ fails) (a.possible, p);
  joined_is = λ fails. ap (λ x. x ++ further_rows context fails ss) a.appended
      ∙ append_assoc now (snippet_rows context (Some s.source) a.fails s.labels) (further_rows context fails ss)
      ∙ r.joined_is (a.fails ∷ fails);
}

left_of : {X : Type 0} (value : X → Section) (xs : List X) (i : ℕ) (d : X) → i < length xs → d ≡ get_or xs i d
    → map value (drop i xs) ≡ value d ∷ map value (drop (i + 1) xs)
left_of value xs i d lt is =
    ap (map value) (drop-cons xs i d lt ∙ ap (λ x. x ∷ drop (suc i) xs) (sym is))
    ∙ ap (λ k. value d ∷ map value (drop k xs)) (sym (add-one i))

pub next_told : {X : Type 0} (value : X → Section) (context : ℕ) (xs : List X) (i : ℕ) (d : X) (source : Source)
    (labels : List Label) (old now new : List ℕ) → i < length xs → d ≡ get_or xs i d → source ≡ (value d).source
    → labels ≡ (value d).labels → FurtherSoFar context (map value xs) (map value (drop i xs)) old now
    → AppendsNarratedSnippets context (Some source) labels now new
    → FurtherSoFar context (map value xs) (map value (drop (i + 1) xs)) old new
next_told value context xs i d source labels old now new lt is es el r a =
    one_told context (map value xs) (value d) (map value (drop (i + 1) xs)) old now new
    (subst (λ left. FurtherSoFar context (map value xs) left old now) (left_of value xs i d lt is) r)
    (subst (λ ls. AppendsNarratedSnippets context (Some (value d).source) ls now new) el
    (subst (λ s. AppendsNarratedSnippets context (Some s) labels now new) es a))

pub further_told : {X : Type 0} (value : X → Section) (context : ℕ) (xs : List X) (i : ℕ) (old now : List ℕ)
    → length xs ≤ i → FurtherSoFar context (map value xs) (map value (drop i xs)) old now
    → AppendsFurther context (map value xs) old now
further_told value context xs i old now end h =
    let r : FurtherSoFar context (map value xs) [] old now =
    subst (λ left. FurtherSoFar context (map value xs) (map value left) old now) (drop_all i xs end) h in
    record {
      fails = r.with_rest [];
      possible = r.possible [] tt;
      appended = sym (append-nil now) ∙ r.joined_is [];
    }

-- ---- those of all sources

pub all_told : (context : ℕ) (source : Option Source) (m : Diagnosis) (labels : List Label) (sections : List Section)
    (old now new : List ℕ) → labels ≡ given_labels m.labels → sections ≡ m.snippets
    → AppendsNarratedSnippets context source labels old now → AppendsFurther context sections now new
    → AppendsAll context source m old new
all_told context source m labels sections old now new el es first more =
    let here : AppendsNarratedSnippets context source (given_labels m.labels) old now =
    subst (λ ls. AppendsNarratedSnippets context source ls old now) el first in
    let there : AppendsFurther context m.snippets now new =
    subst (λ ss. AppendsFurther context ss now new) es more in
    record {
      answers = record { own = here.fails; further = there.fails; fixes = false };
      own = here.possible;
      further = there.possible;
      appended = there.appended ∙ ap (λ x. x ++ further_rows context there.fails m.snippets) here.appended
          ∙ append_assoc old (snippet_rows context source here.fails (given_labels m.labels))
          (further_rows context there.fails m.snippets);
    }

-- ---- where one is refused

pub section_refused : {X : Type 0} (value : X → Section) (xs : List X) (i : ℕ) (d : X) (source : Source)
    (labels : List Label) → i < length xs → d ≡ get_or xs i d → source ≡ (value d).source
    → labels ≡ (value d).labels → accepts (Some source) labels ≡ false
    → further_pass accepts (map value xs) ≡ false
section_refused value [] i d source labels lt is es el e = absurd (omega arith)
section_refused value (x ∷ xs) zero d source labels lt is es el e =
    ap (λ b. b && further_pass accepts (map value xs))
    (sym (ap₂ (λ s ls. accepts (Some s) ls) (es ∙ ap (λ y. (value y).source) is) (el ∙ ap (λ y. (value y).labels) is))
    ∙ e)
section_refused value (x ∷ xs) (suc i) d source labels lt is es el e =
    ap (λ b. accepts (Some (value x).source) (value x).labels && b)
    (section_refused value xs i d source labels (omega arith) is es el e)
    ∙ and-false (accepts (Some (value x).source) (value x).labels)

pub first_refused : (source : Option Source) (m : Diagnosis) (labels : List Label) → labels ≡ given_labels m.labels
    → accepts source labels ≡ false
    → (accepts source (given_labels m.labels) && further_pass accepts m.snippets) ≡ false
first_refused source m labels el e =
    ap (λ b. b && further_pass accepts m.snippets) (sym (ap (accepts source) el) ∙ e)

pub further_refused : (source : Option Source) (m : Diagnosis) (sections : List Section) → sections ≡ m.snippets
    → further_pass accepts sections ≡ false
    → (accepts source (given_labels m.labels) && further_pass accepts m.snippets) ≡ false
further_refused source m sections es e =
    ap (λ b. accepts source (given_labels m.labels) && b) (sym (ap (further_pass accepts) es) ∙ e)
    ∙ and-false (accepts source (given_labels m.labels))

around : (a b c : Bool) → (a && c) ≡ false → ((a && b) && c) ≡ false
around true true c e = e
around true false c e = refl
around false b c e = refl

-- a report of which a label is refused
pub own_refused : (t : Tree) (inherited source : Option Source) → source ≡ effective (source_of t) inherited
    → (accepts source (given_labels (head t).labels) && further_pass accepts (head t).snippets) ≡ false
    → report_passes accepts inherited t ≡ false
own_refused (tree m s c r) inherited source es e =
    around (accepts (effective s inherited) (given_labels m.labels)) (reports_pass accepts (effective s inherited) r)
    (further_pass accepts m.snippets)
    (sym (ap (λ o. accepts o (given_labels m.labels) && further_pass accepts m.snippets) es) ∙ e)

-- what a test finds of a report's further sources
pub further_holds : (test : Option Source → List Label → Bool) (m : Diagnosis) (s inherited : Option Source) (c : Cause)
    (r : Trees) → report_passes test inherited (tree m s c r) ≡ true → further_pass test m.snippets ≡ true
further_holds test m s inherited c r e =
    (and_parts (test (effective s inherited) (given_labels m.labels)
    && reports_pass test (effective s inherited) r) (further_pass test m.snippets) e).1
