-- Answers of reads, put together from those of the parts.
use Rattle.std.proofs.Common.{◌≡◌, ℕ, ◌≤◌, List, [], ◌∷◌, ◌++◌, length, map, drop, Bool, true, false, Option, Some}
use Rattle.std.proofs.Common.{None, refl, sym, ap, subst, ◌∙◌, append_assoc, codes, ◌&&◌, ◌||◌}
use Rattle.std.specs.Prelude.{IsUtf8, if◌then◌else◌, option_map}
use Rattle.std.proofs.lemmas.List.{drop_all}
use Rattle.std.proofs.lemmas.Bool.{and_parts}
use Rattle.miette_lines.specs.rules.Lists.{is_nil}
use Rattle.miette_tree.specs.rules.Diagnosis.{Diagnosis, Section}
use Rattle.miette_protocol.specs.rules.Reading.{Source}
use Rattle.miette_protocol.specs.views.Meaning.{Label}
use Rattle.miette_tree.specs.rules.Tree.{Tree, tree, Trees, no_trees, more_trees, trees, effective, head, source_of}
use Rattle.miette_tree.specs.rules.Tree.{Cause, cause_of, causes_of, related_of}
use Rattle.miette_tree.specs.rules.Answers.{AnswerTrees}
use Rattle.miette_json.specs.rules.Json.{Json, string, array, object, item, no_members, member}
use Rattle.miette_json.specs.rules.Json.{json_text}
use Rattle.miette_json.specs.rules.Denotes.{Denotes, HasTokensOf}
use Rattle.miette_json.specs.rules.JsonReport.{NameAnswers, unlisted, listed, no_more, and_more}
use Rattle.miette_json.specs.rules.JsonReport.{related_answers, first_answers, later_answers, AreAnswers, AllAnswers}
use Rattle.miette_json.specs.rules.JsonReport.{report_json, report_object, reports_json, file_name, NameFaults}
use Rattle.miette_json.specs.rules.JsonReport.{own_faults, first_fault, later_faults, AreFurther, section_json}
use Rattle.miette_json.specs.rules.JsonReport.{sections_json, labels_json}
use Rattle.miette_tree.specs.rules.DiagnosticParts.{given_labels}
use Rattle.miette_tree.proofs.Readings.{fault_free, own_holds}
use Rattle.miette_tree.specs.rules.Reads.{MayMeet, always_reads, report_passes, reports_pass, further_pass}
use Rattle.miette_json.specs.rules.JsonText.{IsJsonOf}
use Rattle.miette_json.proofs.JsonJoined.{report_parts}
use Rattle.miette_json.proofs.WrittenParts.{whole_written}
use Rattle.miette_json.proofs.Standing.{stands_for}
use Rattle.miette_json.specs.rules.Writing.{JsonPrefix, closed, empty_prefix, opened, with_items, with_key}
use Rattle.miette_json.specs.rules.Writing.{with_value}
use Rattle.miette_json.specs.steps.JsonParts.{AppendsJsonReport, AppendsJsonRelated, AppendsFileAndLabels}
use Rattle.miette_json.specs.steps.JsonParts.{AppendsSnippetsAndFixes, with_head, with_reasons}
use Rattle.miette_json.specs.steps.JsonParts.{with_file_and_labels, with_snippets_and_fixes}

-- Some related reports are written, and these are left: whatever answers these have, the whole has some.
pub record RelatedSoFar (inherited : Option Source) (all left : Trees) (start now : JsonPrefix) : Type 0 where
  pub with_rest : AnswerTrees NameFaults → AnswerTrees NameFaults
  pub possible : (more : AnswerTrees NameFaults) → AllAnswers inherited more left
      → AllAnswers inherited (with_rest more) all
  pub joined : (more : AnswerTrees NameFaults) → with_items (reports_json inherited more left) now
      ≡ with_items (reports_json inherited (with_rest more) all) start

pub none_so_far : (inherited : Option Source) (all : Trees) (start now : JsonPrefix) → now ≡ start
    → RelatedSoFar inherited all all start now
none_so_far inherited all start now e = record {
  with_rest = λ more. more;
  possible = λ more p. p;
  joined = λ more. ap (with_items (reports_json inherited more all)) e;
}

pub one_more : (inherited : Option Source) (all : Trees) (t : Tree) (ts : Trees) (start now new : JsonPrefix)
    → RelatedSoFar inherited all (more_trees t ts) start now → AppendsJsonReport inherited t now new
    → RelatedSoFar inherited all ts start new
one_more inherited all t ts start now new r a = record {
  with_rest = λ more. r.with_rest (and_more a.answers more);
  possible = λ more p. r.possible (and_more a.answers more) (a.possible, p);
  joined = λ more. ap (with_items (reports_json inherited more ts)) a.written ∙ r.joined (and_more a.answers more);
}

pub all_written : (inherited : Option Source) (all : Trees) (old now new : JsonPrefix)
    → RelatedSoFar inherited all no_trees (opened 91 old) now → new ≡ closed 93 now
    → AppendsJsonRelated inherited all old new
all_written inherited all old now new r e = record {
  answers = r.with_rest no_more;
  possible = r.possible no_more tt;
  written = e ∙ ap (closed 93) (r.joined no_more);
}

pub at_the_end : {R : Type 0} (value : R → Tree) (inherited : Option Source) (rs : List R) (all : Trees) (i : ℕ)
    (start now : JsonPrefix) → length rs ≤ i
    → RelatedSoFar inherited all (trees (map value (drop i rs))) start now
    → RelatedSoFar inherited all no_trees start now
at_the_end value inherited rs all i start now h r =
    subst (λ l. RelatedSoFar inherited all (trees (map value l)) start now) (drop_all i rs h) r

-- six parts of an object, one after the other
joined : (f g h k l m : JsonPrefix → JsonPrefix) (old a b c d e new : JsonPrefix) → a ≡ f old → b ≡ g a → c ≡ h b
    → d ≡ k c → e ≡ l d → new ≡ m e → new ≡ m (l (k (h (g (f old)))))
joined f g h k l m old a b c d e new p q r s t u =
    u ∙ ap m (t ∙ ap l (s ∙ ap k (r ∙ ap h (q ∙ ap g p))))

pub report_written : (inherited : Option Source) (t : Tree) (source : Option Source) (labels : List Label)
    (related : Trees) (old begun top reasons places more key others new : JsonPrefix)
    → source ≡ effective (source_of t) inherited → labels ≡ given_labels (head t).labels → related ≡ related_of t
    → begun ≡ opened 123 old → top ≡ with_head (head t) begun
    → reasons ≡ with_reasons (causes_of (cause_of t)) (head t) top
    → AppendsFileAndLabels source labels reasons places → AppendsSnippetsAndFixes (head t) places more
    → key ≡ with_key (codes "related") more → AppendsJsonRelated source related key others
    → new ≡ closed 125 others → AppendsJsonReport inherited t old new
report_written inherited (tree m s c rs) source labels related old begun top reasons places more key others new
    es el er eb et e put added ek related_put en =
    let own = effective s inherited in
    let here : AppendsFileAndLabels own (given_labels m.labels) reasons places =
    subst (λ l. AppendsFileAndLabels own l reasons places) el
    (subst (λ o. AppendsFileAndLabels o labels reasons places) es put) in
    let there : AppendsJsonRelated own rs key others = subst (λ ts. AppendsJsonRelated own ts key others) er
    (subst (λ o. AppendsJsonRelated o related key others) es related_put) in
    let faults : NameFaults = record { own = here.fault; further = added.faults } in
    let answers : NameAnswers = listed faults unlisted there.answers in record {
      answers = answers;
      possible = ((here.possible, added.possible), there.possible);
      written = en ∙ ap (closed 125) (joined (with_head m) (with_reasons (causes_of c) m)
          (with_file_and_labels here.fault own (given_labels m.labels)) (with_snippets_and_fixes added.faults m)
          (with_key (codes "related")) (with_value (array (reports_json own there.answers rs)))
          begun top reasons places more key others et e here.written added.written ek there.written)
          ∙ ap (λ q. closed 125 (with_value (array (reports_json own there.answers rs)) (with_key (codes "related")
          (with_snippets_and_fixes added.faults m (with_file_and_labels here.fault own (given_labels m.labels)
          (with_reasons (causes_of c) m (with_head m q))))))) eb
          ∙ sym (report_parts inherited answers (tree m s c rs) old);
    }

-- ---- sources that always read

same_name : (source : Option Source) (labels : List Label) (b : Bool) → MayMeet source b → always_reads source labels
    ≡ true
    → option_map (file_name b labels) source ≡ option_map (file_name false labels) source
same_name None labels b f r = refl
same_name (Some s) [] b f r = refl
same_name (Some s) (l ∷ ls) b f r = ap (λ fault. Some (file_name fault (l ∷ ls) s)) (fault_free (Some s) b f r)

same_file : (s : Source) (labels : List Label) (b : Bool) → MayMeet (Some s) b
    → (is_nil labels || s.always_reads) ≡ true → file_name b labels s ≡ file_name false labels s
same_file s [] b f r = refl
same_file s (l ∷ ls) b f r = ap (λ fault. file_name fault (l ∷ ls) s) (fault_free (Some s) b f r)

same_sections : (faults : List Bool) (sections : List Section) → AreFurther faults sections
    → further_pass always_reads sections ≡ true → sections_json faults sections ≡ sections_json [] sections
same_sections faults [] p reads = refl
same_sections faults (s ∷ ss) p reads =
    let read = and_parts (is_nil s.labels || s.source.always_reads) (further_pass always_reads ss) reads in
    ap (λ name. item (object (member (codes "filename") (string name)
    (member (codes "labels") (array (labels_json s.labels)) no_members))) (sections_json (later_faults faults) ss))
    (same_file s.source s.labels (first_fault faults) p.0 read.0)
    ∙ ap (item (section_json false s.source s.labels)) (same_sections (later_faults faults) ss p.1 read.1)

-- what a test finds of a report's further sources
further_holds : (test : Option Source → List Label → Bool) (m : Diagnosis) (s inherited : Option Source) (c : Cause)
    (r : Trees) → report_passes test inherited (tree m s c r) ≡ true → further_pass test m.snippets ≡ true
further_holds test m s inherited c r e =
    (and_parts (test (effective s inherited) (given_labels m.labels)
    && reports_pass test (effective s inherited) r) (further_pass test m.snippets) e).1

mutual
  same_value : (inherited : Option Source) (a : NameAnswers) (t : Tree) → AreAnswers inherited a t
      → report_passes always_reads inherited t ≡ true → report_json inherited a t ≡ report_json inherited unlisted t
  same_value inherited a (tree m s c r) p reads =
      let own : Option Source = effective s inherited in
      let labels : List Label = given_labels m.labels in
      let read = own_holds always_reads m s inherited c r reads in
      let faults = own_faults a in
      let name : option_map (file_name faults.own labels) own ≡ option_map (file_name false labels) own =
      same_name own labels faults.own p.0.0 read.0 in
      let further : sections_json faults.further m.snippets ≡ sections_json [] m.snippets =
      same_sections faults.further m.snippets p.0.1 (further_holds always_reads m s inherited c r reads) in
      let others : reports_json own (related_answers a) r ≡ reports_json own no_more r =
      same_values own (related_answers a) r p.1 read.1 in
      let first = option_map (file_name false labels) own in
      ap (λ n. report_object m (causes_of c) n (sections_json faults.further m.snippets)
      (reports_json own (related_answers a) r)) name
      ∙ ap (λ is. report_object m (causes_of c) first is (reports_json own (related_answers a) r)) further
      ∙ ap (report_object m (causes_of c) first (sections_json [] m.snippets)) others

  same_values : (inherited : Option Source) (a : AnswerTrees NameFaults) (ts : Trees) → AllAnswers inherited a ts
      → reports_pass always_reads inherited ts ≡ true → reports_json inherited a ts ≡ reports_json inherited no_more ts
  same_values inherited a no_trees p reads = refl
  same_values inherited a (more_trees t ts) p reads =
      let read = and_parts (report_passes always_reads inherited t) (reports_pass always_reads inherited ts) reads in
      ap (λ j. item j (reports_json inherited (later_answers a) ts))
      (same_value inherited (first_answers a) t p.0 read.0)
      ∙ ap (item (report_json inherited unlisted t)) (same_values inherited (later_answers a) ts p.1 read.1)

-- all that is claimed of a report's text
pub is_json : ((v : Json) → HasTokensOf (json_text v) v)
    → ((bytes : List ℕ) (v w : Json) → Denotes bytes v → Denotes bytes w → v ≡ w)
    → (t : Tree) (text : List ℕ) (p : JsonPrefix) → IsUtf8 text → AppendsJsonReport None t empty_prefix p
    → text ≡ p.text → IsJsonOf t text
is_json tokens one t text p utf8 a e =
    let value = report_json None a.answers t in
    let it = stands_for tokens one value text utf8 (e ∙ whole_written value p a.written) in
    record {
      value = value;
      of_tree = record { answers = a.answers; possible = a.possible; is = refl };
      always = λ reads. same_value None a.answers t a.possible reads;
      spelled = it.spelled;
      denotes = it.denotes;
      only = it.only;
    }
