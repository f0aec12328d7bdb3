-- Of a report whose sources always read, what a narrated or a brief report tells of its labels is read.
use Rattle.std.proofs.Common.{◌≡◌, Bool, true, List, [], ◌∷◌, Option, Some, None, refl, sym, ◌∙◌}
use Rattle.std.proofs.lemmas.Bool.{and_from, or_right}
use Rattle.std.specs.List.{All}
use Rattle.std.proofs.lemmas.List.Elements.{All-head, All-tail}
use Rattle.miette_lines.specs.rules.Lists.{is_nil}
use Rattle.miette_fixes.specs.rules.Edits.{FixModel}
use Rattle.miette_protocol.specs.views.Meaning.{Label}
use Rattle.miette_protocol.specs.rules.Reading.{Source, is_in_bounds}
use Rattle.miette_labels.specs.rules.Groups.{in_order}
use Rattle.miette_tree.specs.rules.Tree.{Tree, tree, Trees, no_trees, more_trees, effective}
use Rattle.miette_tree.specs.rules.Diagnosis.{Section}
use Rattle.miette_tree.specs.rules.Reads.{AlwaysReads, AllAlwaysRead, report_passes}
use Rattle.miette_tree.specs.rules.Reads.{reports_pass, accepts, report_in_bounds, further_pass}
use Rattle.miette_tree.specs.rules.Answers.{AnswerTrees}
use Rattle.miette_tree.proofs.Nesting.{Reads, effective_reads}
use Rattle.miette_brief.specs.rules.PossibleAnswers as briefly
use Rattle.miette_brief.specs.rules.Report as brief
use Rattle.miette_narrated.specs.rules.PossibleAnswers as told
use Rattle.miette_narrated.specs.rules.Report.{Answers, NarratedReadAnswers, related_answers, first_answers}
use Rattle.miette_narrated.specs.rules.Report.{later_answers}
use Rattle.miette_narrated.specs.rules.Report.{first_fails, later_fails, own_narrated_answer}
use Rattle.miette_labels.proofs.OwnContexts.{order_all}
use Rattle.miette_graphical_rules.proofs.AlwaysRead.{accept_all}

-- ---- a narrated report: each label that is told is accepted, where the report is

one_accepted : (source : Option Source) (labels : List Label) (fails : List Bool) → Reads source
    → told.IsAnswered source labels fails → accepts source labels ≡ true
one_accepted None labels fails p a = refl
one_accepted (Some s) labels fails p a =
    and_from _ _ (sym (order_all (λ label. is_in_bounds s.bytes label.span) labels)
    ∙ accept_all s.bytes (in_order labels) a.accepted) (or_right (is_nil labels) s.always_reads p)

further_accepted : (fails : List (List Bool)) (sections : List Section)
    → All (λ section. section.source.always_reads ≡ true) sections → told.AreFurtherReads fails sections
    → further_pass accepts sections ≡ true
further_accepted fails [] q k = refl
further_accepted fails (section ∷ sections) q k =
    let reads : Section → Type 0 = λ s. s.source.always_reads ≡ true in
    and_from _ _ (one_accepted (Some section.source) section.labels (first_fails fails)
    (All-head reads section sections q) k.0)
    (further_accepted (later_fails fails) sections (All-tail reads section sections q) k.1)

mutual
  tree_accepted : (inherited : Option Source) (a : Answers) (t : Tree) → Reads inherited → AlwaysReads t
      → told.AreAnswers inherited a t → report_passes accepts inherited t ≡ true
  tree_accepted inherited a (tree m own c r) p q k =
      let source = effective own inherited in
      let here : Reads source = effective_reads own inherited q.0 p in
      and_from _ _
      (and_from _ _ (one_accepted source _ _ here k.0.0) (trees_accepted source (related_answers a) r here q.2 k.1))
      (further_accepted (own_narrated_answer a).further m.snippets q.3 k.0.1)

  trees_accepted : (inherited : Option Source) (more : AnswerTrees NarratedReadAnswers) (ts : Trees) → Reads inherited
      → AllAlwaysRead ts → told.AllAnswers inherited more ts → reports_pass accepts inherited ts ≡ true
  trees_accepted inherited more no_trees p q k = refl
  trees_accepted inherited more (more_trees t ts) p q k =
      and_from _ _ (tree_accepted inherited (first_answers more) t p q.0 k.0)
      (trees_accepted inherited (later_answers more) ts p q.1 k.1)

one_fixed : (source : Option Source) (fixes : List FixModel) → Reads source → told.reads_for_fixes source fixes ≡ true
one_fixed None fixes p = refl
one_fixed (Some s) fixes p = or_right (is_nil fixes) s.always_reads p

mutual
  tree_fixed : (inherited : Option Source) (t : Tree) → Reads inherited → AlwaysReads t
      → told.fixes_below inherited t ≡ true
  tree_fixed inherited (tree m own c r) p q =
      let source = effective own inherited in
      let here : Reads source = effective_reads own inherited q.0 p in
      and_from _ _ (one_fixed source m.fixes here) (trees_fixed source r here q.2)

  trees_fixed : (inherited : Option Source) (ts : Trees) → Reads inherited → AllAlwaysRead ts
      → told.all_fixes_below inherited ts ≡ true
  trees_fixed inherited no_trees p q = refl
  trees_fixed inherited (more_trees t ts) p q =
      and_from _ _ (tree_fixed inherited t p q.0) (trees_fixed inherited ts p q.1)

-- so is each source that fixes are read from
pub told-fixed : (t : Tree) → AlwaysReads t → told.fixes_read t ≡ true
told-fixed t q = tree_fixed None t tt q

pub told-accepted : (t : Tree) (a : Answers) → AlwaysReads t → told.AreAnswers None a t → report_in_bounds t ≡ true
told-accepted t a q k = tree_accepted None a t tt q k

-- ---- a brief report

one_kept : (source : Option Source) (labels : List Label) → Reads source → briefly.HasAccepted source (in_order labels)
    → accepts source labels ≡ true
one_kept None labels p a = refl
one_kept (Some s) labels p a =
    and_from _ _ (sym (order_all (λ label. is_in_bounds s.bytes label.span) labels)
    ∙ accept_all s.bytes (in_order labels) a) (or_right (is_nil labels) s.always_reads p)

sections_kept : (sections : List Section) → All (λ section. section.source.always_reads ≡ true) sections
    → briefly.FurtherAccepted sections → further_pass accepts sections ≡ true
sections_kept [] q k = refl
sections_kept (section ∷ sections) q k =
    let reads : Section → Type 0 = λ it. it.source.always_reads ≡ true in
    and_from _ _ (one_kept (Some section.source) section.labels (All-head reads section sections q) k.0)
    (sections_kept sections (All-tail reads section sections q) k.1)

mutual
  tree_kept : (inherited : Option Source) (a : brief.Answers) (t : Tree) → Reads inherited → AlwaysReads t
      → briefly.AreAnswers inherited a t → report_passes accepts inherited t ≡ true
  tree_kept inherited a (tree m own c r) p q k =
      let source = effective own inherited in
      let here : Reads source = effective_reads own inherited q.0 p in
      and_from _ _
      (and_from _ _ (one_kept source _ here k.0.0) (trees_kept source (brief.related_answers a) r here q.2 k.3))
      (sections_kept m.snippets q.3 k.0.1)

  trees_kept : (inherited : Option Source) (more : AnswerTrees brief.BriefReadAnswers) (ts : Trees) → Reads inherited
      → AllAlwaysRead ts → briefly.AllAnswers inherited more ts → reports_pass accepts inherited ts ≡ true
  trees_kept inherited more no_trees p q k = refl
  trees_kept inherited more (more_trees t ts) p q k =
      and_from _ _ (tree_kept inherited (brief.first_answers more) t p q.0 k.0)
      (trees_kept inherited (brief.later_answers more) ts p q.1 k.1)

-- a brief report is given only where a narrated one is
pub brief-accepted : (t : Tree) (a : brief.Answers) → AlwaysReads t → briefly.AreAnswers None a t → report_in_bounds t
    ≡ true
brief-accepted t a q k = tree_kept None a t tt q k
