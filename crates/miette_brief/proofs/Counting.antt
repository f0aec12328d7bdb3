-- One row for each part.
use Rattle.std.proofs.Common.{◌≡◌, ◌≢◌, ℕ, suc, ◌+◌, ◌==◌, List, [], ◌∷◌, ◌++◌, length, map, Bool, true, false, nat_le}
use Rattle.std.proofs.Common.{Option, Some, None, refl, sym, subst, ap, ap₂, ◌∙◌, arith}
use Rattle.std.specs.Prelude.{if◌then◌else◌}
use Rattle.std.specs.Char.{is_control}
use Rattle.std.specs.List.{AllByRecursion}
use Rattle.std.specs.Str.{NoCharPasses}
use Rattle.std.proofs.lemmas.List.{length-append, length-map}
use Rattle.std.specs.Option.{option_len, option_map_or}
use Rattle.miette_protocol.specs.rules.Reading.{Source}
use Rattle.miette_protocol.specs.views.Meaning.{Label}
use Rattle.miette_fixes.specs.declared.error.FixError.{FixError}
use Rattle.miette_fixes.specs.rules.Applying.{by_offset, put_edit, edits_error}
use Rattle.miette_fixes.specs.rules.Edits.{FixModel, Replacement, is_after}
use Rattle.miette_tree.specs.rules.Answers.{AnswerTrees}
use Rattle.miette_tree.specs.rules.Tree.{Tree, tree, Cause, diagnostic, texts, causes_of, chain_of, Trees, no_trees}
use Rattle.miette_tree.specs.rules.Tree.{more_trees, effective}
use Rattle.miette_tree.specs.rules.DiagnosticParts.{given_labels}
use Rattle.miette_tree.specs.rules.Diagnosis.{Diagnosis, Section}
use Rattle.miette_labels.specs.rules.Groups.{in_order, put_label}
use Rattle.miette_lines.proofs.Cases.{by_cases}
use Rattle.miette_brief.specs.rules.Fixes.{BriefFixOrigin, no_source, unread, read, brief_fix_origin, fix_it_row}
use Rattle.miette_brief.specs.rules.Fixes.{fix_row}
use Rattle.miette_brief.specs.rules.Fixes.{failed_rows, fix_failure_reason, applied_fix_rows, brief_rows_over}
use Rattle.miette_brief.specs.rules.Fixes.{brief_fix_rows, brief_fixes_rows}
use Rattle.miette_brief.specs.rules.Rows.{BriefLocation, ReportRow, row_text, brief_rows_text}
use Rattle.miette_brief.specs.rules.Locations.{label_location, diagnostic_location}
use Rattle.miette_brief.specs.rules.Report.{BriefSettings, Answers, own_brief_answer, cause_answers, BriefReadAnswers}
use Rattle.miette_brief.specs.rules.Report.{related_answers, first_answers, later_answers, note_rows_of, note_rows}
use Rattle.miette_brief.specs.rules.Report.{cause_row, cause_rows, caused_rows, cause_rows_if, help_rows}
use Rattle.miette_brief.specs.rules.Report.{own_brief_rows}
use Rattle.miette_brief.specs.rules.Report.{report_rows, related_rows, brief, further_notes, labelled_rows}
use Rattle.miette_brief.specs.rules.Report.{brief_advice_rows}
use Rattle.miette_brief.specs.rules.Report.{brief_text_in}
use Rattle.miette_brief.specs.declared.form.BriefForm.{BriefForm}
use Rattle.miette_brief.specs.declared.form.BriefForm.TheVariants.{Gcc, Github}
use Rattle.miette_brief.specs.rules.PossibleAnswers.{IsBrief}
use Rattle.miette_brief.specs.laws.Parts.{label_text_count, further_label_text_count, cause_count, edit_parts}
use Rattle.miette_brief.specs.laws.Parts.{fix_parts, fixes_parts}
use Rattle.miette_brief.specs.laws.Parts.{advice_parts, parts, parts_below, all_parts, text_of_rows, IsRows}
use Rattle.miette_brief.specs.laws.Parts.{HasEachPart}
use Rattle.miette_brief.proofs.Clean.{text_clean, text_nonempty}

-- ---- rows of a text

ended_rows : (rows : List ReportRow) → brief_rows_text rows ≡ text_of_rows (map row_text rows)
ended_rows [] = refl
ended_rows (row ∷ rows) = ap (λ l. row_text row ++ (10 ∷ l)) (ended_rows rows)

each_row : (rows : List ReportRow) → AllByRecursion (λ row. NoCharPasses is_control row × (row ≢ []))
    (map row_text rows)
each_row [] = tt
each_row (row ∷ rows) = ((text_clean row, text_nonempty row), each_row rows)

-- ---- how many

note_counted : (at : BriefLocation) (text : Option (List ℕ)) → length (note_rows_of at text) ≡ option_len text
note_counted at None = refl
note_counted at (Some text) = refl

-- `k` after `n` others
pub counted_after : {A : Type 0} (xs ys : List A) (n k : ℕ) → length xs ≡ n → length ys ≡ k
    → length (xs ++ ys) ≡ n + k
counted_after xs ys n k e f = length-append xs ys ∙ ap₂ (λ x y. x + y) e f

help_counted : (at : BriefLocation) (text : Option (List ℕ)) → length (help_rows at text) ≡ option_len text
help_counted at None = refl
help_counted at (Some text) = refl

notes_counted : (source : Option Source) (labels : List Label) → length (note_rows source labels)
    ≡ label_text_count labels
notes_counted source [] = refl
notes_counted source (label ∷ labels) =
    counted_after (note_rows_of (label_location source label.span) label.text) (note_rows source labels) _ _
    (note_counted (label_location source label.span) label.text) (notes_counted source labels)

put_counted : (label : Label) (labels : List Label) → label_text_count (put_label label labels) ≡ option_len label.text
    + label_text_count labels
put_counted label [] = refl
put_counted label (next ∷ labels) =
    by_cases {C = label_text_count (put_label label (next ∷ labels)) ≡ option_len label.text
    + label_text_count (next ∷ labels)}
    (nat_le label.span.offset next.span.offset)
    (λ t. rw t refl)
    (λ f. rw f (let h = put_counted label labels in omega (arith, h)))

order_counted : (labels : List Label) → label_text_count (in_order labels) ≡ label_text_count labels
order_counted [] = refl
order_counted (label ∷ labels) = put_counted label (in_order labels)
    ∙ ap (λ n. option_len label.text + n) (order_counted labels)

further_counted : (sections : List Section) → length (further_notes sections) ≡ further_label_text_count sections
further_counted [] = refl
further_counted (section ∷ sections) =
    counted_after (note_rows (Some section.source) (in_order section.labels)) (further_notes sections) _ _
    (notes_counted (Some section.source) (in_order section.labels) ∙ order_counted section.labels)
    (further_counted sections)

labels_counted : (source : Option Source) (m : Diagnosis) → length (labelled_rows source m)
    ≡ label_text_count (given_labels m.labels) + further_label_text_count m.snippets
labels_counted source m =
    counted_after (note_rows source (in_order (given_labels m.labels))) (further_notes m.snippets) _ _
    (notes_counted source (in_order (given_labels m.labels)) ∙ order_counted (given_labels m.labels))
    (further_counted m.snippets)

mutual
  causes_counted : (at : BriefLocation) (inherited : Option Source) (a : Answers) (c : Cause)
      → length (cause_rows at inherited a c) ≡ length (causes_of c)
  causes_counted at inherited a (diagnostic t) = caused_counted at inherited a t
  causes_counted at inherited a (texts ts) = length-map ts (cause_row at)

  caused_counted : (at : BriefLocation) (inherited : Option Source) (a : Answers) (t : Tree)
      → length (caused_rows at inherited a t) ≡ length (chain_of t)
  caused_counted at inherited a (tree m own c r) = (let h = causes_counted at inherited (cause_answers a) c in ap suc h)

told_counted : (chain : Bool) (at : BriefLocation) (inherited : Option Source) (a : Answers) (c : Cause)
    → length (cause_rows_if chain at inherited a c) ≡ cause_count chain (causes_of c)
told_counted true at inherited a c = causes_counted at inherited a c
told_counted false at inherited a c = refl

-- ---- fixes

put_longer : (edit : Replacement) (edits : List Replacement) → length (put_edit edit edits) ≡ suc (length edits)
put_longer edit [] = refl
put_longer edit (next ∷ edits) =
    by_cases {C = length (put_edit edit (next ∷ edits)) ≡ suc (suc (length edits))} (is_after edit next)
    (λ t. rw t (ap suc (put_longer edit edits)))
    (λ f. rw f refl)

order_long : (edits : List Replacement) → length (by_offset edits) ≡ length edits
order_long [] = refl
order_long (edit ∷ edits) = put_longer edit (by_offset edits) ∙ ap suc (order_long edits)

applied_counted : (at : BriefLocation) (name : Option (List ℕ)) (bytes message : List ℕ) (edits : List Replacement)
    → length (applied_fix_rows at name bytes message edits) ≡ suc (length edits)
applied_counted at name bytes message [] = refl
applied_counted at name bytes message (edit ∷ edits) = ap suc (length-map (edit ∷ edits) (fix_it_row name bytes))

refused_counted : (at : BriefLocation) (message : List ℕ) (refused : Option FixError) (rows : List ReportRow) (n : ℕ)
    → length rows ≡ suc n
    → length (option_map_or (λ e. failed_rows at message (fix_failure_reason e)) refused rows)
    ≡ suc (option_map_or (λ e. 1) refused n)
refused_counted at message None rows n h = h
refused_counted at message (Some e) rows n h = refl

over_counted : (at : BriefLocation) (over : BriefFixOrigin) (proposal : FixModel)
    → length (brief_rows_over at over proposal)
    ≡ suc (edit_parts over proposal)
over_counted at no_source proposal = refl
over_counted at unread proposal = refl
over_counted at (read name bytes) proposal =
    let edits = by_offset proposal.edits in
    refused_counted at proposal.message (edits_error (length bytes) proposal.edits)
    (applied_fix_rows at name bytes proposal.message edits) (length proposal.edits)
    (applied_counted at name bytes proposal.message edits ∙ ap suc (order_long proposal.edits))

some_counted : (none : Bool) (first : ReportRow) (rows : List ReportRow) (n : ℕ) → length rows ≡ suc n
    → length (if none then first ∷ [] else rows) ≡ 1 + (if none then 0 else n)
some_counted true first rows n h = refl
some_counted false first rows n h = h ∙ omega arith

fix_counted : (at : BriefLocation) (over : BriefFixOrigin) (proposal : FixModel)
    → length (brief_fix_rows at over proposal)
    ≡ fix_parts over proposal
fix_counted at over proposal =
    some_counted (length proposal.edits == 0) (fix_row at proposal.message) (brief_rows_over at over proposal)
    (edit_parts over proposal) (over_counted at over proposal)

fixes_counted : (at : BriefLocation) (over : BriefFixOrigin) (proposals : List FixModel)
    → length (brief_fixes_rows at over proposals)
    ≡ fixes_parts over proposals
fixes_counted at over [] = refl
fixes_counted at over (proposal ∷ proposals) =
    counted_after (brief_fix_rows at over proposal) (brief_fixes_rows at over proposals) _ _
    (fix_counted at over proposal)
    (fixes_counted at over proposals)

advice_counted : (at : BriefLocation) (source : Option Source) (fails : Bool) (m : Diagnosis)
    → length (brief_advice_rows at source fails m) ≡ advice_parts source fails m
advice_counted at source fails m =
    let over = brief_fix_origin source fails in
    counted_after (help_rows at m.help) (brief_fixes_rows at over m.fixes) _ _ (help_counted at m.help)
    (fixes_counted at over m.fixes)

-- ---- reports

mutual
  report_counted : (chain : Bool) (inherited : Option Source) (a : Answers) (t : Tree)
      → length (report_rows chain inherited a t) ≡ parts_below chain inherited a t
  report_counted chain inherited a (tree m own c r) =
      let from = effective own inherited in
      let fails = (own_brief_answer a).fixes in
      let at : BriefLocation = diagnostic_location from (own_brief_answer a).place (in_order (given_labels m.labels))
      m.snippets in
      let notes = labelled_rows from m in
      let causes = cause_rows_if chain at from (cause_answers a) c in
      let advice = brief_advice_rows at from fails m in
      let n : length notes ≡ label_text_count (given_labels m.labels) + further_label_text_count m.snippets
      = labels_counted from m in
      let k : length causes ≡ cause_count chain (causes_of c) = told_counted chain at from (cause_answers a) c in
      let tail : length (notes ++ (causes ++ advice)) ≡ (label_text_count (given_labels m.labels)
      + further_label_text_count m.snippets)
      + (cause_count chain (causes_of c) + advice_parts from fails m) =
      counted_after notes (causes ++ advice) _ _ n
      (counted_after causes advice _ _ k (advice_counted at from fails m)) in
      let more = related_counted chain from (related_answers a) r in
      let whole = length-append (own_brief_rows chain from a m c) (related_rows chain from (related_answers a) r) in
      omega (arith, tail, more, whole)

  related_counted : (chain : Bool) (inherited : Option Source) (more : AnswerTrees BriefReadAnswers) (ts : Trees)
      → length (related_rows chain inherited more ts) ≡ all_parts chain inherited more ts
  related_counted chain inherited more no_trees = refl
  related_counted chain inherited more (more_trees t ts) =
      counted_after (report_rows chain inherited (first_answers more) t) _ _ _
      (report_counted chain inherited (first_answers more) t) (related_counted chain inherited (later_answers more) ts)

rows_for_each : (f : BriefForm) (chain : Bool) (t : Tree) (a : Answers) → f ≡ Gcc → IsRows (parts chain t a)
    (brief_text_in f chain None a t)
rows_for_each Gcc chain t a is =
    let rows = report_rows chain None a t in
    record {
      rows = map row_text rows;
      are = ended_rows rows;
      many = length-map rows row_text ∙ report_counted chain None a t;
      each = each_row rows;
    }
rows_for_each Github chain t a is = cc

pub one_for_each : (s : BriefSettings) (t : Tree) (a : Answers) → s.form ≡ Gcc
    → IsRows (parts s.cause_chain t a) (brief s t a)
one_for_each s t a is = rows_for_each s.form s.cause_chain t a is

pub given_each : (s : BriefSettings) (t : Tree) (text : List ℕ) → s.form ≡ Gcc → IsBrief s t text
    → HasEachPart s.cause_chain t text
given_each s t text is h = record {
  answers = h.answers;
  possible = h.possible;
  rows = subst (λ (bs : List ℕ). IsRows (parts s.cause_chain t h.answers) bs) (sym h.is)
      (one_for_each s t h.answers is);
}
