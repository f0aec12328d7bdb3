-- The rows and the answers of a tree, put together from those of its parts.
use Rattle.std.proofs.Common.{◌≡◌, ℕ, ◌+◌, ◌<◌, ◌≤◌, List, [], ◌∷◌, ◌++◌, length, get_or, map, drop, Bool, true, false}
use Rattle.std.proofs.Common.{◌&&◌}
use Rattle.std.proofs.Common.{Option, None, refl, sym, ap, ap₂, subst, ◌∙◌, append_assoc, append-nil}
use Rattle.std.proofs.lemmas.List.{drop_all}
use Rattle.miette_fixes.specs.rules.Edits.{FixModel}
use Rattle.miette_protocol.specs.rules.Reading.{Source}
use Rattle.miette_protocol.specs.views.Meaning.{Label}
use Rattle.miette_tree.specs.rules.Answers.{AnswerTrees}
use Rattle.miette_tree.specs.rules.Diagnosis.{Diagnosis, Section}
use Rattle.miette_tree.specs.rules.Tree.{Tree, tree, Cause, diagnostic, texts, Trees, no_trees, more_trees, trees}
use Rattle.miette_tree.specs.rules.Tree.{effective, head, source_of, cause_of, related_of}
use Rattle.miette_tree.specs.rules.DiagnosticParts.{given_labels}
use Rattle.miette_tree.specs.rules.Reads.{AlwaysReads, report_passes, reports_pass, accepts}
use Rattle.miette_tree.specs.rules.Reads.{further_pass}
use Rattle.miette_tree.proofs.Nesting.{next_of}
use Rattle.miette_tree.proofs.Readings.{fault_free}
use Rattle.miette_labels.specs.rules.Groups.{in_order}
use Rattle.miette_brief.specs.rules.Rows.{BriefLocation, ReportRow, brief_rows_text}
use Rattle.miette_brief.specs.rules.Locations.{diagnostic_location, cause_location, primary_span, source_of_span}
use Rattle.miette_brief.specs.rules.Report.{BriefSettings, Answers, unlisted, listed, no_more, and_more}
use Rattle.miette_brief.specs.rules.Report.{cause_answers, related_answers, first_answers, later_answers}
use Rattle.miette_brief.specs.rules.Report.{diagnostic_row}
use Rattle.miette_brief.specs.rules.Report.{note_rows, cause_row, cause_rows, caused_rows, cause_rows_if, help_rows}
use Rattle.miette_brief.specs.rules.Report.{brief_rows_at, own_brief_rows, report_rows, related_rows, brief}
use Rattle.miette_brief.specs.rules.Report.{further_notes}
use Rattle.miette_brief.specs.rules.Report.{labelled_rows, brief_advice_rows, BriefReadAnswers, own_brief_answer}
use Rattle.miette_brief.specs.rules.Report.{brief_text_in}
use Rattle.miette_brief.specs.rules.Report.{own_command, report_commands, related_commands}
use Rattle.miette_brief.specs.rules.Commands.{Command, command_text, commands_text}
use Rattle.miette_brief.specs.rules.Github.{command}
use Rattle.miette_brief.specs.declared.form.BriefForm.{BriefForm}
use Rattle.miette_brief.specs.declared.form.BriefForm.TheVariants.{Gcc, Github}
use Rattle.miette_brief.specs.rules.Fixes.{brief_fix_origin, brief_fixes_rows}
use Rattle.miette_brief.specs.rules.PossibleAnswers.{HasAccepted, FurtherAccepted, AreCauseAnswers, AreCausedAnswers}
use Rattle.miette_brief.specs.rules.PossibleAnswers.{AreAnswers}
use Rattle.miette_brief.specs.rules.PossibleAnswers.{AllAnswers, IsBrief}
use Rattle.miette_brief.specs.rules.BriefSources.{BriefSourcesRead, AllBriefSourcesRead, CauseSourcesRead}
use Rattle.miette_brief.specs.rules.BriefSources.{CausedSourcesRead}
use Rattle.miette_brief.specs.steps.Reads.{IsDiagnosticLocation}
use Rattle.miette_brief.proofs.Choosing.{nothing_met, accepts_order}
use Rattle.miette_brief.proofs.Further.{own_refused, further_refused}
use Rattle.miette_brief.proofs.Putting.{rows_joined}
use Rattle.miette_brief.proofs.SoFar.{ToldSoFar, one_so_far}
use Rattle.miette_brief.proofs.BriefSources.{told_reads}
use Rattle.miette_brief.specs.steps.AppendedParts.{AppendsCauses, AppendsLabelled, AppendsBriefDiagnostic}
use Rattle.miette_brief.specs.steps.AppendedParts.{AppendsBriefReport}
use Rattle.miette_brief.specs.steps.AppendedParts.{AppendsBriefRelated, AppendsBriefFixes, AppendsBriefAdvice, own_text}
use Rattle.miette_brief.specs.steps.AppendedParts.{related_text}

-- ---- causes that aren't told

mutual
  pub none_met : (source : Option Source) (c : Cause) → AreCauseAnswers source unlisted c
  none_met source (diagnostic t) = none_met_in source t
  none_met source (texts ts) = tt

  pub none_met_in : (source : Option Source) (t : Tree) → AreCausedAnswers source unlisted t
  none_met_in source (tree m own c r) = (
    nothing_met (source_of_span (primary_span (effective own source) (in_order (given_labels m.labels)) m.snippets)),
    none_met source c,
  )

pub untold : (at : BriefLocation) (source : Option Source) (c : Cause) (old new : List ℕ) → new ≡ old
    → AppendsCauses false at source c old new
untold at source c old new e = record {
  answers = unlisted;
  possible = none_met source c;
  appended = e
      ∙ sym (append-nil old);
}

-- ---- one diagnostic

three : (old a b new x y z : List ℕ) → a ≡ old ++ x → b ≡ a ++ y → new ≡ b ++ z → new ≡ old ++ (x ++ (y ++ z))
three old a b new x y z e f g = g ∙ ap (λ l. l ++ z) (f ∙ ap (λ l. l ++ y) e) ∙ simp append_assoc

rows_of_three : (labelled causes help : List ReportRow) → brief_rows_text (labelled ++ (causes ++ help))
    ≡ brief_rows_text labelled ++ (brief_rows_text causes ++ brief_rows_text help)
rows_of_three labelled causes help =
    rows_joined labelled (causes ++ help) ∙ ap (λ l. brief_rows_text labelled ++ l) (rows_joined causes help)

-- a diagnostic, its labels in this order, and those over further sources
labels_told : (source : Option Source) (m : Diagnosis) (at : BriefLocation) (old mid more new : List ℕ)
    → mid ≡ old ++ brief_rows_text (diagnostic_row at m ∷ [])
    → more ≡ mid ++ brief_rows_text (note_rows source (in_order (given_labels m.labels)))
    → new ≡ more ++ brief_rows_text (further_notes m.snippets)
    → new ≡ old ++ brief_rows_text (diagnostic_row at m ∷ labelled_rows source m)
labels_told source m at old mid more new e f g =
    let own = note_rows source (in_order (given_labels m.labels)) in
    three old mid more new (brief_rows_text (diagnostic_row at m ∷ [])) (brief_rows_text own)
    (brief_rows_text (further_notes m.snippets))
    e f g
    ∙ ap (λ x. old ++ x) (ap (λ x. brief_rows_text (diagnostic_row at m ∷ []) ++ x) (sym (rows_joined own (further_notes
    m.snippets))) ∙ sym (rows_joined (diagnostic_row at m ∷ []) (labelled_rows source m)))

pub labelled : (source : Option Source) (m : Diagnosis) (labels order : List Label) (further : List Section)
    (at : BriefLocation) (old mid more new : List ℕ)
    → labels ≡ given_labels m.labels → order ≡ in_order labels → further ≡ m.snippets
    → IsDiagnosticLocation source order further at → mid ≡ old ++ brief_rows_text (diagnostic_row at m ∷ [])
    → more ≡ mid ++ brief_rows_text (note_rows source order) → HasAccepted source order
    → new ≡ more ++ brief_rows_text (further_notes further) → FurtherAccepted further
    → AppendsLabelled source m at old new
labelled source m labels order further at old mid more new el eo ef placed e f accepted g after =
    let ls : List Label = in_order (given_labels m.labels) in
    let same : order ≡ ls = eo ∙ ap in_order el in
    record {
      placed = subst (λ (ss : List Section). IsDiagnosticLocation source ls ss at) ef
          (subst (λ (l : List Label). IsDiagnosticLocation source l further at) same placed);
      accepted = (
        subst (λ (l : List Label). HasAccepted source l) same accepted,
        subst (λ (ss : List Section). FurtherAccepted ss) ef after,
      );
      appended = labels_told source m at old mid more new e
          (f ∙ ap (λ l. mid ++ brief_rows_text (note_rows source l)) same)
          (g ∙ ap (λ ss. more ++ brief_rows_text (further_notes ss)) ef);
    }

-- help, and fixes after it
pub advised : (at : BriefLocation) (source : Option Source) (m : Diagnosis) (given : Option (List ℕ))
    (fixes : List FixModel)
    (old mid new : List ℕ) → given ≡ m.help → fixes ≡ m.fixes → mid ≡ old ++ brief_rows_text (help_rows at given)
    → AppendsBriefFixes at source fixes mid new → AppendsBriefAdvice at source m old new
advised at source m given fixes old mid new eh ef e f =
    let rows : List FixModel → List ReportRow = λ l. brief_fixes_rows at (brief_fix_origin source f.fails) l in
    record {
      fails = f.fails;
      possible = f.possible;
      appended = f.appended ∙ ap₂ (λ o l. o ++ brief_rows_text (rows l))
          (e ∙ ap (λ o. old ++ brief_rows_text (help_rows at o)) eh) ef
          ∙ append_assoc old (brief_rows_text (help_rows at m.help)) (brief_rows_text (rows m.fixes))
          ∙ ap (λ l. old ++ l) (sym (rows_joined (help_rows at m.help) (rows m.fixes)));
    }

pub own_told : (chain : Bool) (source : Option Source) (m : Diagnosis) (c : Cause) (at : BriefLocation)
    (old mid caused new : List ℕ) → AppendsLabelled source m at old mid → AppendsCauses chain at source c mid caused
    → AppendsBriefAdvice at source m caused new → AppendsBriefDiagnostic (record { cause_chain = chain; form = Gcc })
    source m c old new
own_told chain source m c at old mid caused new head causes advice =
    let rows : List ReportRow = diagnostic_row at m ∷ labelled_rows source m in
    let told : List ReportRow = cause_rows_if chain at source causes.answers c in
    let last : List ReportRow = brief_advice_rows at source advice.fails m in
    let own : BriefReadAnswers = record { place = head.placed.fault; fixes = advice.fails } in
    let answers : Answers = listed own causes.answers no_more in
    record {
      answers = answers;
      accepted = head.accepted;
      possible = head.placed.possible;
      causes = causes.possible;
      fixes = advice.possible;
      appended = three old mid caused new (brief_rows_text rows) (brief_rows_text told) (brief_rows_text last)
          head.appended
          causes.appended advice.appended
          ∙ ap (λ l. old ++ l) (sym (rows_of_three rows told last))
          ∙ ap (λ q. old ++ brief_rows_text (brief_rows_at chain q source answers m c)) head.placed.is;
    }

-- ---- a report

pub commands_joined : (cs more : List Command) → commands_text (cs ++ more) ≡ commands_text cs ++ commands_text more
commands_joined [] more = refl
commands_joined (c ∷ cs) more =
    ap (λ x. command_text c ++ (10 ∷ x)) (commands_joined cs more)
    ∙ sym (append_assoc (command_text c) (10 ∷ commands_text cs) (commands_text more))

-- a report is told as its own part, and after it those related to it
report_joined : (f : BriefForm) (chain : Bool) (inherited : Option Source) (a : Answers) (m : Diagnosis)
    (s : Option Source) (c : Cause) (rs : Trees) → brief_text_in f chain inherited a (tree m s c rs)
    ≡ own_text f chain (effective s inherited) a m c ++ related_text f chain (effective s inherited) (related_answers a)
    rs
report_joined Gcc chain inherited a m s c rs =
    let from = effective s inherited in
    rows_joined (own_brief_rows chain from a m c) (related_rows chain from (related_answers a) rs)
report_joined Github chain inherited a m s c rs =
    let from = effective s inherited in
    commands_joined (own_command chain from a m c ∷ []) (related_commands chain from (related_answers a) rs)

related_joined : (f : BriefForm) (chain : Bool) (inherited : Option Source) (more : AnswerTrees BriefReadAnswers) (t : Tree)
    (ts : Trees)
    → related_text f chain inherited more (more_trees t ts) ≡ brief_text_in f chain inherited (first_answers more) t
    ++ related_text f chain inherited (later_answers more) ts
related_joined Gcc chain inherited more t ts =
    rows_joined (report_rows chain inherited (first_answers more) t)
    (related_rows chain inherited (later_answers more) ts)
related_joined Github chain inherited more t ts =
    commands_joined (report_commands chain inherited (first_answers more) t)
    (related_commands chain inherited (later_answers more) ts)

none_related : (f : BriefForm) (chain : Bool) (inherited : Option Source) (more : AnswerTrees BriefReadAnswers)
    → related_text f chain inherited more no_trees ≡ []
none_related Gcc chain inherited more = refl
none_related Github chain inherited more = refl

-- of the answers for a report those for its own part are used there
own_listed : (f : BriefForm) (chain : Bool) (source : Option Source) (a : Answers) (more : AnswerTrees BriefReadAnswers)
    (m : Diagnosis)
    (c : Cause) → own_text f chain source (listed (own_brief_answer a) (cause_answers a) more) m c
    ≡ own_text f chain source a m c
own_listed Gcc chain source a more m c = refl
own_listed Github chain source a more m c = refl

pub report_told : (b : BriefSettings) (inherited : Option Source) (t : Tree) (source : Option Source) (related : Trees)
    (old mid new : List ℕ)
    → source ≡ effective (source_of t) inherited → related ≡ related_of t
    → AppendsBriefDiagnostic b source (head t) (cause_of t) old mid
    → AppendsBriefRelated b source related mid new → AppendsBriefReport b inherited t old new
report_told b inherited (tree m s c rs) source related old mid new es er own others =
    let from = effective s inherited in
    let here : AppendsBriefDiagnostic b from m c old mid = subst (λ (o : Option Source). AppendsBriefDiagnostic b o m c
    old mid) es own in
    let there : AppendsBriefRelated b from rs mid new = subst (λ (ts : Trees). AppendsBriefRelated b from ts mid new) er
    (subst (λ (o : Option Source). AppendsBriefRelated b o related mid new) es others) in
    let answers : Answers = listed (own_brief_answer here.answers) (cause_answers here.answers) there.answers in
    let own : List ℕ = own_text b.form b.cause_chain from here.answers m c in
    let more : List ℕ = related_text b.form b.cause_chain from there.answers rs in
    record {
      answers = answers;
      possible = (here.accepted, here.possible, here.causes, there.possible, here.fixes);
      appended = there.appended ∙ ap (λ l. l ++ more) here.appended ∙ append_assoc old own more
          ∙ ap (λ l. old ++ (l ++ more)) (sym (own_listed b.form b.cause_chain from here.answers there.answers m c))
          ∙ ap (λ l. old ++ l) (sym (report_joined b.form b.cause_chain inherited answers m s c rs));
    }

-- ---- related reports, one after the other

-- some of these reports are told, up to this one
abbrev pub RelatedSoFar : {R : Type 0} → (R → Tree) → BriefSettings → Option Source → List R → ℕ → List ℕ → List ℕ
    → Type 0
RelatedSoFar value b inherited rs i old now =
    ToldSoFar (λ more ts. AllAnswers inherited more ts) (λ more ts. related_text b.form b.cause_chain inherited more ts)
    (trees (map value rs)) (trees (map value (drop i rs))) old now

pub one_more : {R : Type 0} (value : R → Tree) (b : BriefSettings) (inherited : Option Source) (rs : List R) (i : ℕ)
    (r : R) (old now new : List ℕ)
    → i < length rs → r ≡ get_or rs i r → RelatedSoFar value b inherited rs i old now
    → AppendsBriefReport b inherited (value r) now new → RelatedSoFar value b inherited rs (i + 1) old new
one_more value b inherited rs i r old now new test is so_far a =
    let left = trees (map value (drop (i + 1) rs)) in
    one_so_far _ _ (trees (map value rs)) (more_trees (value r) left) left (and_more a.answers) old now new
    (brief_text_in b.form b.cause_chain inherited a.answers (value r))
    (subst (λ (ts : Trees). ToldSoFar (λ more ts. AllAnswers inherited more ts)
    (λ more ts. related_text b.form b.cause_chain inherited more ts) (trees (map value rs)) ts old now)
    (next_of value rs i r test is) so_far)
    (λ more p. (a.possible, p))
    (λ more. related_joined b.form b.cause_chain inherited (and_more a.answers more) (value r) left)
    a.appended

pub all_told : {R : Type 0} (value : R → Tree) (b : BriefSettings) (inherited : Option Source) (rs : List R) (i : ℕ)
    (old now : List ℕ) → length rs ≤ i → RelatedSoFar value b inherited rs i old now
    → AppendsBriefRelated b inherited (trees (map value rs)) old now
all_told value b inherited rs i old now end so_far =
    let last : AllAnswers inherited no_more (trees (map value (drop i rs))) =
    subst (λ l. AllAnswers inherited no_more (trees (map value l))) (sym (drop_all i rs end)) tt in
    record {
      answers = so_far.with_rest no_more;
      possible = so_far.possible no_more last;
      appended = sym (append-nil now)
          ∙ ap (λ l. now ++ l) (sym (none_related b.form b.cause_chain inherited no_more))
          ∙ ap (λ l. now ++ related_text b.form b.cause_chain inherited no_more (trees (map value l)))
          (sym (drop_all i rs end))
          ∙ so_far.joined no_more;
    }

-- ---- where something is refused

around : (a b c : Bool) → (a && c) ≡ false → ((a && b) && c) ≡ false
around true true c e = e
around true false c e = refl
around false b c e = refl

pub refused_here : (t : Tree) (inherited source : Option Source) → source ≡ effective (source_of t) inherited →
    (accepts source (in_order (given_labels (head t).labels)) && further_pass accepts (head t).snippets) ≡ false
    → report_passes accepts inherited t ≡ false
refused_here (tree m s c r) inherited source es e =
    around (accepts (effective s inherited) (given_labels m.labels)) (reports_pass accepts (effective s inherited) r)
    (further_pass accepts m.snippets) (ap (λ b. b && further_pass accepts m.snippets)
    (sym (ap (λ o. accepts o (given_labels m.labels)) es) ∙ sym (accepts_order source (given_labels m.labels))) ∙ e)

-- labels in an order that is refused
pub order_refused : {X : Type 0} (label : List Label → X → Label) (source : Option Source) (labels given : List Label)
    (order : List X) → labels ≡ given → map (label given) order ≡ in_order given
    → (further sections : List Section) → further ≡ sections
    → (accepts source (map (label labels) order) && further_pass accepts further) ≡ false
    → (accepts source (in_order given) && further_pass accepts sections) ≡ false
order_refused label source labels given order e ordered further sections ef refused =
    subst (λ (ss : List Section). (accepts source (in_order given) && further_pass accepts ss) ≡ false) ef
    (subst (λ (ls : List Label). (accepts source ls && further_pass accepts further) ≡ false)
    (ap (λ (ls : List Label). map (label ls) order) e ∙ ordered) refused)

-- some over the first source, or some over further ones
module _ {X : Type 0} (label : List Label → X → Label) (source : Option Source) (labels given : List Label)
    (order : List X) (e : labels ≡ given) (ordered : map (label given) order ≡ in_order given)
    (further sections : List Section) (ef : further ≡ sections) where
  pub own_order_refused : accepts source (map (label labels) order) ≡ false
      → (accepts source (in_order given) && further_pass accepts sections) ≡ false
  own_order_refused refused = order_refused label source labels given order e ordered further sections ef
      (own_refused source (map (label labels) order) further refused)

  pub further_order_refused : further_pass accepts further ≡ false
      → (accepts source (in_order given) && further_pass accepts sections) ≡ false
  further_order_refused refused = order_refused label source labels given order e ordered further sections ef
      (further_refused source (map (label labels) order) further refused)

-- ---- where every source that is read always reads

mutual
  same_causes : (at : BriefLocation) (inherited : Option Source) (a : Answers) (c : Cause)
      → AreCauseAnswers inherited a c
      → CauseSourcesRead inherited c → cause_rows at inherited a c ≡ cause_rows at inherited unlisted c
  same_causes at inherited a (diagnostic t) p reads = same_caused at inherited a t p reads
  same_causes at inherited a (texts ts) p reads = refl

  same_caused : (at : BriefLocation) (inherited : Option Source) (a : Answers) (t : Tree)
      → AreCausedAnswers inherited a t
      → CausedSourcesRead inherited t → caused_rows at inherited a t ≡ caused_rows at inherited unlisted t
  same_caused at inherited a (tree m own c r) p reads =
      let from = effective own inherited in
      let primary = primary_span from (in_order (given_labels m.labels)) m.snippets in
      ap₂ (λ b rows. cause_row (cause_location at b primary) m.message ∷ rows)
      (fault_free (source_of_span primary) (own_brief_answer a).place p.0 reads.0)
      (same_causes at inherited (cause_answers a) c p.1 reads.1)

same_if : (chain : Bool) (at : BriefLocation) (inherited : Option Source) (a : Answers) (c : Cause)
    → AreCauseAnswers inherited a c → CauseSourcesRead inherited c → cause_rows_if chain at inherited a c
    ≡ cause_rows_if chain at inherited unlisted c
same_if true at inherited a c p reads = same_causes at inherited a c p reads
same_if false at inherited a c p reads = refl

-- rows and commands
mutual
  same_report : (chain : Bool) (inherited : Option Source) (a : Answers) (t : Tree) → AreAnswers inherited a t
      → BriefSourcesRead inherited t → (report_rows chain inherited a t ≡ report_rows chain inherited unlisted t)
      × (report_commands chain inherited a t ≡ report_commands chain inherited unlisted t)
  same_report chain inherited a (tree m own c r) p reads =
      let from = effective own inherited in
      let ls : List Label = in_order (given_labels m.labels) in
      let at : BriefLocation = diagnostic_location from false ls m.snippets in
      let place : (own_brief_answer a).place ≡ false = fault_free from (own_brief_answer a).place p.1 reads.0 in
      let others = related_rows chain from (related_answers a) r in
      let causes = cause_rows_if chain at from (cause_answers a) c in
      let more = same_related chain from (related_answers a) r p.3 reads.2 in (
        ap (λ b. brief_rows_at chain (diagnostic_location from b ls m.snippets) from a m c ++ others) place
            ∙ ap (λ b. (diagnostic_row at m ∷ (labelled_rows from m ++ (causes ++ brief_advice_rows at from b m)))
            ++ others)
            (fault_free from (own_brief_answer a).fixes p.4 reads.0)
            ∙ ap₂ (λ x y. (diagnostic_row at m ∷ (labelled_rows from m ++ (x ++ brief_advice_rows at from false m)))
            ++ y)
            (same_if chain at from (cause_answers a) c p.2 reads.1) more.0,
        ap₂ (λ b cs. command chain from b m c ∷ cs) place more.1,
      )

  same_related : (chain : Bool) (inherited : Option Source) (more : AnswerTrees BriefReadAnswers) (ts : Trees)
      → AllAnswers inherited more ts → AllBriefSourcesRead inherited ts
      → (related_rows chain inherited more ts ≡ related_rows chain inherited no_more ts)
      × (related_commands chain inherited more ts ≡ related_commands chain inherited no_more ts)
  same_related chain inherited more no_trees p reads = (refl, refl)
  same_related chain inherited more (more_trees t ts) p reads =
      let own = same_report chain inherited (first_answers more) t p.0 reads.0 in
      let later = same_related chain inherited (later_answers more) ts p.1 reads.1 in
      (ap₂ (λ x y. x ++ y) own.0 later.0, ap₂ (λ x y. x ++ y) own.1 later.1)

same_text : (f : BriefForm) (chain : Bool) (a : Answers) (t : Tree) → AreAnswers None a t → BriefSourcesRead None t
    → brief_text_in f chain None a t ≡ brief_text_in f chain None unlisted t
same_text Gcc chain a t p reads = ap brief_rows_text (same_report chain None a t p reads).0
same_text Github chain a t p reads = ap commands_text (same_report chain None a t p reads).1

pub is_brief : (b : BriefSettings) (t : Tree) (text : List ℕ) → AppendsBriefReport b None t [] text → IsBrief b t text
is_brief b t text a = record { answers = a.answers; possible = a.possible; is = a.appended }

pub told_brief : (s : BriefSettings) (t : Tree) (text old new : List ℕ) → IsBrief s t text → new ≡ old ++ text
    → BriefSourcesRead None t → new ≡ old ++ brief s t unlisted
told_brief s t text old new h e reads =
    e ∙ ap (λ x. old ++ x) (h.is ∙ same_text s.form s.cause_chain h.answers t h.possible reads)

pub only_brief : (s : BriefSettings) (t : Tree) (text old new : List ℕ) → IsBrief s t text → new ≡ old ++ text
    → AlwaysReads t → new ≡ old ++ brief s t unlisted
only_brief s t text old new h e reads = told_brief s t text old new h e (told_reads None t tt reads)
