-- Causes one after the other, with the answers of their reads.
use Rattle.std.proofs.Common.{ℕ, ◌≡◌, List, [], ◌∷◌, ◌++◌, true, false, Option, sym, ap, subst, ◌∙◌}
use Rattle.miette_protocol.specs.rules.Reading.{Source}
use Rattle.miette_protocol.specs.views.Meaning.{Label}
use Rattle.miette_tree.specs.rules.Diagnosis.{Section}
use Rattle.miette_tree.specs.rules.Tree.{Tree, tree, Cause, diagnostic, texts, effective, head, source_of, cause_of}
use Rattle.miette_tree.specs.rules.DiagnosticParts.{given_labels}
use Rattle.miette_labels.specs.rules.Groups.{in_order}
use Rattle.miette_brief.specs.rules.Rows.{BriefLocation, brief_rows_text}
use Rattle.miette_brief.specs.rules.Locations.{SpanInSource, primary_span}
use Rattle.miette_brief.specs.rules.Report.{Answers, unlisted, listed, no_more, cause_row, cause_rows}
use Rattle.miette_brief.specs.rules.PossibleAnswers.{AreCauseAnswers}
use Rattle.miette_brief.specs.steps.Reads.{IsCauseLocation}
use Rattle.miette_brief.proofs.Putting.{rows_joined}
use Rattle.miette_brief.proofs.SoFar.{ToldSoFar, one_so_far}
use Rattle.miette_brief.specs.steps.AppendedParts.{AppendsCauses}

-- some causes are told, and these are left
abbrev pub CausesSoFar : BriefLocation → Option Source → Cause → Cause → List ℕ → List ℕ → Type 0
CausesSoFar at source all left old now =
    ToldSoFar (λ a c. AreCauseAnswers source a c) (λ a c. brief_rows_text (cause_rows at source a c)) all left old now

pub one_more : (at : BriefLocation) (source : Option Source) (all left : Cause) (t : Tree) (own : Option Source)
    (labels : List Label) (further : List Section) (primary : Option SpanInSource) (place : BriefLocation)
    (message old now new : List ℕ)
    → CausesSoFar at source all left old now → diagnostic t ≡ left → own ≡ effective (source_of t) source → labels
    ≡ given_labels (head t).labels → further ≡ (head t).snippets → message ≡ (head t).message
    → primary ≡ primary_span own (in_order labels) further → IsCauseLocation at primary place → new ≡ now
    ++ brief_rows_text
    (cause_row place message ∷ [])
    → CausesSoFar at source all (cause_of t) old new
one_more at source all left (tree m s c r) own labels further primary place message old now new so_far is es el ef et
    ep h e =
    let chosen : primary ≡ primary_span (effective s source) (in_order (given_labels m.labels)) m.snippets =
    ep ∙ ap (λ o. primary_span o (in_order labels) further) es
    ∙ ap (λ ls. primary_span (effective s source) (in_order ls) further) el
    ∙ ap (primary_span (effective s source) (in_order (given_labels m.labels))) ef in
    let placed : IsCauseLocation at (primary_span (effective s source) (in_order (given_labels m.labels)) m.snippets)
    place = subst (λ (o : Option SpanInSource). IsCauseLocation at o place) chosen h in
    let here : CausesSoFar at source all (diagnostic (tree m s c r)) old now =
    subst (λ (l : Cause). CausesSoFar at source all l old now) (sym is) so_far in
    let add = λ (more : Answers). listed (record { place = placed.fault; fixes = false }) more no_more in
    one_so_far _ _ all (diagnostic (tree m s c r)) c add old now new
    (brief_rows_text (cause_row place m.message ∷ [])) here (λ more p. (placed.possible, p))
    (λ more. ap (λ p. brief_rows_text (cause_row p m.message ∷ cause_rows at source more c)) (sym placed.is)
    ∙ rows_joined (cause_row place m.message ∷ []) (cause_rows at source more c))
    (e ∙ ap (λ x. now ++ brief_rows_text (cause_row place x ∷ [])) et)

-- the texts after the last report
pub all_told : (at : BriefLocation) (source : Option Source) (all left : Cause) (ts : List (List ℕ))
    (old now new : List ℕ)
    → CausesSoFar at source all left old now → left ≡ texts ts → new ≡ now
    ++ brief_rows_text (cause_rows at source unlisted (texts ts)) → AppendsCauses true at source all old new
all_told at source all left ts old now new so_far is e =
    let here : CausesSoFar at source all (texts ts) old now =
    subst (λ (l : Cause). CausesSoFar at source all l old now) is so_far in
    record {
      answers = here.with_rest unlisted;
      possible = here.possible unlisted tt;
      appended = e ∙ here.joined unlisted;
    }
