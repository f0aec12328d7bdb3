use Rattle.std.proofs.Common.{[], ◌∷◌, ◌∙◌, ap, true}
use Rattle.std.proofs.lemmas.Result.{IfOk-weaker}
use Rattle.miette_protocol.specs.views.Diagnostic.{appended_labels, meaning_of}
use Rattle.miette_protocol.specs.views.Meaning.{Label, Meaning}
use Rattle.miette_protocol.proofs.Labelled.{label_made}
use Rattle.miette_protocol.proofs.diagnostic.MietteDiagnostic.and_primary_at.Goals as goal

pub returns : goal.returns
returns g c =
    let m : Meaning = meaning_of c.args.self in
    let label : Label = c.in_ok-label.label in
    let is = label_made label c.args.text.now true c.in_ok-label.ensures.text c.in_ok-label.ensures.primary
    c.in_ok-label.ensures.context in
    IfOk-weaker c.and_label.result _ _ (λ it made. (
      label.span,
      c.in_ok-label.ensures.span,
      made ∙ ap (λ (l : Label). record m { labels = appended_labels m.labels (l ∷ []) }) is,
    )) c.and_label.ensures
