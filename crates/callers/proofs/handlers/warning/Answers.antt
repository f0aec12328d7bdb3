use Rattle.std.proofs.Common.{◌≡◌, ◌∙◌, ap, ap₂, codes, false, None, rules}
use Rattle.miette_protocol.specs.views.Diagnostic.{with_label_at}
use Rattle.miette_protocol.specs.rules.Reading.{named_source, plain_source}
use Rattle.miette_tree.specs.rules.Diagnosis.{plain_diagnosis}
use Rattle.miette_tree.specs.rules.Tree.{single_report, with_source}
use Rattle.callers.proofs.handlers.warning.Goals as goal

pub returns : goal.returns
returns g c =
    let label = c.in_ok-labelled.ensures in
    let said = label.2 ∙ ap₂ (λ m place. with_label_at m place (codes "this name") false)
    c.in_ok-diagnostic.ensures label.1 in
    let bytes : c.in_ok-settings.settings.items ≡ codes "port = 80\nhost = x\n" = search rules in
    let read = c.in_ok-source.ensures ∙ ap (λ items. named_source (plain_source items) (codes "app.toml") None) bytes in
    c.with_owned_source.ensures.tree
    ∙ ap₂ with_source read (c.new-2.ensures.tree ∙ ap (λ m. single_report (plain_diagnosis m)) said)
