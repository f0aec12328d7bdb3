use Rattle.std.proofs.Common.{ap, map, ◌∙◌}
use Rattle.miette_labels.specs.declared.reading.ReadLabel.{ReadLabel}
use Rattle.miette_labels.proofs.ReadOrder.{all_in_order}
use Rattle.miette_snippet_rules.specs.views.SnippetSettings.{settings_of}
use Rattle.miette_labels.specs.views.ProgramLabels.{label_at}
use Rattle.miette_snippet_rules.specs.rules.Highlighting.{leaves_plain, follows}
use Rattle.miette_highlight.specs.rules.HighlighterCalls.{Leads}
use Rattle.miette_layout.proofs.SnippetSequence.{gives_refused}
use Rattle.miette_layout.proofs.snippets.snippets_around.Goals as goal

pub read_snippets-requires-clause-order : goal.read_snippets-requires-clause-order
read_snippets-requires-clause-order g c =
    let labels = c.args.labels.now in
    ap (λ rs. map (λ (r : ReadLabel). label_at labels r.index) rs) c.deref-in-All.ensures.value
    ∙ all_in_order _ _ labels (map (λ turn. label_at labels turn.index) c.deref.result.now) c.in_ok-reads.field-0
    c.in-All.reads c.in_ok-reads.ensures c.in-All.is
    ∙ ap (λ order. map (λ turn. label_at labels turn.index) order) c.deref.ensures.value
    ∙ c.in_ok-order.ensures.order

pub returns-clause-gives : goal.returns-clause-gives
returns-clause-gives g c =
    gives_refused (settings_of c.args.settings.now)
    (g.S.SourceCode.source c.args.source.now) c.args.labels.now
    (map (λ turn. label_at c.args.labels.now turn.index) c.deref.result.now)
    (leaves_plain g.H.Highlighter.is_blank c.args.highlighter.now)
    (λ calls. Leads (follows g.H.Highlighter.may_follow c.args.highlighter.now) calls
    (follows g.H.Highlighter.may_follow c.args.highlighter.now)) c.in_ok-reads.field-0 c.in-Refused.index
    c.in-Refused.refusal c.index-labels-index.result
    c.reason_name.result.now c.args.page c.push_refused_label.new.page
    c.in_ok-reads.ensures c.in-Refused.is (ap (λ order. map (λ turn. label_at c.args.labels.now turn.index) order)
    c.deref.ensures.value ∙ c.in_ok-order.ensures.order) c.index-labels-index.is c.reason_name.ensures
    c.in_ok-push_refused_label-in-Refused.ensures (λ later k. k)
