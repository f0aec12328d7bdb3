use Rattle.std.proofs.Common.{map, sym, ◌∙◌}
use Rattle.std.specs.Option.{option_map}
use Rattle.std.proofs.lemmas.Result.{IfOk-weaker}
use Rattle.miette_tree.specs.views.Attachments.{section_of}
use Rattle.miette_tree.specs.views.Owned.{ref_source}
use Rattle.miette_labels.specs.views.ProgramLabels.{label_at}
use Rattle.miette_brief.proofs.Choosing.{primary_first, primary_marked}
use Rattle.miette_brief.proofs.primary.read_primary.Goals as goal

pub returns-then-is_label : goal.returns-then-is_label
returns-then-is_label g c =
    primary_marked (option_map (ref_source g.S.SourceCode.source) c.args.source)
    (map (λ turn. label_at c.args.labels.now turn.index) c.args.order.now)
    (map (section_of g.S.SourceCode.source) c.args.further.now) c.marked_span-marked_own.result c.in_ok-marked.marked
    c.marked_span-marked_own.ensures c.in_ok-marked.ensures (sym c.is_label.ensures ∙ c.if-is_label.true)

pub returns : goal.returns
returns g c =
    IfOk-weaker c.read_chosen-2.result _ _ (λ first is.
    primary_first (option_map (ref_source g.S.SourceCode.source) c.args.source)
    (map (λ turn. label_at c.args.labels.now turn.index) c.args.order.now)
    (map (section_of g.S.SourceCode.source) c.args.further.now) c.marked_span-marked_own.result
    c.first_span-first_own.result c.in_ok-marked.marked first c.marked_span-marked_own.ensures
    c.first_span-first_own.ensures c.in_ok-marked.ensures (sym c.is_label.ensures ∙ c.if-is_label.false) is)
    c.read_chosen-2.ensures
