use Rattle.std.proofs.Common.{List, map, subst}
use Rattle.std.specs.Option.{option_map}
use Rattle.std.proofs.lemmas.Result.{IfOk-weaker}
use Rattle.miette_protocol.specs.views.Meaning.{Label}
use Rattle.miette_tree.specs.views.Attachments.{section_of}
use Rattle.miette_tree.specs.views.Owned.{ref_source}
use Rattle.miette_brief.specs.rules.Locations.{primary_span}
use Rattle.miette_brief.specs.steps.Reads.{IsPrimaryRead}
use Rattle.miette_brief.proofs.LabelOrder.{order_kept}
use Rattle.miette_brief.proofs.primary.read_primary_of.Goals as goal

pub returns : goal.returns
returns g c =
    let ordered = order_kept c.args.labels.now _ _ c.deref.ensures.value c.in_ok-order.ensures.order in
    IfOk-weaker c.read_primary.result _ _ (λ found is.
    subst (λ (ls : List Label). IsPrimaryRead (primary_span (option_map (ref_source g.S.SourceCode.source)
    c.args.source) ls
    (map (section_of g.S.SourceCode.source) c.args.further.now)) found) ordered is) c.read_primary.ensures
