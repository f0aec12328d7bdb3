use Rattle.std.proofs.Common.{map, subst}
use Rattle.std.specs.Option.{option_map}
use Rattle.miette_tree.specs.views.Attachments.{section_of}
use Rattle.miette_tree.specs.views.Owned.{ref_source}
use Rattle.miette_labels.specs.views.ProgramLabels.{label_at}
use Rattle.miette_brief.specs.declared.primary.PrimaryRead.{PrimaryRead}
use Rattle.miette_brief.specs.rules.Locations.{primary_span}
use Rattle.miette_brief.specs.steps.Reads.{IsPrimaryRead}
use Rattle.miette_brief.proofs.Choosing.{primary_refused}
use Rattle.miette_brief.proofs.locations.diagnostic_location.Goals as goal

pub returns-in-Unread-clause-refused : goal.returns-in-Unread-clause-refused
returns-in-Unread-clause-refused g c = λ h.
    let source = option_map (ref_source g.S.SourceCode.source) c.args.source in
    let labels = map (λ turn. label_at c.args.labels.now turn.index) c.args.order.now in
    let further = map (section_of g.S.SourceCode.source) c.args.further.now in
    primary_refused source labels further
    (subst (λ (f : PrimaryRead). IsPrimaryRead (primary_span source labels further) f) c.in-Unread.is
    c.in_ok-at.ensures)
