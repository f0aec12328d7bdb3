use Rattle.std.proofs.Common.{map, subst}
use Rattle.std.specs.Option.{option_map}
use Rattle.miette_tree.specs.views.Attachments.{section_of}
use Rattle.miette_tree.specs.views.Owned.{ref_source}
use Rattle.miette_labels.specs.rules.Groups.{in_order}
use Rattle.miette_brief.specs.declared.primary.PrimaryRead.{PrimaryRead}
use Rattle.miette_brief.specs.rules.Locations.{primary_span}
use Rattle.miette_brief.specs.steps.Conversions.{brief_location_of}
use Rattle.miette_brief.specs.steps.Reads.{IsPrimaryRead}
use Rattle.miette_brief.proofs.Choosing.{cause_unread}
use Rattle.miette_brief.proofs.locations.cause_location.Goals as goal

pub returns-in-Unread : goal.returns-in-Unread
returns-in-Unread g c =
    let source = option_map (ref_source g.S.SourceCode.source) c.args.source in
    let primary = primary_span source (in_order c.args.labels.now)
    (map (section_of g.S.SourceCode.source) c.args.further.now) in
    cause_unread (brief_location_of c.args.at) primary
    (subst (λ (f : PrimaryRead). IsPrimaryRead primary f) c.in-Unread.is c.in_ok-own.ensures)
