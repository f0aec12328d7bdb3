use Rattle.std.proofs.Common.{◌∙◌, ap, length}
use Rattle.miette_fixes.specs.views.Ordered.{edits_of}
use Rattle.miette_fixes.proofs.Overlaps.{sorted_fit}
use Rattle.miette_fix_rows.proofs.changes.changes.Goals as goal

pub ordered_changes-requires : goal.ordered_changes-requires
ordered_changes-requires c =
    sorted_fit (length c.args.source.now) c.edits.result.now (edits_of c.deref.result.now)
    (ap edits_of c.deref.ensures.value ∙ c.in_ok-list.ensures.ok.1) c.in_ok-list.ensures.ok.0
