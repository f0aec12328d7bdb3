use Rattle.std.proofs.Common.{◌∙◌, ap, length}
use Rattle.miette_fixes.specs.views.Ordered.{edits_of}
use Rattle.miette_fixes.proofs.Overlaps.{sorted_fit}
use Rattle.miette_fixes.proofs.apply.apply_edits.Goals as goal

pub splice_edits-requires : goal.splice_edits-requires
splice_edits-requires c =
    sorted_fit (length c.args.source.now) c.args.edits.now (edits_of c.deref.result.now)
    (ap edits_of c.deref.ensures.value ∙ c.in_ok-list.ensures.ok.1) c.in_ok-list.ensures.ok.0
