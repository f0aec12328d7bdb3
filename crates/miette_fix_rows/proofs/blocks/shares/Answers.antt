use Rattle.std.proofs.Common.{◌∙◌, sym, arith}
use Rattle.std.proofs.lemmas.Bool.{le-leb}
use Rattle.miette_fixes.specs.views.Ordered.{edits_of}
use Rattle.miette_fix_rows.specs.rules.Blocks.{block_from}
use Rattle.miette_fix_rows.proofs.Places.{block_from_le}
use Rattle.miette_fix_rows.proofs.blocks.shares.Goals as goal

pub returns-then-start-end : goal.returns-then-start-end
returns-then-start-end c =
    let low = block_from_le c.args.source.now (edits_of c.args.edits.now) in
    le-leb c.args.start c.args.end c.if-start-end.true
    ∙ sym (le-leb (block_from c.args.source.now (edits_of c.args.edits.now)) c.args.end
    (omega (arith, low, c.requires.start, c.if-start-end.true)))
