use Rattle.std.proofs.Common.{◌∙◌, drop, map}
use Rattle.miette_style.specs.rules.Themes.{theme_of}
use Rattle.miette_snippet_rules.specs.rules.CutLines.{dots}
use Rattle.miette_snippet_rules.specs.rules.Highlighting.{highlight_of}
use Rattle.miette_snippet_rules.proofs.CutText.{cut_end, cut_more}
use Rattle.miette_snippet_rules.proofs.cut_text.push_cut.Goals as goal

pub loop-part-preserved : goal.loop-part-preserved
loop-part-preserved g c =
    cut_more (dots (theme_of c.args.theme.now)) (map highlight_of c.pieces_after-after.result.pieces.now)
    c.args.cut.now c.loop-part.part-index
    c.pieces_after-after.result.before c.in_ok-before.before _ c.loop-part.walk c.push_line_part_text.new.walk
    c.loop-part.page c.push_line_part_text.new.page _ c.loop-part-test.true
    c.in_ok-push_line_part_text.ensures.told c.in_ok-push_line_part_text.ensures.later c.in_ok-before.ensures
    (c.pieces_after-after.ensures (dots (theme_of c.args.theme.now))
    (drop c.loop-part.part-index c.args.cut.now) c.loop-part.walk c.loop-part.page
    ∙ c.loop-part.invariant)

pub returns : goal.returns
returns g c =
    cut_end (dots (theme_of c.args.theme.now)) (map highlight_of c.loop-part.rest.pieces.now) c.args.cut.now
    c.loop-part.part-index c.loop-part.rest.before c.loop-part.walk c.loop-part.page _
    c.loop-part-test.false c.loop-part.invariant
