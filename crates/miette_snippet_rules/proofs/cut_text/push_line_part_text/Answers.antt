use Rattle.std.proofs.Common.{map, take}
use Rattle.std.proofs.lemmas.Result.{on_ok_weaker}
use Rattle.miette_style.specs.rules.Themes.{theme_of}
use Rattle.miette_snippet_rules.specs.rules.CutLines.{dots, pieces_within}
use Rattle.miette_snippet_rules.specs.rules.Highlighting.{highlight_of}
use Rattle.miette_snippet_rules.specs.rules.PrintedCells.{line_runs}
use Rattle.miette_snippet_rules.proofs.CutText.{pieces_end, stretch_dots, stretch_shown}
use Rattle.miette_snippet_rules.proofs.cut_text.push_line_part_text.Goals as goal

pub returns-then-not-part-clause-told : goal.returns-then-not-part-clause-told
returns-then-not-part-clause-told g c =
    on_ok_weaker c.skip.result (λ _.
    stretch_dots (dots (theme_of c.args.theme.now)) c.args.part.now.shown
    (line_runs (pieces_within c.args.all.now.before c.args.part.now.bytes
    (map highlight_of c.args.all.now.pieces.now)) (take c.args.part.now.cells c.args.walk.now)) c.args.page.now
    c.push_dots.new.page c.if-not-part.true c.in_ok-push_dots.ensures)
    c.skip.ensures

pub returns-clause-told : goal.returns-clause-told
returns-clause-told g c =
    on_ok_weaker c.push_all.result (λ h.
    stretch_shown (dots (theme_of c.args.theme.now)) c.args.part.now.shown (line_runs
    (pieces_within c.args.all.now.before c.args.part.now.bytes (map highlight_of c.args.all.now.pieces.now))
    (take c.args.part.now.cells c.args.walk.now)) c.args.page.now c.push_all.new.page c.if-not-part.false
    (pieces_end (take c.in_ok-many.many c.push_pieces.new.walk) c.push_pieces.new.page c.begin.new.self
    c.push_all.new.page _ c.in_ok-begin.ensures h c.in_ok-many.ensures.told)) c.push_all.ensures.told
