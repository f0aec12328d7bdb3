use Rattle.miette_style.specs.views.Printouts.{◌⊕◌}
use Rattle.std.proofs.Common.{◌≡◌, map, drop}
use Rattle.miette_style.specs.views.Tokens.{row_tokens}
use Rattle.miette_style.specs.rules.Themes.{theme_of}
use Rattle.miette_snippet_rules.specs.rules.CutLines.{dots}
use Rattle.miette_snippet_rules.specs.rules.Highlighting.{highlight_of}
use Rattle.miette_snippet_rules.specs.views.Cuts.{cut_cells}
use Rattle.miette_snippet_rules.proofs.cut_text.push_cut.Given as goal

abbrev pub invariant-loop-part : goal.invariant-loop-part
invariant-loop-part g l =
    l.page ⊕ row_tokens (cut_cells (dots (theme_of l.theme)) (map highlight_of l.rest.pieces.now) l.rest.before
    (drop l.part-index l.cut) l.walk)
    ≡ l.fn.page ⊕ row_tokens (cut_cells (dots (theme_of l.theme)) (map highlight_of l.fn.pieces) 0 l.cut l.fn.walk)
