use Rattle.miette_style.specs.views.Printouts.{◌⊕◌}
use Rattle.std.proofs.Common.{◌≡◌, ◌≤◌, ◌∷◌, ◌∙◌, map, ap, sym, arith, rules}
use Rattle.std.proofs.lemmas.Grind.{common_steps}
use Rattle.miette_style.specs.views.Tokens.{row_tokens}
use Rattle.miette_snippet_rules.specs.rules.Highlighting.{highlight_of}
use Rattle.miette_snippet_rules.specs.views.Cuts.{cut_cells}
use Rattle.miette_snippet_rules.proofs.CutPieces.{pieces_passed}
use Rattle.miette_snippet_rules.proofs.cut_text.pieces_after.Goals as goal

pub loop-piece-preserved : goal.loop-piece-preserved
loop-piece-preserved c = λ run cut cells page.
    let front : c.loop-piece.rest.now ≡ c.in-Some.piece.now ∷ c.in-Some.later.now =
    first_of (search rules, cc, grind (arith, common_steps)) in
    let le : c.in-Some.piece.now.0 ≤ c.loop-piece.before = omega (arith, c.if-before-piece.false) in
    pieces_passed run (highlight_of c.in-Some.piece.now) (map highlight_of c.in-Some.later.now) c.loop-piece.before cut
    cells page le
    ∙ ap (λ ps. page ⊕ row_tokens (cut_cells run (map highlight_of ps) c.loop-piece.before cut cells)) (sym front)
    ∙ c.loop-piece.invariant run cut cells page
