use Rattle.std.proofs.Common.{rules, ◌≡◌, true, ◌∙◌}
use Rattle.miette_snippet_rules.specs.rules.Highlighting.{decoded_text, leaves_plain}
use Rattle.miette_layout.proofs.HighlightedPieces.{cut_pieces}
use Rattle.miette_layout.proofs.highlighting.pieces_of.Goals as goal

pub returns-else-is_plain-clause-pieces : goal.returns-else-is_plain-clause-pieces
returns-else-is_plain-clause-pieces g c =
    let text = decoded_text c.args.text.now in
    cut_pieces (leaves_plain g.H.Highlighter.is_blank c.args.highlighter.now) text c.in_ok-pieces-in-Some.pieces.items
    c.in_ok-pieces-in-Some.ensures.cut
    (λ b.
    let one : c.is_plain.result ≡ true = c.is_plain.ensures.plain text
    (c.deref.ensures.value ∙ c.in_ok-pieces-in-Some.ensures.plain (search rules)) in
    absurd (cc))
