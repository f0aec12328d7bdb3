use Rattle.std.proofs.Common.{◌≡◌, ◌∙◌, [], refl, sym, subst, eqb-true}
use Rattle.std.proofs.lemmas.List.{append-nil, nil_from_length}
use Rattle.miette_highlight.specs.rules.Tokens.{AreTokens}
use Rattle.miette_highlight.proofs.Joining.{tokens-cut}
use Rattle.miette_highlight.proofs.tokens.pieces_of.Goals as goal

pub returns-clause-tokens : goal.returns-clause-tokens
returns-clause-tokens c =
    let none : c.loop-rest.rest.now ≡ [] = nil_from_length c.loop-rest.rest.now
    (eqb-true _ _ (sym c.is_empty.ensures ∙ c.loop-rest-test.false)) in
    subst (λ pieces. AreTokens c.args.rules.now c.args.left_open c.args.line.now pieces c.loop-rest.left)
    (append-nil c.loop-rest.pieces.items)
    (c.loop-rest.invariant.0 [] c.loop-rest.left (none, refl))

pub returns-clause-cuts : goal.returns-clause-cuts
returns-clause-cuts c =
    let none : c.loop-rest.rest.now ≡ [] = nil_from_length c.loop-rest.rest.now
    (eqb-true _ _ (sym c.is_empty.ensures ∙ c.loop-rest-test.false)) in
    tokens-cut c.args.rules.now c.args.left_open c.args.line.now c.loop-rest.pieces.items c.loop-rest.left
    (subst (λ pieces. AreTokens c.args.rules.now c.args.left_open c.args.line.now pieces c.loop-rest.left)
    (append-nil c.loop-rest.pieces.items)
    (c.loop-rest.invariant.0 [] c.loop-rest.left (none, refl)))
