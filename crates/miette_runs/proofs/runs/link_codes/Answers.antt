use Rattle.std.proofs.Common.{◌∙◌, ◌++◌, ◌∷◌, [], ap, map-id, sym}
use Rattle.std.proofs.lemmas.Iterator.{YieldsList-from_chars}
use Rattle.std.proofs.lemmas.Iterator.Consumers.{YieldsList-end}
use Rattle.miette_runs.proofs.runs.link_codes.Goals as goal

pub returns : goal.returns
returns c =
    let end = YieldsList-end (YieldsList-from_chars c.args.url.now c.utf8.url cc) c.loop-c.yielded _ c.loop-c.yielded_by
    _ _ c.in-None.is c.next.ensures.steps in
    c.in_ok-extend_from_slice.ensures.items
    ∙ ap (λ xs. xs ++ 27 ∷ 92 ∷ []) c.loop-c.invariant
    ∙ ap (λ xs. 27 ∷ 93 ∷ 56 ∷ 59 ∷ 59 ∷ xs ++ 27 ∷ 92 ∷ []) (sym (map-id c.loop-c.yielded) ∙ end.0)
