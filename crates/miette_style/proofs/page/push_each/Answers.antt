use Rattle.std.proofs.Common.{◌≡◌, ◌++◌, ◌∷◌, ◌+◌, ◌-◌, [], ◌∙◌, ap, append_assoc, arith, replicate, refl}
use Rattle.std.proofs.lemmas.List.{replicate-append-replicate}
use Rattle.miette_style.proofs.page.push_each.Goals as goal

pub loop-i-preserved : goal.loop-i-preserved
loop-i-preserved g c =
    let old = g.O.Canvas.written c.args.out.now in
    let it = c.args.character in
    let done = (c.args.many - c.in_ok-left.left) + c.loop-i.i in
    c.in_ok-push.ensures ∙ ap (λ us. us ++ it ∷ []) c.loop-i.invariant
    ∙ append_assoc old (replicate done it) (it ∷ [])
    ∙ ap (λ us. old ++ us) (replicate-append-replicate done 1 it ∙ ap (λ n. replicate n it) (omega arith))
