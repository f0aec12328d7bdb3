use Rattle.std.proofs.Common.{◌∙◌, ◌+◌, ◌++◌, ◌∷◌, [], ap, arith, length}
use Rattle.miette_runs.specs.rules.Sequences.{Character}
use Rattle.miette_runs.specs.views.Interleaving.{interleaving}
use Rattle.miette_runs.proofs.Growing.{spell-more, within-more, woven-more}
use Rattle.miette_runs.proofs.runs.Runs.push.Goals as goal

pub returns-clause-tokens : goal.returns-clause-tokens
returns-clause-tokens c =
    let cs = c.self.inside.codes.items in
    let ms = c.self.inside.tags.items in
    ap (λ xs. interleaving 0 xs ms) c.in_ok-push.ensures.items
    ∙ woven-more 0 cs (c.args.c ∷ []) ms (within-more (length cs) (0 + length cs) ms (omega arith) c.self.invariant)
    ∙ ap (λ ts. ts ++ Character c.args.c ∷ []) c.self.view_is

pub returns-clause-text : goal.returns-clause-text
returns-clause-text c = spell-more c.args.self.now _ (c.args.c ∷ []) (returns-clause-tokens c)
