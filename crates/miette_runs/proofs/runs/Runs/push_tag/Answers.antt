use Rattle.std.proofs.Common.{◌∙◌, ◌++◌, ◌∷◌, [], ap, arith}
use Rattle.miette_runs.specs.rules.Sequences.{Sequence}
use Rattle.miette_runs.specs.views.Interleaving.{sign_text, interleaving}
use Rattle.miette_runs.specs.declared.runs.sign.Tag.{Tag}
use Rattle.miette_runs.proofs.Growing.{spell-sequence, woven-tag}
use Rattle.miette_runs.proofs.runs.Runs.push_tag.Goals as goal

pub returns-clause-tokens : goal.returns-clause-tokens
returns-clause-tokens c =
    let cs = c.self.inside.codes.items in
    let ms = c.self.inside.tags.items in
    let m : Tag = record { at = c.len-at.result; sign = c.args.sign } in
    ap (λ vs. interleaving 0 cs vs) c.in_ok-push.ensures.items
    ∙ woven-tag 0 cs ms m (omega arith)
    ∙ ap (λ ts. ts ++ Sequence (sign_text c.args.sign.value) ∷ []) c.self.view_is

pub returns-clause-text : goal.returns-clause-text
returns-clause-text c = spell-sequence c.args.self.now _ (sign_text c.args.sign.value) (returns-clause-tokens c)
