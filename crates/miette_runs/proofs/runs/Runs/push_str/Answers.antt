use Rattle.std.proofs.Common.{◌∙◌, ◌++◌, ◌∷◌, [], ap, append_assoc, chars, map, map-id, sym}
use Rattle.std.proofs.lemmas.Iterator.{YieldsList-from_chars}
use Rattle.std.proofs.lemmas.Iterator.Consumers.{YieldsList-end}
use Rattle.std.proofs.lemmas.List.{map-append}
use Rattle.miette_runs.specs.rules.Sequences.{Character}
use Rattle.miette_runs.proofs.Growing.{spell-more}
use Rattle.miette_runs.proofs.runs.Runs.push_str.Goals as goal

pub loop-c-preserved : goal.loop-c-preserved
loop-c-preserved c =
    let x = c.in-Some.c in
    c.in_ok-push.ensures.tokens
    ∙ ap (λ ts. ts ++ Character x ∷ []) c.loop-c.invariant
    ∙ append_assoc c.args.self.now (map Character c.loop-c.yielded) (Character x ∷ [])
    ∙ ap (λ ts. c.args.self.now ++ ts) (sym (map-append Character c.loop-c.yielded (x ∷ [])))

pub returns-clause-tokens : goal.returns-clause-tokens
returns-clause-tokens c =
    let end = YieldsList-end (YieldsList-from_chars c.args.text.now c.utf8.text cc) c.loop-c.yielded _
    c.loop-c.yielded_by _ _ c.in-None.is c.next.ensures.steps in
    c.loop-c.invariant ∙ ap (λ t. c.args.self.now ++ map Character t) (sym (map-id c.loop-c.yielded) ∙ end.0)

pub returns-clause-text : goal.returns-clause-text
returns-clause-text c = spell-more c.args.self.now _ (chars c.args.text.now) (returns-clause-tokens c)
