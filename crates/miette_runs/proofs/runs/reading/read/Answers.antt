use Rattle.std.proofs.Common.{◌≡◌, ◌∙◌, ap, sym, true}
use Rattle.std.proofs.lemmas.Result.{IfOk-weaker}
use Rattle.miette_runs.specs.rules.Sequences.{spell, tokens}
use Rattle.miette_style.specs.rules.Escapes.{no_escape}
use Rattle.miette_runs.proofs.Tokens.{spell-tokens}
use Rattle.miette_runs.proofs.Growing.{spell-characters}
use Rattle.miette_runs.proofs.SettledRuns.{tokens-plain}
use Rattle.miette_runs.proofs.runs.reading.read.Goals as goal

pub returns-then-has_no_escape-clause-tokens : goal.returns-then-has_no_escape-clause-tokens
returns-then-has_no_escape-clause-tokens c =
    let cs = c.args.codes.items in
    let plain : no_escape cs ≡ true = ap no_escape (sym c.deref.ensures.value) ∙ sym c.has_no_escape.ensures
    ∙ c.if-has_no_escape.true in
    c.of_characters.ensures ∙ sym (tokens-plain cs plain)

pub returns-then-has_no_escape-clause-text : goal.returns-then-has_no_escape-clause-text
returns-then-has_no_escape-clause-text c = ap spell c.of_characters.ensures ∙ spell-characters c.args.codes.items

pub returns-clause-text : goal.returns-clause-text
returns-clause-text c =
    IfOk-weaker c.cut.result _ _ (λ _ h. ap spell h ∙ ap (λ xs. spell (tokens xs)) c.deref-2.ensures.value
    ∙ spell-tokens c.args.codes.items) c.cut.ensures
