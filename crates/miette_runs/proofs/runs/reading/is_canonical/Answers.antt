use Rattle.std.proofs.Common.{◌∙◌, ◌&&◌, ap, sym}
use Rattle.miette_runs.specs.steps.WholeTags.{are_whole}
use Rattle.miette_runs.proofs.SettledRuns.{settled-exact, woven-settled}
use Rattle.miette_runs.proofs.runs.reading.is_canonical.Goals as goal

pub returns-then-has_no_escape-clause-same : goal.returns-then-has_no_escape-clause-same
returns-then-has_no_escape-clause-same c = λ e.
    woven-settled c.args.runs.codes.now c.args.runs.tags.now (sym c.has_no_escape.ensures ∙ c.if-has_no_escape.true)
    (sym c.are_whole.ensures ∙ e)

pub returns-then-has_no_escape-clause-exact : goal.returns-then-has_no_escape-clause-exact
returns-then-has_no_escape-clause-exact c =
    let plain = sym c.has_no_escape.ensures ∙ c.if-has_no_escape.true in
    c.are_whole.ensures ∙ sym (settled-exact 0 c.args.runs.codes.now c.args.runs.tags.now
    ∙ ap (λ b. b && are_whole c.args.runs.tags.now) plain)

pub returns-else-has_no_escape-clause-exact : goal.returns-else-has_no_escape-clause-exact
returns-else-has_no_escape-clause-exact c =
    let marked = sym c.has_no_escape.ensures ∙ c.if-has_no_escape.false in
    c.if-has_no_escape.false ∙ sym (settled-exact 0 c.args.runs.codes.now c.args.runs.tags.now
    ∙ ap (λ b. b && are_whole c.args.runs.tags.now) marked)
