use Rattle.std.proofs.Common.{◌≡◌, ◌<◌, ◌∙◌, [], length, ap, sym, rules}
use Rattle.std.proofs.lemmas.List.{nil_from_length}
use Rattle.miette_snippet_rules.specs.rules.CutLines.{reach_at}
use Rattle.miette_snippet_cuts.proofs.Reaching.{reach_some}
use Rattle.miette_snippet_cuts.proofs.reach.cut_settings_for.Goals as goal

pub returns-then-is_empty-clause-reach : goal.returns-then-is_empty-clause-reach
returns-then-is_empty-clause-reach c =
    let none : c.args.ends.now ≡ [] = nil_from_length c.args.ends.now (search rules) in
    sym (ap (λ es. reach_at c.args.limit c.args.dots es c.args.walk.now) none)

pub returns-clause-reach : goal.returns-clause-reach
returns-clause-reach c =
    let some : 0 < length c.args.ends.now = search rules in
    c.in_ok-reach.ensures ∙ sym (reach_some c.args.limit c.args.dots c.args.ends.now c.args.walk.now some)
