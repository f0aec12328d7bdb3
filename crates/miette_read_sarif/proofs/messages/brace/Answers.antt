use Rattle.std.proofs.Common.{◌≡◌, get_or, true, rules}
use Rattle.miette_read_sarif.specs.rules.Messages.{is_brace}
use Rattle.miette_read_sarif.proofs.WalkSteps.{after_low, brace_low}
use Rattle.miette_read_sarif.proofs.messages.brace.Goals as goal

pub range_from-rest-requires : goal.range_from-rest-requires
range_from-rest-requires c = λ _.
    let low = brace_low (get_or c.args.text.now 0 0) c.requires in
    after_low c.args.text.now 0 c.utf8.text low.0 low.1

pub range_from-requires : goal.range_from-requires
range_from-requires c = λ _.
    let rest = c.range_from-rest.result.now in
    let same : is_brace (get_or rest 0 0) ≡ true = search rules in
    let low = brace_low (get_or rest 0 0) same in
    after_low rest 0 c.range_from-rest.utf8 low.0 low.1
