use Rattle.std.proofs.Common.{◌≡◌, ◌+◌, get_or, true, ap, ◌∙◌, arith, rules}
use Rattle.miette_read_sarif.specs.rules.Messages.{destination_count, has_destination}
use Rattle.miette_read_sarif.proofs.WalkSteps.{after_mark, after_two, destination_closed}
use Rattle.miette_read_sarif.proofs.messages.closing.Goals as goal

pub range_from-rest-requires : goal.range_from-rest-requires
range_from-rest-requires c = λ _. after_mark c.args.text.now 0 93 c.utf8.text c.requires (omega arith) (omega arith)

pub range_from-requires : goal.range_from-requires
range_from-requires c = λ _.
    let rest = c.range_from-rest.result.now in
    let count = c.destination_count-count.result in
    let is : count ≡ destination_count rest = search rules in
    let has : has_destination rest ≡ true = search rules in
    after_two rest count 41 c.range_from-rest.utf8 (ap (λ n. get_or rest (n + 1) 0) is ∙ destination_closed rest has)
    (omega arith) (omega arith)
