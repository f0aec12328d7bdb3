use Rattle.std.proofs.Common.{◌≡◌, get_or, ap, ◌∙◌, arith, rules}
use Rattle.miette_read_sarif.specs.rules.Messages.{digit_count}
use Rattle.miette_read_sarif.proofs.WalkSteps.{after_mark, number_closed}
use Rattle.miette_read_sarif.proofs.messages.placed.Goals as goal

pub range_from-rest-requires : goal.range_from-rest-requires
range_from-rest-requires c = λ _. after_mark c.args.text.now 0 123 c.utf8.text c.requires (omega arith) (omega arith)

pub range_from-requires : goal.range_from-requires
range_from-requires c = λ _.
    let rest = c.range_from-rest.result.now in
    let count = c.digit_count-count.result in
    let is : count ≡ digit_count rest = search rules in
    after_mark rest count 125 c.range_from-rest.utf8
    (ap (λ n. get_or rest n 0) is ∙ number_closed _ rest c.in-Some.message_shown.now c.in-Some.ensures) (omega arith)
    (omega arith)
