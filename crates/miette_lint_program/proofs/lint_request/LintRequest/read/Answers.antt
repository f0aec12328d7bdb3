use Rattle.std.proofs.Common.{arith, map, rules, string_bytes}
use Rattle.std.proofs.lemmas.Grind.{common_steps}
use Rattle.miette_lint_program.proofs.RequestSteps.{no_words, none_served, some_served}
use Rattle.miette_lint_program.proofs.lint_request.LintRequest.read.Goals as goal

pub returns-in_err-number-in-len2 : goal.returns-in_err-number-in-len2
returns-in_err-number-in-len2 c =
    none_served (map string_bytes c.args.words.now) c.as_str.result.now c.as_str-in-len2.result.now c.number.result
    c.from_residual.result (grind (arith, common_steps)) (search rules) c.number.ensures (search rules) (search rules)

pub returns-in_ok-number-in-len2 : goal.returns-in_ok-number-in-len2
returns-in_ok-number-in-len2 c =
    some_served (map string_bytes c.args.words.now) c.as_str.result.now c.as_str-in-len2.result.now c.number.result
    c.in_ok-number-in-len2.field-0 (grind (arith, common_steps)) (search rules) c.number.ensures (search rules)

pub returns-in_default : goal.returns-in_default
returns-in_default c =
    no_words (map string_bytes c.args.words.now) (λ is. grind (arith, common_steps, is))
    (λ is. grind (arith, common_steps, is)) (λ t n d is. grind (arith, common_steps, is))
