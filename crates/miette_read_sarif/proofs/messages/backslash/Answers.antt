use Rattle.std.proofs.Common.{◌≡◌, get_or, true, ap, sym, ◌∙◌, arith, rules}
use Rattle.std.proofs.lemmas.List.{get_or-drop}
use Rattle.miette_read_sarif.specs.rules.Messages.{is_escapable}
use Rattle.miette_read_sarif.proofs.WalkSteps.{after_low, after_mark, escapable_low}
use Rattle.miette_read_sarif.proofs.messages.backslash.Goals as goal

pub range_from-rest-requires : goal.range_from-rest-requires
range_from-rest-requires c = λ _. after_mark c.args.text.now 0 92 c.utf8.text c.requires (omega arith) (omega arith)

pub range-requires-clause-end_boundary : goal.range-requires-clause-end_boundary
range-requires-clause-end_boundary c =
    let rest = c.range_from-rest.result.now in
    let test : is_escapable (get_or rest 0 0) ≡ true = search rules in
    let low = escapable_low (get_or rest 0 0) test in
    after_low rest 0 c.range_from-rest.utf8 low.0 low.1

pub range-requires-else-in_link-clause-end_boundary : goal.range-requires-else-in_link-clause-end_boundary
range-requires-else-in_link-clause-end_boundary c =
    let text = c.args.text.now in
    let rest = c.range_from-rest.result.now in
    let same : get_or rest 0 0 ≡ get_or text 1 0 =
    ap (λ l. get_or l 0 0) c.range_from-rest.ensures.value ∙ get_or-drop 1 text 0 0 in
    let test : is_escapable (get_or rest 0 0) ≡ true = search rules in
    let low = escapable_low (get_or text 1 0) (ap is_escapable (sym same) ∙ test) in
    after_low text 1 c.utf8.text low.0 low.1

pub range_from-requires : goal.range_from-requires
range_from-requires c = λ _.
    let rest = c.range_from-rest.result.now in
    let test : is_escapable (get_or rest 0 0) ≡ true = search rules in
    let low = escapable_low (get_or rest 0 0) test in
    after_low rest 0 c.range_from-rest.utf8 low.0 low.1
