use Rattle.std.proofs.Common.{◌≡◌, ◌∙◌, ap, eqb, false, length, rules, true}
use Rattle.serde_json.specs.View.{view}
use Rattle.miette_lint.specs.rules.FindingWithFixes.{coded_findings}
use Rattle.miette_language_server.specs.rules.Diagnostics.{utf16_positions}
use Rattle.miette_language_server.proofs.Lists.{acted_none, acted_some, own_acted}
use Rattle.miette_language_server.proofs.actions.actions.Goals as goal

pub returns-then-is_empty : goal.returns-then-is_empty
returns-then-is_empty c =
    let it = c.args.document.now in
    let none : eqb (length c.in_ok-own.own.items) 0 ≡ true = search rules in
    acted_none c.args.width it.uri it.text c.args.region c.in_ok-own.own.items none
    (own_acted c.args.width it.uri c.uri.result.now it.text c.args.region c.in_ok-source.source
    c.as_slice.result.now c.in_ok-found.found.items c.in_ok-own.own.items
    (c.in_ok-source.ensures ∙ ap utf16_positions c.text.ensures)
    (c.in_ok-found.ensures ∙ ap (λ t. coded_findings t c.args.width) c.text-2.ensures) c.as_slice.ensures.value
    c.uri.ensures c.in_ok-own.ensures)

pub returns : goal.returns
returns c =
    let it = c.args.document.now in
    let some : eqb (length c.in_ok-own.own.items) 0 ≡ false = search rules in
    acted_some c.args.width it.uri c.uri-2.result.now it.text c.args.region c.in_ok-source.source
    c.in_ok-own.own.items (view c.in_ok-joint.joint) c.with_last.result
    (c.in_ok-source.ensures ∙ ap utf16_positions c.text.ensures) c.uri-2.ensures some c.in_ok-joint.ensures
    (own_acted c.args.width it.uri c.uri.result.now it.text c.args.region c.in_ok-source.source
    c.as_slice.result.now c.in_ok-found.found.items c.in_ok-own.own.items
    (c.in_ok-source.ensures ∙ ap utf16_positions c.text.ensures)
    (c.in_ok-found.ensures ∙ ap (λ t. coded_findings t c.args.width) c.text-2.ensures) c.as_slice.ensures.value
    c.uri.ensures c.in_ok-own.ensures) c.with_last.ensures
