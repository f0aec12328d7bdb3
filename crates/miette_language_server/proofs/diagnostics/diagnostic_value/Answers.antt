use Rattle.std.proofs.Common.{◌≡◌, eqb, length, true, false, subst, rules}
use Rattle.std.specs.Prelude.{IfOk}
use Rattle.serde_json.specs.View.{view}
use Rattle.serde_json.specs.declared.value.Value.{Value}
use Rattle.miette_lint.specs.views.Found.{coded_of}
use Rattle.miette_language_server.specs.rules.Diagnostics.{fixable_value, plain_value}
use Rattle.miette_language_server.proofs.Lists.{no_fixes, some_fixes}
use Rattle.miette_language_server.proofs.diagnostics.diagnostic_value.Goals as goal

pub returns-then-is_empty : goal.returns-then-is_empty
returns-then-is_empty c =
    let none : eqb (length c.args.found.now.fixes.items) 0 ≡ true = search rules in
    let it = coded_of c.args.found.now in
    subst (λ d. IfOk c.plain_value.result (λ (v : Value). view v ≡ d))
    (no_fixes c.args.found.now.fixes.items (plain_value c.args.source.now it)
    (fixable_value c.args.uri.now c.args.source.now it) none)
    c.plain_value.ensures

pub returns-else-is_empty : goal.returns-else-is_empty
returns-else-is_empty c =
    let some : eqb (length c.args.found.now.fixes.items) 0 ≡ false = search rules in
    let it = coded_of c.args.found.now in
    subst (λ d. IfOk c.fixable_value.result (λ (v : Value). view v ≡ d))
    (some_fixes c.args.found.now.fixes.items (plain_value c.args.source.now it)
    (fixable_value c.args.uri.now c.args.source.now it) some)
    c.fixable_value.ensures
