use Rattle.std.proofs.Common.{◌≡◌, ◌∙◌, ◌++◌, List, OnOk, None, Some, ap, append-nil, subst, sym, rules}
use Rattle.serde_json.specs.View.{view}
use Rattle.miette_show_rows.specs.rules.ApplicableFixes.{FileFixes, fixes_if_any, applicable_suggestion}
use Rattle.miette_show_rows.proofs.applicable_fixes.push_child.Goals as goal

pub returns-in-Some : goal.returns-in-Some
returns-in-Some g c =
    let old = c.args.list.now.items in
    let some : applicable_suggestion (g.F.Files.found c.args.files.now) (view c.args.child.now) ≡ Some c.in-Some.offer =
    search rules
    in
    subst (λ (more : List FileFixes). OnOk c.push_suggestion.result (c.push_suggestion.new.list.items ≡ old ++ more))
    (ap fixes_if_any (sym some)) c.push_suggestion.ensures

pub returns-in-None : goal.returns-in-None
returns-in-None g c =
    let old = c.args.list.now.items in
    let none : applicable_suggestion (g.F.Files.found c.args.files.now) (view c.args.child.now) ≡ None = search rules in
    sym (append-nil old) ∙ ap (λ o. old ++ fixes_if_any o) (sym none)
