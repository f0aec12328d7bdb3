use Rattle.std.proofs.Common.{◌++◌, [], ◌∷◌, List, Bor, map, take, string_bytes, codes, ap, ◌∙◌}
use Rattle.std.proofs.lemmas.List.{map-append, take_all}
use Rattle.serde_json.specs.View.{view}
use Rattle.serde_json.specs.declared.value.Value.{Value}
use Rattle.miette_read.specs.rules.Members.{member_objects}
use Rattle.miette_read.specs.views.Values.{values_behind}
use Rattle.miette_read_sarif.specs.rules.Proposals.{replacement_in}
use Rattle.miette_read_sarif.specs.views.RunContexts.{run_context}
use Rattle.miette_read_sarif.proofs.Steps.{more}
use Rattle.miette_read_sarif.proofs.context.RunContext.push_change.Goals as goal

pub loop-replacement-preserved : goal.loop-replacement-preserved
loop-replacement-preserved g c =
    let l = c.loop-replacement in
    let replaced = replacement_in (run_context g.F.Files.found c.args.self.now) in
    let name = string_bytes c.in_ok-name.name in
    let all = c.as_slice-replacement-items.result.now in
    let next = view c.replacement-item.result.now in
    more (λ (v : Bor Value). view v.now) all l.replacement-index c.replacement-item.result
    c.loop-replacement-test.true c.replacement-item.is (map (replaced name)) (replaced name next ∷ [])
    (map-append (replaced name) (values_behind (take l.replacement-index all)) (next ∷ [])) c.args.list.now.items
    l.list.items
    c.push_item.new.list.items
    (c.in_ok-push_item.ensures ∙ ap (λ e. l.list.items ++ e ∷ []) c.in_ok-edit.ensures
    ∙ ap (λ n. l.list.items ++ replaced n next ∷ []) c.as_str.ensures.value) l.invariant

pub returns : goal.returns
returns g c =
    let replaced = replacement_in (run_context g.F.Files.found c.args.self.now) in
    let name = string_bytes c.in_ok-name.name in
    let old = c.args.list.now.items in
    c.loop-replacement.invariant
    ∙ ap (λ (vs : List (Bor Value)). old ++ map (replaced name) (values_behind vs))
    (take_all c.loop-replacement.replacement-index c.as_slice-replacement-items.result.now c.loop-replacement-test.false
    ∙ c.as_slice-replacement-items.ensures.value)
    ∙ ap (λ ds. old ++ map (replaced name) ds) c.in_ok-replacements.ensures
    ∙ ap (λ n. old ++ map (replaced n) (member_objects (codes "replacements") (view c.args.change.now)))
    c.in_ok-name.ensures
