use Rattle.std.proofs.Common.{[], ◌∷◌, ◌++◌, List, Bor, map, ap, sym, append_assoc, ◌∙◌}
use Rattle.std.specs.Option.{option_copied}
use Rattle.std.proofs.lemmas.List.{take_all}
use Rattle.serde_json.specs.View.{view}
use Rattle.serde_json.specs.declared.value.Value.{Value}
use Rattle.miette_read.specs.rules.Rustc.{note_annotations, maybe_row, note_annotation}
use Rattle.miette_read.specs.views.Builds.{built}
use Rattle.miette_read.specs.views.Values.{values_behind}
use Rattle.miette_read.proofs.Steps.{told_more}
use Rattle.miette_read.proofs.annotation_spans.push_leading.Goals as goal

pub loop-span-preserved : goal.loop-span-preserved
loop-span-preserved g c =
    let build = built g.F.Files.found c.args.build.now in
    let l = c.loop-span in
    told_more (λ (v : Bor Value). view v.now) c.in-Some.rest.now l.span-index c.span-item.result
    c.loop-span-test.true c.span-item.is (note_annotation build []) c.push_item.new.list.items l.list.items
    c.push_item-in-loop-span.new.list.items c.in_ok-told-2.told c.in_ok-told-2.ensures
    c.in_ok-push_item-2.ensures l.invariant

pub returns : goal.returns
returns g c =
    let build = built g.F.Files.found c.args.build.now in
    let rows = maybe_row (option_copied c.args.row) in
    let old = c.args.list.now.items in
    let rest = c.in-Some.rest.now in
    let told = note_annotation build rows (view c.in-Some.first.now.now) in
    let more = λ (vs : List (Bor Value)). map (note_annotation build []) (values_behind vs) in
    c.loop-span.invariant
    ∙ ap (λ (vs : List (Bor Value)). c.push_item.new.list.items ++ more vs)
    (take_all c.loop-span.span-index rest c.loop-span-test.false)
    ∙ ap (λ ts. ts ++ more rest) (c.in_ok-push_item.ensures ∙ ap (λ t. old ++ t ∷ []) c.in_ok-told.ensures)
    ∙ append_assoc old (told ∷ []) (more rest)
    ∙ ap (λ (vs : List (Bor Value)). old ++ note_annotations build rows (values_behind vs))
    (sym c.in-Some.ensures.cases.0)
