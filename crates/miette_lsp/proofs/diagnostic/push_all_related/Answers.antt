use Rattle.std.proofs.Common.{ap, arith, drop, map, ◌+◌}
use Rattle.std.proofs.lemmas.Result.{on_ok_weaker}
use Rattle.miette_json.proofs.WrittenSteps.{list_put}
use Rattle.miette_lsp.proofs.Parts.{place_there}
use Rattle.miette_lsp.specs.rules.Diagnostics.{related_values_of}
use Rattle.miette_sarif.proofs.Gathers.{next_at, none_in}
use Rattle.miette_sarif.specs.rules.Objects.{items_of}
use Rattle.miette_sarif.specs.views.Artifacts.{artifacts_view}
use Rattle.miette_sarif.specs.views.Findings.{mark_of}
use Rattle.miette_lsp.proofs.diagnostic.push_all_related.Goals as goal

pub loop-mark-preserved : goal.loop-mark-preserved
loop-mark-preserved c =
    let l = c.loop-mark in
    let untitled = (artifacts_view c.args.artifacts.now).untitled in
    let locations = c.args.locations.now in
    place_there untitled (map mark_of (drop l.mark-index locations)) (map mark_of (drop (l.mark-index + 1) locations)) _
    l.json c.push_related.new.json _ (next_at mark_of locations l.mark-index _ c.loop-mark-test.true)
    c.in_ok-push_related.ensures l.invariant

pub returns : goal.returns
returns c =
    let l = c.loop-mark in
    let untitled = (artifacts_view c.args.artifacts.now).untitled in
    let locations = c.args.locations.now in
    on_ok_weaker c.end_list.result (list_put
    (items_of (related_values_of untitled (map mark_of (drop l.mark-index locations))))
    (items_of (related_values_of untitled (map mark_of locations))) c.args.json.now l.json _
    (ap (λ ms. items_of (related_values_of untitled ms)) (none_in mark_of locations l.mark-index (omega arith)))
    l.invariant) c.end_list.ensures
