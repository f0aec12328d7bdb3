use Rattle.std.proofs.Common.{◌≡◌, ◌∙◌, ap, arith, map, sym, take}
use Rattle.std.proofs.lemmas.List.{take_all}
use Rattle.std.proofs.lemmas.List.Folds.{flat_map-map}
use Rattle.std.specs.List.{flat_map}
use Rattle.serde_json.specs.View.{view}
use Rattle.miette_lint.specs.views.Found.{coded_of}
use Rattle.miette_language_server.specs.rules.Actions.{actions_at}
use Rattle.miette_language_server.proofs.Lists.{joined_more}
use Rattle.miette_language_server.proofs.actions.own_actions.Goals as goal

pub loop-it-preserved : goal.loop-it-preserved
loop-it-preserved c =
    let l = c.loop-it in
    joined_more (λ it. actions_at c.args.uri.now c.args.source.now c.args.region (coded_of it)) c.args.found.now
    l.it-index c.it-item.result (map view l.list.items) (map view c.append.new.list.items)
    (map view c.in_ok-more.more.items) c.loop-it-test.true c.it-item.is c.in_ok-append.ensures c.in_ok-more.ensures
    l.invariant

pub returns : goal.returns
returns c =
    let l = c.loop-it in
    let found = c.args.found.now in
    let of = actions_at c.args.uri.now c.args.source.now c.args.region in
    let all : take l.it-index found ≡ found = take_all l.it-index found (omega (arith, c.loop-it-test.false)) in
    l.invariant ∙ ap (flat_map (λ it. of (coded_of it))) all ∙ sym (flat_map-map of coded_of found)
