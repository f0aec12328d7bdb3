use Rattle.std.proofs.Common.{◌≡◌, Bor, option_map, take}
use Rattle.std.specs.List.{fold}
use Rattle.serde_json.specs.View.{view}
use Rattle.serde_json.specs.declared.value.Value.{Value}
use Rattle.miette_read_sarif.specs.rules.Descriptors.{closest}
use Rattle.miette_read_sarif.specs.views.Seen.{value_lists_behind}
use Rattle.miette_read_sarif.proofs.descriptors.closest_of_all.Given as goal

abbrev pub invariant-loop-rules : goal.invariant-loop-rules
invariant-loop-rules l =
    option_map (λ (v : Bor Value). view v.now) l.best
    ≡ fold (closest l.id) (option_map (λ (v : Bor Value). view v.now) l.found)
    (value_lists_behind (take l.rules-index l.extensions))
