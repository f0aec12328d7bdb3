use Rattle.std.proofs.Common.{◌≡◌, Bor, option_map, take}
use Rattle.std.specs.List.{fold}
use Rattle.serde_json.specs.View.{view}
use Rattle.serde_json.specs.declared.value.Value.{Value}
use Rattle.miette_read.specs.views.Values.{values_behind}
use Rattle.miette_read_sarif.specs.rules.Descriptors.{closer}
use Rattle.miette_read_sarif.proofs.descriptors.closest.Given as goal

abbrev pub invariant-loop-rule : goal.invariant-loop-rule
invariant-loop-rule l =
    option_map (λ (v : Bor Value). view v.now) l.best
    ≡ fold (closer l.id) (option_map (λ (v : Bor Value). view v.now) l.found)
    (values_behind (take l.rule-index l.rules))
