use Rattle.std.proofs.Common.{◌≡◌, ◌++◌, drop, ltb}
use Rattle.std.specs.List.{filter}
use Rattle.miette_narrated.proofs.label_order.begun_before.Given as goal

abbrev pub invariant-loop-end : goal.invariant-loop-end
invariant-loop-end l = l.kept.items ++ filter (λ end. ltb end.label.start l.place) (drop l.end-index l.ends)
    ≡ filter (λ end. ltb end.label.start l.place) l.ends
