use Rattle.std.proofs.Common.{◌≡◌, take}
use Rattle.std.specs.List.{flat_map}
use Rattle.std.specs.Option.{option_copied}
use Rattle.miette_read.specs.rules.Reports.{main_fixes}
use Rattle.miette_read.proofs.advice.fixes_of.Given as goal

abbrev pub invariant-loop-offer : goal.invariant-loop-offer
invariant-loop-offer l = l.list.items ≡ flat_map (main_fixes (option_copied l.main)) (take l.offer-index l.offers)
