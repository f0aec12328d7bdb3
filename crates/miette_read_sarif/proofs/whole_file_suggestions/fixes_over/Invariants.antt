use Rattle.std.proofs.Common.{◌≡◌, take}
use Rattle.miette_read_sarif.specs.rules.Wholes.{fixes_over}
use Rattle.miette_read_sarif.proofs.whole_file_suggestions.fixes_over.Given as goal

abbrev pub invariant-loop-offer : goal.invariant-loop-offer
invariant-loop-offer l = l.list.items ≡ fixes_over l.name (take l.offer-index l.offers)
