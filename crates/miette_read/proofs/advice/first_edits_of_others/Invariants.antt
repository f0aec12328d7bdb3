use Rattle.std.proofs.Common.{◌≡◌, take}
use Rattle.std.specs.Option.{option_copied}
use Rattle.miette_read.specs.rules.Reports.{first_edits_of_others}
use Rattle.miette_read.specs.views.Edits.{edits_behind}
use Rattle.miette_read.proofs.advice.first_edits_of_others.Given as goal

abbrev pub invariant-loop-edit : goal.invariant-loop-edit
invariant-loop-edit l = edits_behind l.list.items ≡ first_edits_of_others (option_copied l.main)
    (take l.edit-index l.edits)
