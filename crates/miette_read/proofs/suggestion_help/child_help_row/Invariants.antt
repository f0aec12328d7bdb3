use Rattle.std.proofs.Common.{◌≡◌, take, string_bytes}
use Rattle.std.specs.List.{fold}
use Rattle.miette_read.specs.rules.RustcReport.{with_further}
use Rattle.miette_read.specs.views.Values.{texts}
use Rattle.miette_read.proofs.suggestion_help.child_help_row.Given as goal

-- the first text and those that were passed
abbrev pub invariant-loop-text : goal.invariant-loop-text
invariant-loop-text l =
    string_bytes l.row ≡ fold with_further (string_bytes l.initial.row) (texts (take l.text-index l.rest))
