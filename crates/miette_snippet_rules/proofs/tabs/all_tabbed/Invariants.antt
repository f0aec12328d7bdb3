use Rattle.std.proofs.Common.{◌≡◌, true, take}
use Rattle.std.specs.List.{list_all}
use Rattle.miette_snippet_rules.specs.steps.Tabs.{is_tabbed}
use Rattle.miette_snippet_rules.proofs.tabs.all_tabbed.Given as goal

abbrev pub invariant-loop-byte : goal.invariant-loop-byte
invariant-loop-byte l = list_all is_tabbed (take l.byte-index l.bytes) ≡ true
