use Rattle.miette_style.specs.views.Printouts.{◌⊕◌}
use Rattle.miette_style.specs.views.Tokens.{text_tokens}
use Rattle.std.proofs.Common.{◌≡◌, ◌≤◌, length}
use Rattle.std.specs.Str.{IsAscii}
use Rattle.miette_snippet_rules.specs.steps.Tabs.{tabbed_codes}
use Rattle.miette_snippet_rules.proofs.tabs.push_tabbed.Given as goal

abbrev pub invariant-loop-size : goal.invariant-loop-size
invariant-loop-size g l = record {
  within : length l.rest ≤ length l.fn.text;
  ascii : IsAscii l.rest;
  told : l.page ⊕ text_tokens (tabbed_codes l.fn.tab l.column l.rest) ≡ l.fn.page
      ⊕ text_tokens (tabbed_codes l.fn.tab 0 l.fn.text);
}

abbrev pub decreases-loop-size : goal.decreases-loop-size
decreases-loop-size g l = length l.rest
