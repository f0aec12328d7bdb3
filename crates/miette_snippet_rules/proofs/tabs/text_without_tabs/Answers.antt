use Rattle.std.proofs.Common.{sym, ◌∙◌}
use Rattle.miette_snippet_rules.proofs.TextWithoutTabs.{none_found, if_any}
use Rattle.miette_snippet_rules.proofs.tabs.text_without_tabs.Goals as goal

pub returns-clause-untabbed : goal.returns-clause-untabbed
returns-clause-untabbed c = if_any c.ok.result _ (none_found c.args.bytes.now c.memchr.result c.memchr.ensures
    (sym c.is_some.ensures ∙ c.if-is_some.false))
