use Rattle.std.proofs.Common.{◌≡◌, ◌++◌, map, drop}
use Rattle.miette_highlight.specs.rules.Languages.{rule_texts}
use Rattle.miette_highlight.specs.steps.LanguageParts.{part_rule}
use Rattle.miette_highlight.proofs.languages.rules_of.Given as goal

abbrev pub invariant-loop-part : goal.invariant-loop-part
invariant-loop-part l = rule_texts l.rules.items ++ map part_rule (drop l.part-index l.parts) ≡ map part_rule l.parts
