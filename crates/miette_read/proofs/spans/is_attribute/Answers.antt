use Rattle.std.proofs.Common.{rules}
use Rattle.std.proofs.lemmas.Str.Pattern.{starts_text}
use Rattle.miette_read.specs.rules.Rustc.{is_attribute}
use Rattle.miette_read.proofs.spans.is_attribute.Goals as goal

pub returns : goal.returns
unfolding is_attribute
returns c = search (rules, starts_text)
