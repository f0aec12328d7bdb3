use Rattle.std.proofs.Common.{rules}
use Rattle.std.proofs.lemmas.Str.Pattern.{starts_text}
use Rattle.miette_read.specs.rules.Rustc.{is_derive}
use Rattle.miette_read.proofs.spans.is_derive.Goals as goal

pub returns : goal.returns
unfolding is_derive
returns c = search (rules, starts_text)
