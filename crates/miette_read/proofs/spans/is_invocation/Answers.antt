use Rattle.std.proofs.Common.{rules}
use Rattle.std.proofs.lemmas.Str.Pattern.{ends_text}
use Rattle.miette_read.specs.rules.Rustc.{is_invocation}
use Rattle.miette_read.proofs.spans.is_invocation.Goals as goal

pub returns : goal.returns
unfolding is_invocation
returns c = search (rules, ends_text)
