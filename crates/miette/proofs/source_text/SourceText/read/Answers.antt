use Rattle.std.proofs.Common.{◌∙◌, ap}
use Rattle.miette_protocol.specs.rules.Reading.{Source}
use Rattle.miette.proofs.Texts.{language_given}
use Rattle.miette.proofs.source_text.SourceText.read.Goals as goal

pub returns-clause-language : goal.returns-clause-language
returns-clause-language g c = ap (λ (s : Source). s.language) c.in_ok-named.ensures ∙ language_given _
