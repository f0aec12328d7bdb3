use Rattle.std.proofs.Common.{refl}
use Rattle.miette_program.proofs.language.LanguageHighlighter.new.Goals as goal

pub returns-clause-language : goal.returns-clause-language
returns-clause-language c = refl
