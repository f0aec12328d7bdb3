use Rattle.miette_snippet_laws.proofs.CutLetters.{ends_shown, first_shown}
use Rattle.miette_snippet_laws.proofs.row_laws.letters_are_cut.Goals as goal

pub returns-clause-first : goal.returns-clause-first
returns-clause-first c = first_shown

pub returns-clause-ends : goal.returns-clause-ends
returns-clause-ends c = ends_shown
