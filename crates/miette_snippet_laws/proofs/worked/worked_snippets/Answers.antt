use Rattle.std.proofs.Common.{refl}
use Rattle.std.specs.Fmt.{digits}
use Rattle.std.specs.Str.{chars}
use Rattle.bstr.specs.Utf8.{pieces_from}
use Rattle.miette_lines.specs.rules.Lines.{column_of, ends_line, line_end, line_of, line_start, terminators_in}
use Rattle.miette_snippet_laws.proofs.worked.worked_snippets.Goals as goal

pub returns-clause-primary : goal.returns-clause-primary
unfolding ends_line line_of line_start line_end column_of terminators_in pieces_from digits chars
returns-clause-primary c = refl

pub returns-clause-first : goal.returns-clause-first
unfolding ends_line line_of line_start line_end column_of terminators_in pieces_from digits chars
returns-clause-first c = refl

pub returns-clause-one_line : goal.returns-clause-one_line
unfolding ends_line line_of line_start line_end column_of terminators_in pieces_from digits chars
returns-clause-one_line c = refl

pub returns-clause-refused : goal.returns-clause-refused
unfolding ends_line line_of line_start line_end column_of terminators_in pieces_from digits chars
returns-clause-refused c = refl

pub returns-clause-nested : goal.returns-clause-nested
unfolding ends_line line_of line_start line_end column_of terminators_in pieces_from digits chars
returns-clause-nested c = refl

pub returns-clause-broken : goal.returns-clause-broken
unfolding ends_line line_of line_start line_end column_of terminators_in pieces_from digits chars
returns-clause-broken c = refl

pub returns-clause-at_end : goal.returns-clause-at_end
unfolding ends_line line_of line_start line_end column_of terminators_in pieces_from digits chars
returns-clause-at_end c = refl

pub returns-clause-cut : goal.returns-clause-cut
unfolding ends_line line_of line_start line_end column_of terminators_in pieces_from digits chars
returns-clause-cut c = refl

pub returns-clause-styles : goal.returns-clause-styles
unfolding ends_line line_of line_start line_end column_of terminators_in pieces_from digits chars
returns-clause-styles c = λ styles red green. refl
