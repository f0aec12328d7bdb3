use Rattle.std.proofs.Common.{refl}
use Rattle.bstr.specs.Utf8.{pieces_from}
use Rattle.std.specs.Fmt.{digits}
use Rattle.std.specs.Str.{chars}
use Rattle.miette_lines.specs.rules.Lines.{ends_line, line_of, line_start, line_end, column_of}
use Rattle.miette_fix_rows.proofs.worked.worked_examples.Goals as goal

pub returns-clause-a_word : goal.returns-clause-a_word
unfolding ends_line line_of line_start line_end column_of pieces_from digits chars
returns-clause-a_word c = refl

pub returns-clause-deleted_lines : goal.returns-clause-deleted_lines
unfolding ends_line line_of line_start line_end column_of pieces_from digits chars
returns-clause-deleted_lines c = refl

pub returns-clause-inserted_lines : goal.returns-clause-inserted_lines
unfolding ends_line line_of line_start line_end column_of pieces_from digits chars
returns-clause-inserted_lines c = refl

pub returns-clause-two_edits_near : goal.returns-clause-two_edits_near
unfolding ends_line line_of line_start line_end column_of pieces_from digits chars
returns-clause-two_edits_near c = refl

pub returns-clause-far_apart : goal.returns-clause-far_apart
unfolding ends_line line_of line_start line_end column_of pieces_from digits chars
returns-clause-far_apart c = refl

pub returns-clause-neighbours : goal.returns-clause-neighbours
unfolding ends_line line_of line_start line_end column_of pieces_from digits chars
returns-clause-neighbours c = refl

pub returns-clause-no_final_terminator : goal.returns-clause-no_final_terminator
unfolding ends_line line_of line_start line_end column_of pieces_from digits chars
returns-clause-no_final_terminator c = refl

pub returns-clause-in_a_word : goal.returns-clause-in_a_word
unfolding ends_line line_of line_start line_end column_of pieces_from digits chars
returns-clause-in_a_word c = refl

pub returns-clause-cr_lf : goal.returns-clause-cr_lf
unfolding ends_line line_of line_start line_end column_of pieces_from digits chars
returns-clause-cr_lf c = refl

pub returns-clause-a_tab : goal.returns-clause-a_tab
unfolding ends_line line_of line_start line_end column_of pieces_from digits chars
returns-clause-a_tab c = refl

pub returns-clause-a_blank_at_the_end : goal.returns-clause-a_blank_at_the_end
unfolding ends_line line_of line_start line_end column_of pieces_from digits chars
returns-clause-a_blank_at_the_end c = refl

pub returns-clause-nothing : goal.returns-clause-nothing
unfolding ends_line line_of line_start line_end column_of pieces_from digits chars
returns-clause-nothing c = refl

pub returns-clause-refused : goal.returns-clause-refused
unfolding ends_line line_of line_start line_end column_of pieces_from digits chars
returns-clause-refused c = refl

pub returns-clause-overlapping : goal.returns-clause-overlapping
unfolding ends_line line_of line_start line_end column_of pieces_from digits chars
returns-clause-overlapping c = refl

pub returns-clause-a_pair_of_terminators : goal.returns-clause-a_pair_of_terminators
unfolding ends_line line_of line_start line_end column_of pieces_from digits chars
returns-clause-a_pair_of_terminators c = refl

pub returns-clause-cut_lines : goal.returns-clause-cut_lines
unfolding ends_line line_of line_start line_end column_of pieces_from digits chars
returns-clause-cut_lines c = refl
