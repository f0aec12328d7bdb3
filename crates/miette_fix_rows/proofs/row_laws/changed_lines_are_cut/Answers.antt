use Rattle.miette_fix_rows.proofs.ChangedCuts.{changed_fits, changed_row, changed_wide, cut_beside_is, kept_row_is}
use Rattle.miette_fix_rows.proofs.row_laws.changed_lines_are_cut.Goals as goal

pub returns-clause-wide : goal.returns-clause-wide
returns-clause-wide c = changed_wide

pub returns-clause-fits : goal.returns-clause-fits
returns-clause-fits c = changed_fits

pub returns-clause-cut : goal.returns-clause-cut
returns-clause-cut c = cut_beside_is

pub returns-clause-row : goal.returns-clause-row
returns-clause-row c = changed_row

pub returns-clause-kept : goal.returns-clause-kept
returns-clause-kept c = kept_row_is
