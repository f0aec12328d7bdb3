use Rattle.miette_report.proofs.WholeTexts.{whole}
use Rattle.miette_report.proofs.laws.job_fixes_see_the_whole_source.Goals as goal

pub returns : goal.returns
returns c = whole
