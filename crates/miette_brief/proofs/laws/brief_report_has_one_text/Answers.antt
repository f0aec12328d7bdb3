use Rattle.std.proofs.Common.{[], None, refl}
use Rattle.miette_brief.proofs.Telling.{only_brief, told_brief}
use Rattle.miette_brief.proofs.BriefSources.{told_reads}
use Rattle.miette_brief.proofs.laws.brief_report_has_one_text.Goals as goal

pub returns-clause-text : goal.returns-clause-text
returns-clause-text c = λ s t text is reads. only_brief s t text [] text is refl reads

pub returns-clause-appended : goal.returns-clause-appended
returns-clause-appended c = λ s t old new put reads. only_brief s t put.text old new put.is_given put.appended reads

pub returns-clause-told : goal.returns-clause-told
returns-clause-told c = λ s t old new put reads. told_brief s t put.text old new put.is_given put.appended reads

pub returns-clause-fewer : goal.returns-clause-fewer
returns-clause-fewer c = λ t reads. told_reads None t tt reads
