use Rattle.std.proofs.Common.{[], refl}
use Rattle.miette_narrated.proofs.Telling.{appended_only}
use Rattle.miette_narrated.proofs.laws.narrated_report_has_one_text.Goals as goal

pub returns-clause-text : goal.returns-clause-text
returns-clause-text c = λ s t text is reads fixes. appended_only s t text [] text is refl reads fixes

pub returns-clause-appended : goal.returns-clause-appended
returns-clause-appended c = λ s t old new put reads fixes.
    appended_only s t put.text old new put.is_given put.appended reads fixes
