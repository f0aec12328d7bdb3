use Rattle.miette_graphical_rules.proofs.HeldRows.{fix_rows_hold, fixes_hold, rows_hold, snippets_hold, text_holds}
use Rattle.miette_graphical_rules.proofs.laws.holding_law.Goals as goal

pub returns-clause-holds : goal.returns-clause-holds
returns-clause-holds c = λ drawing s t a. snippets_hold drawing s t a

pub returns-clause-fixes : goal.returns-clause-fixes
returns-clause-fixes c = λ drawing s t a. fixes_hold drawing s t a

pub returns-clause-rows : goal.returns-clause-rows
returns-clause-rows c = λ drawing s t a. rows_hold drawing s t a

pub returns-clause-fix_rows : goal.returns-clause-fix_rows
returns-clause-fix_rows c = λ drawing s t a. fix_rows_hold drawing s t a

pub returns-clause-text : goal.returns-clause-text
returns-clause-text c = λ drawing s blank t bytes printed. text_holds drawing s blank t bytes printed
