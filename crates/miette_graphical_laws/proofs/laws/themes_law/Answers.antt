use Rattle.miette_graphical_laws.proofs.Themes.{default_clean, shipped_clean, shipped_narrow, terminal_shipped}
use Rattle.miette_graphical_laws.proofs.laws.themes_law.Goals as goal

pub returns-clause-narrow : goal.returns-clause-narrow
returns-clause-narrow c = λ characters shipped. shipped_narrow characters shipped

pub returns-clause-clean : goal.returns-clause-clean
returns-clause-clean c = λ characters shipped. shipped_clean characters shipped

pub returns-clause-settings : goal.returns-clause-settings
returns-clause-settings c = λ theme shipped. default_clean theme shipped

pub returns-clause-terminal : goal.returns-clause-terminal
returns-clause-terminal c = λ terminal. terminal_shipped terminal
