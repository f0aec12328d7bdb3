use Rattle.miette_graphical_laws.proofs.SourceSettings.{settings_after, settings_with}
use Rattle.miette_graphical_laws.proofs.laws.source_settings_law.Goals as goal

pub returns-clause-after : goal.returns-clause-after
returns-clause-after c = settings_after

pub returns-clause-further : goal.returns-clause-further
returns-clause-further c = settings_with
