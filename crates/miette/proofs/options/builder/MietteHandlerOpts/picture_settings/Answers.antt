use Rattle.std.proofs.Common.{rules}
use Rattle.miette.proofs.Footers.{footer_chars}
use Rattle.miette.proofs.options.builder.MietteHandlerOpts.picture_settings.Goals as goal

pub returns-clause-settings : goal.returns-clause-settings
returns-clause-settings g c = search (rules, footer_chars c.self.inside.footer)
