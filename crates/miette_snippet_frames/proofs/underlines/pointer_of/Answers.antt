use Rattle.std.proofs.Common.{ap}
use Rattle.std.specs.Option.{option_copied}
use Rattle.miette_snippet_frames.proofs.MarkRows.{middle_of_full}
use Rattle.miette_snippet_frames.proofs.underlines.pointer_of.Goals as goal
use Rattle.miette_style.specs.rules.Themes.{characters_of}

pub returns-in-Some : goal.returns-in-Some
returns-in-Some c = middle_of_full (characters_of c.args.context.now.frame.settings.theme.now.characters)
    c.args.mark.now.label.start
    c.args.mark.now.label.after _ c.in-Some.field-0.now c.if-mark.false (ap option_copied c.in-Some.is)
