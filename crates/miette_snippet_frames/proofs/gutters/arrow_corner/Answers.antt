use Rattle.std.proofs.Common.{◌∙◌, ap, cond, sym}
use Rattle.std.specs.Option.{option_copied}
use Rattle.miette_labels.specs.rules.Labels.{parts_of}
use Rattle.miette_snippet_rules.specs.rules.Gutters.{ending_corner}
use Rattle.miette_style.specs.rules.Themes.{characters_of}
use Rattle.miette_snippet_frames.proofs.GutterRows.{corner_of_some}
use Rattle.miette_snippet_frames.proofs.gutters.arrow_corner.Goals as goal

pub returns-in-Some : goal.returns-in-Some
returns-in-Some c =
    let t = characters_of c.args.context.now.frame.settings.theme.now.characters in
    let text = option_copied c.args.label.now.text in
    corner_of_some t text c.in-Some.field-0.now (ap option_copied c.in-Some.is)
    ∙ ap (λ b. cond b t.ltop (ending_corner t (parts_of text))) (sym (sym c.starts.ensures ∙ c.if-starts.false))
