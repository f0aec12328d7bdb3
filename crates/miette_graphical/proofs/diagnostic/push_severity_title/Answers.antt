use Rattle.std.proofs.Common.{◌++◌, ap, ◌∙◌}
use Rattle.std.proofs.lemmas.Result.{on_ok_weaker}
use Rattle.std.specs.Str.{chars}
use Rattle.miette_graphical.proofs.Styling.{title_characters}
use Rattle.miette_graphical.proofs.diagnostic.push_severity_title.Goals as goal

pub returns : goal.returns
returns c =
    on_ok_weaker c.push_str.result (λ h. h ∙ ap (λ t. c.args.out.now ++ t)
    (ap chars c.severity_title.ensures ∙ title_characters c.args.severity)) c.push_str.ensures
