use Rattle.std.proofs.Common.{◌∙◌, ◌++◌, ap, chars}
use Rattle.std.proofs.lemmas.Str.{chars-nil}
use Rattle.miette_runs.specs.rules.Sequences.{spell}
use Rattle.miette_runs.specs.views.Interleaving.{interleaving}
use Rattle.miette_text.proofs.wrapping.unwrapped.printed_text.Goals as goal

pub returns : goal.returns
returns c =
    let indent = interleaving 0 c.args.indent.codes.now c.args.indent.tags.now in
    c.in_ok-push_runs_slice.ensures ∙ ap (λ bs. chars bs ++ spell indent) c.in_ok-text.ensures.bytes
    ∙ ap (λ cs. cs ++ spell indent) chars-nil
