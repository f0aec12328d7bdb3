use Rattle.std.proofs.Common.{◌∙◌, ◌++◌, ap, chars, string_bytes}
use Rattle.miette_runs.specs.rules.Sequences.{spell}
use Rattle.miette_runs.proofs.Outputs.{printed-bytes}
use Rattle.miette_runs.proofs.runs.reading.print.Goals as goal

pub returns : goal.returns
returns c = printed-bytes c.in_ok-text.text c.push_runs_slice.new.out (spell c.args.runs.now) c.in_ok-text.ensures.bytes
    (c.in_ok-push_runs_slice.ensures
    ∙ ap (λ ts. chars (string_bytes c.in_ok-text.text) ++ spell ts) c.parts-parts.ensures)
