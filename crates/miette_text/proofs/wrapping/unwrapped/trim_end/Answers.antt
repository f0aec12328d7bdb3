use Rattle.std.proofs.Common.{◌∙◌, ap, sym, take}
use Rattle.miette_runs.specs.views.Interleaving.{interleaving}
use Rattle.miette_text.proofs.TrimmedIndents.{trimmed-woven}
use Rattle.miette_text.proofs.wrapping.unwrapped.trim_end.Goals as goal

pub returns : goal.returns
returns c =
    let cs = c.args.indent.codes.now in
    let ms = c.args.indent.tags.now in
    ap (λ n. interleaving 0 (take n cs) ms) c.bare_len-bare.ensures.value ∙ sym (trimmed-woven 0 cs ms)
