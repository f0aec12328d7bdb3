use Rattle.std.proofs.Common.{◌∙◌, ap, eqb, length}
use Rattle.miette_columns.specs.views.Printable.{is_printable}
use Rattle.miette_columns.proofs.Prefixes.{prefix_all}
use Rattle.miette_columns.proofs.plain.all_printable.Goals as goal

pub returns : goal.returns
returns c = ap (λ n. eqb n (length c.args.bytes.now)) c.plain_len.ensures.len ∙ prefix_all is_printable c.args.bytes.now
