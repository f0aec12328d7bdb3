use Rattle.std.proofs.Common.{◌∙◌, ap, arith, length, sym, take}
use Rattle.std.proofs.lemmas.List.{length-drop, length-take}
use Rattle.std.specs.List.{list_all}
use Rattle.miette_columns.specs.views.Printable.{is_printable}
use Rattle.miette_columns.proofs.Prefixes.{prefix_taken}
use Rattle.miette_positions.proofs.plain.plain_at.Goals as goal

pub returns-clause-printable : goal.returns-clause-printable
returns-clause-printable c =
    let rest = c.rest_from-rest.result.now in
    ap (λ bytes. list_all is_printable (take c.plain_len.result bytes)) (sym c.rest_from-rest.ensures)
    ∙ ap (λ n. list_all is_printable (take n rest)) c.plain_len.ensures.len
    ∙ prefix_taken is_printable c.min.result rest

pub returns-clause-within : goal.returns-clause-within
returns-clause-within c =
    omega (
      arith,
      c.requires.offset,
      c.plain_len.ensures.within,
      length-take c.min.result c.rest_from-rest.result.now,
      ap length c.rest_from-rest.ensures,
      length-drop c.args.from.offset c.args.source.now,
    )
