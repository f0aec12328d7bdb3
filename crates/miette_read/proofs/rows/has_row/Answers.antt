use Rattle.std.proofs.Common.{◌∙◌, bytes_eq, string_bytes, rules, tests}
use Rattle.std.proofs.lemmas.Iterator.{YieldsList-from_slice}
use Rattle.std.proofs.lemmas.Iterator.Search.{any_from_yields_List}
use Rattle.miette_read.proofs.Steps.{any_of}
use Rattle.miette_read.proofs.rows.has_row.Goals as goal

pub returns : goal.returns
returns c =
    let is_row = bytes_eq c.args.row.now in
    let rows = c.args.rows.now in
    any_from_yields_List (λ r. is_row (string_bytes r)) _ _ _ c.any.ensures.ran
    (YieldsList-from_slice rows cc) (λ x b q k. search (rules, tests))
    ∙ any_of string_bytes is_row rows
