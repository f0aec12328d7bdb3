use Rattle.std.proofs.Common.{◌≡◌, ◌<◌, length, rules}
use Rattle.miette_show_rows.proofs.Lists.{no_rows, some_rows}
use Rattle.miette_show_rows.proofs.current_spans.rows_stand_in.Goals as goal

pub returns-then-is_empty : goal.returns-then-is_empty
returns-then-is_empty c =
    let none : length c.args.rows.now ≡ 0 = search rules in
    no_rows c.args.bytes.now c.args.offset c.args.column c.args.rows.now none

pub returns : goal.returns
returns c =
    let some : 0 < length c.args.rows.now = search rules in
    some_rows c.args.bytes.now c.args.offset c.args.column c.args.rows.now c.stand_in.result some c.stand_in.ensures
