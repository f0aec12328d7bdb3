use Rattle.std.proofs.Common.{string_bytes}
use Rattle.std.specs.Prelude.{option_copied}
use Rattle.std.proofs.lemmas.Result.{on_ok_weaker}
use Rattle.miette_brief.specs.rules.Rows.{location_text, kind_text, one_line_text}
use Rattle.miette_brief.specs.steps.Conversions.{row_kind_of}
use Rattle.miette_tree.proofs.Written.{where_written}
use Rattle.miette_brief.proofs.Putting.{row_put}
use Rattle.miette_brief.proofs.rows.push_row.Goals as goal

pub returns : goal.returns
returns c =
    on_ok_weaker c.push_str.result (row_put (string_bytes c.args.out.now) (string_bytes c.push_location.new.out)
    (string_bytes c.push_kind.new.out) (string_bytes c.push_one_line.new.out) (string_bytes c.push_str.new.self)
    (location_text (option_copied c.args.place.name) c.args.place.position) (kind_text (row_kind_of c.args.kind))
    (one_line_text c.args.text.now) c.in_ok-push_location.ensures c.in_ok-push_kind.ensures
    c.in_ok-push_one_line.ensures)
    (where_written c.push_str.result _ _ _ c.push_str.ensures.bytes)
