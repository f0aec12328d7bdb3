use Rattle.std.proofs.Common.{string_bytes}
use Rattle.std.proofs.lemmas.Result.{on_ok_weaker}
use Rattle.miette_tree.proofs.Written.{where_written}
use Rattle.miette_narrated.proofs.Putting.{row_put}
use Rattle.miette_narrated.proofs.rows.push_row.Goals as goal

pub returns : goal.returns
returns c =
    on_ok_weaker c.push_str-3.result (λ h. row_put (string_bytes c.args.out.now) (string_bytes c.push_str.new.self)
    (string_bytes c.push_str-2.new.self) (string_bytes c.push_str-3.new.self) c.args.words.now c.args.text.now
    c.in_ok-push_str.ensures.bytes c.in_ok-push_str-2.ensures.bytes h)
    (where_written c.push_str-3.result _ _ _ c.push_str-3.ensures.bytes)
