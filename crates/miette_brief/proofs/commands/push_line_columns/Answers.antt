use Rattle.std.proofs.Common.{string_bytes}
use Rattle.std.proofs.lemmas.Result.{on_ok_weaker}
use Rattle.miette_brief.proofs.Commanding.{columns_put}
use Rattle.miette_brief.proofs.commands.push_line_columns.Goals as goal

pub returns : goal.returns
returns c =
    on_ok_weaker c.push_numbered-2.result (λ h. columns_put c.args.region (string_bytes c.args.out.now)
    (string_bytes c.push_numbered.new.out) (string_bytes c.push_numbered-2.new.out) c.in_ok-first.first
    c.greater-last.result c.in_ok-first.ensures c.greater-last.ensures c.in_ok-push_numbered.ensures h)
    c.push_numbered-2.ensures
