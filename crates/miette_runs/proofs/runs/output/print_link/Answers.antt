use Rattle.std.proofs.Common.{rules, string_bytes}
use Rattle.std.proofs.lemmas.Result.{on_ok_weaker}
use Rattle.miette_runs.proofs.Outputs.{link-after}
use Rattle.miette_runs.proofs.runs.output.print_link.Goals as goal

pub returns : goal.returns
returns c =
    on_ok_weaker c.push_str-3.result (link-after c.args.url.now (string_bytes c.args.out.now)
    (string_bytes c.push_str.new.self) (string_bytes c.push_str-2.new.self) (string_bytes c.push_str-3.new.self)
    c.utf8.url c.in_ok-push_str.ensures.bytes c.in_ok-push_str-2.ensures.bytes)
    (search rules)
