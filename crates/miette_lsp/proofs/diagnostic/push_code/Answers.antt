use Rattle.std.proofs.lemmas.Result.{on_ok_weaker}
use Rattle.std.specs.Option.{option_copied}
use Rattle.miette_lsp.proofs.Parts.{code_put}
use Rattle.miette_lsp.proofs.diagnostic.push_code.Goals as goal

pub returns : goal.returns
returns c =
    on_ok_weaker c.push_href.result (code_put c.args.json.now c.string_member.new.self _ c.args.code.now
    (option_copied c.args.url) c.is_empty.result c.is_empty.ensures c.if-is_empty.false c.in_ok-string_member.ensures)
    c.push_href.ensures
