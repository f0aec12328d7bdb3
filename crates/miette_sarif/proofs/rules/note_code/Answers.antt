use Rattle.std.proofs.Common.{ap, sym, ◌∙◌}
use Rattle.std.specs.Prelude.{if◌then◌else◌}
use Rattle.std.specs.Str.{bytes_eq}
use Rattle.indexmap.specs.IndexSet.{insert_key}
use Rattle.miette_sarif.specs.views.Rules.{codes_seen}
use Rattle.miette_sarif.proofs.Keys.{insert_codes}
use Rattle.miette_sarif.proofs.Noted.{not_nil}
use Rattle.miette_sarif.proofs.rules.note_code.Goals as goal

pub returns : goal.returns
returns c =
    let before = codes_seen c.args.codes.now.keys in
    let code = c.args.code.now in
    ap codes_seen c.in_ok-insert.ensures.keys ∙ insert_codes c.args.codes.now.keys c.args.code
    ∙ ap (λ b. if b then before else insert_key bytes_eq before code)
    (sym (not_nil code c.is_empty.result c.is_empty.ensures c.if-is_empty.false))
