use Rattle.std.proofs.Common.{ap, sym, ◌∙◌}
use Rattle.miette_sarif.specs.views.Rules.{option_text}
use Rattle.miette_sarif.proofs.Noted.{noted_before, noted_now, not_nil}
use Rattle.miette_sarif.proofs.rules.note_uri.Goals as goal

pub returns-then-contains_key : goal.returns-then-contains_key
returns-then-contains_key c =
    noted_before c.args.uris.now c.args.code.now _ (sym c.contains_key.ensures ∙ c.if-contains_key.true)

pub returns : goal.returns
returns c =
    noted_now c.args.uris.now c.insert.new.self c.args.code.now _ _ c.in_ok-insert.ensures.updates
    (not_nil c.args.code.now c.is_empty.result c.is_empty.ensures c.if-is_empty.false)
    (sym c.contains_key.ensures ∙ c.if-contains_key.false)
    (sym (ap option_text (sym c.in-Some.is) ∙ c.in_ok-uri.ensures))
