use Rattle.std.proofs.Common.{◌++◌, ◌∙◌, ap, map, string_bytes}
use Rattle.std.proofs.lemmas.Result.{on_ok_weaker}
use Rattle.std.specs.Prelude.{codes}
use Rattle.miette_sarif.specs.rules.Messages.{rows}
use Rattle.miette_sarif.specs.views.Findings.{finding_of}
use Rattle.miette_sarif.specs.views.Rules.{rules_view}
use Rattle.miette_sarif.proofs.Written.{message_written}
use Rattle.miette_sarif.proofs.message.push_message.Goals as goal

pub returns : goal.returns
returns c =
    let own = string_bytes c.push_doubled.new.out in
    let helped = string_bytes c.push_optional_row.new.out in
    on_ok_weaker c.push_see.result (λ take_snapshot. message_written (rules_view c.args.rules.now)
    (finding_of c.args.finding.now) (string_bytes c.args.out.now) own (string_bytes c.push_rows.new.out) helped
    (string_bytes c.push_rows-2.new.out) (string_bytes c.push_see.new.out) c.in_ok-push_doubled.ensures
    (c.in_ok-push_rows.ensures
    ∙ ap (λ texts. own ++ rows (codes "caused by: ") (map (λ text. text.now) texts)) c.deref.ensures.value)
    c.in_ok-push_optional_row.ensures
    (c.in_ok-push_rows-2.ensures
    ∙ ap (λ texts. helped ++ rows (codes "fix: ") (map (λ text. text.now) texts)) c.deref-2.ensures.value)
    take_snapshot) c.push_see.ensures
