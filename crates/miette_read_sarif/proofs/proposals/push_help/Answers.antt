use Rattle.std.proofs.Common.{◌≡◌, ◌<◌, ◌∙◌, None, ap, false, length, map, string_bytes, rules}
use Rattle.std.specs.Prelude.{is_none}
use Rattle.std.proofs.lemmas.Result.{on_ok_weaker}
use Rattle.miette_read.specs.rules.AnnotationLabels.{with_row}
use Rattle.miette_read_sarif.specs.rules.Proposals.{with_help_row, found_suggestion}
use Rattle.miette_read_sarif.proofs.HelpSteps.{helped, offered, silent}
use Rattle.miette_read_sarif.proofs.proposals.push_help.Goals as goal

pub returns-then-is_empty : goal.returns-then-is_empty
returns-then-is_empty g c =
    let draft = c.args.draft.now in
    let none : length draft.words ≡ 0 = search rules in
    silent (is_none (found_suggestion (g.F.Files.found c.args.files.now) draft))
    (map string_bytes c.args.rows.now.items)
    draft.words none

pub returns-then-is_some : goal.returns-then-is_some
returns-then-is_some g c =
    let draft = c.args.draft.now in
    let rows = map string_bytes c.args.rows.now.items in
    let offer = found_suggestion (g.F.Files.found c.args.files.now) draft in
    let some : is_none offer ≡ false = search rules in offered offer rows (with_help_row rows draft.words) some

pub returns : goal.returns
returns g c =
    let draft = c.args.draft.now in
    let rows = map string_bytes c.args.rows.now.items in
    let offer = found_suggestion (g.F.Files.found c.args.files.now) draft in
    let some : 0 < length draft.words = search rules in
    let none : offer ≡ None = search rules in
    let words : c.as_str.result.now ≡ draft.words = search rules in
    on_ok_weaker c.push_row_once.result
    (λ made. made ∙ ap (with_row rows) words ∙ helped offer rows draft.words some none)
    c.push_row_once.ensures
