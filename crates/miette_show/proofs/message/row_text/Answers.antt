use Rattle.std.proofs.Common.{◌≡◌, IfSome, Some, IsUtf8, true, false, refl, string_bytes, subst, rules}
use Rattle.miette_show_rows.specs.rules.Values.{read}
use Rattle.serde_json.specs.View.{view}
use Rattle.miette_program.specs.rules.JobText.{IsGiven}
use Rattle.miette_show_rows.specs.rules.Looking.{IsFoundBy}
use Rattle.miette_show.specs.rules.ShownRow.{begins_message}
use Rattle.miette_show.proofs.TextSteps.{passed, told_ok, unread}
use Rattle.miette_show.proofs.message.row_text.Goals as goal

pub returns-then-not-begins_message-clause-shown : goal.returns-then-not-begins_message-clause-shown
returns-then-not-begins_message-clause-shown g c =
    let files = c.args.files.now in
    let not : begins_message c.args.row.from c.args.row.bytes.now ≡ false = search rules in
    passed c.args.row.from (IsGiven g.H.Highlighter.is_blank g.H.Highlighter.may_follow c.args.handler.now)
    (IsFoundBy g.F.Files.found g.F.FileLoader.knows files)
    (g.F.Files.found files) c.args.row.bytes.now (string_bytes c.new.result) not (search rules)

pub returns-in_default-clause-shown : goal.returns-in_default-clause-shown
returns-in_default-clause-shown g c =
    let files = c.args.files.now in
    let begins : begins_message c.args.row.from c.args.row.bytes.now ≡ true = search rules in
    unread c.args.row.from (IsGiven g.H.Highlighter.is_blank g.H.Highlighter.may_follow c.args.handler.now)
    (IsFoundBy g.F.Files.found g.F.FileLoader.knows files)
    (g.F.Files.found files) c.args.row.bytes.now (string_bytes c.new-in_default.result) begins
    (c.in_ok-value.ensures.none (search rules)) (search rules)

pub returns-clause-shown : goal.returns-clause-shown
returns-clause-shown g c =
    let files = c.args.files.now in
    let row = c.args.row.bytes.now in
    let begins : begins_message c.args.row.from row ≡ true = search rules in
    let some : IfSome (Some c.in-Some.value) (λ v. IsUtf8 row × (read row ≡ Some (view v))) =
    subst (λ o. IfSome o (λ v. IsUtf8 row × (read row ≡ Some (view v)))) c.in-Some.is c.in_ok-value.ensures.some
    in
    told_ok c.args.row.from (IsGiven g.H.Highlighter.is_blank g.H.Highlighter.may_follow c.args.handler.now)
    (IsFoundBy g.F.Files.found g.F.FileLoader.knows files)
    (g.F.Files.found c.load_named_files.new.files) row (view c.in-Some.value) c.value_text.result begins some.0 some.1
    (c.load_named_files.new.files, c.in_ok-load_named_files.ensures.goes, c.in_ok-load_named_files.ensures.known, refl)
    c.value_text.ensures.text
