use Rattle.std.proofs.Common.{◌≡◌, ◌∙◌, IfSome, Some, IsUtf8, false, subst, true, rules}
use Rattle.miette_show_rows.specs.rules.Values.{read}
use Rattle.serde_json.specs.View.{view}
use Rattle.miette_show.specs.rules.ShownRow.{begins_message}
use Rattle.miette_show.specs.rules.ValueKinds.{failure_of}
use Rattle.miette_show.proofs.Logging.{read_trees}
use Rattle.miette_show.proofs.RowReportSteps.{fails_of, none_said, says_of}
use Rattle.miette_show.proofs.parts.part_reports.Goals as goal

pub returns-then-not-begins_message-clause-trees : goal.returns-then-not-begins_message-clause-trees
returns-then-not-begins_message-clause-trees g c =
    let not : begins_message c.args.row.from c.args.row.bytes.now ≡ false = search rules in (not, search rules)

pub returns-in_default-clause-trees : goal.returns-in_default-clause-trees
returns-in_default-clause-trees g c =
    let begins : begins_message c.args.row.from c.args.row.bytes.now ≡ true = search rules in (
      begins,
      none_said c.args.row.from (g.F.Files.found c.args.files.now) c.args.row.bytes.now
          (c.in_ok-value.ensures.none (search rules)),
      search rules,
    )

pub returns-in-Ok-clause-trees : goal.returns-in-Ok-clause-trees
returns-in-Ok-clause-trees g c =
    let row = c.args.row.bytes.now in
    let begins : begins_message c.args.row.from row ≡ true = search rules in
    let some : IfSome (Some c.in-Some.value) (λ v. IsUtf8 row × (read row ≡ Some (view v))) =
    subst (λ o. IfSome o (λ v. IsUtf8 row × (read row ≡ Some (view v)))) c.in-Some.is c.in_ok-value.ensures.some
    in
    read_trees c.args.row.from (g.F.Files.found c.args.files.now) row c.value_kind.result _
    (failure_of c.args.row.from (view c.in-Some.value)) begins some.0
    (says_of c.args.row.from (g.F.Files.found c.args.files.now) row (view c.in-Some.value) some.1 ∙ c.in-Ok.ensures.ok)
    (fails_of c.args.row.from row (view c.in-Some.value) some.1) (search rules)

pub returns-in-Err-NoMessage-clause-trees : goal.returns-in-Err-NoMessage-clause-trees
returns-in-Err-NoMessage-clause-trees g c =
    let row = c.args.row.bytes.now in
    let begins : begins_message c.args.row.from row ≡ true = search rules in
    let some : IfSome (Some c.in-Some.value) (λ v. IsUtf8 row × (read row ≡ Some (view v))) =
    subst (λ o. IfSome o (λ v. IsUtf8 row × (read row ≡ Some (view v)))) c.in-Some.is c.in_ok-value.ensures.some
    in (
      begins,
      (λ utf8. says_of c.args.row.from (g.F.Files.found c.args.files.now) row (view c.in-Some.value) some.1
          ∙ c.reports_of_value.ensures.message (search rules)),
      search rules,
    )
