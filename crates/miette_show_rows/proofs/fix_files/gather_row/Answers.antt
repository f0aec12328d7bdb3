use Rattle.std.proofs.Common.{◌≡◌, IfSome, None, Some, IsUtf8, true, false, append-nil, refl, subst, sym, rules}
use Rattle.miette_show_rows.specs.rules.Values.{read}
use Rattle.serde_json.specs.View.{view}
use Rattle.miette_show_rows.specs.rules.ApplicableFixes.{machine_applicable_fixes}
use Rattle.miette_show_rows.specs.rules.Looking.{IsFoundBy}
use Rattle.miette_show_rows.specs.rules.Rows.{begins_object}
use Rattle.miette_show_rows.proofs.MendSteps.{none_giving, passed_giving, some_giving, unread_giving}
use Rattle.miette_show_rows.proofs.fix_files.gather_row.Goals as goal

pub returns-then-not-begins_object-clause-given : goal.returns-then-not-begins_object-clause-given
returns-then-not-begins_object-clause-given g c =
    let files = c.args.files.now in
    let not : begins_object c.args.row.now ≡ false = search rules in (
      None,
      passed_giving (IsFoundBy g.F.Files.found g.F.FileLoader.knows files) (g.F.Files.found files) c.args.row.now not,
      sym (append-nil c.args.held.now.items),
    )

pub returns-in_default-clause-given : goal.returns-in_default-clause-given
returns-in_default-clause-given g c =
    let files = c.args.files.now in
    let begins : begins_object c.args.row.now ≡ true = search rules in (
      None,
      unread_giving (IsFoundBy g.F.Files.found g.F.FileLoader.knows files) (g.F.Files.found files) c.args.row.now begins
          (c.in_ok-value.ensures.none (search rules)),
      sym (append-nil c.args.held.now.items),
    )

pub returns-in-Ok-Some-clause-given : goal.returns-in-Ok-Some-clause-given
returns-in-Ok-Some-clause-given g c =
    let row = c.args.row.now in
    let files = g.F.Files.found c.load_named_files.new.files in
    let begins : begins_object row ≡ true = search rules in
    let some : IfSome (Some c.in-Some.value) (λ v. IsUtf8 row × (read row ≡ Some (view v))) =
    subst (λ o. IfSome o (λ v. IsUtf8 row × (read row ≡ Some (view v)))) c.in-Some.is c.in_ok-value.ensures.some
    in
    let said : machine_applicable_fixes files (view c.in-Some.value) ≡ Some (Some c.in-Ok-Some.fixes)
    = search rules in (
      Some c.in-Ok-Some.fixes,
      some_giving (IsFoundBy g.F.Files.found g.F.FileLoader.knows c.args.files.now) files row (view c.in-Some.value)
          begins some.0 some.1 (
            c.load_named_files.new.files,
            c.in_ok-load_named_files.ensures.goes,
            c.in_ok-load_named_files.ensures.known,
            refl,
          )
          (Some c.in-Ok-Some.fixes) c.is_error_message-grave.result said c.is_error_message-grave.ensures,
      c.in_ok-push_item-in-Ok-Some.ensures,
    )

pub returns-in-Ok-None-clause-given : goal.returns-in-Ok-None-clause-given
returns-in-Ok-None-clause-given g c =
    let row = c.args.row.now in
    let files = g.F.Files.found c.load_named_files.new.files in
    let begins : begins_object row ≡ true = search rules in
    let some : IfSome (Some c.in-Some.value) (λ v. IsUtf8 row × (read row ≡ Some (view v))) =
    subst (λ o. IfSome o (λ v. IsUtf8 row × (read row ≡ Some (view v)))) c.in-Some.is c.in_ok-value.ensures.some
    in
    let said : machine_applicable_fixes files (view c.in-Some.value) ≡ Some None = search rules in (
      None,
      some_giving (IsFoundBy g.F.Files.found g.F.FileLoader.knows c.args.files.now) files row (view c.in-Some.value)
          begins some.0 some.1 (
            c.load_named_files.new.files,
            c.in_ok-load_named_files.ensures.goes,
            c.in_ok-load_named_files.ensures.known,
            refl,
          )
          None false said refl,
      sym (append-nil c.args.held.now.items),
    )

pub returns-in-Err-NoMessage-clause-given : goal.returns-in-Err-NoMessage-clause-given
returns-in-Err-NoMessage-clause-given g c =
    let row = c.args.row.now in
    let begins : begins_object row ≡ true = search rules in
    let some : IfSome (Some c.in-Some.value) (λ v. IsUtf8 row × (read row ≡ Some (view v))) =
    subst (λ o. IfSome o (λ v. IsUtf8 row × (read row ≡ Some (view v)))) c.in-Some.is c.in_ok-value.ensures.some
    in (
      None,
      none_giving (IsFoundBy g.F.Files.found g.F.FileLoader.knows c.args.files.now)
          (g.F.Files.found c.load_named_files.new.files) row (view c.in-Some.value) begins some.0 some.1 (
            c.load_named_files.new.files,
            c.in_ok-load_named_files.ensures.goes,
            c.in_ok-load_named_files.ensures.known,
            refl,
          )
          (c.machine_applicable_fixes.ensures.message (search rules)),
      sym (append-nil c.args.held.now.items),
    )
