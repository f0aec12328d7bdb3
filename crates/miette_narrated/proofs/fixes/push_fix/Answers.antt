use Rattle.std.proofs.Common.{ap, sym, ◌∙◌, ◌++◌, [], append-nil, length, string_bytes, codes}
use Rattle.std.specs.Prelude.{◌==◌}
use Rattle.std.proofs.lemmas.Result.{on_ok_weaker}
use Rattle.miette_narrated.specs.rules.Labels.{row}
use Rattle.miette_narrated.specs.rules.Fixes.{applied_rows, failure_row, rows_over_origin}
use Rattle.miette_narrated.specs.steps.FixSources.{narrated_origin_of}
use Rattle.miette_narrated.proofs.Fixing.{fix_with, fix_without}
use Rattle.miette_narrated.proofs.fixes.push_fix.Goals as goal

pub returns-then-is_empty : goal.returns-then-is_empty
returns-then-is_empty c =
    fix_without (string_bytes c.args.out.now) (string_bytes c.push_row.new.out) (narrated_origin_of c.args.over.now)
    c.args.fix.now
    (c.in_ok-push_row.ensures ∙ ap (λ t. string_bytes c.args.out.now ++ row (codes "diagnostic fix: " ++ t))
    c.message.ensures)
    (ap (λ es. length es == 0) (sym c.edits.ensures) ∙ sym c.is_empty.ensures ∙ c.if-is_empty.true)

pub returns-in-Nowhere : goal.returns-in-Nowhere
returns-in-Nowhere c =
    fix_with (string_bytes c.args.out.now) (string_bytes c.push_row.new.out) (string_bytes c.push_row.new.out) []
    (narrated_origin_of c.args.over.now) c.args.fix.now
    (c.in_ok-push_row.ensures ∙ ap (λ t. string_bytes c.args.out.now ++ row (codes "diagnostic fix: " ++ t))
    c.message.ensures)
    (ap (λ es. length es == 0) (sym c.edits.ensures) ∙ sym c.is_empty.ensures ∙ c.if-is_empty.false)
    (sym (ap (λ o. rows_over_origin (narrated_origin_of o) c.args.fix.now.edits) c.in-Nowhere.is))
    (sym (append-nil (string_bytes c.push_row.new.out)))

pub returns-in-Unread : goal.returns-in-Unread
returns-in-Unread c =
    on_ok_weaker c.push_failure.result (λ h. fix_with (string_bytes c.args.out.now) (string_bytes c.push_row.new.out)
    (string_bytes c.push_failure.new.out) (failure_row (codes "IoError")) (narrated_origin_of c.args.over.now)
    c.args.fix.now
    (c.in_ok-push_row.ensures ∙ ap (λ t. string_bytes c.args.out.now ++ row (codes "diagnostic fix: " ++ t))
    c.message.ensures)
    (ap (λ es. length es == 0) (sym c.edits.ensures) ∙ sym c.is_empty.ensures ∙ c.if-is_empty.false)
    (sym (ap (λ o. rows_over_origin (narrated_origin_of o) c.args.fix.now.edits) c.in-Unread.is)) h)
    c.push_failure.ensures

pub returns-in-Lines : goal.returns-in-Lines
returns-in-Lines c =
    let bytes = c.in-Lines.source.now in
    on_ok_weaker c.push_applied.result (λ h. fix_with (string_bytes c.args.out.now) (string_bytes c.push_row.new.out)
    (string_bytes c.push_applied.new.out) (applied_rows bytes c.edits-in-Lines.result.now)
    (narrated_origin_of c.args.over.now) c.args.fix.now
    (c.in_ok-push_row.ensures ∙ ap (λ t. string_bytes c.args.out.now ++ row (codes "diagnostic fix: " ++ t))
    c.message.ensures)
    (ap (λ es. length es == 0) (sym c.edits.ensures) ∙ sym c.is_empty.ensures ∙ c.if-is_empty.false)
    (ap (applied_rows bytes) c.edits-in-Lines.ensures
    ∙ sym (ap (λ o. rows_over_origin (narrated_origin_of o) c.args.fix.now.edits) c.in-Lines.is)) h)
    c.push_applied.ensures
