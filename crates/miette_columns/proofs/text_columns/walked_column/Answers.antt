use Rattle.std.proofs.Common.{◌+◌, ◌-◌, drop, string_bytes, ap, sym, subst, ◌∙◌, rules, arith}
use Rattle.std.proofs.Common.{eqb-true, false, refl}
use Rattle.std.specs.Prelude.{chars}
use Rattle.std.proofs.lemmas.List.{nil_from_length, take_rest}
use Rattle.std.proofs.lemmas.Result.{IfOk-weaker}
use Rattle.std.proofs.lemmas.Str.{IsUtf8-string_bytes}
use Rattle.unicode_width.specs.Width.{str_width}
use Rattle.miette_columns.proofs.Columning.{IsOver, begins, none_over, one_over, over_at_zero, over_past_end}
use Rattle.miette_columns.proofs.Columning.{over_inside}
use Rattle.miette_columns.proofs.PlaceLaws.{column_from}
use Rattle.miette_columns.specs.steps.Checkpoints.{overlap_text}
use Rattle.miette_columns.proofs.text_columns.walked_column.Goals as goal

pub loop-left-init : goal.loop-left-init
loop-left-init c =
    let from = c.args.from in
    let text = c.args.text.now in
    subst (λ r. IsOver (overlap_text from.overlap) from.widths (drop from.bytes text) (c.args.bytes - from.bytes)
    (string_bytes c.in_ok-begun.begun) from.widths r (c.args.bytes - from.bytes)) (sym (take_rest text from.bytes))
    (none_over (overlap_text from.overlap) from.widths (drop from.bytes text) (c.args.bytes - from.bytes)
    (string_bytes c.in_ok-begun.begun) c.in_ok-begun.ensures)

pub returns-then-is_empty : goal.returns-then-is_empty
returns-then-is_empty c =
    let from = c.args.from in
    column_from c.args.text.now from c.args.bytes c.loop-left.widths c.requires.place c.requires.before
    (over_past_end from (drop from.bytes c.args.text.now) (c.args.bytes - from.bytes) (string_bytes c.loop-left.begun)
    c.loop-left.widths c.loop-left.rest.now c.loop-left.left c.loop-left.invariant c.loop-left-test.true
    (nil_from_length c.loop-left.rest.now (eqb-true _ _ (sym c.is_empty.ensures ∙ c.if-is_empty.true))))

pub returns-then-left-size : goal.returns-then-left-size
returns-then-left-size c =
    let from = c.args.from in
    let rest = c.loop-left.rest.now in
    let read = c.decode_first_char-code.ensures in
    column_from c.args.text.now from c.args.bytes c.in_ok-wider.wider c.requires.place c.requires.before
    (over_inside from (drop from.bytes c.args.text.now) (c.args.bytes - from.bytes) (string_bytes c.loop-left.begun)
    c.loop-left.widths c.in_ok-wider.wider rest (drop c.decode_first_char-code.result.1 rest) c.loop-left.left
    c.decode_first_char-code.result.0 c.decode_first_char-code.result.1 c.loop-left.invariant
    (begins rest _ _ _ (search rules) refl read.code read.size) (search rules) c.loop-left-test.true
    c.if-left-size.true)

pub loop-left-preserved : goal.loop-left-preserved
loop-left-preserved c =
    let from = c.args.from in
    let rest = c.loop-left.rest.now in
    let read = c.decode_first_char-code.ensures in
    one_over (overlap_text from.overlap) from.widths (drop from.bytes c.args.text.now) (c.args.bytes - from.bytes)
    (string_bytes c.loop-left.begun) (string_bytes c.push.new.self) c.loop-left.widths c.in_ok-wider.wider rest _
    c.loop-left.left c.decode_first_char-code.result.0 c.decode_first_char-code.result.1 c.loop-left.invariant
    (begins rest _ _ _ (search rules) (take_rest rest c.decode_first_char-code.result.1) read.code read.size)
    (IsUtf8-string_bytes c.loop-left.begun) (IsUtf8-string_bytes c.push.new.self) c.in_ok-push.ensures.bytes
    (search rules) c.loop-left-test.true c.if-left-size.false

pub returns : goal.returns
returns c =
    let from = c.args.from in
    IfOk-weaker c.column_after.result _ _ (λ n told. column_from c.args.text.now from c.args.bytes n c.requires.place
    c.requires.before
    (over_at_zero from (drop from.bytes c.args.text.now) (c.args.bytes - from.bytes) (string_bytes c.loop-left.begun)
    c.loop-left.widths c.loop-left.rest.now c.loop-left.left n c.loop-left.invariant (omega arith)
    (told ∙ ap (λ t. (from.column + str_width false (chars t)) - from.twice) c.as_str.ensures.value)))
    c.column_after.ensures
