use Rattle.std.proofs.Common.{ℕ, ◌+◌, ◌<◌, ◌≡◌, ◌∙◌, ap, List, subst, sym, true, arith}
use Rattle.std.specs.List.{filter, list_any}
use Rattle.std.specs.Prelude.{nat_lt}
use Rattle.std.proofs.lemmas.Bool.Decides.{nat_tests}
use Rattle.std.proofs.lemmas.List.{take_rest}
use Rattle.miette_protocol.specs.rules.Reading.{Span}
use Rattle.miette_fix_rows.specs.rules.DiffTexts.{holds_byte, is_on, parts_in}
use Rattle.miette_fix_drawing.specs.steps.Spans.{AreApart}
use Rattle.miette_fix_drawing.proofs.Apart.{apart_drop, held_later, left_out, on_later, parts_later}
use Rattle.miette_fix_drawing.proofs.spans.spans_not_ending_before.Goals as goal

ends : (s r : Span) (offset : ℕ) → r ≡ s → nat_lt (r.offset + r.len) offset ≡ true → s.offset + s.len < offset
ends s r offset e t =
    let own : nat_lt (s.offset + s.len) offset ≡ true = ap (λ (x : Span). nat_lt (x.offset + x.len) offset) (sym e) ∙ t
    in
    grind (arith, nat_tests)

pub returns-then-ends_before-clause-apart : goal.returns-then-ends_before-clause-apart
returns-then-ends_before-clause-apart c =
    subst (λ (ss : List Span). AreApart ss) (sym (take_rest c.args.spans.now c.partition_point-many.result))
    (apart_drop c.partition_point-many.result c.args.spans.now c.requires)

pub returns-then-ends_before-clause-held : goal.returns-then-ends_before-clause-held
returns-then-ends_before-clause-held c = λ cell le.
    ap (list_any (holds_byte cell)) (take_rest c.args.spans.now c.partition_point-many.result)
    ∙ left_out (list_any (holds_byte cell)) c.args.offset (held_later cell c.args.offset le) c.args.spans.now
    c.partition_point-many.result c.index-spans-many.result c.requires c.if-many-gt0.true c.if-many-spans.true
    (ends _ c.index-spans-many.result c.args.offset c.index-spans-many.is
    (sym c.ends_before.ensures ∙ c.if-ends_before.true))

pub returns-then-ends_before-clause-parts : goal.returns-then-ends_before-clause-parts
returns-then-ends_before-clause-parts c = λ bytes style.
    ap (parts_in c.args.offset bytes style) (take_rest c.args.spans.now c.partition_point-many.result)
    ∙ left_out (parts_in c.args.offset bytes style) c.args.offset (parts_later c.args.offset bytes style)
    c.args.spans.now c.partition_point-many.result c.index-spans-many.result c.requires c.if-many-gt0.true
    c.if-many-spans.true
    (ends _ c.index-spans-many.result c.args.offset c.index-spans-many.is
    (sym c.ends_before.ensures ∙ c.if-ends_before.true))

pub returns-then-ends_before-clause-on : goal.returns-then-ends_before-clause-on
returns-then-ends_before-clause-on c = λ line.
    ap (filter (is_on c.args.offset line)) (take_rest c.args.spans.now c.partition_point-many.result)
    ∙ left_out (filter (is_on c.args.offset line)) c.args.offset (on_later c.args.offset line) c.args.spans.now
    c.partition_point-many.result c.index-spans-many.result c.requires c.if-many-gt0.true c.if-many-spans.true
    (ends _ c.index-spans-many.result c.args.offset c.index-spans-many.is
    (sym c.ends_before.ensures ∙ c.if-ends_before.true))
