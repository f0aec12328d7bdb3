use Rattle.std.proofs.Common.{◌<◌, ◌+◌, ◌∙◌, Some, ap, arith, drop, subst, sym}
use Rattle.miette_read.specs.views.Values.{texts}
use Rattle.miette_read_sarif.specs.rules.Newlines.{end_size, text_size}
use Rattle.miette_read_sarif.proofs.NewlineSteps.{ends_with, not_ended, rest_within}
use Rattle.miette_read_sarif.proofs.newlines.line_size.Goals as goal

pub returns-then-end-eq0-clause-value : goal.returns-then-end-eq0-clause-value
returns-then-end-eq0-clause-value c =
    let newlines = texts c.args.ends.now.newlines.items in
    let bytes = c.args.bytes.now in
    let text = c.text_size-text.ensures.value in
    let end = c.end_size-end.ensures.value
    ∙ ap (end_size newlines) (c.rest_from.ensures ∙ ap (λ n. drop n bytes) text)
    in
    not_ended (text_size newlines bytes) (end_size newlines (drop (text_size newlines bytes) bytes))
    (sym end ∙ c.if-end-eq0.true)

pub returns-else-end-eq0-clause-value : goal.returns-else-end-eq0-clause-value
returns-else-end-eq0-clause-value c =
    let newlines = texts c.args.ends.now.newlines.items in
    let bytes = c.args.bytes.now in
    let text = c.text_size-text.ensures.value in
    let end = c.end_size-end.ensures.value
    ∙ ap (end_size newlines) (c.rest_from.ensures ∙ ap (λ n. drop n bytes) text)
    in
    let some : 0 < end_size newlines (drop (text_size newlines bytes) bytes) =
    subst (λ n. 0 < n) end (omega (arith, c.if-end-eq0.false))
    in
    ap (λ n. Some (n + c.end_size-end.result)) text ∙ ap (λ n. Some (text_size newlines bytes + n)) end
    ∙ ends_with (text_size newlines bytes) (end_size newlines (drop (text_size newlines bytes) bytes)) some

pub returns-else-end-eq0-clause-within : goal.returns-else-end-eq0-clause-within
returns-else-end-eq0-clause-within c =
    rest_within c.args.bytes.now c.rest_from.result.now c.text_size-text.result c.end_size-end.result
    c.text_size-text.ensures.within c.rest_from.ensures c.end_size-end.ensures.within
