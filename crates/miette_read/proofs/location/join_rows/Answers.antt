use Rattle.std.proofs.Common.{[], ◌∷◌, ◌++◌, string_bytes, ap, append_assoc, ◌∙◌}
use lib.Utf8.{encode}
use Rattle.miette_read.specs.rules.Places.{row_after}
use Rattle.miette_read.proofs.Steps.{fold_more}
use Rattle.miette_read.proofs.location.join_rows.Goals as goal

pub loop-row-preserved : goal.loop-row-preserved
unfolding encode
loop-row-preserved c =
    let l = c.loop-row in
    let old = string_bytes l.text in
    let row = string_bytes c.row-item.result in
    fold_more string_bytes c.in-Some.rest.now l.row-index c.row-item.result c.loop-row-test.true c.row-item.is
    row_after (string_bytes c.in_ok-text.text) old (string_bytes c.push_str.new.self)
    (c.in_ok-push_str.ensures.bytes ∙ ap (λ r. string_bytes c.push.new.self ++ r) c.as_str-in-loop-row.ensures.value
    ∙ ap (λ t. t ++ row) c.in_ok-push.ensures.bytes ∙ append_assoc old (10 ∷ []) row) l.invariant
