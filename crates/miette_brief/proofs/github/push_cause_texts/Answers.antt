use Rattle.std.proofs.Common.{ap, ◌∙◌, ◌++◌, ◌∷◌, [], string_bytes, map, refl, arith}
use Rattle.miette_brief.specs.rules.Commands.{message_row_text}
use Rattle.miette_brief.proofs.Commanding.{cause, one_said, said_more, said_end}
use Rattle.miette_brief.proofs.github.push_cause_texts.Goals as goal

pub loop-text-preserved : goal.loop-text-preserved
loop-text-preserved c =
    said_more (λ s. cause (string_bytes s) ∷ []) (λ xs. map cause (map string_bytes xs)) c.args.texts.now
    c.loop-text.text-index c.text-item.result c.text-item.result (string_bytes c.loop-text.out)
    (string_bytes c.push_message_row.new.out) _ (λ x more. refl) c.loop-text-test.true c.text-item.is
    (one_said (cause (string_bytes c.text-item.result)) (string_bytes c.loop-text.out)
    (string_bytes c.push_message_row.new.out)
    (c.in_ok-push_message_row.ensures ∙ ap (λ t. string_bytes c.loop-text.out ++ message_row_text (cause t))
    c.as_str.ensures.value)) c.loop-text.invariant

pub returns : goal.returns
returns c =
    said_end (λ xs. map cause (map string_bytes xs)) c.args.texts.now c.loop-text.text-index
    (string_bytes c.loop-text.out) _ refl (omega arith) c.loop-text.invariant
