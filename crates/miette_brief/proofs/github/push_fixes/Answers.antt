use Rattle.std.proofs.Common.{ap, ◌∙◌, ◌++◌, ◌∷◌, [], codes, string_bytes, map, refl, arith}
use Rattle.miette_brief.specs.rules.Commands.{message_row_text}
use Rattle.miette_brief.specs.rules.Github.{fix_message_row, message_row}
use Rattle.miette_brief.proofs.Commanding.{one_said, said_more, said_end}
use Rattle.miette_brief.proofs.github.push_fixes.Goals as goal

pub loop-fix-preserved : goal.loop-fix-preserved
loop-fix-preserved c =
    said_more (λ p. fix_message_row p ∷ []) (λ xs. map fix_message_row xs) c.args.fixes.now
    c.loop-fix.fix-index c.fix-item.result c.fix-item.result (string_bytes c.loop-fix.out)
    (string_bytes c.push_message_row.new.out) _ (λ x more. refl) c.loop-fix-test.true c.fix-item.is
    (one_said (fix_message_row c.fix-item.result) (string_bytes c.loop-fix.out)
    (string_bytes c.push_message_row.new.out)
    (c.in_ok-push_message_row.ensures ∙ ap (λ t. string_bytes c.loop-fix.out
    ++ message_row_text (message_row (codes "fix: ") t))
    c.message.ensures)) c.loop-fix.invariant

pub returns : goal.returns
returns c =
    said_end (λ xs. map fix_message_row xs) c.args.fixes.now c.loop-fix.fix-index
    (string_bytes c.loop-fix.out) _ refl (omega arith) c.loop-fix.invariant
