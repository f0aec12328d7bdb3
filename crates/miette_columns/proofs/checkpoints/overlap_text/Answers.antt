use Rattle.std.proofs.Common.{string_bytes, sym, ap, ◌∙◌}
use Rattle.std.specs.Prelude.{chars}
use Rattle.std.proofs.lemmas.Str.{IsUtf8-string_bytes}
use Rattle.miette_columns.specs.steps.Checkpoints.{overlap_text}
use Rattle.miette_columns.proofs.Columning.{none_held_text, one_held_text, two_held_text}
use Rattle.miette_columns.proofs.checkpoints.overlap_text.Goals.{in-Nothing, in-One+in_ok-push-in-One}
use Rattle.miette_columns.proofs.checkpoints.overlap_text.Goals.{in-Selected+in_ok-push-in-Selected+in_ok-push-in-Selected-2}
use Rattle.miette_columns.proofs.checkpoints.overlap_text.Goals as goal

pub returns : goal.returns
returns c =
    let none = string_bytes c.new-text.result in
    elim c.match-first.branch [
      | in-Nothing w ↦ ap (λ t. chars (string_bytes t)) w.text-is ∙ none_held_text none c.new-text.ensures.bytes
          ∙ sym (ap overlap_text w.in-Nothing.is)
      | in-One+in_ok-push-in-One w ↦
          ap (λ t. chars (string_bytes t)) w.text-is
          ∙ one_held_text none (string_bytes w.push.new.self) w.in-One.character (IsUtf8-string_bytes c.new-text.result)
          (IsUtf8-string_bytes w.push.new.self) c.new-text.ensures.bytes w.in_ok-push-in-One.ensures.bytes
          ∙ sym (ap overlap_text w.in-One.is)
      | in-Selected+in_ok-push-in-Selected+in_ok-push-in-Selected-2 w ↦
          ap (λ t. chars (string_bytes t)) w.text-is
          ∙ two_held_text none (string_bytes w.push-in-Selected.new.self) (string_bytes w.push-in-Selected-2.new.self)
          w.in-Selected.emoji 0xFE0F
          (IsUtf8-string_bytes c.new-text.result) (IsUtf8-string_bytes w.push-in-Selected.new.self)
          (IsUtf8-string_bytes w.push-in-Selected-2.new.self)
          c.new-text.ensures.bytes w.in_ok-push-in-Selected.ensures.bytes w.in_ok-push-in-Selected-2.ensures.bytes
          ∙ sym (ap overlap_text w.in-Selected.is)
    ]
