-- The rows of a message, one after the other.
use Rattle.std.proofs.Common.{◌≡◌, ℕ, List, ◌++◌, ap, ◌∙◌, append_assoc}
use Rattle.std.specs.Prelude.{codes}
use Rattle.miette_sarif.specs.rules.Codes.{Rules}
use Rattle.miette_sarif.specs.rules.Findings.{Finding}
use Rattle.miette_sarif.specs.rules.Messages.{doubled, maybe_row, rows}
use Rattle.miette_sarif.specs.rules.Results.{result_message_text, see_row}

-- a text, and then others after it
added_after : (old mid new text more : List ℕ) → mid ≡ old ++ text → new ≡ mid ++ more → new ≡ old ++ (text ++ more)
added_after old mid new text more e f = f ∙ ap (λ l. l ++ more) e ∙ append_assoc old text more

-- the rows of a message, one after the other
pub message_written : (r : Rules) (f : Finding) (old own caused helped fixed new : List ℕ)
    → own ≡ old ++ doubled f.message → caused ≡ own ++ rows (codes "caused by: ") f.causes
    → helped ≡ caused ++ maybe_row (codes "help: ") f.help → fixed ≡ helped ++ rows (codes "fix: ") f.unapplied
    → new ≡ fixed ++ see_row (r.uri f.code) f.url → new ≡ old ++ result_message_text r f
message_written r f old own caused helped fixed new a b c d e =
    let causes : List ℕ = rows (codes "caused by: ") f.causes in
    let help : List ℕ = maybe_row (codes "help: ") f.help in
    let fixes : List ℕ = rows (codes "fix: ") f.unapplied in
    let take_snapshot : List ℕ = see_row (r.uri f.code) f.url in
    added_after old own new (doubled f.message) (causes ++ (help ++ (fixes ++ take_snapshot))) a
    (added_after own caused new causes (help ++ (fixes ++ take_snapshot)) b
    (added_after caused helped new help (fixes ++ take_snapshot) c (added_after helped fixed new fixes take_snapshot d
    e)))
