-- A text character by character, as it stands in a row.
use Rattle.std.proofs.Common.{◌≡◌, ℕ, List, [], ◌++◌, Bool, sym, ap, ap₂, ◌∙◌, append_assoc, append-nil}
use Rattle.std.specs.Prelude.{encode_utf8, encode_utf8_all}
use Rattle.std.specs.Char.{is_control}
use Rattle.std.specs.Str.{IsUtf8, chars}
use Rattle.std.proofs.lemmas.Str.{chars-nil, chars_past_char, encodes-append}
use Rattle.miette_brief.specs.rules.Rows.{shown_for, spaced_text}

-- one character more is written
pub one_more : (out new goal rest after : List ℕ) (goes_on next : Bool) (c : ℕ) → IsUtf8 rest → rest ≡ encode_utf8 c
    ++ after
    → new ≡ out ++ encode_utf8_all (shown_for goes_on c) → next ≡ is_control c
    → out ++ encode_utf8_all (spaced_text goes_on (chars rest)) ≡ goal → new
    ++ encode_utf8_all (spaced_text next (chars after)) ≡ goal
one_more out new goal rest after goes_on next c utf8 e p n h =
    ap₂ (λ o b. o ++ encode_utf8_all (spaced_text b (chars after))) p n
    ∙ append_assoc out (encode_utf8_all (shown_for goes_on c))
    (encode_utf8_all (spaced_text (is_control c) (chars after)))
    ∙ ap (λ x. out ++ x) (sym (encodes-append (shown_for goes_on c) (spaced_text (is_control c) (chars after))))
    ∙ ap (λ l. out ++ encode_utf8_all (spaced_text goes_on l)) (sym (chars_past_char rest after c utf8 e))
    ∙ h

-- none is left
pub none_left : (out goal rest : List ℕ) (goes_on : Bool) → rest ≡ [] → out
    ++ encode_utf8_all (spaced_text goes_on (chars rest)) ≡ goal → out ≡ goal
none_left out goal rest goes_on e h =
    sym (append-nil out) ∙ ap (λ l. out ++ encode_utf8_all (spaced_text goes_on l)) (sym (ap chars e ∙ chars-nil)) ∙ h
