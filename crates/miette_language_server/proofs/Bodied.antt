-- The message that a body is.
use Rattle.std.proofs.Common.{◌≡◌, ℕ, List, Some, None, refl, sym, true}
use Rattle.std.specs.Str.{IsUtf8, is_utf8}
use Rattle.std.proofs.lemmas.Str.{IsUtf8-from_is_utf8, is_utf8-from_IsUtf8}
use Rattle.miette_lines.proofs.Cases.{by_cases}
use Rattle.serde_json.specs.Data.{Data}
use Rattle.serde_json.specs.Read.{read}
use Rattle.miette_language_server.specs.rules.Session.{message_of}

pub is_message : (body : List ℕ) (d : Data) → IsUtf8 body → read body ≡ Some d → Some d ≡ message_of body
is_message body d utf8 is = let t : is_utf8 body ≡ true = is_utf8-from_IsUtf8 body utf8 in rw t (sym is)

pub no_message : (body : List ℕ) → (IsUtf8 body → read body ≡ None) → None ≡ message_of body
no_message body none = by_cases {C = None ≡ message_of body} (is_utf8 body)
    (λ t. rw t (sym (none (IsUtf8-from_is_utf8 body t)))) (λ f. rw f refl)
