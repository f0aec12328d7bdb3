-- What is printed to a text, as characters and as bytes.
use Rattle.std.proofs.Common.{◌≡◌, ℕ, List, ◌++◌, chars, encode_utf8_all, String, string_bytes, sym, ap, ◌∙◌}
use Rattle.std.proofs.Common.{OnOk, Result, Ok, Err, if◌then◌else◌}
use Rattle.std.specs.Result.{is_ok}
use Rattle.std.proofs.lemmas.Result.{on_ok_weaker}
use Rattle.std.proofs.lemmas.Str.{IsUtf8-string_bytes, encodes-append, encodes-chars, encodes_same}

-- where bytes are appended, the characters that they encode are
pub printed : {Z : Type 0} (s t : String Z) (cs bs : List ℕ) → string_bytes t ≡ string_bytes s ++ bs
    → encode_utf8_all cs ≡ bs → chars (string_bytes t) ≡ chars (string_bytes s) ++ cs
printed s t cs bs h e =
    encodes_same (chars (string_bytes t)) (chars (string_bytes s) ++ cs)
    (encodes-chars (string_bytes t) (IsUtf8-string_bytes t)
    ∙ h
    ∙ ap (λ x. string_bytes s ++ x) (sym e)
    ∙ ap (λ x. x ++ encode_utf8_all cs) (sym (encodes-chars (string_bytes s) (IsUtf8-string_bytes s)))
    ∙ sym (encodes-append (chars (string_bytes s)) cs))

pub printed_on_ok : {Z T E : Type 0} (r : Result T E) (s t : String Z) (cs bs : List ℕ) → encode_utf8_all cs ≡ bs
    → OnOk r (string_bytes t ≡ string_bytes s ++ bs) → OnOk r (chars (string_bytes t) ≡ chars (string_bytes s) ++ cs)
printed_on_ok r s t cs bs e h = on_ok_weaker r (λ k. printed s t cs bs k e) h

pub printed_where_ok : {Z T E : Type 0} (r : Result T E) (s t : String Z) (cs bs : List ℕ) → encode_utf8_all cs ≡ bs
    → string_bytes t ≡ (if is_ok r then string_bytes s ++ bs else string_bytes s)
    → OnOk r (chars (string_bytes t) ≡ chars (string_bytes s) ++ cs)
printed_where_ok (Ok x) s t cs bs e h = printed s t cs bs h e
printed_where_ok (Err x) s t cs bs e h = tt

-- a text's bytes are those of its characters
pub text-bytes : {Z : Type 0} (s : String Z) (x : List ℕ) → chars (string_bytes s) ≡ x → string_bytes s
    ≡ encode_utf8_all x
text-bytes s x e = sym (encodes-chars (string_bytes s) (IsUtf8-string_bytes s)) ∙ ap encode_utf8_all e
