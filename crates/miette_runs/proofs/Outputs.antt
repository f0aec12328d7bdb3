-- What is printed to a text, and what begins a link, as characters and as bytes.
use Rattle.std.proofs.Common.{◌≡◌, ℕ, List, [], ◌∷◌, ◌++◌, chars, encode_utf8_all, sym, ap, ◌∙◌, append_assoc}
use Rattle.std.proofs.Common.{String, string_bytes}
use Rattle.std.proofs.lemmas.Str.{chars-nil, encodes-append, encodes-chars}
use Rattle.std.specs.Str.{IsUtf8}
use Rattle.miette_style.proofs.PrintedText.{text-bytes}
use Rattle.miette_runs.specs.rules.Runs.{link_start}

-- the bytes of a text that was empty
pub printed-bytes : {Z : Type 0} (s t : String Z) (cs : List ℕ) → string_bytes s ≡ [] → chars (string_bytes t)
    ≡ chars (string_bytes s) ++ cs → string_bytes t ≡ encode_utf8_all cs
printed-bytes s t cs e h = text-bytes t cs (h ∙ ap (λ bs. chars bs ++ cs) e ∙ ap (λ us. us ++ cs) chars-nil)

pub link-after : (bs o o1 o2 o3 : List ℕ) → IsUtf8 bs → o1 ≡ o ++ 27 ∷ 93 ∷ 56 ∷ 59 ∷ 59 ∷ [] → o2 ≡ o1 ++ bs → o3 ≡ o2
    ++ 27 ∷ 92 ∷ [] → o3 ≡ o ++ encode_utf8_all (link_start (chars bs))
unfolding lib.Utf8.encode
link-after bs o o1 o2 o3 u e f g =
    let whole : encode_utf8_all (link_start (chars bs)) ≡ 27 ∷ 93 ∷ 56 ∷ 59 ∷ 59 ∷ (bs ++ 27 ∷ 92 ∷ []) =
    ap (λ x. 27 ∷ 93 ∷ 56 ∷ 59 ∷ 59 ∷ x) (encodes-append (chars bs) (27 ∷ 92 ∷ [])
    ∙ ap (λ x. x ++ 27 ∷ 92 ∷ []) (encodes-chars bs u)) in
    g
    ∙ ap (λ x. x ++ 27 ∷ 92 ∷ []) (f ∙ ap (λ x. x ++ bs) e ∙ append_assoc o (27 ∷ 93 ∷ 56 ∷ 59 ∷ 59 ∷ []) bs)
    ∙ append_assoc o (27 ∷ 93 ∷ 56 ∷ 59 ∷ 59 ∷ bs) (27 ∷ 92 ∷ [])
    ∙ ap (λ x. o ++ x) (sym whole)
