-- The bytes of joined codes.
use Rattle.std.proofs.Common.{◌≡◌, ℕ, List, [], ◌∷◌, ◌++◌, encode_utf8, encode_utf8_all, refl, ap, sym, ◌∙◌}
use Rattle.std.proofs.Common.{append_assoc}

pub encode-joins : (a b : List ℕ) → encode_utf8_all (a ++ b) ≡ encode_utf8_all a ++ encode_utf8_all b
encode-joins [] b = refl
encode-joins (c ∷ a) b = ap (λ xs. encode_utf8 c ++ xs) (encode-joins a b) ∙ sym
    (append_assoc (encode_utf8 c) (encode_utf8_all a) (encode_utf8_all b))
