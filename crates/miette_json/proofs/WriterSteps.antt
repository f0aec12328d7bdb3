-- What a writer's calls add to its text.
use Rattle.std.proofs.Common.{◌≡◌, ℕ, ◌<◌, ◌^◌, Bool, true, false, List, [], ◌∷◌, ◌++◌, sym, ap, ◌∙◌, append_assoc}
use Rattle.std.specs.Fmt.{decimal}
use Rattle.miette_json.specs.rules.Json.{escaped_text, number, numeral, quoted_text, string}
use Rattle.miette_json.specs.rules.Writing.{JsonPrefix, comma, with_text, with_key, opened, closed, with_value}
use Rattle.miette_json.specs.rules.Writing.{with_written}
use Rattle.miette_json.proofs.JsonSpelled.{numeral_decimal}
use Rattle.miette_json.proofs.WrittenParts.{prefix}

put : (t : List ℕ) (b : Bool) (p : JsonPrefix) (piece new : List ℕ) (due : Bool) → prefix t b ≡ p
    → new ≡ t ++ (comma b ++ piece) → prefix new due ≡ prefix (p.text ++ (comma p.comma_due ++ piece)) due
put t b p piece new due e f =
    ap (λ l. prefix l due) f ∙ ap (λ (q : JsonPrefix). prefix (q.text ++ (comma q.comma_due ++ piece)) due) e

pub opened_put : (t : List ℕ) (b : Bool) (p : JsonPrefix) (byte : ℕ) (new : List ℕ) → prefix t b ≡ p
    → new ≡ t ++ (comma b ++ byte ∷ []) → prefix new false ≡ opened byte p
unfolding opened
opened_put t b p byte new e f = put t b p (byte ∷ []) new false e f

pub closed_put : (t : List ℕ) (b : Bool) (p : JsonPrefix) (byte : ℕ) (new : List ℕ) → prefix t b ≡ p
    → new ≡ t ++ byte ∷ [] → prefix new true ≡ closed byte p
unfolding closed
closed_put t b p byte new e f =
    ap (λ l. prefix l true) f ∙ ap (λ (q : JsonPrefix). prefix (q.text ++ byte ∷ []) true) e

pub text_put : (t : List ℕ) (b : Bool) (p : JsonPrefix) (text new : List ℕ) → prefix t b ≡ p
    → new ≡ t ++ (comma b ++ text) → prefix new true ≡ with_text text p
unfolding with_text
text_put t b p text new e f = put t b p text new true e f

pub key_put : (t : List ℕ) (b : Bool) (p : JsonPrefix) (key new : List ℕ) → prefix t b ≡ p
    → new ≡ t ++ (comma b ++ 34 ∷ (escaped_text key ++ 34 ∷ 58 ∷ 32 ∷ [])) → prefix new false ≡ with_key key p
unfolding with_key
key_put t b p key new e f =
    put t b p (quoted_text key ++ 58 ∷ 32 ∷ []) new false e
    (f ∙ ap (λ l. t ++ (comma b ++ 34 ∷ l)) (sym (append_assoc (escaped_text key) (34 ∷ []) (58 ∷ 32 ∷ []))))

-- a text after a comma that was written by itself
two : (t mid new c piece : List ℕ) → mid ≡ t ++ c → new ≡ mid ++ piece → new ≡ t ++ (c ++ piece)
two t mid new c piece e f = f ∙ ap (λ l. l ++ piece) e ∙ append_assoc t c piece

pub string_put : (t : List ℕ) (b : Bool) (p : JsonPrefix) (text mid new : List ℕ) → prefix t b ≡ p
    → mid ≡ t ++ comma b → new ≡ mid ++ quoted_text text → prefix new true ≡ with_value (string text) p
string_put t b p text mid new e f g =
    text_put t b p (quoted_text text) new e (two t mid new (comma b) (quoted_text text) f g)

pub number_put : (t : List ℕ) (b : Bool) (p : JsonPrefix) (n : ℕ) (mid new : List ℕ) → n < 2 ^ 64 → prefix t b ≡ p
    → mid ≡ t ++ comma b → new ≡ mid ++ decimal n → prefix new true ≡ with_value (number n) p
number_put t b p n mid new small e f g =
    text_put t b p (numeral n) new e (two t mid new (comma b) (decimal n) f g
    ∙ ap (λ l. t ++ (comma b ++ l)) (sym (numeral_decimal n small)))

pub items_put : (t : List ℕ) (b : Bool) (p : JsonPrefix) (s : List ℕ) (due : Bool) (items : JsonPrefix) (new : List ℕ)
    → prefix t b ≡ p → prefix s due ≡ items → new ≡ t ++ s → prefix new due ≡ with_written items p
unfolding with_written
items_put t b p s due items new e f g =
    ap (λ l. prefix l due) g
    ∙ ap (λ (q : JsonPrefix). prefix (q.text ++ s) due) e
    ∙ ap (λ (q : JsonPrefix). prefix (p.text ++ q.text) q.comma_due) f
