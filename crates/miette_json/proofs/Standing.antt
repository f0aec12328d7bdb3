-- A text that is spelled as a value stands for it, and for no other.
use Rattle.std.proofs.Common.{◌≡◌, ℕ, List, sym, subst}
use Rattle.std.specs.Prelude.{IsUtf8}
use Rattle.miette_json.specs.rules.Denotes.{Denotes, HasTokensOf}
use Rattle.miette_json.specs.rules.Json.{Json, json_text}

pub record StandsFor (text : List ℕ) (v : Json) : Type 0 where
  pub spelled : text ≡ json_text v
  pub denotes : Denotes text v
  pub only : (other : Json) → Denotes text other → other ≡ v

pub stands_for : ((v : Json) → HasTokensOf (json_text v) v)
    → ((bytes : List ℕ) (v w : Json) → Denotes bytes v → Denotes bytes w → v ≡ w)
    → (v : Json) (text : List ℕ) → IsUtf8 text → text ≡ json_text v → StandsFor text v
stands_for tokens one v text utf8 spelled =
    let denotes : Denotes text v = (utf8, subst (λ l. HasTokensOf l v) (sym spelled) (tokens v)) in
    record { spelled = spelled; denotes = denotes; only = λ other d. one text other v d denotes }
