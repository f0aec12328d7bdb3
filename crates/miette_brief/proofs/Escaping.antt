-- Escapes in a text, one after the other.
use Rattle.std.proofs.Common.{◌≡◌, ℕ, ◌+◌, ◌<◌, true, false, List, [], ◌∷◌, ◌++◌, refl}
use Rattle.std.proofs.Common.{ap, ◌∙◌, arith}
use Rattle.std.specs.Prelude.{not}
use Rattle.std.specs.List.{list_all}
use Rattle.std.proofs.lemmas.Bool.{and_parts, not-true}
use Rattle.std.proofs.lemmas.Bool.Decides.{nat_tests}
use Rattle.miette_tree.proofs.Escapes.{Escapes}
use Rattle.miette_brief.specs.declared.escapes.CommandPart.{CommandPart}
use Rattle.miette_brief.specs.declared.escapes.CommandPart.TheVariants.{Message, Property}
use Rattle.miette_brief.specs.rules.Commands.{byte_text, escaped, is_percent_escaped, percent}

pub byte_single : (part : CommandPart) (x : ℕ) → is_percent_escaped part x ≡ false → byte_text part x ≡ x ∷ []
byte_single part x e = rw e refl

pub byte_escaped : (part : CommandPart) (x : ℕ) → is_percent_escaped part x ≡ true → byte_text part x ≡ percent x
byte_escaped part x e = rw e refl

pub escaped_is_ascii : (part : CommandPart) (x : ℕ) → is_percent_escaped part x ≡ true → x < 128
escaped_is_ascii Message x e = grind (arith, nat_tests)
escaped_is_ascii Property x e = grind (arith, nat_tests)

-- a part of a command
abbrev pub escapes : CommandPart → Escapes
escapes part = record {
  is_escaped = is_percent_escaped part;
  written = byte_text part;
  text = escaped part;
  none = refl;
  more = λ x xs. refl;
  itself = byte_single part;
  low = escaped_is_ascii part;
}

-- a text of bytes that stand for themselves
pub plain_escaped : (part : CommandPart) (xs : List ℕ) → list_all (λ b. not (is_percent_escaped part b)) xs ≡ true
    → escaped part xs ≡ xs
plain_escaped part [] h = refl
plain_escaped part (x ∷ xs) h =
    let p = and_parts (not (is_percent_escaped part x)) (list_all (λ b. not (is_percent_escaped part b)) xs) h in
    ap (λ l. l ++ escaped part xs) (byte_single part x (not-true (is_percent_escaped part x) p.0))
    ∙ ap (λ l. x ∷ l) (plain_escaped part xs p.1)
