-- Braces in a text, one after the other.
use Rattle.std.proofs.Common.{◌≡◌, ℕ, ◌<◌, true, false, [], ◌∷◌, refl, arith}
use Rattle.std.proofs.lemmas.Bool.Decides.{nat_tests}
use Rattle.miette_tree.proofs.Escapes.{Escapes}
use Rattle.miette_sarif.specs.rules.Messages.{is_brace, double_byte, doubled}

pub byte_single : (x : ℕ) → is_brace x ≡ false → double_byte x ≡ x ∷ []
byte_single x e = rw e refl

pub brace_is_ascii : (x : ℕ) → is_brace x ≡ true → x < 128
brace_is_ascii x e = grind (arith, nat_tests)

-- a text with its braces doubled
abbrev pub braces : Escapes
braces = record {
  is_escaped = is_brace;
  written = double_byte;
  text = doubled;
  none = refl;
  more = λ x xs. refl;
  itself = byte_single;
  low = brace_is_ascii;
}
