-- Texts with a byte order mark in front, and without it.
use Rattle.std.proofs.Common.{◌≡◌, ℕ, List, ◌++◌, Bool, true, false, drop, refl, sym, subst}
use Rattle.std.specs.Prelude.{IsUtf8, if◌then◌else◌, nat_eq}
use Rattle.std.specs.List.{starts_with}
use Rattle.std.proofs.lemmas.Bool.Decides.{Decides-eqb}
use Rattle.std.proofs.lemmas.Slice.Eq.{starts_is}
use Rattle.std.proofs.lemmas.Str.{IsUtf8-append, IsUtf8-encode, IsUtf8-past_char}
use Rattle.miette_show_rows.specs.rules.Rows.{byte_order_mark, without_byte_order_mark}

abbrev has_mark : List ℕ → Bool
has_mark bytes = starts_with nat_eq bytes byte_order_mark

mark_there : (bytes : List ℕ) → has_mark bytes ≡ true → bytes ≡ byte_order_mark ++ drop 3 bytes
mark_there bytes e = (starts_is Decides-eqb bytes byte_order_mark (has_mark bytes) refl).0 e

pub text_unmarked : (bytes : List ℕ) → IsUtf8 bytes → IsUtf8 (without_byte_order_mark bytes)
unfolding lib.Utf8.encode
text_unmarked bytes text = by (has_mark bytes) refl where
  by : (t : Bool) → has_mark bytes ≡ t → IsUtf8 (if t then drop 3 bytes else bytes)
  by true e = IsUtf8-past_char bytes (drop 3 bytes) 65279 text (mark_there bytes e)
  by false e = text

pub text_marked : (bytes : List ℕ) → IsUtf8 (without_byte_order_mark bytes) → IsUtf8 bytes
unfolding lib.Utf8.encode
text_marked bytes = by (has_mark bytes) refl where
  by : (t : Bool) → has_mark bytes ≡ t → IsUtf8 (if t then drop 3 bytes else bytes) → IsUtf8 bytes
  by true e text =
      subst IsUtf8 (sym (mark_there bytes e))
      (IsUtf8-append byte_order_mark (drop 3 bytes) (IsUtf8-encode 65279 refl) text)
  by false e text = text
