-- What a `JsonWriter` writes: the beginning of a JSON text, part by part.
use Rattle.std.specs.Prelude.{ℕ, Bool, true, false, List, [], ◌∷◌, ◌++◌, Option, Some, None}
use Rattle.miette_json.specs.rules.Json.{Json, number, string, array, object, Items, no_items, item, Members}
use Rattle.miette_json.specs.rules.Json.{no_members, member, numeral, quoted_text}

-- a text, and whether a comma is due before the next item or member
pub record JsonPrefix : Type 0 where
  pub text : List ℕ
  pub comma_due : Bool

abbrev pub empty_prefix : JsonPrefix
empty_prefix = record { text = []; comma_due = false }

abbrev pub comma : Bool → List ℕ
comma true = 44 ∷ []
comma false = []

-- the text of a value, after a comma if one is due
unfoldable pub with_text : List ℕ → JsonPrefix → JsonPrefix
with_text text p = record { text = p.text ++ (comma p.comma_due ++ text); comma_due = true }

-- a key, after a comma if one is due; its value comes next
unfoldable pub with_key : List ℕ → JsonPrefix → JsonPrefix
with_key key p = record {
  text = p.text ++ (comma p.comma_due ++ (quoted_text key ++ 58 ∷ 32 ∷ []));
  comma_due = false;
}

-- an opening brace or bracket, after a comma if one is due
unfoldable pub opened : ℕ → JsonPrefix → JsonPrefix
opened byte p = record { text = p.text ++ (comma p.comma_due ++ byte ∷ []); comma_due = false }

-- a closing brace or bracket
unfoldable pub closed : ℕ → JsonPrefix → JsonPrefix
closed byte p = record { text = p.text ++ byte ∷ []; comma_due = true }

-- a value part by part: this writes its text (`json_text`), after a comma if one is due
abbrev mutual
  pub with_value : Json → JsonPrefix → JsonPrefix
  with_value (number n) p = with_text (numeral n) p
  with_value (string s) p = with_text (quoted_text s) p
  with_value (array is) p = closed 93 (with_items is (opened 91 p))
  with_value (object ms) p = closed 125 (with_members ms (opened 123 p))

  pub with_items : Items → JsonPrefix → JsonPrefix
  with_items no_items p = p
  with_items (item v more) p = with_items more (with_value v p)

  pub with_members : Members → JsonPrefix → JsonPrefix
  with_members no_members p = p
  with_members (member k v more) p = with_members more (with_value v (with_key k p))

-- a string member, if there is a text
abbrev pub with_optional_text : List ℕ → Option (List ℕ) → JsonPrefix → JsonPrefix
with_optional_text key None p = p
with_optional_text key (Some s) p = with_value (string s) (with_key key p)

-- the items that another writer wrote, after an opening bracket
unfoldable pub with_written : JsonPrefix → JsonPrefix → JsonPrefix
with_written items p = record { text = p.text ++ items.text; comma_due = items.comma_due }
