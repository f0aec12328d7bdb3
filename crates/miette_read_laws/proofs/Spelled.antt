-- The spelling of a value reads as that value.
use Rattle.std.proofs.Common.{◌≡◌, ℕ, ◌<◌, ◌≤◌, ◌^◌, List, [], ◌∷◌, ◌++◌, Bool, true, false, cond, ◌&&◌, Some}
use Rattle.std.proofs.Common.{refl, ap, sym, subst, ◌∙◌, inl, map, append_assoc, append-nil, option_map}
use Rattle.std.proofs.Common.{option_and_then}
use Rattle.std.proofs.lemmas.List.{map-append}
use Rattle.std.specs.List.{flat_map}
use Rattle.json.specs.Json as text
use Rattle.json.specs.Json.{if_last}
use Rattle.json.specs.Lex.{tokens}
use Rattle.json.specs.Print.{ArePrintable, IsNumber, escape_byte}
use Rattle.json.specs.Spaced.{AreGaps, IsGap, print_spaced}
use Rattle.json.specs.Token as token
use Rattle.json.specs.Token.{Token}
use Rattle.json.specs.Tree.{HasNumbers, ItemsHaveNumbers, MembersHaveNumbers, depth, items_tokens, json_tokens}
use Rattle.json.specs.Tree.{members_tokens}
use Rattle.json.proofs.Printed.Decimals.{IsNumber-decimal}
use Rattle.json.proofs.Printed.Tokens.{tokens-print_spaced}
use Rattle.json.proofs.Printed.Trees.{ArePrintable-json_tokens, value-json_tokens}
use Rattle.serde_json.specs.Data as data_made
use Rattle.serde_json.specs.Data.{Data, Members, put}
use Rattle.serde_json.specs.Read.{max_depth, number_of, of_items, of_json, of_members, read}
use Rattle.serde_json.proofs.Numbers.{number_of-decimal}
use Rattle.miette_json.specs.rules.Json as json
use Rattle.miette_json.specs.rules.Json.{Json, escaped_text, items_text, json_text, members_text, more_items_text}
use Rattle.miette_json.specs.rules.Json.{more_members_text, numeral, quoted_text}
use Rattle.miette_json.proofs.JsonSpelled.{numeral_decimal}
use Rattle.miette_read_laws.specs.laws.Data.{AllNumbersFit, MembersFit, NumbersFit, data_of, items_data}
use Rattle.miette_read_laws.specs.laws.Data.{members_data}

-- ---- the value as the reader's JSON

abbrev mutual
  pub outline : Json → text.Json
  outline (json.number n) = text.number (numeral n)
  outline (json.string s) = text.string s
  outline (json.array js) = text.array (items_outline js)
  outline (json.object ms) = text.object (members_outline ms)

  pub items_outline : json.Items → text.Items
  items_outline json.no_items = text.no_items
  items_outline (json.item j js) = text.item (outline j) (items_outline js)

  pub members_outline : json.Members → text.Members
  members_outline json.no_members = text.no_members
  members_outline (json.member k j ms) = text.member k (outline j) (members_outline ms)

number_read : (n : ℕ) → n < 2 ^ 64 → of_json (text.number (numeral n)) ≡ Some (data_of (json.number n))
number_read n h = ap (option_map data_made.number) (ap number_of (numeral_decimal n h) ∙ number_of-decimal n h)

mutual
  value_read : (v : Json) → NumbersFit v → of_json (outline v) ≡ Some (data_of v)
  value_read (json.number n) h = number_read n h
  value_read (json.string s) h = refl
  value_read (json.array js) h = ap (option_map data_made.array) (items_read js h)
  value_read (json.object ms) h = ap (option_map data_made.object) (members_read ms data_made.no_members h)

  items_read : (js : json.Items) → AllNumbersFit js → of_items (items_outline js) ≡ Some (items_data js)
  items_read json.no_items h = refl
  items_read (json.item j js) h =
      ap (option_and_then (λ d. option_map (data_made.item d) (of_items (items_outline js)))) (value_read j h.0)
      ∙ ap (option_map (data_made.item (data_of j))) (items_read js h.1)

  members_read : (ms : json.Members) (found : Members) → MembersFit ms
      → of_members (members_outline ms) found ≡ Some (members_data ms found)
  members_read json.no_members found h = refl
  members_read (json.member k j ms) found h =
      ap (option_and_then (λ d. of_members (members_outline ms) (put k d found))) (value_read j h.0)
      ∙ members_read ms (put k (data_of j) found) h.1

-- ---- its tokens, each with the gap before it

abbrev mutual
  spaced : List ℕ → Json → List (List ℕ × Token)
  spaced gap (json.number n) = (gap, token.number (numeral n)) ∷ []
  spaced gap (json.string s) = (gap, token.string s) ∷ []
  spaced gap (json.array js) = (gap, token.begin_array) ∷ items_spaced js
  spaced gap (json.object ms) = (gap, token.begin_object) ∷ members_spaced ms

  items_spaced : json.Items → List (List ℕ × Token)
  items_spaced json.no_items = ([], token.end_array) ∷ []
  items_spaced (json.item j js) = spaced [] j ++ items_spaced js

  members_spaced : json.Members → List (List ℕ × Token)
  members_spaced json.no_members = ([], token.end_object) ∷ []
  members_spaced (json.member k j ms) = ([], token.key k) ∷ (spaced (32 ∷ []) j ++ members_spaced ms)

abbrev plain : List (List ℕ × Token) → List Token
plain ps = map (λ p. p.1) ps

mutual
  value_plain : (gap : List ℕ) (v : Json) → plain (spaced gap v) ≡ json_tokens (outline v)
  value_plain gap (json.number n) = refl
  value_plain gap (json.string s) = refl
  value_plain gap (json.array js) = ap (λ ts. token.begin_array ∷ ts) (items_plain js)
  value_plain gap (json.object ms) = ap (λ ts. token.begin_object ∷ ts) (members_plain ms)

  items_plain : (js : json.Items) → plain (items_spaced js) ≡ items_tokens (items_outline js)
  items_plain json.no_items = refl
  items_plain (json.item j js) =
      map-append (λ p. p.1) (spaced [] j) (items_spaced js)
      ∙ (ap (λ ts. ts ++ plain (items_spaced js)) (value_plain [] j)
      ∙ ap (λ ts. json_tokens (outline j) ++ ts) (items_plain js))

  members_plain : (ms : json.Members) → plain (members_spaced ms) ≡ members_tokens (members_outline ms)
  members_plain json.no_members = refl
  members_plain (json.member k j ms) =
      ap (λ ts. token.key k ∷ ts) (map-append (λ p. p.1) (spaced (32 ∷ []) j) (members_spaced ms)
      ∙ (ap (λ ts. ts ++ plain (members_spaced ms)) (value_plain (32 ∷ []) j)
      ∙ ap (λ ts. json_tokens (outline j) ++ ts) (members_plain ms)))

gaps_more : (ps qs : List (List ℕ × Token)) → AreGaps ps → AreGaps qs → AreGaps (ps ++ qs)
gaps_more [] qs h g = g
gaps_more (p ∷ ps) qs h g = (h.0, gaps_more ps qs h.1 g)

mutual
  value_gaps : (gap : List ℕ) (v : Json) → IsGap gap → AreGaps (spaced gap v)
  value_gaps gap (json.number n) h = (h, tt)
  value_gaps gap (json.string s) h = (h, tt)
  value_gaps gap (json.array js) h = (h, items_gaps js)
  value_gaps gap (json.object ms) h = (h, members_gaps ms)

  items_gaps : (js : json.Items) → AreGaps (items_spaced js)
  items_gaps json.no_items = (tt, tt)
  items_gaps (json.item j js) = gaps_more (spaced [] j) (items_spaced js) (value_gaps [] j tt) (items_gaps js)

  members_gaps : (ms : json.Members) → AreGaps (members_spaced ms)
  members_gaps json.no_members = (tt, tt)
  members_gaps (json.member k j ms) =
      (tt, gaps_more (spaced (32 ∷ []) j) (members_spaced ms) (value_gaps (32 ∷ []) j (inl refl, tt)) (members_gaps ms))

mutual
  has_numbers : (v : Json) → NumbersFit v → HasNumbers (outline v)
  has_numbers (json.number n) h = subst IsNumber (sym (numeral_decimal n h)) (IsNumber-decimal n h)
  has_numbers (json.string s) h = tt
  has_numbers (json.array js) h = items_have js h
  has_numbers (json.object ms) h = members_have ms h

  items_have : (js : json.Items) → AllNumbersFit js → ItemsHaveNumbers (items_outline js)
  items_have json.no_items h = tt
  items_have (json.item j js) h = (has_numbers j h.0, items_have js h.1)

  members_have : (ms : json.Members) → MembersFit ms → MembersHaveNumbers (members_outline ms)
  members_have json.no_members h = tt
  members_have (json.member k j ms) h = (has_numbers j h.0, members_have ms h.1)

-- ---- their text

escaped_same : (s : List ℕ) → flat_map escape_byte s ≡ escaped_text s
escaped_same [] = refl
escaped_same (x ∷ xs) = ap (λ us. escape_byte x ++ us) (escaped_same xs)

quoted_more : (s rest : List ℕ) → (34 ∷ (flat_map escape_byte s ++ 34 ∷ [])) ++ rest ≡ quoted_text s ++ rest
quoted_more s rest = ap (λ us. (34 ∷ (us ++ 34 ∷ [])) ++ rest) (escaped_same s)

abbrev comma : Bool → List ℕ
comma c = cond (c && true) (44 ∷ []) []

-- of a key, its colon and a blank, before a value
key_text : (k gap value more : List ℕ)
    → ((34 ∷ (flat_map escape_byte k ++ 34 ∷ [])) ++ 58 ∷ []) ++ (gap ++ (value ++ more))
    ≡ quoted_text k ++ (58 ∷ (gap ++ (value ++ more)))
key_text k gap value more =
    append_assoc (34 ∷ (flat_map escape_byte k ++ 34 ∷ [])) (58 ∷ []) (gap ++ (value ++ more))
    ∙ quoted_more k (58 ∷ (gap ++ (value ++ more)))

-- a member, by what its value and those after it are
member_printed : (k : List ℕ) (j : Json) (ms : json.Members) (ps : List (List ℕ × Token))
    → print_spaced false (spaced (32 ∷ []) j ++ (members_spaced ms ++ ps))
    ≡ 32 ∷ (json_text j ++ print_spaced true (members_spaced ms ++ ps))
    → print_spaced true (members_spaced ms ++ ps) ≡ more_members_text ms ++ print_spaced true ps
    → ((34 ∷ (flat_map escape_byte k ++ 34 ∷ [])) ++ 58 ∷ [])
    ++ print_spaced false ((spaced (32 ∷ []) j ++ members_spaced ms) ++ ps)
    ≡ (quoted_text k ++ (58 ∷ 32 ∷ (json_text j ++ more_members_text ms))) ++ print_spaced true ps
member_printed k j ms ps value later =
    let more : List ℕ = more_members_text ms in
    let rest : List ℕ = print_spaced true ps in
    ap (λ us. ((34 ∷ (flat_map escape_byte k ++ 34 ∷ [])) ++ 58 ∷ []) ++ us)
    (ap (print_spaced false) (append_assoc (spaced (32 ∷ []) j) (members_spaced ms) ps)
    ∙ (value ∙ ap (λ us. 32 ∷ (json_text j ++ us)) later))
    ∙ (key_text k (32 ∷ []) (json_text j) (more ++ rest)
    ∙ (ap (λ us. quoted_text k ++ (58 ∷ 32 ∷ us)) (sym (append_assoc (json_text j) more rest))
    ∙ sym (append_assoc (quoted_text k) (58 ∷ 32 ∷ (json_text j ++ more)) rest)))

mutual
  unfolding print_spaced

  value_printed : (c : Bool) (gap : List ℕ) (v : Json) (ps : List (List ℕ × Token))
      → print_spaced c (spaced gap v ++ ps) ≡ comma c ++ (gap ++ (json_text v ++ print_spaced true ps))
  value_printed c gap (json.number n) ps = refl
  value_printed c gap (json.string s) ps =
      ap (λ us. comma c ++ (gap ++ us)) (quoted_more s (print_spaced true ps))
  value_printed c gap (json.array js) ps =
      ap (λ us. comma c ++ (gap ++ (91 ∷ us))) (items_printed js ps)
  value_printed c gap (json.object ms) ps =
      ap (λ us. comma c ++ (gap ++ (123 ∷ us))) (members_printed ms ps)

  items_printed : (js : json.Items) (ps : List (List ℕ × Token))
      → print_spaced false (items_spaced js ++ ps) ≡ items_text js ++ print_spaced true ps
  items_printed json.no_items ps = refl
  items_printed (json.item j js) ps =
      ap (print_spaced false) (append_assoc (spaced [] j) (items_spaced js) ps)
      ∙ (value_printed false [] j (items_spaced js ++ ps)
      ∙ (ap (λ us. json_text j ++ us) (more_items_printed js ps)
      ∙ sym (append_assoc (json_text j) (more_items_text js) (print_spaced true ps))))

  more_items_printed : (js : json.Items) (ps : List (List ℕ × Token))
      → print_spaced true (items_spaced js ++ ps) ≡ more_items_text js ++ print_spaced true ps
  more_items_printed json.no_items ps = refl
  more_items_printed (json.item j js) ps =
      ap (print_spaced true) (append_assoc (spaced [] j) (items_spaced js) ps)
      ∙ (value_printed true [] j (items_spaced js ++ ps)
      ∙ (ap (λ us. 44 ∷ (json_text j ++ us)) (more_items_printed js ps)
      ∙ ap (λ us. 44 ∷ us) (sym (append_assoc (json_text j) (more_items_text js) (print_spaced true ps)))))

  members_printed : (ms : json.Members) (ps : List (List ℕ × Token))
      → print_spaced false (members_spaced ms ++ ps) ≡ members_text ms ++ print_spaced true ps
  members_printed json.no_members ps = refl
  members_printed (json.member k j ms) ps =
      member_printed k j ms ps (value_printed false (32 ∷ []) j (members_spaced ms ++ ps)) (more_members_printed ms ps)

  more_members_printed : (ms : json.Members) (ps : List (List ℕ × Token))
      → print_spaced true (members_spaced ms ++ ps) ≡ more_members_text ms ++ print_spaced true ps
  more_members_printed json.no_members ps = refl
  more_members_printed (json.member k j ms) ps =
      ap (λ us. 44 ∷ us) (member_printed k j ms ps (value_printed false (32 ∷ []) j (members_spaced ms ++ ps))
      (more_members_printed ms ps))

spelled_printed : (v : Json) → print_spaced false (spaced [] v) ≡ json_text v
unfolding print_spaced
spelled_printed v =
    ap (print_spaced false) (sym (append-nil (spaced [] v)))
    ∙ (value_printed false [] v [] ∙ append-nil (json_text v))

-- ---- all of it

spelled_tokens : (v : Json) → NumbersFit v → tokens (json_text v) ≡ json_tokens (outline v)
spelled_tokens v h =
    ap tokens (sym (spelled_printed v))
    ∙ (tokens-print_spaced (spaced [] v) (value_gaps [] v tt)
    (subst ArePrintable (sym (value_plain [] v)) (ArePrintable-json_tokens (outline v) (has_numbers v h)))
    ∙ value_plain [] v)

pub spelling_read : (v : Json) → NumbersFit v → depth (outline v) ≤ max_depth → read (json_text v) ≡ Some (data_of v)
spelling_read v h shallow =
    ap (λ ts. option_and_then of_json (option_and_then (λ p. if_last p.0 p.1) (text.value max_depth ts)))
    (spelled_tokens v h ∙ sym (append-nil (json_tokens (outline v))))
    ∙ (ap (λ o. option_and_then of_json (option_and_then (λ p. if_last p.0 p.1) o))
    (value-json_tokens (outline v) max_depth [] shallow)
    ∙ value_read v h)
