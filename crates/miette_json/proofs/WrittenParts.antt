-- What is written part by part is the text of the value.
use Rattle.std.proofs.Common.{◌≡◌, ℕ, Bool, true, false, List, [], ◌∷◌, ◌++◌, refl, sym, ap, ◌∙◌, append_assoc}
use Rattle.std.proofs.Common.{append-nil, Option, Some, None}
use Rattle.miette_json.specs.rules.Json.{Json, number, string, array, object, Items, no_items, item, Members}
use Rattle.miette_json.specs.rules.Json.{no_members, member, quoted_text, json_text, items_text, more_items_text}
use Rattle.miette_json.specs.rules.Json.{members_text, more_members_text}
use Rattle.miette_json.specs.rules.JsonReport.{optional_member, optional_list}
use Rattle.miette_json.specs.rules.Writing.{JsonPrefix, empty_prefix, comma, with_text, with_key, opened, closed}
use Rattle.miette_json.specs.rules.Writing.{with_value, with_items, with_members, with_optional_text, with_written}
use Rattle.miette_json.specs.steps.JsonParts.{with_optional_list}

abbrev pub prefix : List ℕ → Bool → JsonPrefix
prefix t due = record { text = t; comma_due = due }

-- ---- items and members without their end

abbrev items_part : Bool → Items → List ℕ
items_part due no_items = []
items_part due (item v more) = comma due ++ (json_text v ++ items_part true more)

abbrev due_after_items : Bool → Items → Bool
due_after_items due no_items = due
due_after_items due (item v more) = due_after_items true more

abbrev items_from : Items → JsonPrefix → JsonPrefix
items_from is p = prefix (p.text ++ items_part p.comma_due is) (due_after_items p.comma_due is)

abbrev members_part : Bool → Members → List ℕ
members_part due no_members = []
members_part due (member k v more) =
    comma due ++ (quoted_text k ++ (58 ∷ 32 ∷ (json_text v ++ members_part true more)))

abbrev due_after_members : Bool → Members → Bool
due_after_members due no_members = due
due_after_members due (member k v more) = due_after_members true more

abbrev members_from : Members → JsonPrefix → JsonPrefix
members_from ms p = prefix (p.text ++ members_part p.comma_due ms) (due_after_members p.comma_due ms)

-- ---- their ends

more_items_closed : (is : Items) → items_part true is ++ 93 ∷ [] ≡ more_items_text is
more_items_closed no_items = refl
more_items_closed (item v more) =
    ap (λ l. 44 ∷ l) (append_assoc (json_text v) (items_part true more) (93 ∷ [])
    ∙ ap (λ l. json_text v ++ l) (more_items_closed more))

items_closed : (is : Items) → items_part false is ++ 93 ∷ [] ≡ items_text is
items_closed no_items = refl
items_closed (item v more) =
    append_assoc (json_text v) (items_part true more) (93 ∷ []) ∙ ap (λ l. json_text v ++ l) (more_items_closed more)

member_then : (q j m end whole : List ℕ) → m ++ end ≡ whole
    → (q ++ (58 ∷ 32 ∷ (j ++ m))) ++ end ≡ q ++ (58 ∷ 32 ∷ (j ++ whole))
member_then q j m end whole e =
    append_assoc q (58 ∷ 32 ∷ (j ++ m)) end
    ∙ ap (λ l. q ++ (58 ∷ 32 ∷ l)) (append_assoc j m end ∙ ap (λ l. j ++ l) e)

more_members_closed : (ms : Members) → members_part true ms ++ 125 ∷ [] ≡ more_members_text ms
more_members_closed no_members = refl
more_members_closed (member k v more) =
    ap (λ l. 44 ∷ l) (member_then (quoted_text k) (json_text v) (members_part true more) (125 ∷ [])
    (more_members_text more) (more_members_closed more))

members_closed : (ms : Members) → members_part false ms ++ 125 ∷ [] ≡ members_text ms
members_closed no_members = refl
members_closed (member k v more) =
    member_then (quoted_text k) (json_text v) (members_part true more) (125 ∷ []) (more_members_text more)
    (more_members_closed more)

-- ---- one part after the other

enclosed : (old c part end whole : List ℕ) (byte : ℕ) → part ++ end ≡ whole
    → ((old ++ (c ++ byte ∷ [])) ++ part) ++ end ≡ old ++ (c ++ byte ∷ whole)
enclosed old c part end whole byte e =
    append_assoc (old ++ (c ++ byte ∷ [])) part end ∙ append_assoc old (c ++ byte ∷ []) (part ++ end)
    ∙ ap (λ l. old ++ l) (append_assoc c (byte ∷ []) (part ++ end) ∙ ap (λ l. c ++ byte ∷ l) e)

list_closed : (is : Items) (p q : JsonPrefix) → q ≡ items_from is (opened 91 p)
    → closed 93 q ≡ with_text (json_text (array is)) p
unfolding opened closed with_text
list_closed is p q e =
    ap (closed 93) e ∙ ap (λ t. prefix t true) (enclosed p.text (comma p.comma_due) (items_part false is) (93 ∷ [])
    (items_text is) 91 (items_closed is))

object_closed : (ms : Members) (p q : JsonPrefix) → q ≡ members_from ms (opened 123 p)
    → closed 125 q ≡ with_text (json_text (object ms)) p
unfolding opened closed with_text
object_closed ms p q e =
    ap (closed 125) e ∙ ap (λ t. prefix t true) (enclosed p.text (comma p.comma_due) (members_part false ms) (125 ∷ [])
    (members_text ms) 123 (members_closed ms))

item_first : (v : Json) (more : Items) (p q : JsonPrefix) → q ≡ with_text (json_text v) p
    → items_from more q ≡ items_from (item v more) p
unfolding with_text
item_first v more p q e =
    let c : List ℕ = comma p.comma_due in
    let rest : List ℕ = items_part true more in
    ap (items_from more) e ∙ ap (λ t. prefix t (due_after_items true more))
    (append_assoc p.text (c ++ json_text v) rest ∙ ap (λ l. p.text ++ l) (append_assoc c (json_text v) rest))

keyed : (old c q j rest : List ℕ)
    → ((old ++ (c ++ (q ++ 58 ∷ 32 ∷ []))) ++ j) ++ rest ≡ old ++ (c ++ (q ++ (58 ∷ 32 ∷ (j ++ rest))))
keyed old c q j rest = simp append_assoc

member_first : (k : List ℕ) (v : Json) (more : Members) (p q : JsonPrefix)
    → q ≡ with_text (json_text v) (with_key k p) → members_from more q ≡ members_from (member k v more) p
unfolding with_text with_key
member_first k v more p q e =
    ap (members_from more) e ∙ ap (λ t. prefix t (due_after_members true more))
    (keyed p.text (comma p.comma_due) (quoted_text k) (json_text v) (members_part true more))

mutual
  pub value_written : (v : Json) (p : JsonPrefix) → with_value v p ≡ with_text (json_text v) p
  value_written (number n) p = refl
  value_written (string s) p = refl
  value_written (array is) p = list_closed is p (with_items is (opened 91 p)) (items_written is (opened 91 p))
  value_written (object ms) p =
      object_closed ms p (with_members ms (opened 123 p)) (members_written ms (opened 123 p))

  items_written : (is : Items) (p : JsonPrefix) → with_items is p ≡ items_from is p
  items_written no_items p = ap (λ t. prefix t p.comma_due) (sym (append-nil p.text))
  items_written (item v more) p =
      items_written more (with_value v p) ∙ item_first v more p (with_value v p) (value_written v p)

  members_written : (ms : Members) (p : JsonPrefix) → with_members ms p ≡ members_from ms p
  members_written no_members p = ap (λ t. prefix t p.comma_due) (sym (append-nil p.text))
  members_written (member k v more) p =
      members_written more (with_value v (with_key k p))
      ∙ member_first k v more p (with_value v (with_key k p)) (value_written v (with_key k p))

-- ---- texts as a whole, and lists that are written apart

pub whole_written : (v : Json) (p : JsonPrefix) → p ≡ with_value v empty_prefix → p.text ≡ json_text v
unfolding with_text
whole_written v p e = ap (λ (q : JsonPrefix). q.text) (e ∙ value_written v empty_prefix)

pub items_apart : (is : Items) (p : JsonPrefix) → p.comma_due ≡ false
    → with_written (with_items is empty_prefix) p ≡ with_items is p
unfolding with_written
items_apart is p e =
    ap (λ (q : JsonPrefix). with_written q p) (items_written is empty_prefix)
    ∙ ap (λ d. prefix (p.text ++ items_part d is) (due_after_items d is)) (sym e) ∙ sym (items_written is p)

-- ---- members that may be left out

pub optional_written : (key : List ℕ) (o : Option (List ℕ)) (more : Members) (p : JsonPrefix)
    → with_members (optional_member key o more) p ≡ with_members more (with_optional_text key o p)
optional_written key None more p = refl
optional_written key (Some s) more p = refl

pub list_written : (key : List ℕ) (is : Items) (more : Members) (p : JsonPrefix)
    → with_members (optional_list key is more) p ≡ with_members more (with_optional_list key is p)
list_written key no_items more p = refl
list_written key (item v others) more p = refl
