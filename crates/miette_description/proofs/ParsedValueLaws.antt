-- The value that a parsed text stands for: it is the text's value, and it is looked into as the parsed text is.
use Rattle.std.proofs.Common.{◌≡◌, ℕ, List, Bool, true, false, cond, Option, Some, None, option_map, IfSome, IsSome}
use Rattle.std.proofs.Common.{Ordering, Less, Equal, Greater, Bor, Global, refl, sym, ap, subst, ◌∙◌, nat_cmp, bytes_eq}
use Rattle.std.proofs.Common.{true≢false}
use Rattle.std.specs.Prelude.{◌&&◌, ◌||◌, option_and_then, unwrap_or, is_some}
use Rattle.std.specs.Ordering.{match_ordering}
use Rattle.std.specs.Cmp.Lexicographic.{slice_cmp}
use Rattle.std.proofs.lemmas.Slice.Eq.{bytes_eq-Decides}
use Rattle.json.specs.Json as json
use Rattle.json.specs.Find as parsed
use Rattle.json.specs.Value.{value_view}
use Rattle.json.specs.declared.value.Value.{Value}
use Rattle.serde_json.specs.Data.{Num, unsigned, negative, float, Data, number, array, object, item, Members}
use Rattle.serde_json.specs.Data.{no_members, member, put}
use Rattle.serde_json.specs.Find.{get, get_member, as_u64, is_float}
use Rattle.serde_json.specs.Read.{number_of, of_json, of_items, of_members}
use Rattle.serde_json.specs.Written.{has_float, items_have_float, members_have_float}
use Rattle.serde_json.proofs.Views.{get_member-put, get_member-put_other}
use Rattle.miette_description.proofs.NumberSteps.{no_number}
use Rattle.miette_description.specs.steps.ParsedValues.{number_data, data_of, items_data, members_data, is_integral}
use Rattle.miette_description.specs.steps.ParsedValues.{are_integral, have_integral, value_data}

-- ---- the value of a text, where it has one

number_is : (o : Option Num) (other : Num) → IfSome (option_map number o) (λ d. number (unwrap_or o other) ≡ d)
number_is None other = tt
number_is (Some n) other = refl

within : {A B : Type 0} (f : A → B) (x : A) (o : Option A) → IfSome o (λ y. x ≡ y)
    → IfSome (option_map f o) (λ z. f x ≡ z)
within f x None e = tt
within f x (Some y) e = ap f e

next : {A B : Type 0} (o : Option A) (x : A) (f : A → Option B) (g : A → B) → IfSome o (λ d. x ≡ d)
    → ((d : A) → IfSome (f d) (λ m. g d ≡ m)) → IfSome (option_and_then f o) (λ m. g x ≡ m)
next None x f g e h = tt
next (Some d) x f g e h = subst (λ y. IfSome (f d) (λ m. g y ≡ m)) (sym e) (h d)

mutual
  data_is : (j : json.Json) → IfSome (of_json j) (λ d. data_of j ≡ d)
  data_is json.null = refl
  data_is (json.boolean b) = refl
  data_is (json.number s) = number_is (number_of s) no_number
  data_is (json.string s) = refl
  data_is (json.array js) = within array (items_data js) (of_items js) (items_are js)
  data_is (json.object ms) = within object (members_data ms no_members) (of_members ms no_members)
      (members_are ms no_members)

  items_are : (js : json.Items) → IfSome (of_items js) (λ ds. items_data js ≡ ds)
  items_are json.no_items = refl
  items_are (json.item j js) =
      next (of_json j) (data_of j) (λ d. option_map (item d) (of_items js)) (λ d. item d (items_data js)) (data_is j)
      (λ d. within (item d) (items_data js) (of_items js) (items_are js))

  members_are : (ms : json.Members) (found : Members) → IfSome (of_members ms found) (λ m. members_data ms found ≡ m)
  members_are json.no_members found = refl
  members_are (json.member k j ms) found =
      next (of_json j) (data_of j) (λ d. of_members ms (put k d found)) (λ d. members_data ms (put k d found))
      (data_is j) (λ d. members_are ms (put k d found))

pub data_of_read : (j : json.Json) (d : Data) → of_json j ≡ Some d → data_of j ≡ d
data_of_read j d e = subst (λ o. IfSome o (λ x. data_of j ≡ x)) e (data_is j)

-- ---- where each number is an integer

and_first : (a b : Bool) → a && b ≡ true → a ≡ true
and_first true b e = refl
and_first false b e = e

and_second : (a b : Bool) → a && b ≡ true → b ≡ true
and_second true b e = e
and_second false b e = absurd (true≢false (sym e))

or_first : (a b : Bool) → a || b ≡ false → a ≡ false
or_first true b e = e
or_first false b e = refl

or_second : (a b : Bool) → a || b ≡ false → b ≡ false
or_second true b e = absurd (true≢false e)
or_second false b e = e

or_both : (a b : Bool) → a ≡ false → b ≡ false → a || b ≡ false
or_both true b e f = e
or_both false b e f = f

integer_is : (o : Option Num) → is_some (as_u64 (unwrap_or o no_number)) ≡ true → option_map number o
    ≡ Some (number (unwrap_or o no_number))
integer_is None e = absurd (true≢false (sym e))
integer_is (Some n) e = refl

no_float : (n : Num) → is_some (as_u64 n) ≡ true → is_float n ≡ false
no_float (unsigned n) e = refl
no_float (negative z) e = refl
no_float (float x) e = absurd (true≢false (sym e))

mutual
  pub integral_read : (j : json.Json) → is_integral j ≡ true → of_json j ≡ Some (data_of j)
  integral_read json.null e = refl
  integral_read (json.boolean b) e = refl
  integral_read (json.number s) e = integer_is (number_of s) e
  integral_read (json.string s) e = refl
  integral_read (json.array js) e = ap (option_map array) (items_read js e)
  integral_read (json.object ms) e = ap (option_map object) (members_read ms no_members e)

  items_read : (js : json.Items) → are_integral js ≡ true → of_items js ≡ Some (items_data js)
  items_read json.no_items e = refl
  items_read (json.item j js) e =
      ap (option_and_then (λ d. option_map (item d) (of_items js))) (integral_read j (and_first _ _ e))
      ∙ ap (option_map (item (data_of j))) (items_read js (and_second _ _ e))

  members_read : (ms : json.Members) (found : Members) → have_integral ms ≡ true → of_members ms found
      ≡ Some (members_data ms found)
  members_read json.no_members found e = refl
  members_read (json.member k j ms) found e =
      ap (option_and_then (λ d. of_members ms (put k d found))) (integral_read j (and_first _ _ e))
      ∙ members_read ms (put k (data_of j) found) (and_second _ _ e)

put_at : (o : Ordering) (k l : List ℕ) (d e : Data) (ms later : Members) → has_float d ≡ false → has_float e ≡ false
    → members_have_float ms ≡ false → members_have_float later ≡ false
    → members_have_float (match_ordering o (member k d (member l e ms)) (member l d ms) (member l e later)) ≡ false
put_at Less k l d e ms later a b c f = or_both _ _ a (or_both _ _ b c)
put_at Equal k l d e ms later a b c f = or_both _ _ a c
put_at Greater k l d e ms later a b c f = or_both _ _ b f

put_no_float : (k : List ℕ) (d : Data) (ms : Members) → has_float d ≡ false → members_have_float ms ≡ false
    → members_have_float (put k d ms) ≡ false
put_no_float k d no_members a b = or_both _ _ a b
put_no_float k d (member l e ms) a b =
    let rest = or_second (has_float e) (members_have_float ms) b in
    put_at (slice_cmp nat_cmp k l) k l d e ms (put k d ms) a (or_first _ _ b) rest (put_no_float k d ms a rest)

mutual
  pub integral_no_float : (j : json.Json) → is_integral j ≡ true → has_float (data_of j) ≡ false
  integral_no_float json.null e = refl
  integral_no_float (json.boolean b) e = refl
  integral_no_float (json.number s) e = no_float (number_data s) e
  integral_no_float (json.string s) e = refl
  integral_no_float (json.array js) e = items_no_float js e
  integral_no_float (json.object ms) e = members_no_float ms no_members e refl

  items_no_float : (js : json.Items) → are_integral js ≡ true → items_have_float (items_data js) ≡ false
  items_no_float json.no_items e = refl
  items_no_float (json.item j js) e = or_both _ _ (integral_no_float j (and_first _ _ e))
      (items_no_float js (and_second _ _ e))

  members_no_float : (ms : json.Members) (found : Members) → have_integral ms ≡ true → members_have_float found ≡ false
      → members_have_float (members_data ms found) ≡ false
  members_no_float json.no_members found e f = f
  members_no_float (json.member k j ms) found e f =
      members_no_float ms (put k (data_of j) found) (and_second _ _ e)
      (put_no_float k (data_of j) found (integral_no_float j (and_first _ _ e)) f)

-- ---- look-ups

abbrev later : Option Data → Option Data → Option Data
later None earlier = earlier
later (Some d) earlier = Some d

last_of : (o : Option json.Json) (b : Bool) (k l : List ℕ) (j : json.Json) (found : Members) → bytes_eq l k ≡ b
    → later (option_map data_of o) (get_member k (put l (data_of j) found))
    ≡ later (option_map data_of (parsed.later_or o (cond b (Some j) None))) (get_member k found)
last_of (Some x) b k l j found e = refl
last_of None true k l j found e = subst (λ n. get_member n (put l (data_of j) found) ≡ Some (data_of j))
    ((bytes_eq-Decides l k).0 e) (get_member-put l (data_of j) found)
last_of None false k l j found e = get_member-put_other k l (data_of j) found
    (λ same. true≢false (sym ((bytes_eq-Decides l k).1 (sym same)) ∙ e))

member_seen : (k : List ℕ) (ms : json.Members) (found : Members) → get_member k (members_data ms found)
    ≡ later (option_map data_of (parsed.get_member k ms)) (get_member k found)
member_seen k json.no_members found = refl
member_seen k (json.member l j ms) found = member_seen k ms (put l (data_of j) found)
    ∙ last_of (parsed.get_member k ms) (bytes_eq l k) k l j found refl

or_none : (o : Option Data) → o ≡ later o None
or_none None = refl
or_none (Some d) = refl

get_seen : (k : List ℕ) (j : json.Json) → option_map data_of (parsed.get k j) ≡ get k (data_of j)
get_seen k json.null = refl
get_seen k (json.boolean b) = refl
get_seen k (json.number s) = refl
get_seen k (json.string s) = refl
get_seen k (json.array js) = refl
get_seen k (json.object ms) = or_none (option_map data_of (parsed.get_member k ms)) ∙ sym (member_seen k ms no_members)

seen_of_ref : (r : Option (Bor (Value Global))) → option_map (λ v. value_data v.now) r
    ≡ option_map data_of (option_map (λ v. value_view v.now) r)
seen_of_ref None = refl
seen_of_ref (Some v) = refl

pub found_seen : (r : Option (Bor (Value Global))) (k : List ℕ) (j : json.Json) → option_map (λ v. value_view v.now) r
    ≡ parsed.get k j → option_map (λ v. value_data v.now) r ≡ get k (data_of j)
found_seen r k j e = seen_of_ref r ∙ ap (option_map data_of) e ∙ get_seen k j

-- a text whose value is made beside the parsed one
pub value_seen : (o : Option Data) (j : json.Json) (b : Bool) → o ≡ of_json j → IsSome o
    → IfSome o (λ d. b ≡ has_float d) → (o ≡ Some (data_of j)) × (has_float (data_of j) ≡ b)
value_seen None j b e some h = absurd (true≢false (sym some))
value_seen (Some d) j b e some h = let same = data_of_read j d (sym e) in
    (ap Some (sym same), ap has_float same ∙ sym h)
