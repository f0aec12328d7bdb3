use Rattle.std.proofs.Common.{◌≡◌, ℕ, ◌-◌, ◌<◌, List, [], ◌∷◌, ◌++◌, length, Option, Some, None, sym, ap, ap₂}
use Rattle.std.proofs.Common.{◌∙◌, Global, arith, refl, rules}
use Rattle.json.specs.Token.{Token}
use Rattle.json.specs.declared.token.Token as read
use Rattle.json.specs.Json.{Json, array, object, parse_map, after_end_array, read_key, items, members, value}
use Rattle.json.specs.Reads.{token_of}
use Rattle.json.specs.Value.{value_view, members_view}
use Rattle.json.specs.declared.value.Value.{Value, String, Number, Bool, Null, the_lemmas}
use Rattle.json.proofs.Grammar.{value_is, value-begin_array, value-begin_object, read_key-shorter, items_end}
use Rattle.json.proofs.Grammar.{items_fail, items_more, members_end, members_no_key, members_fail, members_more}
use Rattle.json.proofs.Trees.{items_before, members_before, items_before-no_items, members_before-no_members}
use Rattle.json.proofs.Trees.{one_more_item, one_more_member, none_before, view-Array, view-Object}
use Rattle.miette_description.proofs.reading.+read.Goals as goal

-- a first token, by its kind
begun : (r s : List Token) (t k : read.Token) → r ≡ token_of t ∷ s → t ≡ k → r ≡ token_of k ∷ s
begun r s t k first is = first ∙ ap (λ x. token_of x ∷ s) is

-- what is read after a bracket
opened : (d : ℕ) (r s : List Token) (t k : read.Token) (b : Token) (made : Option (Json × List Token))
    → r ≡ token_of t ∷ s → t ≡ k → token_of k ≡ b → value d (b ∷ s) ≡ made → value d r ≡ made
opened d r s t k b made first is bracket inside =
    ap (value d) (begun r s t k first is ∙ ap (λ x. x ∷ s) bracket) ∙ inside

array_fails : (d : ℕ) (r s : List Token) (t k : read.Token) → r ≡ token_of t ∷ s → t ≡ k
    → token_of k ≡ Token.begin_array → 0 < d → items (value (d - 1)) (length s) s ≡ None → value d r ≡ None
array_fails d r s t k first is bracket some failed =
    opened d r s t k _ _ first is bracket (value-begin_array d s some ∙ ap (parse_map array) failed)

object_fails : (d : ℕ) (r s : List Token) (t k : read.Token) → r ≡ token_of t ∷ s → t ≡ k
    → token_of k ≡ Token.begin_object → 0 < d → members (value (d - 1)) (length s) s ≡ None → value d r ≡ None
object_fails d r s t k first is bracket some failed =
    opened d r s t k _ _ first is bracket (value-begin_object d s some ∙ ap (parse_map object) failed)

-- a value of one token
leaf : (d : ℕ) (r s : List Token) (k : Token) (v : Value Global) (j : Json) → r ≡ k ∷ s → value_view v ≡ j
    → value d (k ∷ s) ≡ Some (j, s) → value d r ≡ Some (value_view v, s)
leaf d r s k v j first seen is = ap (value d) first ∙ is ∙ ap (λ x. Some (x, s)) (sym seen)

pub read_value-returns-in_default-clause-description : goal.read_value-returns-in_default-clause-description
read_value-returns-in_default-clause-description t c invalid =
    let empty : c.args.reader.now ≡ [] = grind arith in
    ap (value c.args.depth) empty ∙ value_is c.args.depth []

pub read_value-returns-then-depth-eq0-clause-description : goal.read_value-returns-then-depth-eq0-clause-description
unfolding value
read_value-returns-then-depth-eq0-clause-description t c never =
    let none : c.args.depth ≡ 0 = omega arith in
    ap₂ value none (begun c.args.reader.now c.next.new.self c.in-Some.token _ (grind arith) c.in-BeginArray.is)

pub read_value-returns-in_err-read_items-in-BeginArray-clause-description :
    goal.read_value-returns-in_err-read_items-in-BeginArray-clause-description
read_value-returns-in_err-read_items-in-BeginArray-clause-description t c invalid =
    array_fails c.args.depth c.args.reader.now c.next.new.self c.in-Some.token _ (grind arith) c.in-BeginArray.is refl
    (omega arith) (grind arith)

pub read_value-returns-then-depth-eq0-2-clause-description : goal.read_value-returns-then-depth-eq0-2-clause-description
unfolding value
read_value-returns-then-depth-eq0-2-clause-description t c never =
    let none : c.args.depth ≡ 0 = omega arith in
    ap₂ value none (begun c.args.reader.now c.next.new.self c.in-Some.token _ (grind arith) c.in-BeginObject.is)

pub read_value-returns-in_err-read_members-in-BeginObject-clause-description :
    goal.read_value-returns-in_err-read_members-in-BeginObject-clause-description
read_value-returns-in_err-read_members-in-BeginObject-clause-description t c invalid =
    object_fails c.args.depth c.args.reader.now c.next.new.self c.in-Some.token _ (grind arith) c.in-BeginObject.is
    refl (omega arith) (grind arith)

pub read_value-returns-in-String-clause-ok : goal.read_value-returns-in-String-clause-ok
read_value-returns-in-String-clause-ok t c =
    let first : c.args.reader.now ≡ token_of c.in-Some.token ∷ c.next.new.self = grind arith in
    leaf c.args.depth c.args.reader.now c.next.new.self (Token.string c.in-String.text.now) (String c.in-String.text)
    (Json.string c.in-String.text.now) (grind (arith, first)) (search (rules, the_lemmas)) (value_is c.args.depth _)

pub read_value-returns-in-Number-clause-ok : goal.read_value-returns-in-Number-clause-ok
read_value-returns-in-Number-clause-ok t c =
    let first : c.args.reader.now ≡ token_of c.in-Some.token ∷ c.next.new.self = grind arith in
    leaf c.args.depth c.args.reader.now c.next.new.self (Token.number c.in-Number.text.now) (Number c.in-Number.text)
    (Json.number c.in-Number.text.now) (grind (arith, first)) (search (rules, the_lemmas)) (value_is c.args.depth _)

pub read_value-returns-in-Bool-clause-ok : goal.read_value-returns-in-Bool-clause-ok
read_value-returns-in-Bool-clause-ok t c =
    let first : c.args.reader.now ≡ token_of c.in-Some.token ∷ c.next.new.self = grind arith in
    leaf c.args.depth c.args.reader.now c.next.new.self (Token.boolean c.in-Bool.b) (Bool c.in-Bool.b)
    (Json.boolean c.in-Bool.b) (grind (arith, first)) (search (rules, the_lemmas)) (value_is c.args.depth _)

pub read_value-returns-in-Null-clause-ok : goal.read_value-returns-in-Null-clause-ok
read_value-returns-in-Null-clause-ok t c =
    let first : c.args.reader.now ≡ token_of c.in-Some.token ∷ c.next.new.self = grind arith in
    leaf c.args.depth c.args.reader.now c.next.new.self Token.null Null Json.null
    (grind (arith, first)) (search (rules, the_lemmas)) (value_is c.args.depth _)

pub read_value-returns-in-EndObject-clause-description : goal.read_value-returns-in-EndObject-clause-description
read_value-returns-in-EndObject-clause-description t c invalid =
    let first : c.args.reader.now ≡ token_of c.in-Some.token ∷ c.next.new.self = grind arith in
    rw (value_is c.args.depth c.args.reader.now, first) (grind arith)

pub read_value-returns-in_ok-read_items-in-BeginArray-clause-ok :
    goal.read_value-returns-in_ok-read_items-in-BeginArray-clause-ok
read_value-returns-in_ok-read_items-in-BeginArray-clause-ok t c =
    let found = c.in_ok-read_items-in-BeginArray in
    opened c.args.depth c.args.reader.now c.next.new.self c.in-Some.token _ _ _ (grind arith) c.in-BeginArray.is refl
    (value-begin_array c.args.depth c.next.new.self (omega arith) ∙ ap (parse_map array) found.ensures.ok
    ∙ ap (λ j. Some (j, c.read_items.new.reader)) (sym (view-Array found.field-0)))

pub read_value-returns-in_ok-read_members-in-BeginObject-clause-ok :
    goal.read_value-returns-in_ok-read_members-in-BeginObject-clause-ok
read_value-returns-in_ok-read_members-in-BeginObject-clause-ok t c =
    let found = c.in_ok-read_members-in-BeginObject in
    opened c.args.depth c.args.reader.now c.next.new.self c.in-Some.token _ _ _ (grind arith) c.in-BeginObject.is refl
    (value-begin_object c.args.depth c.next.new.self (omega arith) ∙ ap (parse_map object) found.ensures.ok
    ∙ ap (λ j. Some (j, c.read_members.new.reader)) (sym (view-Object found.field-0)))

pub read_items-loop-alloc-init : goal.read_items-loop-alloc-init
read_items-loop-alloc-init t c = (
  length c.args.reader.now,
  omega arith,
  none_before _
      ∙ ap (λ vs. parse_map (items_before vs) (items (value c.args.depth) (length c.args.reader.now) c.args.reader.now))
      (sym c.new-found.ensures.items),
  omega arith,
)

pub read_items-returns-in_err-item-clause-description : goal.read_items-returns-in_err-item-clause-description
read_items-returns-in_err-item-clause-description t c invalid =
    let p = value c.args.depth in
    let l = c.loop-alloc in
    let n = l.invariant.0 in
    let going : (after_end_array l.reader ≡ None) × (c.take_end_array.new.self ≡ l.reader) = grind arith in
    let failed : p c.take_end_array.new.self ≡ None = grind arith in
    l.invariant.2 ∙ ap (parse_map (items_before l.found.items))
    (items_fail p n l.reader going.0 (rw (← going.1) failed))

pub read_items-loop-alloc-preserved : goal.read_items-loop-alloc-preserved
read_items-loop-alloc-preserved t c =
    let p = value c.args.depth in
    let l = c.loop-alloc in
    let n = l.invariant.0 in
    let going : (after_end_array l.reader ≡ None) × (c.take_end_array.new.self ≡ l.reader) = grind arith in
    let done = c.in_ok-item.ensures in
    let v = c.in_ok-item.item in
    let r = c.read_value.new.reader in
    let less : length r < length l.reader = rw (← going.1) done.shorter in
    let pushed : c.push.new.self.items ≡ l.found.items ++ v ∷ [] = search rules in
    let turn = items_more p n l.reader r (value_view v) (omega (arith, l.invariant.1)) going.0 (rw (← going.1) done.ok)
    in (
      n - 1,
      omega (arith, l.invariant.1),
      l.invariant.2 ∙ ap (parse_map (items_before l.found.items)) turn ∙ one_more_item l.found.items v _
          ∙ ap (λ vs. parse_map (items_before vs) (items p (n - 1) r)) (sym pushed),
      omega (arith, l.invariant.3),
    )

pub read_items-returns-clause-ok : goal.read_items-returns-clause-ok
read_items-returns-clause-ok t c =
    let p = value c.args.depth in
    let l = c.loop-alloc in
    let n = l.invariant.0 in
    let r = c.take_end_array.new.self in
    l.invariant.2 ∙ ap (parse_map (items_before l.found.items)) (items_end p n l.reader r l.invariant.1 (grind arith))
    ∙ ap (λ js. Some (js, r)) (items_before-no_items l.found.items)

pub read_members-loop-found-init : goal.read_members-loop-found-init
read_members-loop-found-init t c = (
  length c.args.reader.now,
  omega arith,
  none_before _
      ∙ ap (λ vs. parse_map (members_before vs) (members (value c.args.depth) (length c.args.reader.now)
      c.args.reader.now)) (sym c.new-found.ensures.items),
  omega arith,
)

pub read_members-returns-in_err-key-clause-description : goal.read_members-returns-in_err-key-clause-description
read_members-returns-in_err-key-clause-description t c invalid =
    let p = value c.args.depth in
    let l = c.loop-found in
    let n = l.invariant.0 in
    l.invariant.2 ∙ ap (parse_map (members_before l.found.items))
    (members_no_key p n l.reader c.in_err-key.ensures.value)

pub read_members-returns-in_err-member-clause-description : goal.read_members-returns-in_err-member-clause-description
read_members-returns-in_err-member-clause-description t c invalid =
    let p = value c.args.depth in
    let l = c.loop-found in
    let n = l.invariant.0 in
    let k = c.in-Some.key.now in
    let s = c.next_key.new.self in
    let key : read_key l.reader ≡ Some (Some k, s) = grind arith in
    let failed : p s ≡ None = grind arith in
    l.invariant.2 ∙ ap (parse_map (members_before l.found.items)) (members_fail p n k l.reader s key failed)

pub read_members-loop-found-preserved : goal.read_members-loop-found-preserved
read_members-loop-found-preserved t c =
    let p = value c.args.depth in
    let l = c.loop-found in
    let n = l.invariant.0 in
    let k = c.in-Some.key.now in
    let s = c.next_key.new.self in
    let key : read_key l.reader ≡ Some (Some k, s) = grind arith in
    let done = c.in_ok-member.ensures in
    let v = c.in_ok-member.member in
    let r = c.read_value.new.reader in
    let less = read_key-shorter l.reader (Some k) s key in
    let lesser = done.shorter in
    let pushed : c.push.new.self.items ≡ l.found.items ++ (c.in-Some.key, v) ∷ [] = search rules in
    let turn = members_more p n k l.reader s r (value_view v) (omega (arith, l.invariant.1)) key done.ok in (
      n - 1,
      omega (arith, l.invariant.1),
      l.invariant.2 ∙ ap (parse_map (members_before l.found.items)) turn
          ∙ one_more_member l.found.items (c.in-Some.key, v) _
          ∙ ap (λ ms. parse_map (members_before ms) (members p (n - 1) r)) (sym pushed),
      omega (arith, l.invariant.3),
    )

pub read_members-returns-in-Ok-clause-ok : goal.read_members-returns-in-Ok-clause-ok
read_members-returns-in-Ok-clause-ok t c =
    let p = value c.args.depth in
    let l = c.loop-found in
    let n = l.invariant.0 in
    let r = c.next_key.new.self in
    l.invariant.2 ∙ ap (parse_map (members_before l.found.items))
    (members_end p n l.reader r l.invariant.1 (grind arith))
    ∙ ap (λ ms. Some (ms, r)) (members_before-no_members l.found.items ∙ ap members_view (sym c.in-Ok.ensures))
