-- Texts that are parts of others, and those that stand in objects and lists.
use Rattle.std.proofs.Common.{◌≡◌, ℕ, List, [], ◌∷◌, ◌++◌, refl, sym, ap, subst}
use Rattle.std.proofs.Common.{◌∙◌}
use Rattle.std.proofs.Common.{append_assoc, append-nil, arith, codes}
use Rattle.std.specs.List.{Contains}
use Rattle.std.proofs.lemmas.List.Elements.{Contains-append_left, Contains-append_right}
use Rattle.miette_json.specs.rules.Json.{Json, string}
use Rattle.miette_sarif.specs.rules.Objects.{Pairs, array_of, items_of, listed, members_of, message_of, object_of, pair}
use Rattle.miette_sarif.specs.laws.Values.{IsPart, StandsIn, texts_in, texts_in_items, texts_in_members}
use Rattle.miette_sarif.proofs.Lists.{has_first}

-- ---- parts

pub part_none : (x : List ℕ) → IsPart [] x
part_none x = record { front = []; rest = x; is = refl }

pub part_self : (x : List ℕ) → IsPart x x
part_self x = record { front = []; rest = []; is = sym (append-nil x) }

pub part_left : (x y z : List ℕ) → IsPart x y → IsPart x (y ++ z)
part_left x y z h = record {
  front = h.front;
  rest = h.rest ++ z;
  is = ap (λ t. t ++ z) h.is ∙ append_assoc h.front (x ++ h.rest) z ∙ ap (λ t. h.front ++ t) (append_assoc x h.rest z);
}

pub part_right : (x y z : List ℕ) → IsPart x y → IsPart x (z ++ y)
part_right x y z h = record {
  front = z ++ h.front;
  rest = h.rest;
  is = ap (λ t. z ++ t) h.is ∙ sym (append_assoc z h.front (x ++ h.rest));
}

pub part_of_part : (x y z : List ℕ) → IsPart x y → IsPart y z → IsPart x z
part_of_part x y z h g = subst (IsPart x) (sym g.is) (part_right x (y ++ g.rest) g.front (part_left x y g.rest h))

-- ---- values

pub in_string : (part s : List ℕ) → IsPart part s → StandsIn (string s) part
in_string part s h = record { whole = s; is_there = has_first s []; is_part = h }

-- the texts of one value are among those of another
moved : (v w : Json) (part : List ℕ) → ((x : List ℕ) → Contains (texts_in v) x → Contains (texts_in w) x)
    → StandsIn v part → StandsIn w part
moved v w part f h = record { whole = h.whole; is_there = f h.whole h.is_there; is_part = h.is_part }

members_append : (ps qs : Pairs) → texts_in_members (members_of (ps ++ qs))
    ≡ texts_in_members (members_of ps) ++ texts_in_members (members_of qs)
members_append [] qs = refl
members_append (p ∷ ps) qs =
    ap (λ l. texts_in p.1 ++ l) (members_append ps qs)
    ∙ sym (append_assoc (texts_in p.1) (texts_in_members (members_of ps)) (texts_in_members (members_of qs)))

pub in_left : (ps qs : Pairs) (part : List ℕ) → StandsIn (object_of ps) part → StandsIn (object_of (ps ++ qs)) part
in_left ps qs part h =
    moved (object_of ps) (object_of (ps ++ qs)) part
    (λ x is. subst (λ (l : List (List ℕ)). Contains l x) (sym (members_append ps qs))
    (Contains-append_left (texts_in_members (members_of ps)) (texts_in_members (members_of qs)) x is)) h

pub in_right : (ps qs : Pairs) (part : List ℕ) → StandsIn (object_of qs) part → StandsIn (object_of (ps ++ qs)) part
in_right ps qs part h =
    moved (object_of qs) (object_of (ps ++ qs)) part
    (λ x is. subst (λ (l : List (List ℕ)). Contains l x) (sym (members_append ps qs))
    (Contains-append_right (texts_in_members (members_of ps)) (texts_in_members (members_of qs)) x is)) h

pub in_pair : (key : List ℕ) (v : Json) (part : List ℕ) → StandsIn v part → StandsIn (object_of (pair key v)) part
in_pair key v part h =
    moved v (object_of (pair key v)) part (λ x is. Contains-append_left (texts_in v) [] x is) h

-- a message, of which the text is a part
pub in_message : (key s part : List ℕ) → IsPart part s → StandsIn (object_of (pair key (message_of s))) part
in_message key s part h =
    in_pair key (message_of s) part (in_pair (codes "text") (string s) part (in_string part s h))

pub in_first : (v : Json) (vs : List Json) (part : List ℕ) → StandsIn v part → StandsIn (array_of (v ∷ vs)) part
in_first v vs part h =
    moved v (array_of (v ∷ vs)) part (λ x is. Contains-append_left (texts_in v) (texts_in_items (items_of vs)) x is) h

pub in_later : (v : Json) (vs : List Json) (part : List ℕ) → StandsIn (array_of vs) part
    → StandsIn (array_of (v ∷ vs)) part
in_later v vs part h =
    moved (array_of vs) (array_of (v ∷ vs)) part
    (λ x is. Contains-append_right (texts_in v) (texts_in_items (items_of vs)) x is) h

pub in_listed : (key : List ℕ) (vs : List Json) (part : List ℕ) → StandsIn (array_of vs) part
    → StandsIn (object_of (listed key vs)) part
in_listed key [] part h = absurd (omega (arith, h.is_there.1))
in_listed key (v ∷ vs) part h = in_pair key (array_of (v ∷ vs)) part h
