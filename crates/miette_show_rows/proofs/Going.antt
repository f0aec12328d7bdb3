-- Files that are looked for one after another.
use Rattle.std.proofs.Common.{zero, suc, arith}
use Rattle.std.proofs.Common.{◌≡◌, ℕ, ◌+◌, ◌<◌, List, [], ◌∷◌, Option, All, Bor, length, get_or, map, take, refl}
use Rattle.std.proofs.Common.{◌++◌, OnOk, Ok, Err, Result, sym, ap, subst, ◌∙◌}
use Rattle.std.proofs.lemmas.List.{map-append}
use Rattle.std.proofs.lemmas.List.Elements.{All-nil, All-cons, All-append}
use Rattle.miette_protocol.specs.rules.Reading.{Source}
use Rattle.miette_read.proofs.Steps.{next_taken}
use Rattle.miette_read.specs.views.Values.{texts}
use Rattle.miette_show_rows.specs.rules.Looking.{Goes, IsFoundBy}

pub goes_still : (found : List ℕ → Option Source) (knows : List ℕ → Type 0) → Goes found knows found knows
goes_still found knows = λ name k. (k, refl)

pub continues_value : (f g h : List ℕ → Option Source) (k l m : List ℕ → Type 0) → Goes f k g l → Goes g l h m
    → Goes f k h m
continues_value f g h k l m p q = λ name known. let a = p name known in let b = q name a.0 in (b.0, b.1 ∙ a.1)

pub found_before : {F : Type 0} (found : F → List ℕ → Option Source) (knows : F → List ℕ → Type 0) (first second : F)
    (files : List ℕ → Option Source) (names : List (List ℕ))
    → Goes (found first) (knows first) (found second) (knows second) → IsFoundBy found knows second files names
    → IsFoundBy found knows first files names
found_before found knows first second files names goes by = (
  by.0,
  continues_value (found first) (found second) (found by.0) (knows first) (knows second) (knows by.0) goes by.1,
  by.2,
  by.3,
)

pub all_stay : (f g : List ℕ → Option Source) (k l : List ℕ → Type 0) (names : List (List ℕ)) → Goes f k g l
    → All k names → All l names
all_stay f g k l names goes known = λ i d h. (goes _ (known i d h)).0

pub one_more_known : (l : List ℕ → Type 0) (names : List (Bor (List ℕ))) (i : ℕ) (x : Bor (List ℕ)) → i < length names
    → x ≡ get_or names i x → All l (texts (take i names)) → l x.now → All l (texts (take (i + 1) names))
one_more_known l names i x h is known here =
    subst (All l) (sym (ap texts (next_taken names i x h is)
    ∙ map-append (λ (t : Bor (List ℕ)). t.now) (take i names) (x ∷ [])))
    (All-append l (texts (take i names)) (x.now ∷ []) known (All-cons l x.now [] here (All-nil l)))

same_entry : (names : List (Bor (List ℕ))) (i : ℕ) (d e : Bor (List ℕ)) → i < length names
    → get_or names i d ≡ get_or names i e
same_entry [] i d e h = absurd (omega (arith, h))
same_entry (x ∷ xs) zero d e h = refl
same_entry (x ∷ xs) (suc i) d e h = same_entry xs i d e (omega (arith, h))

pub one_more_at : (l : List ℕ → Type 0) (names : List (Bor (List ℕ))) (i : ℕ) (d : Bor (List ℕ)) → i < length names
    → All l (texts (take i names)) → l (get_or names i d).now → All l (texts (take (i + 1) names))
one_more_at l names i d h known here =
    one_more_known l names i (get_or names i d) h (same_entry names i d (get_or names i d) h) known here

pub held_more : {X : Type 0} (look : X → List ℕ) (l : List ℕ → Type 0) (names : List X) (i : ℕ) (x : X)
    → i < length names → x ≡ get_or names i x → All l (map look (take i names)) → l (look x)
    → All l (map look (take (i + 1) names))
held_more look l names i x h is known here =
    subst (All l) (sym (ap (map look) (next_taken names i x h is) ∙ map-append look (take i names) (x ∷ [])))
    (All-append l (map look (take i names)) (look x ∷ []) known (All-cons l (look x) [] here (All-nil l)))

-- the first names stay known, and the second ones are known then
pub both_known : {A E : Type 0} (f g : List ℕ → Option Source) (k l : List ℕ → Type 0) (first second : List (List ℕ))
    (r : Result A E) → Goes f k g l → All k first → OnOk r (All l second) → OnOk r (All l (first ++ second))
both_known f g k l first second (Err e) goes known here = tt
both_known f g k l first second (Ok x) goes known here =
    All-append l first second (all_stay f g k l first goes known) here
