-- How many lines two lists have in common, by places.
use Rattle.std.proofs.Common.{ℕ, zero, suc, ◌+◌, ◌-◌, ◌<◌, ◌≤◌, ◌≡◌, Bool, true, false, cond, List, [], ◌∷◌, length}
use Rattle.std.proofs.Common.{drop}
use Rattle.std.proofs.Common.{get_or, min, reverse, refl, sym, ap, ap₂, ◌∙◌, add-one, inl, inr, arith}
use Rattle.std.specs.Str.{bytes_eq}
use Rattle.std.proofs.lemmas.Bool.{cases_lt}
use Rattle.std.proofs.lemmas.List.{drop_all, get_or-reverse, length-map, length-reverse}
use Rattle.miette_fix_rows.specs.rules.Hunks.{common}
use Rattle.miette_fix_rows.specs.views.LineLists.{met_from, borrowed_lines}
use Rattle.miette_fix_rows.specs.declared.line_lists.Side.{Side}
use Rattle.miette_fix_rows.specs.declared.line_lists.Side.TheVariants.{Front, Back}
use denote.Ref.{Bor}

within_step : (x : Bool) (m n : ℕ) → m ≤ n → cond x (suc m) 0 ≤ suc n
within_step true m n h = omega (arith, h)
within_step false m n h = omega arith

-- the same lines at a place
pub common_more : (i : ℕ) (ls ms : List (List ℕ)) → i < length ls → i < length ms
    → bytes_eq (get_or ls i []) (get_or ms i []) ≡ true
    → common (drop i ls) (drop i ms) ≡ suc (common (drop (suc i) ls) (drop (suc i) ms))
common_more i [] ms h k e = absurd (omega (arith, h))
common_more i (l ∷ ls) [] h k e = absurd (omega (arith, k))
common_more zero (l ∷ ls) (m ∷ ms) h k e = rw e refl
common_more (suc i) (l ∷ ls) (m ∷ ms) h k e = common_more i ls ms (omega (arith, h)) (omega (arith, k)) e

-- others at a place
pub common_stops : (i : ℕ) (ls ms : List (List ℕ)) → i < length ls → i < length ms
    → bytes_eq (get_or ls i []) (get_or ms i []) ≡ false → common (drop i ls) (drop i ms) ≡ 0
common_stops i [] ms h k e = absurd (omega (arith, h))
common_stops i (l ∷ ls) [] h k e = absurd (omega (arith, k))
common_stops zero (l ∷ ls) (m ∷ ms) h k e = rw e refl
common_stops (suc i) (l ∷ ls) (m ∷ ms) h k e = common_stops i ls ms (omega (arith, h)) (omega (arith, k)) e

pub common_none : (ls : List (List ℕ)) → common ls [] ≡ 0
common_none [] = refl
common_none (l ∷ ls) = refl

-- nothing is left of one of them
pub common_ended : (i : ℕ) (ls ms : List (List ℕ)) → length ls ≤ i → common (drop i ls) (drop i ms) ≡ 0
common_ended i ls ms h = ap (λ rest. common rest (drop i ms)) (drop_all i ls h)

pub common_ended_other : (i : ℕ) (ls ms : List (List ℕ)) → length ms ≤ i → common (drop i ls) (drop i ms) ≡ 0
common_ended_other i ls ms h = ap (common (drop i ls)) (drop_all i ms h) ∙ common_none (drop i ls)

pub common_within : (ls ms : List (List ℕ)) → common ls ms ≤ length ls
common_within [] ms = omega arith
common_within (l ∷ ls) [] = omega arith
common_within (l ∷ ls) (m ∷ ms) = within_step (bytes_eq l m) (common ls ms) (length ls) (common_within ls ms)

pub common_within_other : (ls ms : List (List ℕ)) → common ls ms ≤ length ms
common_within_other [] ms = omega arith
common_within_other (l ∷ ls) [] = omega arith
common_within_other (l ∷ ls) (m ∷ ms) =
    within_step (bytes_eq l m) (common ls ms) (length ms) (common_within_other ls ms)

-- ---- of lines as a program has them

abbrev none : Bor (List ℕ)
none = record { ref_ptr = (0, 0); now = [] }

pub text_at : (ls : List (Bor (List ℕ))) (i : ℕ) → get_or (borrowed_lines ls) i [] ≡ (get_or ls i none).now
text_at [] zero = refl
text_at [] (suc i) = refl
text_at (l ∷ ls) zero = refl
text_at (l ∷ ls) (suc i) = text_at ls i

-- a place at which a sweep over two lists stands
abbrev Stands : List (List ℕ) → List (List ℕ) → ℕ → ℕ → Type 0
Stands ls ms i n = i + common (drop i ls) (drop i ms) ≡ n

stands_end : (i n : ℕ) (ls ms : List (List ℕ)) → i ≡ min (length ls) (length ms) → Stands ls ms i n → i ≡ n
stands_end i n ls ms e h =
    elim (cases_lt (length ls) (length ms)) [
      | inl k ↦ omega (arith, h, common_ended i ls ms (omega (arith, e, k)))
      | inr k ↦ omega (arith, h, common_ended_other i ls ms (omega (arith, e, k)))
    ]

stands_more : (i n : ℕ) (ls ms : List (List ℕ)) → i < min (length ls) (length ms)
    → bytes_eq (get_or ls i []) (get_or ms i []) ≡ true → Stands ls ms i n → Stands ls ms (i + 1) n
stands_more i n ls ms lt e h =
    let s : common (drop i ls) (drop i ms) ≡ suc (common (drop (suc i) ls) (drop (suc i) ms)) =
    common_more i ls ms (omega (arith, lt)) (omega (arith, lt)) e in
    let t : suc i + common (drop (suc i) ls) (drop (suc i) ms) ≡ n = omega (arith, s, h) in
    simp add-one t

stands_stop : (i n : ℕ) (ls ms : List (List ℕ)) → i < min (length ls) (length ms)
    → bytes_eq (get_or ls i []) (get_or ms i []) ≡ false → Stands ls ms i n → i ≡ n
stands_stop i n ls ms lt e h =
    omega (arith, h, common_stops i ls ms (omega (arith, lt)) (omega (arith, lt)) e)

-- ---- met from a side

abbrev met : Side → List (Bor (List ℕ)) → List (List ℕ)
met side ls = met_from side (borrowed_lines ls)

met_length : (side : Side) (ls : List (Bor (List ℕ))) → length (met side ls) ≡ length ls
met_length Front ls = length-map ls (λ l. l.now)
met_length Back ls = length-reverse (borrowed_lines ls) ∙ length-map ls (λ l. l.now)

pub back_at : (ls : List (Bor (List ℕ))) (i : ℕ) → i < length ls
    → get_or (reverse (borrowed_lines ls)) i [] ≡ (get_or ls (length ls - 1 - i) none).now
back_at ls i lt =
    let n : length (borrowed_lines ls) ≡ length ls = length-map ls (λ l. l.now) in
    get_or-reverse (borrowed_lines ls) i [] (omega (arith, lt, n))
    ∙ ap (λ m. get_or (borrowed_lines ls) (m - 1 - i) []) n ∙ text_at ls (length ls - 1 - i)

-- a place at which a sweep from a side stands
abbrev StandsFrom : Side → List (Bor (List ℕ)) → List (Bor (List ℕ)) → ℕ → Type 0
StandsFrom side ls ms i = Stands (met side ls) (met side ms) i (common (met side ls) (met side ms))

pub side_ends : (side : Side) (i : ℕ) (ls ms : List (Bor (List ℕ))) → i ≡ min (length ls) (length ms)
    → StandsFrom side ls ms i → i ≡ common (met side ls) (met side ms)
side_ends side i ls ms e h =
    stands_end i (common (met side ls) (met side ms)) (met side ls) (met side ms)
    (omega (arith, e, met_length side ls, met_length side ms)) h

pub side_goes_on : (side : Side) (i : ℕ) (ls ms : List (Bor (List ℕ))) (line other : List ℕ)
    → i < min (length ls) (length ms) → line ≡ get_or (met side ls) i [] → other ≡ get_or (met side ms) i []
    → bytes_eq line other ≡ true → StandsFrom side ls ms i → StandsFrom side ls ms (i + 1)
side_goes_on side i ls ms line other lt is at e h =
    stands_more i (common (met side ls) (met side ms)) (met side ls) (met side ms)
    (omega (arith, lt, met_length side ls, met_length side ms)) (ap₂ bytes_eq (sym is) (sym at) ∙ e) h

pub side_stops : (side : Side) (i : ℕ) (ls ms : List (Bor (List ℕ))) (line other : List ℕ)
    → i < min (length ls) (length ms) → line ≡ get_or (met side ls) i [] → other ≡ get_or (met side ms) i []
    → bytes_eq line other ≡ false → StandsFrom side ls ms i → i ≡ common (met side ls) (met side ms)
side_stops side i ls ms line other lt is at e h =
    stands_stop i (common (met side ls) (met side ms)) (met side ls) (met side ms)
    (omega (arith, lt, met_length side ls, met_length side ms)) (ap₂ bytes_eq (sym is) (sym at) ∙ e) h
