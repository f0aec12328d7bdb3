-- Stops rise, and each is found by its offset and by its position.
use Rattle.std.proofs.Common.{◌⊎◌, inl, inr}
use Rattle.std.proofs.lemmas.Bool.{and_parts, cases_eq, eqb-true, le-leb, lt-leb}
use Rattle.miette_positions.proofs.Finding.{first_here, first_on, last_here, last_on}
use Rattle.std.proofs.Common.{ℕ, zero, suc, ◌<◌, ◌≤◌, ◌≡◌, Bool, true, false, eqb, ltb, leb, ◌&&◌, ◌||◌, List, []}
use Rattle.std.proofs.Common.{◌∷◌, length, drop, refl, sym, ap, ◌∙◌, arith, subst, Some, None, cond}
use Rattle.std.proofs.lemmas.List.{length-drop}
use Rattle.std.specs.Prelude.{slice_get}
use Rattle.std.proofs.lemmas.Bool.Decides.{nat_tests}
use Rattle.bstr.specs.Utf8.{decoded, or_replacement}
use Rattle.bstr.proofs.lemmas.PieceLemmas.{piece-bounds}
use Rattle.miette_columns.specs.rules.Cells.{Character, characters}
use Rattle.miette_columns.proofs.Stepping.{characters_end, characters_step, made}
use Rattle.miette_positions.specs.declared.position.Position.{Position}
use Rattle.miette_positions.specs.declared.position.PositionEncoding.{PositionEncoding}
use Rattle.miette_positions.specs.declared.position.Stop.{Stop}
use Rattle.miette_positions.specs.rules.Regions.{first_stop, last_stop, is_same, offset_of, stop_after, stop_at}
use Rattle.miette_positions.specs.rules.Regions.{stop_before}
use Rattle.miette_positions.specs.rules.Stops.{is_pair, is_until, moved_by, start, stop_past, stops_after}
use Rattle.miette_positions.specs.rules.Stops.{stops_from}
use Rattle.miette_positions.specs.rules.Stops.{stops_of}
use Rattle.miette_positions.proofs.Stepping.{Later, later_moved, later_one, later_trans}

-- each character takes some bytes
abbrev pub Sized : List Character → Type 0
Sized [] = true ≡ true
Sized (c ∷ cs) = (0 < c.bytes) × Sized cs

sized : (f : ℕ) (bytes : List ℕ) → length bytes ≤ f → Sized (characters bytes)
sized f [] le = subst Sized (sym (characters_end [] refl)) refl
sized zero (b ∷ bs) le = absurd (omega (arith, le))
sized (suc f) (b ∷ bs) le =
    let some : 0 < length (b ∷ bs) = omega arith in
    let size : ℕ = (decoded (b ∷ bs)).size in
    let bounds = piece-bounds (b ∷ bs) some in
    let left : List ℕ = drop size (b ∷ bs) in
    let step : characters (b ∷ bs) ≡ made (or_replacement (decoded (b ∷ bs)).char) size ∷ characters left =
    characters_step (b ∷ bs) left (or_replacement (decoded (b ∷ bs)).char) size (record {
      some = some;
      left_is = refl;
      code_is = refl;
      size_is = refl;
    }) in
    subst Sized (sym step)
    (omega (arith, bounds.0), sized f left (omega (arith, le, bounds.0, length-drop size (b ∷ bs))))

-- ---- lists by their places

some_same : (s t : Stop) → Some s ≡ Some t → s ≡ t
some_same s t e = cc

abbrev Each : (Stop → Type 0) → List Stop → Type 0
Each P ss = (k : ℕ) (t : Stop) → slice_get ss k ≡ Some t → P t

each_cons : (P : Stop → Type 0) (s : Stop) (ss : List Stop) → P s → Each P ss → Each P (s ∷ ss)
each_cons P s ss h g zero t e = subst P (some_same s t e) h
each_cons P s ss h g (suc k) t e = g k t e

each_cond : (P : Stop → Type 0) (b : Bool) (ss ts : List Stop) → Each P ss → Each P ts → Each P (cond b ss ts)
each_cond P true ss ts h g = h
each_cond P false ss ts h g = g

-- each stop stands after those before it
abbrev Ordered : List Stop → Type 0
Ordered ss = (i j : ℕ) (s t : Stop) → i < j → slice_get ss i ≡ Some s → slice_get ss j ≡ Some t → Later s t

ordered_cons : (s : Stop) (ss : List Stop) → Each (Later s) ss → Ordered ss → Ordered (s ∷ ss)
ordered_cons s ss h g zero zero a b lt e f = absurd (omega (arith, lt))
ordered_cons s ss h g zero (suc j) a b lt e f = subst (λ x. Later x b) (some_same s a e) (h j b f)
ordered_cons s ss h g (suc i) zero a b lt e f = absurd (omega (arith, lt))
ordered_cons s ss h g (suc i) (suc j) a b lt e f = g i j a b (omega (arith, lt)) e f

ordered_cond : (b : Bool) (ss ts : List Stop) → Ordered ss → Ordered ts → Ordered (cond b ss ts)
ordered_cond true ss ts h g = h
ordered_cond false ss ts h g = g

-- ---- stops rise

after_all : (e : PositionEncoding) (s : Stop) (cs : List Character) → Sized cs → Each (Later s) (stops_after e s cs)
after_all e s [] z = λ k t h. absurd (cc)
after_all e s (c ∷ cs) z =
    let next : Stop = stop_past e s c in
    let inside : Stop = moved_by c.bytes s in
    each_cond (Later s) (is_pair c cs) (stops_after e inside cs) (next ∷ stops_after e next cs)
    (λ k t h. later_moved c.bytes s t (after_all e inside cs z.1 k t h))
    (each_cons (Later s) next (stops_after e next cs) (later_one e s c z.0)
    (λ k t h. later_trans s next t (later_one e s c z.0) (after_all e next cs z.1 k t h)))

ordered_after : (e : PositionEncoding) (s : Stop) (cs : List Character) → Sized cs → Ordered (stops_after e s cs)
ordered_after e s [] z = λ i j a b lt h g. absurd (cc)
ordered_after e s (c ∷ cs) z =
    let next : Stop = stop_past e s c in
    let inside : Stop = moved_by c.bytes s in
    ordered_cond (is_pair c cs) (stops_after e inside cs) (next ∷ stops_after e next cs)
    (ordered_after e inside cs z.1)
    (ordered_cons next (stops_after e next cs) (after_all e next cs z.1) (ordered_after e next cs z.1))

pub stops_rise : (e : PositionEncoding) (source : List ℕ) (i j : ℕ) (s t : Stop) → i < j →
    slice_get (stops_of e source) i ≡ Some s → slice_get (stops_of e source) j ≡ Some t → Later s t
stops_rise e source =
    let cs : List Character = characters (drop 0 source) in
    let z : Sized cs = sized (length (drop 0 source)) (drop 0 source) (omega arith) in
    ordered_cons start (stops_from e source start) (after_all e start cs z) (ordered_after e start cs z)

-- ---- which stop is found

last_is : (test : Stop → Bool) (s : Stop) (ts : List Stop) (k : ℕ) (x : Stop) → slice_get (s ∷ ts) k ≡ Some x →
    ((j : ℕ) (t : Stop) → slice_get (s ∷ ts) j ≡ Some t → j ≤ k → test t ≡ true) →
    ((j : ℕ) (t : Stop) → slice_get (s ∷ ts) j ≡ Some t → k < j → test t ≡ false) → last_stop test s ts ≡ x
last_is test s [] zero x e b a = some_same s x e
last_is test s [] (suc k) x e b a = absurd (cc)
last_is test s (t ∷ ts) zero x e b a = last_here test s t (t ∷ ts) ts refl (a 1 t refl (omega arith)) ∙ some_same s x e
last_is test s (t ∷ ts) (suc k) x e b a =
    last_on test s t (t ∷ ts) ts refl (b 1 t refl (omega arith))
    ∙ last_is test t ts k x e (λ j u h le. b (suc j) u h (omega (arith, le)))
    (λ j u h lt. a (suc j) u h (omega (arith, lt)))

first_is : (test : Stop → Bool) (s : Stop) (ts : List Stop) (k : ℕ) (x : Stop) → slice_get (s ∷ ts) k ≡ Some x →
    test x ≡ true → ((j : ℕ) (t : Stop) → slice_get (s ∷ ts) j ≡ Some t → j < k → test t ≡ false) →
    first_stop test s ts ≡ x
first_is test s ts zero x e h f =
    first_here test s ts (ap test (some_same s x e) ∙ h) ∙ some_same s x e
first_is test s [] (suc k) x e h f = absurd (cc)
first_is test s (t ∷ ts) (suc k) x e h f =
    first_on test s t (t ∷ ts) ts refl (f 0 s refl (omega arith))
    ∙ first_is test t ts k x e h (λ j u g lt. f (suc j) u g (omega (arith, lt)))

-- a stop that comes before another one, or is the same
earlier : (e : PositionEncoding) (source : List ℕ) (k : ℕ) (s : Stop) → slice_get (stops_of e source) k ≡ Some s →
    (j : ℕ) (t : Stop) → slice_get (stops_of e source) j ≡ Some t → j ≤ k → Later t s ⊎ (t ≡ s)
earlier e source k s h j t g le =
    elim (cases_eq j k) [
      | inl q ↦ inr (some_same t s (sym g ∙ ap (slice_get (stops_of e source)) q ∙ h))
      | inr q ↦ inl (stops_rise e source j k t s (omega (arith, le, q)) g h)
    ]

until_offset : (s t : Stop) → Later t s ⊎ (t ≡ s) → leb t.offset s.offset ≡ true
until_offset s t (inl l) = le-leb t.offset s.offset (omega (arith, l.offset))
until_offset s t (inr e) = ap (λ (x : Stop). leb x.offset s.offset) e ∙ le-leb s.offset s.offset (omega arith)

same_until : (l c : ℕ) → (ltb l l || (eqb l l && leb c c)) ≡ true
same_until l c = grind (arith, nat_tests)

total : (l c m d : ℕ) → (ltb m l || (eqb m l && leb d c)) ≡ false → (ltb l m || (eqb l m && leb c d)) ≡ true
total l c m d h = grind (arith, nat_tests)

until_position : (s t : Stop) → Later t s ⊎ (t ≡ s) → is_until t.position s.position ≡ true
until_position s t (inl l) = total t.position.line t.position.column s.position.line s.position.column l.position
until_position s t (inr e) = ap (λ (x : Stop). is_until x.position s.position) e
    ∙ same_until s.position.line s.position.column

pub before_back : (e : PositionEncoding) (source : List ℕ) (k : ℕ) (s : Stop) →
    slice_get (stops_of e source) k ≡ Some s → stop_before e source s.offset ≡ s
before_back e source k s h =
    last_is (λ t. leb t.offset s.offset) start (stops_from e source start) k s h
    (λ j t g le. until_offset s t (earlier e source k s h j t g le))
    (λ j t g lt. lt-leb t.offset s.offset (stops_rise e source k j s t lt h g).offset)

pub after_back : (e : PositionEncoding) (source : List ℕ) (k : ℕ) (s : Stop) →
    slice_get (stops_of e source) k ≡ Some s → stop_after e source s.offset ≡ s
after_back e source k s h =
    first_is (λ t. leb s.offset t.offset) start (stops_from e source start) k s h
    (le-leb s.offset s.offset (omega arith))
    (λ j t g lt. lt-leb s.offset t.offset (stops_rise e source j k t s lt g h).offset)

pub at_back : (e : PositionEncoding) (source : List ℕ) (k : ℕ) (s : Stop) →
    slice_get (stops_of e source) k ≡ Some s → stop_at e source s.position ≡ s
at_back e source k s h =
    last_is (λ t. is_until t.position s.position) start (stops_from e source start) k s h
    (λ j t g le. until_position s t (earlier e source k s h j t g le))
    (λ j t g lt. (stops_rise e source k j s t lt h g).position)

same_place : (l c : ℕ) → (eqb l l && eqb c c) ≡ true
same_place l c = grind (arith, nat_tests)

pub offset_back : (e : PositionEncoding) (source : List ℕ) (k : ℕ) (s : Stop) →
    slice_get (stops_of e source) k ≡ Some s → offset_of e source s.position ≡ Some s.offset
offset_back e source k s h =
    ap (λ (t : Stop). cond (is_same t.position s.position) (Some t.offset) None) (at_back e source k s h)
    ∙ ap (λ b. cond b (Some s.offset) None) (same_place s.position.line s.position.column)

-- ---- a position with an offset is a stop's

abbrev Found : List Stop → Stop → Type 0
Found ss s = (k : ℕ) × (slice_get ss k ≡ Some s)

found_cond : (b : Bool) (ss : List Stop) (s t : Stop) → Found ss s → Found ss t → Found ss (cond b s t)
found_cond true ss s t h g = h
found_cond false ss s t h g = g

last_found : (test : Stop → Bool) (s : Stop) (ts : List Stop) → Found (s ∷ ts) (last_stop test s ts)
last_found test s [] = (0, refl)
last_found test s (t ∷ ts) =
    let later = last_found test t ts in
    found_cond (test t) (s ∷ t ∷ ts) (last_stop test t ts) s (suc later.0, later.1) (0, refl)

option_parts : (b : Bool) (n at : ℕ) → cond b (Some n) None ≡ Some at → (b ≡ true) × (n ≡ at)
option_parts true n at e = (refl, cc)
option_parts false n at e = absurd (cc)

abbrev stop_made : ℕ → ℕ → ℕ → Stop
stop_made offset line column = record { offset = offset; position = record { line = line; column = column } }

made_same : (o l c a m d : ℕ) → o ≡ a → l ≡ m → c ≡ d → stop_made o l c ≡ stop_made a m d
made_same o l c a m d e f g = rw (e, f, g) refl

stop_is : (s : Stop) (p : Position) (at : ℕ) → is_same s.position p ≡ true → s.offset ≡ at →
    s ≡ record { offset = at; position = p }
stop_is s p at h e =
    let parts = and_parts (eqb s.position.line p.line) (eqb s.position.column p.column) h in
    made_same s.offset s.position.line s.position.column at p.line p.column e
    (eqb-true s.position.line p.line parts.0) (eqb-true s.position.column p.column parts.1)

pub only_stop : (e : PositionEncoding) (source : List ℕ) (p : Position) (at : ℕ) → offset_of e source p ≡ Some at →
    stop_before e source at ≡ record { offset = at; position = p }
only_stop e source p at h =
    let s : Stop = stop_at e source p in
    let parts = option_parts (is_same s.position p) s.offset at h in
    let found = last_found (λ t. is_until t.position p) start (stops_from e source start) in
    ap (stop_before e source) (sym parts.1) ∙ before_back e source found.0 s found.1 ∙ stop_is s p at parts.0 parts.1
