-- Beside a blank, and at its end, a source can be cut.
use Rattle.std.proofs.Common.{◌≡◌, ℕ, zero, suc, ◌+◌, ◌-◌, ◌<◌, ◌≤◌, ◌⊎◌, Bool, true, false, cond, ◌&&◌, ◌||◌, eqb}
use Rattle.std.proofs.Common.{List, [], ◌∷◌, ◌++◌, length, map, take, drop, get_or, Some, refl, sym, ap}
use Rattle.std.proofs.Common.{◌∙◌, arith, subst, inl, inr, append_assoc, append-nil}
use Rattle.std.specs.Prelude.{slice_get, slice_index}
use Rattle.std.proofs.lemmas.Bool.{cases_lt, eqb-true}
use Rattle.std.proofs.lemmas.List.{drop_more, get_or_past, length-drop, length-take-le}
use Rattle.std.proofs.lemmas.List.{map-append, take-append-drop}
use Rattle.bstr.specs.Utf8.{continues, decoded, or_replacement, pieces}
use Rattle.bstr.proofs.lemmas.PieceLemmas.{StartsClean, piece-bounds, pieces-append}
use Rattle.miette_lines.proofs.Cases.{by_cases}
use Rattle.miette_columns.specs.rules.Cells.{Character, characters}
use Rattle.miette_columns.proofs.Plaining.{ascii_decoded}
use Rattle.miette_columns.proofs.Stepping.{character, characters_end, characters_step, made}
use Rattle.miette_lint.specs.rules.Findings.{is_blank}
use Rattle.miette_lint.proofs.EditPlaces.{IsBeside}
use Rattle.miette_positions.specs.declared.position.PositionEncoding.{PositionEncoding}
use Rattle.miette_positions.specs.declared.position.Stop.{Stop}
use Rattle.miette_positions.specs.rules.Stops.{begins_with_lf, is_pair, moved_by, start, stop_past, stops_after}
use Rattle.miette_positions.specs.rules.Stops.{stops_of}

-- ---- stops of characters

abbrev bytes_of : List Character → ℕ
bytes_of [] = 0
bytes_of (c ∷ cs) = c.bytes + bytes_of cs

bytes_joined : (cs ds : List Character) → bytes_of (cs ++ ds) ≡ bytes_of cs + bytes_of ds
bytes_joined [] ds = omega arith
bytes_joined (c ∷ cs) ds = omega (arith, bytes_joined cs ds)

bytes_are : (f : ℕ) (bytes : List ℕ) → length bytes ≤ f → bytes_of (characters bytes) ≡ length bytes
bytes_are f [] le = ap bytes_of (characters_end [] refl)
bytes_are zero (b ∷ bs) le = absurd (omega (arith, le))
bytes_are (suc f) (b ∷ bs) le =
    let some : 0 < length (b ∷ bs) = omega arith in
    let size : ℕ = (decoded (b ∷ bs)).size in
    let bounds = piece-bounds (b ∷ bs) some in
    let left : List ℕ = drop size (b ∷ bs) in
    let step : characters (b ∷ bs) ≡ made (or_replacement (decoded (b ∷ bs)).char) size ∷ characters left =
    characters_step (b ∷ bs) left (or_replacement (decoded (b ∷ bs)).char) size (record {
      some = some;
      left_is = refl;
      code_is = refl;
      size_is = refl;
    }) in
    let fewer : length left ≡ length (b ∷ bs) - size = length-drop size (b ∷ bs) in
    let rest : bytes_of (characters left) ≡ length left =
    bytes_are f left (omega (arith, le, bounds.0, fewer)) in
    let all : bytes_of (characters (b ∷ bs)) ≡ size + bytes_of (characters left) = ap bytes_of step in
    omega (arith, all, rest, fewer, bounds.2)

-- one of some stops stands at an offset
abbrev pub IsAmong : List Stop → ℕ → Type 0
IsAmong ss at = (k : ℕ) × (t : Stop) × (slice_get ss k ≡ Some t) × (t.offset ≡ at)

among_later : (s : Stop) (ss : List Stop) (at : ℕ) → IsAmong ss at → IsAmong (s ∷ ss) at
among_later s ss at h = (suc h.0, h.1, h.2, h.3)

-- the last of some characters is no CR of an LF after them
abbrev AreWhole : List Character → List Character → Type 0
AreWhole [] ds = Unit {0}
AreWhole (c ∷ []) ds = is_pair c ds ≡ false
AreWhole (c ∷ d ∷ cs) ds = AreWhole (d ∷ cs) ds

after_some : (e : PositionEncoding) (s : Stop) (c : Character) (cs ds : List Character) → AreWhole (c ∷ cs) ds
    → IsAmong (stops_after e s ((c ∷ cs) ++ ds)) (s.offset + bytes_of (c ∷ cs))
after_some e s c [] ds whole =
    let here : Stop = stop_past e s c in
    let inside : List Stop = stops_after e (moved_by c.bytes s) ds in
    let later : List Stop = here ∷ stops_after e here ds in
    let found : IsAmong later (s.offset + bytes_of (c ∷ [])) = (0, here, refl, omega arith) in
    subst (λ b. IsAmong (cond b inside later) (s.offset + bytes_of (c ∷ []))) (sym whole) found
after_some e s c (d ∷ cs) ds whole =
    let at : ℕ = s.offset + bytes_of (c ∷ d ∷ cs) in
    let rest : List Character = (d ∷ cs) ++ ds in
    let here : Stop = stop_past e s c in
    let moved : Stop = moved_by c.bytes s in
    let inside : List Stop = stops_after e moved rest in
    let later : List Stop = here ∷ stops_after e here rest in
    let same : s.offset + c.bytes + bytes_of (d ∷ cs) ≡ at = omega arith in
    by_cases {C = IsAmong (stops_after e s ((c ∷ d ∷ cs) ++ ds)) at} (is_pair c rest)
    (λ t. subst (λ b. IsAmong (cond b inside later) at) (sym t)
    (subst (IsAmong inside) same (after_some e moved d cs ds whole)))
    (λ f. subst (λ b. IsAmong (cond b inside later) at) (sym f)
    (among_later here (stops_after e here rest) at
    (subst (IsAmong (stops_after e here rest)) same (after_some e here d cs ds whole))))

after_any : (e : PositionEncoding) (s : Stop) (cs ds : List Character) → AreWhole cs ds
    → IsAmong (s ∷ stops_after e s (cs ++ ds)) (s.offset + bytes_of cs)
after_any e s [] ds whole = (0, s, refl, omega arith)
after_any e s (c ∷ cs) ds whole =
    among_later s (stops_after e s ((c ∷ cs) ++ ds)) (s.offset + bytes_of (c ∷ cs)) (after_some e s c cs ds whole)

cut_after : (e : PositionEncoding) (source : List ℕ) (cs ds : List Character) (at : ℕ)
    → characters source ≡ cs ++ ds → bytes_of cs ≡ at → AreWhole cs ds → IsAmong (stops_of e source) at
cut_after e source cs ds at is size whole =
    let sum : 0 + bytes_of cs ≡ at = omega (arith, size) in
    subst (λ (all : List Character). IsAmong (start ∷ stops_after e start all) at) (sym is)
    (subst (IsAmong (start ∷ stops_after e start (cs ++ ds))) sum (after_any e start cs ds whole))

and_false : (a b : Bool) → b ≡ false → (a && b) ≡ false
and_false true b h = h
and_false false b h = refl

-- before what is no LF
whole_before : (cs ds : List Character) → begins_with_lf ds ≡ false → AreWhole cs ds
whole_before [] ds h = tt
whole_before (c ∷ []) ds h = and_false (eqb c.code 13) (begins_with_lf ds) h
whole_before (c ∷ d ∷ cs) ds h = whole_before (d ∷ cs) ds h

-- after what is no CR
whole_after : (cs : List Character) (d : Character) (ds : List Character) → eqb d.code 13 ≡ false
    → AreWhole (cs ++ d ∷ []) ds
whole_after [] d ds h = ap (λ b. b && begins_with_lf ds) h
whole_after (c ∷ []) d ds h = ap (λ b. b && begins_with_lf ds) h
whole_after (c ∷ b ∷ cs) d ds h = whole_after (b ∷ cs) d ds h

-- ---- blanks

record IsPlain (b : ℕ) : Type 0 where
  small : b < 128
  clean : continues b ≡ false
  lf : eqb b 10 ≡ false
  cr : eqb b 13 ≡ false

or_cases : (a b : Bool) → (a || b) ≡ true → (a ≡ true) ⊎ (b ≡ true)
or_cases true b h = inl refl
or_cases false b h = inr h

plain_blank : (b : ℕ) → is_blank b ≡ true → IsPlain b
plain_blank b h =
    elim (or_cases (eqb b 32) (eqb b 9) h) [
      | inl t ↦ subst IsPlain (sym (eqb-true b 32 t))
          (record { small = omega arith; clean = refl; lf = refl; cr = refl })
      | inr t ↦ subst IsPlain (sym (eqb-true b 9 t))
          (record { small = omega arith; clean = refl; lf = refl; cr = refl })
    ]

ascii_first : (b : ℕ) (bs : List ℕ) → b < 128 → characters (b ∷ bs) ≡ made b 1 ∷ characters bs
ascii_first b bs h =
    let is = ascii_decoded b bs h in
    characters_step (b ∷ bs) bs b 1 (record {
      some = omega arith;
      left_is = refl;
      code_is = sym (ap (λ d. or_replacement d.char) is);
      size_is = sym (ap (λ d. d.size) is);
    })

-- a blank, with the characters before it and after it
record IsCutAt (source : List ℕ) (i b : ℕ) : Type 0 where
  plain : IsPlain b
  parts : characters source ≡ characters (take i source) ++ made b 1 ∷ characters (drop (i + 1) source)
  size : bytes_of (characters (take i source)) ≡ i

blank_within : (source : List ℕ) (i : ℕ) → is_blank (get_or source i 0) ≡ true → i < length source
blank_within source i h =
    elim (cases_lt i (length source)) [
      | inl lt ↦ lt
      | inr le ↦ (let bad : false ≡ true = ap is_blank (sym (get_or_past source i 0 le)) ∙ h in absurd (cc))
    ]

cut_at : (source : List ℕ) (i : ℕ) → is_blank (get_or source i 0) ≡ true → IsCutAt source i (get_or source i 0)
cut_at source i h =
    let b : ℕ = get_or source i 0 in
    let lt : i < length source = blank_within source i h in
    let plain : IsPlain b = plain_blank b h in
    let front : List ℕ = take i source in
    let rest : List ℕ = drop i source in
    let next : List ℕ = drop (i + 1) source in
    let first : rest ≡ b ∷ next = drop_more source i 0 lt in
    let clean : StartsClean rest = λ some. ap (λ bs. continues (slice_index bs 0)) first ∙ plain.clean in
    let split : characters (front ++ rest) ≡ characters front ++ characters rest =
    ap (λ ps. map character ps) (pieces-append (length front) front rest (omega arith) clean)
    ∙ map-append character (pieces front) (pieces rest) in
    record {
      plain = plain;
      parts = ap characters (sym (take-append-drop i source)) ∙ split
          ∙ ap (λ bs. characters front ++ characters bs) first
          ∙ ap (λ cs. characters front ++ cs) (ascii_first b next plain.small);
      size = bytes_are (length front) front (omega arith) ∙ length-take-le i source (omega (arith, lt));
    }

before_blank : (e : PositionEncoding) (source : List ℕ) (i : ℕ) → is_blank (get_or source i 0) ≡ true
    → IsAmong (stops_of e source) i
before_blank e source i h =
    let b : ℕ = get_or source i 0 in
    let cut : IsCutAt source i b = cut_at source i h in
    let next : List Character = made b 1 ∷ characters (drop (i + 1) source) in
    cut_after e source (characters (take i source)) next i cut.parts cut.size
    (whole_before (characters (take i source)) next cut.plain.lf)

after_blank : (e : PositionEncoding) (source : List ℕ) (i : ℕ) → is_blank (get_or source i 0) ≡ true
    → IsAmong (stops_of e source) (i + 1)
after_blank e source i h =
    let b : ℕ = get_or source i 0 in
    let cut : IsCutAt source i b = cut_at source i h in
    let front : List Character = characters (take i source) in
    let rest : List Character = characters (drop (i + 1) source) in
    let size : bytes_of (front ++ made b 1 ∷ []) ≡ i + 1 =
    omega (arith, bytes_joined front (made b 1 ∷ []), cut.size) in
    cut_after e source (front ++ made b 1 ∷ []) rest (i + 1)
    (cut.parts ∙ sym (append_assoc front (made b 1 ∷ []) rest)) size (whole_after front (made b 1) rest cut.plain.cr)

at_end : (e : PositionEncoding) (source : List ℕ) → IsAmong (stops_of e source) (length source)
at_end e source =
    cut_after e source (characters source) [] (length source) (sym (append-nil (characters source)))
    (bytes_are (length source) source (omega arith)) (whole_before (characters source) [] refl)

pub beside_stop : (e : PositionEncoding) (source : List ℕ) (at : ℕ) → IsBeside source at
    → IsAmong (stops_of e source) at
beside_stop e source at (inl end) = subst (IsAmong (stops_of e source)) (sym end) (at_end e source)
beside_stop e source at (inr (inl blank)) = before_blank e source at blank
beside_stop e source at (inr (inr h)) =
    subst (IsAmong (stops_of e source)) (sym h.1) (after_blank e source h.0 h.2)
