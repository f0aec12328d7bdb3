-- The replacements of a log do what the edits of a fix do.
use Rattle.std.proofs.Common.{◌≡◌, ℕ, zero, suc, ◌+◌, ◌-◌, ◌<◌, ◌≤◌, Bool, true, false, cond, eqb, leb, ltb, ◌&&◌}
use Rattle.std.proofs.Common.{List, [], ◌∷◌, ◌++◌, map, length, drop, take, Option, Some, None, refl, sym, ap, ap₂, ◌∙◌}
use Rattle.std.proofs.Common.{append_assoc, append-nil, arith, subst, slice_get, is_none}
use Rattle.std.specs.Prelude.{slice_range}
use Rattle.std.specs.List.{list_all, list_any}
use Rattle.std.specs.Str.{is_utf8}
use Rattle.std.proofs.lemmas.Bool.{and_left, and_parts, eqb-false, le-leb, le-ltb, leb-true, ltb-false, ltb-true}
use Rattle.std.proofs.lemmas.Bool.{ne_eqb, or_from, or_parts}
use Rattle.std.proofs.Math.Seq.{take-add}
use Rattle.std.proofs.lemmas.List.{drop-drop, length-drop}
use Rattle.std.proofs.lemmas.List.Folds.{drop_split}
use Rattle.bstr.specs.Utf8.{decoded, or_replacement}
use Rattle.bstr.proofs.lemmas.PieceLemmas.{piece-bounds}
use Rattle.miette_lines.proofs.Cases.{by_cases}
use Rattle.miette_columns.specs.rules.Cells.{Character, characters}
use Rattle.miette_columns.proofs.Stepping.{characters_end, characters_step, made}
use Rattle.miette_fixes.specs.declared.error.FixError.{FixError}
use Rattle.miette_fixes.specs.rules.Applying.{by_offset, edits_error, put_edit, text_from}
use Rattle.miette_fixes.specs.rules.Edits.{Replacement, end_of, ends_after, is_after, overlap, some_overlap}
use Rattle.miette_fixes.specs.views.Ordered.{FitFrom}
use Rattle.miette_fixes.proofs.Overlaps.{fit_unrefused, unrefused}
use Rattle.miette_positions.specs.declared.position.PositionEncoding.TheVariants.{Utf16}
use Rattle.miette_positions.specs.declared.position.Stop.{Stop}
use Rattle.miette_positions.specs.declared.position.Stretch.{Stretch}
use Rattle.miette_positions.specs.rules.Regions.{first_stop, last_stop, stop_after, stop_before}
use Rattle.miette_positions.specs.rules.Stops.{is_pair, moved_by, start, stop_past, stops_after, stops_from}
use Rattle.miette_sarif.specs.rules.Findings.{ReplacementValue}
use Rattle.miette_sarif.specs.rules.Proposals.{Joined, applicable, joined, joined_from, later_end, meets, replaced}
use Rattle.miette_sarif.specs.rules.Proposals.{replacements, text_between, widened}
use Rattle.miette_read_laws.specs.laws.Boundaries.{bytes_of, parts_pair}
use Rattle.miette_read_laws.specs.laws.SameFixes.{AreParted, DoTheSame, as_edit}
use Rattle.miette_read_laws.proofs.Boundaries.{advance, among, no_pair_end, offset_is}

-- ---- stops around an edit

all_bytes : (f : ℕ) (bytes : List ℕ) → length bytes ≤ f → bytes_of (characters bytes) ≡ length bytes
all_bytes f [] le = ap bytes_of (characters_end [] refl)
all_bytes zero (b ∷ bs) le = absurd (omega (arith, le))
all_bytes (suc f) (b ∷ bs) le =
    let some : 0 < length (b ∷ bs) = omega arith in
    let size : ℕ = (decoded (b ∷ bs)).size in
    let bounds = piece-bounds (b ∷ bs) some in
    let left : List ℕ = drop size (b ∷ bs) in
    let step : characters (b ∷ bs) ≡ made (or_replacement (decoded (b ∷ bs)).char) size ∷ characters left =
    characters_step (b ∷ bs) left (or_replacement (decoded (b ∷ bs)).char) size (record {
      some = some;
      left_is = refl;
      code_is = refl;
      size_is = refl;
    }) in
    let shorter : length left ≡ length (b ∷ bs) - size = length-drop size (b ∷ bs) in
    ap bytes_of step
    ∙ omega (arith, bounds.0, bounds.2, shorter, all_bytes f left (omega (arith, le, bounds.0, shorter)))

before_low : (at : ℕ) (s : Stop) (ts : List Stop) → s.offset ≤ at
    → (last_stop (λ x. leb x.offset at) s ts).offset ≤ at
before_low at s [] le = le
before_low at s (t ∷ ts) le =
    by_cases {C = (last_stop (λ x. leb x.offset at) s (t ∷ ts)).offset ≤ at} (leb t.offset at)
    (λ y. rw y (before_low at t ts (leb-true t.offset at y))) (λ n. rw n le)

-- a stop that passes is found where there is one
passing : (at : ℕ) (s : Stop) (ts : List Stop) (k : ℕ) (x : Stop) → slice_get (s ∷ ts) k ≡ Some x → at ≤ x.offset
    → at ≤ (first_stop (λ y. leb at y.offset) s ts).offset
passing at s [] zero x is le =
    let same : s ≡ x = cc in omega (arith, le, ap (λ (y : Stop). y.offset) same)
passing at s [] (suc k) x is le = absurd (cc)
passing at s (t ∷ ts) zero x is le =
    let same : s ≡ x = cc in
    let own : at ≤ s.offset = omega (arith, le, ap (λ (y : Stop). y.offset) same) in
    rw (le-leb at s.offset own) own
passing at s (t ∷ ts) (suc k) x is le =
    by_cases {C = at ≤ (first_stop (λ y. leb at y.offset) s (t ∷ ts)).offset} (leb at s.offset)
    (λ y. rw y (leb-true at s.offset y)) (λ n. rw n (passing at t ts k x is le))

-- no stop is after the end
abbrev AreUntil : ℕ → List Stop → Type 0
AreUntil end [] = Unit {0}
AreUntil end (s ∷ ss) = (s.offset ≤ end) × AreUntil end ss

until_by : (b : Bool) (end : ℕ) (xs ys : List Stop) → AreUntil end xs → AreUntil end ys → AreUntil end (cond b xs ys)
until_by true end xs ys h k = h
until_by false end xs ys h k = k

stops_until : (s : Stop) (cs : List Character) (end : ℕ) → s.offset + bytes_of cs ≤ end
    → AreUntil end (stops_after Utf16 s cs)
stops_until s [] end le = tt
stops_until s (c ∷ cs) end le =
    let next : Stop = stop_past Utf16 s c in
    until_by (is_pair c cs) end (stops_after Utf16 (moved_by c.bytes s) cs) (next ∷ stops_after Utf16 next cs)
    (stops_until (moved_by c.bytes s) cs end (omega (arith, le)))
    (omega (arith, le), stops_until next cs end (omega (arith, le)))

first_until : (test : Stop → Bool) (end : ℕ) (s : Stop) (ts : List Stop) → AreUntil end (s ∷ ts)
    → (first_stop test s ts).offset ≤ end
first_until test end s [] h = h.0
first_until test end s (t ∷ ts) h =
    by_cases {C = (first_stop test s (t ∷ ts)).offset ≤ end} (test s)
    (λ y. rw y h.0) (λ n. rw n (first_until test end t ts h.1))

before_start : (bytes : List ℕ) (at : ℕ) → (stop_before Utf16 bytes at).offset ≤ at
before_start bytes at = before_low at start (stops_from Utf16 bytes start) (omega arith)

no_pair_back : (cs : List Character) → parts_pair cs [] ≡ false
no_pair_back [] = refl
no_pair_back (c ∷ []) = no_pair_end c
no_pair_back (c ∷ d ∷ ds) = no_pair_back (d ∷ ds)

after_end : (bytes : List ℕ) (at : ℕ) → at ≤ length bytes → at ≤ (stop_after Utf16 bytes at).offset
after_end bytes at le =
    let cs : List Character = characters bytes in
    let found = among Utf16 cs [] (no_pair_back cs) in
    let there : slice_get (start ∷ stops_from Utf16 bytes start) found.0 ≡ Some (advance Utf16 start cs) =
    ap (λ (ds : List Character). slice_get (start ∷ stops_after Utf16 start ds) found.0) (sym (append-nil cs))
    ∙ found.1 in
    passing at start (stops_from Utf16 bytes start) found.0 (advance Utf16 start cs) there
    (omega (arith, le, offset_is Utf16 start cs, all_bytes (length bytes) bytes (omega arith)))

after_inside : (bytes : List ℕ) (at : ℕ) → (stop_after Utf16 bytes at).offset ≤ length bytes
after_inside bytes at =
    first_until (λ s. leb at s.offset) (length bytes) start (stops_from Utf16 bytes start) (
      omega arith,
      stops_until start (characters bytes) (length bytes)
          (omega (arith, all_bytes (length bytes) bytes (omega arith))),
    )

-- ---- texts

range_both : (bytes : List ℕ) (from mid to : ℕ) → from ≤ mid → mid ≤ to
    → slice_range bytes from mid ++ slice_range bytes mid to ≡ slice_range bytes from to
range_both bytes from mid to low high =
    let n : ℕ = mid - from in
    let m : ℕ = to - mid in
    let rest : List ℕ = drop from bytes in
    let sum : to - from ≡ n + m = omega (arith, low, high) in
    let at : from + n ≡ mid = omega (arith, low) in
    sym (ap (λ k. take k rest) sum ∙ take-add n m rest
    ∙ ap (λ ys. take n rest ++ take m ys) (drop-drop n from bytes ∙ ap (λ k. drop k bytes) at))

range_none : (bytes : List ℕ) (at : ℕ) → slice_range bytes at at ≡ []
range_none bytes at = let none : at - at ≡ 0 = omega arith in ap (λ k. take k (drop at bytes)) none

-- edits begin after an offset
abbrev BeginAfter : ℕ → List Replacement → Type 0
BeginAfter at [] = Unit {0}
BeginAfter at (e ∷ es) = at ≤ e.span.offset

text_split : (bytes : List ℕ) (at mid : ℕ) (es : List Replacement) → at ≤ mid → BeginAfter mid es
    → text_from bytes at es ≡ slice_range bytes at mid ++ text_from bytes mid es
text_split bytes at mid [] le h = drop_split bytes at mid le
text_split bytes at mid (e ∷ es) le h =
    let rest : List ℕ = text_from bytes (end_of e) es in
    ap (λ t. t ++ e.text ++ rest) (sym (range_both bytes at mid e.span.offset le h))
    ∙ ap (λ t. t ++ rest) (append_assoc (slice_range bytes at mid) (slice_range bytes mid e.span.offset) e.text)
    ∙ append_assoc (slice_range bytes at mid) (slice_range bytes mid e.span.offset ++ e.text) rest

-- edits in order from one offset up to another
abbrev Linked : ℕ → List Replacement → ℕ → Type 0
Linked from [] to = from ≤ to
Linked from (e ∷ es) to = (from ≤ e.span.offset) × Linked (end_of e) es to

linked_le : (from to : ℕ) (es : List Replacement) → Linked from es to → from ≤ to
linked_le from to [] h = h
linked_le from to (e ∷ es) h = omega (arith, h.0, linked_le (end_of e) to es h.1)

linked_more : (from to : ℕ) (es : List Replacement) (e : Replacement) → Linked from es to → to ≤ e.span.offset
    → Linked from (es ++ e ∷ []) (end_of e)
linked_more from to [] e h le = (omega (arith, h, le), omega arith)
linked_more from to (d ∷ es) e h le = (h.0, linked_more (end_of d) to es e h.1 le)

linked_on : (from to later : ℕ) (es : List Replacement) → Linked from es to → to ≤ later → Linked from es later
linked_on from to later [] h le = omega (arith, h, le)
linked_on from to later (e ∷ es) h le = (h.0, linked_on (end_of e) to later es h.1 le)

joined_text : (bytes : List ℕ) (at from to : ℕ) (es rest : List Replacement) → at ≤ from → Linked from es to
    → BeginAfter to rest
    → slice_range bytes at from ++ text_between bytes from to es ++ text_from bytes to rest
    ≡ text_from bytes at (es ++ rest)
joined_text bytes at from to [] rest le h k =
    ap (λ t. t ++ text_from bytes to rest) (range_both bytes at from to le h)
    ∙ sym (text_split bytes at to rest (omega (arith, le, h)) k)
joined_text bytes at from to (e ∷ es) rest le h k =
    let first : List ℕ = slice_range bytes from e.span.offset in
    let later : List ℕ = text_between bytes (end_of e) to es in
    let last : List ℕ = text_from bytes to rest in
    let inner : slice_range bytes (end_of e) (end_of e) ++ later ++ last ≡ text_from bytes (end_of e) (es ++ rest) =
    joined_text bytes (end_of e) (end_of e) to es rest (omega arith) h.1 k in
    let own : later ++ last ≡ text_from bytes (end_of e) (es ++ rest) =
    sym (ap (λ t. t ++ later ++ last) (range_none bytes (end_of e))) ∙ inner in
    ap (λ t. t ++ last) (ap (λ t. slice_range bytes at from ++ t) (append_assoc first e.text later)
    ∙ sym (append_assoc (slice_range bytes at from) first (e.text ++ later))
    ∙ ap (λ t. t ++ (e.text ++ later)) (range_both bytes at from e.span.offset le h.0))
    ∙ append_assoc (slice_range bytes at e.span.offset) (e.text ++ later) last
    ∙ ap (λ t. slice_range bytes at e.span.offset ++ t) (append_assoc e.text later last
    ∙ ap (λ t. e.text ++ t) own)
    ∙ sym (append_assoc (slice_range bytes at e.span.offset) e.text (text_from bytes (end_of e) (es ++ rest)))

-- ---- joined edits

-- Edits that are joined so far, up to `to`. The range covers them.
record IsJoined (n : ℕ) (j : Joined) (to : ℕ) : Type 0 where
  linked : Linked j.deleted.start.offset j.edits to
  covers : to ≤ j.deleted.end.offset
  inside : j.deleted.end.offset ≤ n

abbrev as_edits : List ReplacementValue → List Replacement
as_edits rs = map as_edit rs

abbrev told : List ℕ → List Joined → List Replacement
told bytes js = as_edits (map (replaced bytes) js)

joined_end : (n to : ℕ) (j : Joined) → IsJoined n j to
    → j.deleted.start.offset + (j.deleted.end.offset - j.deleted.start.offset) ≡ j.deleted.end.offset
joined_end n to j h = omega (arith, linked_le j.deleted.start.offset to j.edits h.linked, h.covers)

-- an edit alone
widened_one : (bytes : List ℕ) (e : Replacement) → end_of e ≤ length bytes
    → IsJoined (length bytes) (record { deleted = widened bytes e; edits = e ∷ [] }) (end_of e)
widened_one bytes e le = record {
  linked = (before_start bytes e.span.offset, omega arith);
  covers = after_end bytes (end_of e) le;
  inside = after_inside bytes (end_of e);
}

later_by : (b : Bool) (s t : Stretch) → (ltb s.end.offset t.end.offset ≡ b)
    → (s.end.offset ≤ (record s { end = cond b t.end s.end }).end.offset)
    × (t.end.offset ≤ (record s { end = cond b t.end s.end }).end.offset)
later_by true s t is = let lt : s.end.offset < t.end.offset = ltb-true s.end.offset t.end.offset is in
    (omega (arith, lt), omega arith)
later_by false s t is = (omega arith, ltb-false s.end.offset t.end.offset is)

inside_by : (b : Bool) (n : ℕ) (s t : Stretch) → s.end.offset ≤ n → t.end.offset ≤ n
    → (record s { end = cond b t.end s.end }).end.offset ≤ n
inside_by true n s t h k = k
inside_by false n s t h k = h

-- one more edit
widened_more : (bytes : List ℕ) (j : Joined) (to : ℕ) (e : Replacement) → IsJoined (length bytes) j to
    → to ≤ e.span.offset → end_of e ≤ length bytes
    → IsJoined (length bytes) (record {
      deleted = later_end j.deleted (widened bytes e);
      edits = j.edits ++ e ∷ [];
    }) (end_of e)
widened_more bytes j to e h le end =
    let w : Stretch = widened bytes e in
    let one = widened_one bytes e end in
    let later = later_by (ltb j.deleted.end.offset w.end.offset) j.deleted w refl in
    record {
      linked = linked_more j.deleted.start.offset to j.edits e h.linked le;
      covers = omega (arith, one.covers, later.1);
      inside = inside_by (ltb j.deleted.end.offset w.end.offset) (length bytes) j.deleted w h.inside one.inside;
    }

-- ---- they make the same text

joined_same : (bytes : List ℕ) (at to : ℕ) (j : Joined) (es : List Replacement) → at ≤ j.deleted.start.offset
    → IsJoined (length bytes) j to → FitFrom (length bytes) to es
    → text_from bytes at (told bytes (joined_from bytes j es)) ≡ text_from bytes at (j.edits ++ es)
joined_same bytes at to j [] le h fit =
    ap (λ k. slice_range bytes at j.deleted.start.offset
    ++ text_between bytes j.deleted.start.offset j.deleted.end.offset j.edits ++ drop k bytes)
    (joined_end (length bytes) to j h)
    ∙ joined_text bytes at j.deleted.start.offset j.deleted.end.offset j.edits [] le
    (linked_on j.deleted.start.offset to j.deleted.end.offset j.edits h.linked h.covers) tt
joined_same bytes at to j (e ∷ es) le h fit =
    let w : Stretch = widened bytes e in
    let next : Joined = record { deleted = w; edits = e ∷ [] } in
    by_cases {C = text_from bytes at (told bytes (joined_from bytes j (e ∷ es)))
    ≡ text_from bytes at (j.edits ++ e ∷ es)} (meets j.deleted w)
    (λ y. rw y (joined_same bytes at (end_of e) (record { deleted = later_end j.deleted w; edits = j.edits ++ e ∷ [] })
    es le (widened_more bytes j to e h fit.0 fit.1) fit.2
    ∙ ap (text_from bytes at) (append_assoc j.edits (e ∷ []) es)))
    (λ n. let apart = or_parts (ltb w.start.offset j.deleted.end.offset) (eqb w.start.offset j.deleted.start.offset) n
    in
    let after : j.deleted.end.offset ≤ w.start.offset = ltb-false w.start.offset j.deleted.end.offset apart.0 in
    let one = widened_one bytes e fit.1 in
    let below : text_from bytes j.deleted.end.offset (told bytes (joined_from bytes next es))
    ≡ text_from bytes j.deleted.end.offset (e ∷ es) =
    joined_same bytes j.deleted.end.offset (end_of e) next es after one fit.2 in
    let begins : j.deleted.end.offset ≤ e.span.offset = omega (arith, after, one.linked.0) in
    rw n (ap (λ k. slice_range bytes at j.deleted.start.offset
    ++ text_between bytes j.deleted.start.offset j.deleted.end.offset j.edits
    ++ text_from bytes k (told bytes (joined_from bytes next es))) (joined_end (length bytes) to j h)
    ∙ ap (λ t. slice_range bytes at j.deleted.start.offset
    ++ text_between bytes j.deleted.start.offset j.deleted.end.offset j.edits ++ t) below
    ∙ joined_text bytes at j.deleted.start.offset j.deleted.end.offset j.edits (e ∷ es) le
    (linked_on j.deleted.start.offset to j.deleted.end.offset j.edits h.linked h.covers) begins))

-- ---- and don't touch

joined_apart : (bytes : List ℕ) (at low to : ℕ) (j : Joined) (es : List Replacement) → at ≤ j.deleted.start.offset
    → low ≤ j.deleted.start.offset → IsJoined (length bytes) j to → FitFrom (length bytes) to es
    → AreParted (length bytes) at low (told bytes (joined_from bytes j es))
joined_apart bytes at low to j [] le from h fit =
    (le, from, omega (arith, joined_end (length bytes) to j h, h.inside), tt)
joined_apart bytes at low to j (e ∷ es) le from h fit =
    let w : Stretch = widened bytes e in
    let next : Joined = record { deleted = w; edits = e ∷ [] } in
    by_cases {C = AreParted (length bytes) at low (told bytes (joined_from bytes j (e ∷ es)))} (meets j.deleted w)
    (λ y. rw y (joined_apart bytes at low (end_of e)
    (record { deleted = later_end j.deleted w; edits = j.edits ++ e ∷ [] }) es le from
    (widened_more bytes j to e h fit.0 fit.1) fit.2))
    (λ n. let apart = or_parts (ltb w.start.offset j.deleted.end.offset) (eqb w.start.offset j.deleted.start.offset) n
    in
    let after : j.deleted.end.offset ≤ w.start.offset = ltb-false w.start.offset j.deleted.end.offset apart.0 in
    let end = joined_end (length bytes) to j h in
    let order = linked_le j.deleted.start.offset to j.edits h.linked in
    let higher : j.deleted.start.offset + 1 ≤ w.start.offset =
    strictly w.start.offset j.deleted.start.offset (omega (arith, after, order, h.covers))
    (eqb-false w.start.offset j.deleted.start.offset apart.1) in
    rw n (
      le,
      from,
      omega (arith, end, h.inside),
      joined_apart bytes (j.deleted.start.offset + (j.deleted.end.offset - j.deleted.start.offset))
          (j.deleted.start.offset + 1) (end_of e) next es (omega (arith, end, after)) higher (widened_one bytes e fit.1)
          fit.2,
    ))
  where
    strictly : (x y : ℕ) → y ≤ x → (x ≡ y → ⊥) → y + 1 ≤ x
    strictly x y le differ = omega (arith, le, differ)

-- ---- edits that don't touch are in order, and can be applied

inside_all : (n at low : ℕ) (es : List Replacement) → AreParted n at low es → list_any (ends_after n) es ≡ false
inside_all n at low [] h = refl
inside_all n at low (e ∷ es) h =
    or_from (ends_after n e) (list_any (ends_after n) es) (le-ltb n (end_of e) h.2)
    (inside_all n (end_of e) (e.span.offset + 1) es h.3)

not_after : (e next : Replacement) → e.span.offset < next.span.offset → is_after e next ≡ false
not_after e next lt =
    or_from (ltb next.span.offset e.span.offset) ((eqb next.span.offset e.span.offset) && ltb next.span.len e.span.len)
    (le-ltb next.span.offset e.span.offset (omega (arith, lt)))
    (and_left (eqb next.span.offset e.span.offset) (ltb next.span.len e.span.len)
    (ne_eqb next.span.offset e.span.offset (λ same. omega (arith, lt, same))))

apart_from : (n at low : ℕ) (e : Replacement) (es : List Replacement) → AreParted n at low es → end_of e ≤ at
    → e.span.offset < low → list_any (overlap e) es ≡ false
apart_from n at low e [] h end lt = refl
apart_from n at low e (x ∷ es) h end lt =
    let first : is_after e x ≡ false = not_after e x (omega (arith, lt, h.1)) in
    let after : ltb x.span.offset (end_of e) ≡ false = le-ltb x.span.offset (end_of e) (omega (arith, end, h.0)) in
    let own : overlap e x ≡ false = rw (first, after) refl in
    or_from (overlap e x) (list_any (overlap e) es) own
    (apart_from n (end_of x) (x.span.offset + 1) e es h.3 (omega (arith, end, h.0)) (omega (arith, lt, h.1)))

none_overlap : (n at low : ℕ) (es : List Replacement) → AreParted n at low es → some_overlap es ≡ false
none_overlap n at low [] h = refl
none_overlap n at low (e ∷ es) h =
    or_from (list_any (overlap e) es) (some_overlap es)
    (apart_from n (end_of e) (e.span.offset + 1) e es h.3 (omega arith) (omega arith))
    (none_overlap n (end_of e) (e.span.offset + 1) es h.3)

parted_valid : (n at low : ℕ) (es : List Replacement) → AreParted n at low es → edits_error n es ≡ None
parted_valid n at low es h = unrefused n es (inside_all n at low es h) (none_overlap n at low es h)

put_first : (n at : ℕ) (e : Replacement) (es : List Replacement) → AreParted n at (e.span.offset + 1) es
    → put_edit e es ≡ e ∷ es
put_first n at e [] h = refl
put_first n at e (next ∷ es) h = rw (not_after e next (omega (arith, h.1))) refl

in_order : (n at low : ℕ) (es : List Replacement) → AreParted n at low es → by_offset es ≡ es
in_order n at low [] h = refl
in_order n at low (e ∷ es) h =
    ap (put_edit e) (in_order n (end_of e) (e.span.offset + 1) es h.3) ∙ put_first n (end_of e) e es h.3

-- ---- a fix

parted_all : (bytes : List ℕ) (es : List Replacement) → FitFrom (length bytes) 0 es
    → AreParted (length bytes) 0 0 (told bytes (joined bytes es))
parted_all bytes [] fit = tt
parted_all bytes (e ∷ es) fit =
    joined_apart bytes 0 0 (end_of e) (record { deleted = widened bytes e; edits = e ∷ [] }) es (omega arith)
    (omega arith) (widened_one bytes e fit.1) fit.2

same_all : (bytes : List ℕ) (es : List Replacement) → FitFrom (length bytes) 0 es
    → text_from bytes 0 (told bytes (joined bytes es)) ≡ text_from bytes 0 es
same_all bytes [] fit = refl
same_all bytes (e ∷ es) fit =
    joined_same bytes 0 (end_of e) (record { deleted = widened bytes e; edits = e ∷ [] }) es (omega arith)
    (widened_one bytes e fit.1) fit.2

do_same : (bytes : List ℕ) (edits : List Replacement) → edits_error (length bytes) edits ≡ None
    → DoTheSame bytes edits (replacements bytes edits)
do_same bytes edits valid =
    let n : ℕ = length bytes in
    let es : List Replacement = by_offset edits in
    let fit : FitFrom n 0 es = fit_unrefused n edits valid in
    let parted : AreParted n 0 0 (told bytes (joined bytes es)) = parted_all bytes es fit in
    record {
      valid = parted_valid n 0 0 (told bytes (joined bytes es)) parted;
      apart = parted;
      same = ap (text_from bytes 0) (in_order n 0 0 (told bytes (joined bytes es)) parted) ∙ same_all bytes es fit;
    }

-- what is given if it is given under a condition
given_if : (b : Bool) (rs found : List ReplacementValue) → cond b (Some rs) None ≡ Some found
    → (b ≡ true) × (rs ≡ found)
given_if true rs found is = (refl, cc)
given_if false rs found is = absurd (cc)

none_is : (o : Option FixError) → is_none o ≡ true → o ≡ None
none_is None h = refl
none_is (Some e) h = absurd (cc)

pub fixes_same : (bytes : List ℕ) (edits : List Replacement) (rs : List ReplacementValue)
    → applicable bytes edits ≡ Some rs → DoTheSame bytes edits rs
fixes_same bytes edits rs is =
    let own : List ReplacementValue = replacements bytes edits in
    let texts : Bool = list_all (λ r. is_utf8 r.text) own in
    let given = given_if (is_none (edits_error (length bytes) edits) && texts) own rs is in
    let valid = and_parts (is_none (edits_error (length bytes) edits)) texts given.0 in
    subst (λ (found : List ReplacementValue). DoTheSame bytes edits found) given.1
    (do_same bytes edits (none_is (edits_error (length bytes) edits) valid.0))
