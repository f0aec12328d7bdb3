-- Places of a line's text from which a walk over its characters goes on.
use Rattle.std.proofs.Common.{ℕ, zero, suc, ◌+◌, ◌-◌, ◌<◌, ◌≤◌, ◌≡◌, ◌||◌, Bool, true, false, inl, inr, List, [], ◌∷◌}
use Rattle.std.proofs.Common.{◌++◌, Option, Some, None, length, drop, refl, sym, ap, subst, ◌∙◌, append_assoc}
use Rattle.std.proofs.Common.{append-nil, arith, string_bytes, String}
use Rattle.std.specs.Prelude.{IsUtf8, chars, encode_utf8, if◌then◌else◌}
use Rattle.std.proofs.lemmas.Bool.{or_cases, cond-true, cond-false}
use Rattle.std.proofs.lemmas.List.{drop-drop}
use Rattle.std.proofs.lemmas.Option.{none-some, same_Some}
use Rattle.std.proofs.lemmas.Str.{IsUtf8-string_bytes}
use Rattle.ucd_emoji.specs.Binary.{is_emoji_variation_base}
use Rattle.unicode_width.specs.Width.{str_width}
use Rattle.miette_columns.specs.rules.Cells.{characters}
use Rattle.miette_columns.specs.rules.Widths.{width_of}
use Rattle.miette_columns.proofs.Stepping.{IsFirst, characters_step}
use Rattle.miette_lines.proofs.Cases.{by_cases}
use Rattle.miette_columns.specs.declared.overlap.Overlap.{Overlap}
use Rattle.miette_columns.specs.declared.overlap.Overlap.TheVariants.{Nothing}
use Rattle.miette_columns.specs.declared.checkpoints.Checkpoint.{Checkpoint}
use Rattle.miette_columns.specs.rules.Columns.{text_up_to, is_boundary, column}
use Rattle.miette_columns.specs.steps.SplitPoints.{may_split, may_split_flags, opens, end_overlap, overlap_between}
use Rattle.miette_columns.specs.steps.Checkpoints.{overlap_text, IsHeld, twice, column_past, IsCheckpoint}
use Rattle.miette_columns.proofs.Columning.{IsNext, IsRead, is_next, IsOver, none_over, one_over, begun_more}
use Rattle.miette_columns.proofs.Columning.{begun_zero, chars_pushed}
use Rattle.miette_columns.proofs.Columning.{at_boundary, off_boundary, after_boundary, after_other, twice_boundary}
use Rattle.miette_columns.proofs.Columning.{twice_other, told_column, boundary_at_zero, all_at_zero}
use Rattle.miette_columns.proofs.PartedTexts.{parted, no_width}
use Rattle.miette_columns.proofs.SettledTexts.{Settles, settled, EndsIn, end_settles}
use Rattle.miette_columns.proofs.Flags.{EndsInFlags, flags_part}

pub first_place : (text : List ℕ) (place : Checkpoint) → place.bytes ≡ 0 → place.column ≡ 0 → place.widths ≡ 0
    → place.overlap ≡ Nothing → place.twice ≡ 0 → IsCheckpoint text place
first_place text place b c w f d = (
  omega (arith, b),
  (
    subst IsHeld (sym f) refl,
    λ more.
        let start = drop place.bytes text in
        let cs = characters start in
        let same : start ≡ text = ap (λ k. drop k text) b in
        let at : place.bytes + more ≡ more = omega (arith, b) in
        let here : column (place.bytes + more) (characters text) ≡ column more cs =
        ap (λ k. column k (characters text)) at ∙ ap (λ t. column more (characters t)) (sym same) in
        by_cases {C = column (place.bytes + more) (characters text) + twice place more cs ≡ column_past place more cs}
        (is_boundary more cs)
        (λ y.
        let bare : str_width false (overlap_text place.overlap ++ text_up_to more cs)
        ≡ str_width false (text_up_to more cs) = ap (λ h. str_width false (overlap_text h ++ text_up_to more cs)) f in
        let wide = at_boundary start more y in
        let is_past = after_boundary place start more y in
        let none = twice_boundary place start more y in
        omega (arith, here, c, d, bare, wide, is_past, none))
        (λ n.
        let wide = off_boundary start more n in
        let is_past = after_other place start more n in
        let none = twice_other place start more n in
        omega (arith, here, w, wide, is_past, none)),
  ),
)

-- the column of an offset that lies after a place
pub column_from : (text : List ℕ) (place : Checkpoint) (bytes result : ℕ) → IsCheckpoint text place
    → place.bytes ≤ bytes
    → result ≡ told_column place (bytes - place.bytes) (characters (drop place.bytes text)) →
    result ≡ column bytes (characters text)
column_from text place bytes result is le h =
    let at : place.bytes + (bytes - place.bytes) ≡ bytes = omega arith in
    let same = ap (λ k. column k (characters text)) at in
    let told = is.1.1 (bytes - place.bytes) in
    omega (arith, h, same, told)

-- ---- from one place to the next

-- the bytes of a text from a place up to `bytes` are over
pub record IsSince (text : List ℕ) (from : Checkpoint) (over : List ℕ) (sum bytes : ℕ) : Type 0 where
  pub after : from.bytes ≤ bytes
  pub within : bytes ≤ length text
  pub each : (more : ℕ) → IsOver (overlap_text from.overlap) from.widths (drop from.bytes text)
      ((bytes - from.bytes) + more) over sum (drop bytes text) more

pub none_since : (text : List ℕ) (from : Checkpoint) (over : List ℕ) → from.bytes ≤ length text → chars over
    ≡ overlap_text from.overlap → IsSince text from over from.widths from.bytes
none_since text from over le e =
    record {
      after = omega arith;
      within = le;
      each = λ more.
          let at : more ≡ (from.bytes - from.bytes) + more = omega arith in
          subst (λ k. IsOver (overlap_text from.overlap) from.widths (drop from.bytes text) k over from.widths
          (drop from.bytes text) more) at (none_over (overlap_text from.overlap) from.widths (drop from.bytes text)
          more over e);
    }

pub one_since : (text : List ℕ) (from : Checkpoint) (over new : List ℕ) (sum wider bytes code size : ℕ)
    → IsSince text from over sum bytes → IsNext text bytes code size → IsUtf8 over → IsUtf8 new
    → new ≡ over ++ encode_utf8 code → wider ≡ sum + width_of code → IsSince text from new wider (bytes + size)
one_since text from over new sum wider bytes code size h next u v e w =
    record {
      after = omega (arith, h.after);
      within = next.within;
      each = λ more.
          let start = drop from.bytes text in
          let left : (size + more) - size ≡ more = omega arith in
          let at : (bytes - from.bytes) + (size + more) ≡ ((bytes + size) - from.bytes) + more =
          omega (arith, h.after) in
          let step = one_over (overlap_text from.overlap) from.widths start ((bytes - from.bytes) + (size + more)) over
          new sum wider (drop bytes text) (drop size (drop bytes text)) (size + more) code size
          (h.each (size + more)) next.first u v e w (omega (arith, next.some)) (omega arith) in
          subst (λ k. IsOver (overlap_text from.overlap) from.widths start k new wider (drop (bytes + size) text) more)
          at
          (subst (λ r. IsOver (overlap_text from.overlap) from.widths start ((bytes - from.bytes) + (size + more)) new
          wider r more) (drop-drop size bytes text)
          (subst (λ k. IsOver (overlap_text from.overlap) from.widths start ((bytes - from.bytes) + (size + more)) new
          wider (drop size (drop bytes text)) k) left step));
    }

-- the same of the texts that a walk had before and after a character that it read
pub since_read : {Z : Type 0} (text : List ℕ) (from : Checkpoint) (over new : String Z)
    (sum wider bytes code size : ℕ)
    → IsSince text from (string_bytes over) sum bytes → bytes < length text → IsRead text bytes code size
    → string_bytes new ≡ string_bytes over ++ encode_utf8 code → wider ≡ sum + width_of code
    → IsSince text from (string_bytes new) wider (bytes + size)
since_read text from over new sum wider bytes code size h inside read e w =
    one_since text from (string_bytes over) (string_bytes new) sum wider bytes code size h
    (is_next text bytes code size inside read) (IsUtf8-string_bytes over) (IsUtf8-string_bytes new) e w

pub ends_pushed : (old new : List ℕ) (code : ℕ) → IsUtf8 old → IsUtf8 new → new ≡ old ++ encode_utf8 code
    → EndsIn new (code ∷ [])
ends_pushed old new code u v e = record { front = chars old; is = chars_pushed old new code u v e }

pub ends_twice : (old new : List ℕ) (last code : ℕ) → IsUtf8 old → IsUtf8 new → new ≡ old ++ encode_utf8 code
    → EndsIn old (last ∷ []) → EndsIn new (last ∷ code ∷ [])
ends_twice old new last code u v e ends = record {
  front = ends.front;
  is = chars_pushed old new code u v e ∙ ap (λ o. o ++ code ∷ []) ends.is
      ∙ append_assoc ends.front (last ∷ []) (code ∷ []);
}

-- The last two characters of a text, where the one before the last is an emoji that may be selected.
abbrev pub EndsByEmoji : List ℕ → ℕ → ℕ → Type 0
EndsByEmoji text before last = is_emoji_variation_base before ≡ true → EndsIn text (before ∷ last ∷ [])

-- after a text that ends before a character widths are told from that of what begins with what is overlap
abbrev pub IsPart : List ℕ → ℕ → Overlap → Type 0
IsPart over code first = (later : List ℕ) → str_width false (chars over ++ code ∷ later)
    + str_width false (overlap_text first) ≡ str_width false (chars over)
    + str_width false (overlap_text first ++ code ∷ later)

-- where a text may be parted it adds its width
pub none_held : (over : List ℕ) (code : ℕ) → ((later : List ℕ) → str_width false (chars over ++ code ∷ later)
    ≡ str_width false (chars over) + str_width false (code ∷ later)) → IsPart over code Nothing
none_held over code h later =
    let wide = h later in
    omega (arith, wide, no_width)

ends_part : (over : List ℕ) (last code : ℕ) → EndsIn over (last ∷ []) → may_split last code ≡ true
    → IsPart over code Nothing
ends_part over last code ends h =
    none_held over code (λ later.
    ap (λ o. str_width false (o ++ code ∷ later)) ends.is
    ∙ ap (str_width false) (append_assoc ends.front (last ∷ []) (code ∷ later))
    ∙ parted ends.front later last code h ∙ ap (λ o. str_width false o + str_width false (code ∷ later)) (sym ends.is))

ends_held : (over : List ℕ) (code : ℕ) (first : Overlap) → EndsIn over (overlap_text first)
    → Settles (overlap_text first) → opens code ≡ true → IsPart over code first
ends_held over code first ends settles h later =
    let wide : str_width false (chars over ++ code ∷ later)
    ≡ str_width false (ends.front ++ (overlap_text first ++ code ∷ later)) =
    ap (λ o. str_width false (o ++ code ∷ later)) ends.is
    ∙ ap (str_width false) (append_assoc ends.front (overlap_text first) (code ∷ later)) in
    let ended : str_width false (chars over) ≡ str_width false (ends.front ++ overlap_text first) =
    ap (str_width false) ends.is in
    let sums = settled ends.front (overlap_text first) later code h settles in
    omega (arith, wide, ended, sums)

parted_begun : (over : List ℕ) (first : Overlap) (code size more : ℕ) (bytes after : List ℕ)
    → IsFirst bytes after code size → IsPart over code first →
    str_width false (chars over ++ text_up_to more (characters bytes)) + str_width false (overlap_text first)
    ≡ str_width false (chars over) + str_width false (overlap_text first ++ text_up_to more (characters bytes))
parted_begun over first code size zero bytes after is part =
    let none = begun_zero (characters bytes) in
    let here : str_width false (chars over ++ text_up_to 0 (characters bytes)) ≡ str_width false (chars over) =
    ap (λ o. str_width false (chars over ++ o)) none ∙ ap (str_width false) (append-nil (chars over)) in
    let bare : str_width false (overlap_text first ++ text_up_to 0 (characters bytes))
    ≡ str_width false (overlap_text first) = ap (λ o. str_width false (overlap_text first ++ o)) none
    ∙ ap (str_width false) (append-nil (overlap_text first)) in
    omega (arith, here, bare)
parted_begun over first code size (suc more) bytes after is part =
    let later = text_up_to (suc more - size) (characters after) in
    let step : text_up_to (suc more) (characters bytes) ≡ code ∷ later =
    ap (text_up_to (suc more)) (characters_step bytes after code size is)
    ∙ begun_more (suc more) code size (characters after) (omega arith) in
    ap (λ o. str_width false (chars over ++ o) + str_width false (overlap_text first)) step ∙ part later
    ∙ ap (λ o. str_width false (chars over) + str_width false (overlap_text first ++ o)) (sym step)

-- what is counted twice at a place is counted in the columns after it
counted : (text : List ℕ) (from : Checkpoint) (over : List ℕ) (sum bytes : ℕ) → IsCheckpoint text from
    → IsSince text from over sum bytes → from.twice ≤ from.column + str_width false (chars over)
counted text from over sum bytes is h =
    let start = drop from.bytes text in
    let k = (bytes - from.bytes) + 0 in
    let it = h.each 0 in
    let here = boundary_at_zero (overlap_text from.overlap) from.widths start k over sum (drop bytes text) 0 it refl in
    let wide = ap (str_width false) (all_at_zero (overlap_text from.overlap) from.widths start k over sum
    (drop bytes text) 0 it refl) in
    let told = is.1.1 k in
    let is_past = after_boundary from start k here in
    let more = twice_boundary from start k here in
    omega (arith, wide, told, is_past, more)

-- between characters where columns are told is a place
pub next_checkpoint : (text : List ℕ) (from place : Checkpoint) (over after : List ℕ) (code size : ℕ)
    → IsCheckpoint text from
    → IsSince text from over place.widths place.bytes →
    IsFirst (drop place.bytes text) after code size → IsPart over code place.overlap → IsHeld place.overlap
    → place.column ≡ (from.column + str_width false (chars over)) - from.twice →
    place.twice ≡ str_width false (overlap_text place.overlap) → IsCheckpoint text place
next_checkpoint text from place over after code size is h first part free c d = (
  h.within,
  (
    free,
    λ more.
        let start = drop from.bytes text in
        let rest = drop place.bytes text in
        let cs = characters rest in
        let k = (place.bytes - from.bytes) + more in
        let it = h.each more in
        let at : place.bytes + more ≡ from.bytes + k = omega (arith, h.after) in
        let same = ap (λ n. column n (characters text)) at in
        let told = is.1.1 k in
        by_cases {C = column (place.bytes + more) (characters text) + twice place more cs ≡ column_past place more cs}
        (is_boundary more cs)
        (λ y.
        let here : is_boundary k (characters start) ≡ true = sym it.boundary ∙ y in
        let all = ap (str_width false) it.all in
        let wide = parted_begun over place.overlap code size more rest after first part in
        let enough = counted text from over place.widths place.bytes is h in
        let is_past = after_boundary from start k here in
        let more_twice = twice_boundary from start k here in
        let to = after_boundary place rest more y in
        let to_twice = twice_boundary place rest more y in
        omega (arith, same, told, all, wide, enough, is_past, more_twice, to, to_twice, c, d))
        (λ n.
        let here : is_boundary k (characters start) ≡ false = sym it.boundary ∙ n in
        let is_past = after_other from start k here in
        let none = twice_other from start k here in
        let to = after_other place rest more n in
        let to_none = twice_other place rest more n in
        let sums = it.width in
        omega (arith, same, told, is_past, none, to, to_none, sums)),
  ),
)

-- what a place holds between two neighbours
pub holds : (over : List ℕ) (before last code : ℕ) (half : Bool) (first : Overlap) → EndsIn over (last ∷ [])
    → EndsByEmoji over before last → EndsInFlags over last half →
    overlap_between before last half code ≡ Some first → IsPart over code first × IsHeld first
holds over before last code half first one two flags some =
    let parts = may_split last code || may_split_flags last half code in
    let ends = end_overlap before last in
    let other : Option Overlap = if opens code then ends else None in
    by_cases {C = IsPart over code first × IsHeld first} parts
    (λ y.
    let e : Nothing ≡ first = same_Some Nothing first (sym (cond-true parts (Some Nothing) other y) ∙ some) in
    let part : IsPart over code Nothing = elim (or_cases (may_split last code) (may_split_flags last half code) y) [
      | inl h ↦ ends_part over last code one h
      | inr h ↦ none_held over code (flags_part over last code half flags h)
    ] in
    subst (λ f. IsPart over code f × IsHeld f) e (part, refl))
    (λ n.
    let more : other ≡ Some first = sym (cond-false parts (Some Nothing) other n) ∙ some in
    by_cases {C = IsPart over code first × IsHeld first} (opens code)
    (λ y.
    let is = end_settles over before last first one two (sym (cond-true (opens code) ends None y) ∙ more) in
    (ends_held over code first is.0 is.1.0 y, is.1.1))
    (λ m. absurd (none-some first (sym (cond-false (opens code) ends None m) ∙ more))))

-- so the next place is one
pub is_next_place : (text : List ℕ) (from place : Checkpoint) (over after : List ℕ)
    (code size sum bytes before last : ℕ) (half : Bool) (front : Overlap) → IsCheckpoint text from
    → IsSince text from over sum bytes →
    IsFirst (drop bytes text) after code size → EndsIn over (last ∷ []) → EndsByEmoji over before last
    → EndsInFlags over last half → overlap_between before last half code ≡ Some front →
    place.bytes ≡ bytes → place.widths ≡ sum → place.overlap ≡ front → place.column
    ≡ (from.column + str_width false (chars over)) - from.twice → place.twice ≡ str_width false (overlap_text front)
    → IsCheckpoint text place
is_next_place text from place over after code size sum bytes before last half front is since first one two flags some b
    w f c d =
    let both = holds over before last code half front one two flags some in
    next_checkpoint text from place over after code size is
    (subst (λ k. IsSince text from over k place.bytes) (sym w)
    (subst (λ k. IsSince text from over sum k) (sym b) since))
    (subst (λ k. IsFirst (drop k text) after code size) (sym b) first) (subst (IsPart over code) (sym f) both.0)
    (subst IsHeld (sym f) both.1) c (d ∙ ap (λ o. str_width false (overlap_text o)) (sym f))
