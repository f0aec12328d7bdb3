-- Lines that end with LF alone, and the characters of one, one after another.
use Rattle.std.proofs.Common.{◌≡◌, ℕ, zero, suc, ◌+◌, ◌-◌, ◌<◌, ◌≤◌, Bool, true, false, List, [], ◌∷◌, length, drop}
use Rattle.std.proofs.Common.{Option, Some, None, IfSome, refl, ap, ◌∙◌, arith}
use Rattle.std.specs.Prelude.{◌==◌, ◌||◌, if◌then◌else◌}
use Rattle.std.proofs.lemmas.Bool.{eqb-true, false_from_ne_true}
use Rattle.std.proofs.lemmas.List.{drop-drop, drop_all, length-drop}
use Rattle.bstr.specs.Utf8.{decoded, or_replacement}
use Rattle.memchr.specs.Find.{IsFirstByte, is_byte}
use Rattle.miette_columns.specs.rules.Cells.{Character, characters}
use Rattle.miette_columns.proofs.Stepping.{characters_end, characters_step}
use Rattle.miette_lines.specs.rules.Lines.{LF}
use Rattle.miette_read_shellcheck.specs.rules.Columns.{characters_after, characters_on, nth_line_start}

-- ---- lines

-- the same of the bytes after the first one
later : (b : ℕ) (bs : List ℕ) (j : ℕ) → IsFirstByte (is_byte 10) (b ∷ bs) (Some (suc j))
    → IsFirstByte (is_byte 10) bs (Some j)
later b bs j h = (
  record {
    low = omega arith;
    high = omega (arith, h.0.high);
    before = λ i low less. h.0.before (suc i) (omega arith) (omega (arith, less));
  },
  h.1,
)

-- after the first LF one line less is asked for
first_passed : (bytes : List ℕ) (at size k : ℕ) → IsFirstByte (is_byte 10) bytes (Some size)
    → nth_line_start at bytes (suc k) ≡ nth_line_start (at + suc size) (drop (suc size) bytes) k
first_passed [] at size k h = absurd (omega (arith, h.0.high))
first_passed (b ∷ bs) at zero k h = ap (λ t. nth_line_start (at + 1) bs (if t then k else suc k)) h.1
first_passed (b ∷ bs) at (suc j) k h =
    let text : (b == 10) ≡ false = false_from_ne_true (b == 10) (h.0.before 0 (omega arith) (omega arith)) in
    let on : (at + 1) + suc j ≡ at + suc (suc j) = omega arith in
    ap (λ t. nth_line_start (at + 1) bs (if t then k else suc k)) text
    ∙ first_passed bs (at + 1) j k (later b bs j h)
    ∙ ap (λ n. nth_line_start n (drop (suc j) bs) k) on

none_passed : (bytes : List ℕ) (at k : ℕ) → IsFirstByte (is_byte 10) bytes None → nth_line_start at bytes (suc k) ≡ None
none_passed [] at k h = refl
none_passed (b ∷ bs) at k h =
    let text : (b == 10) ≡ false = false_from_ne_true (b == 10) (h 0 (omega arith) (omega arith)) in
    ap (λ t. nth_line_start (at + 1) bs (if t then k else suc k)) text
    ∙ none_passed bs (at + 1) k (λ i low less. h (suc i) (omega arith) (omega (arith, less)))

pub next_line : (bytes : List ℕ) (at left size : ℕ) → 0 < left → IsFirstByte (is_byte 10) (drop at bytes) (Some size)
    → nth_line_start at (drop at bytes) left ≡ nth_line_start (at + (size + 1)) (drop (at + (size + 1)) bytes)
    (left - 1)
next_line bytes at zero size some h = absurd (omega (arith, some))
next_line bytes at (suc k) size some h =
    let on : at + suc size ≡ at + (size + 1) = omega arith in
    let less : k ≡ suc k - 1 = omega arith in
    first_passed (drop at bytes) at size k h
    ∙ ap (λ (l : List ℕ). nth_line_start (at + suc size) l k) (drop-drop (suc size) at bytes)
    ∙ ap (λ n. nth_line_start n (drop n bytes) k) on
    ∙ ap (nth_line_start (at + (size + 1)) (drop (at + (size + 1)) bytes)) less

pub no_line : (bytes : List ℕ) (at left : ℕ) → 0 < left → IsFirstByte (is_byte 10) (drop at bytes) None
    → nth_line_start at (drop at bytes) left ≡ None
no_line bytes at zero some h = absurd (omega (arith, some))
no_line bytes at (suc k) some h = none_passed (drop at bytes) at k h

-- how far the first LF stands from an offset
pub text_within : (bytes : List ℕ) (at : ℕ) (o : Option ℕ) → at ≤ length bytes
    → IsFirstByte (is_byte 10) (drop at bytes) o → IfSome o (λ size. at + size < length bytes)
text_within bytes at None room h = tt
text_within bytes at (Some size) room h = omega (arith, room, h.0.high, length-drop at bytes)

-- ---- characters

abbrev pub made : ℕ → ℕ → Character
made code size = record { code = code; bytes = size }

none_on : (at : ℕ) (cs : List Character) → characters_on at 0 cs ≡ at
none_on at [] = refl
none_on at (c ∷ cs) = refl

pub none_left : (bytes : List ℕ) (at left : ℕ) → left ≡ 0 → characters_after bytes at left ≡ at
none_left bytes at left none =
    ap (λ n. characters_after bytes at n) none ∙ none_on at (characters (drop at bytes))

pub ended : (bytes : List ℕ) (at left : ℕ) → length bytes ≤ at → characters_after bytes at left ≡ at
ended bytes at left h = ap (characters_on at left) (characters_end (drop at bytes) (drop_all at bytes h))

-- whether no further character is passed
abbrev stops : ℕ → ℕ → Bool
stops left code = (left == 0) || (code == LF)

some_left : (left : ℕ) → 0 < left → (left == 0) ≡ false
some_left left some = false_from_ne_true (left == 0) (λ e. absurd (omega (arith, some, eqb-true left 0 e)))

stops_there : (left code : ℕ) → 0 < left → code ≡ LF → stops left code ≡ true
stops_there left code some is = ap (λ b. b || (code == LF)) (some_left left some) ∙ ap (λ n. n == LF) is

goes_on : (left code : ℕ) → 0 < left → ¬ (code ≡ LF) → stops left code ≡ false
goes_on left code some differs =
    ap (λ b. b || (code == LF)) (some_left left some)
    ∙ false_from_ne_true (code == LF) (λ e. differs (eqb-true code LF e))

module _ (bytes : List ℕ) (at left code size : ℕ) (room : at < length bytes)
    (code_is : code ≡ or_replacement (decoded (drop at bytes)).char) (size_is : size ≡ (decoded (drop at bytes)).size)
  where
    first_of : characters (drop at bytes) ≡ made code size ∷ characters (drop (at + size) bytes)
    first_of =
        let some : 0 < length (drop at bytes) = omega (arith, length-drop at bytes, room) in
        characters_step (drop at bytes) (drop size (drop at bytes)) code size
        (record { some = some; left_is = refl; code_is = code_is; size_is = size_is })
        ∙ ap (λ l. made code size ∷ characters l) (drop-drop size at bytes)

    taken : (b : Bool) → stops left code ≡ b
        → characters_after bytes at left ≡ (if b then at else characters_after bytes (at + size) (left - 1))
    taken b test =
        ap (characters_on at left) first_of
        ∙ ap (λ t. if t then at else characters_after bytes (at + size) (left - 1)) test

    pub line_ends : 0 < left → code ≡ LF → characters_after bytes at left ≡ at
    line_ends some is = taken true (stops_there left code some is)

    pub next_character : 0 < left → ¬ (code ≡ LF)
        → characters_after bytes at left ≡ characters_after bytes (at + size) (left - 1)
    next_character some differs = taken false (goes_on left code some differs)
