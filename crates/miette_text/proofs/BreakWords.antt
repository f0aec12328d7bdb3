-- Words between the places at which a line may be broken, one by one from the front.
use Rattle.std.proofs.Common.{◌≡◌, ℕ, zero, suc, ◌+◌, ◌<◌, ◌≤◌, Bool, true, false, not, ◌&&◌, ◌==◌, nat_lt}
use Rattle.std.proofs.Common.{List, [], ◌∷◌, ◌++◌, map, flat_map, length, take, drop, refl, sym, ap, ap₂, ◌∙◌}
use Rattle.std.proofs.Common.{if◌then◌else◌, arith, eqb-true}
use Rattle.std.proofs.lemmas.Bool.{and_parts}
use Rattle.std.proofs.lemmas.List.Sums.{sum_by-cons}
use Rattle.std.specs.Option.{is_some}
use Rattle.miette_lines.specs.rules.Lists.{is_nil, onto}
use Rattle.miette_line_breaks.specs.declared.state.BreakState.{BreakState}
use Rattle.miette_line_breaks.specs.views.Places.{after_code, found_before, state_of}
use Rattle.miette_line_breaks.proofs.States.{break-is, state-step}
use Rattle.miette_runs.specs.rules.Cells.{TaggedChar, width}
use Rattle.miette_runs.specs.steps.Cells.{code_columns}
use Rattle.miette_text.specs.declared.options.WordSeparator.TheVariants.{UnicodeBreakProperties}
use Rattle.miette_text.specs.rules.Wrapping.{Cuts, Word, ends_word, in_front, is_alphanumeric, is_hyphen}
use Rattle.miette_text.specs.rules.Wrapping.{is_space}
use Rattle.miette_text.specs.rules.Wrapping.{parts, pieces, with_spaces, word_of, words}
use Rattle.miette_text.specs.steps.Ends.{all_spaces, bare_len, begins_word, code_after, codes_of, part_len}
use Rattle.miette_text.specs.views.Breaks.{ends_in, never, parts_after, piece_len, pieces_in, state_at, words_in}
use Rattle.miette_text.proofs.FirstRow.{space-width}
use Rattle.miette_text.proofs.Parting.{EndsWords, first-part, letter_parts, letters, more_parts, never_wide, one_or}
use Rattle.miette_text.proofs.Parting.{parts-some, with_spaces-more, word-parts}

-- ---- the pieces of a line, by what stands before a place

ends-in : (b : ℕ) (before : List ℕ) (cs : List TaggedChar) → ends_word UnicodeBreakProperties (b ∷ before) cs
    ≡ ends_in (state_of (b ∷ before)) b cs
ends-in b before [] = refl
ends-in b before (c ∷ cs) = ap (λ o. not (is_hyphen b) && is_some o) (break-is (b ∷ before) c.code)

pub pieces-in : (before : List ℕ) (cs : List TaggedChar) → pieces UnicodeBreakProperties before cs
    ≡ pieces_in (state_of before) cs
pieces-in before [] = refl
pieces-in before (c ∷ cs) =
    let e : state_of (c.code ∷ before) ≡ after_code (state_of before) c.code = state-step c.code before in
    ap₂ (λ (b : Bool) ps. if b then (c ∷ []) ∷ ps else onto c ps)
    (ends-in c.code before cs ∙ ap (λ s. ends_in s c.code cs) e)
    (pieces-in (c.code ∷ before) cs ∙ ap (λ s. pieces_in s cs) e)

pub words-in : (cs : List TaggedChar) → words UnicodeBreakProperties cs ≡ words_in (state_of []) cs
words-in cs = ap (map word_of) (pieces-in [] cs)

-- how many cells go on with the piece of a cell
abbrev next_len : BreakState → TaggedChar → List TaggedChar → ℕ
next_len s c cs = piece_len (after_code s c.code) (is_hyphen c.code) (codes_of cs)

pieces-first : (s : BreakState) (c : TaggedChar) (cs : List TaggedChar) → pieces_in s (c ∷ cs)
    ≡ (c ∷ take (next_len s c cs) cs)
    ∷ pieces_in (state_at (after_code s c.code) (next_len s c cs) (codes_of cs)) (drop (next_len s c cs) cs)
pieces-first s c [] = refl
pieces-first s c (d ∷ ds) =
    let t = after_code s c.code in
    let n = next_len t d ds in
    elim (not (is_hyphen c.code) && is_some (found_before t d.code)) as (λ v.
    (if v then (c ∷ []) ∷ pieces_in t (d ∷ ds) else onto c (pieces_in t (d ∷ ds)))
    ≡ (c ∷ take (if v then 0 else suc n) (d ∷ ds))
    ∷ pieces_in (state_at t (if v then 0 else suc n) (d.code ∷ codes_of ds)) (drop (if v then 0 else suc n) (d ∷ ds))) [
      | true ↦ refl
      | false ↦ ap (onto c) (pieces-first t d ds)
    ]

-- ---- a word without its last spaces

-- one more in front, by whether it is one of the spaces
abbrev put_front : Bool → TaggedChar → List TaggedChar → List TaggedChar → Word
put_front b c ls ss = if b then record { letters = []; spaces = c ∷ ss } else record { letters = c ∷ ls; spaces = ss }

put-nil : (b : Bool) (c : TaggedChar) (ls ss : List TaggedChar) → is_nil (put_front b c ls ss).letters ≡ b
put-nil true c ls ss = refl
put-nil false c ls ss = refl

nil-spaces : (cs : List TaggedChar) → is_nil (word_of cs).letters ≡ all_spaces cs
nil-spaces [] = refl
nil-spaces (c ∷ cs) =
    put-nil (is_space c.code && is_nil (word_of cs).letters) c (word_of cs).letters (word_of cs).spaces
    ∙ ap (λ b. is_space c.code && b) (nil-spaces cs)

spaces-bare : (cs : List TaggedChar) → all_spaces cs ≡ true → bare_len cs ≡ 0
spaces-bare [] e = refl
spaces-bare (c ∷ cs) e = ap (λ (b : Bool). if b then 0 else suc (bare_len cs)) e

-- its last spaces apart
abbrev pub parted : ℕ → List TaggedChar → Word
parted n cs = record { letters = take n cs; spaces = drop n cs }

word-bare : (cs : List TaggedChar) → word_of cs ≡ parted (bare_len cs) cs
word-bare [] = refl
word-bare (c ∷ cs) =
    let n = bare_len cs in
    let z : is_nil (take n cs) ≡ all_spaces cs = ap (λ (w : Word). is_nil w.letters) (sym (word-bare cs))
    ∙ nil-spaces cs in
    ap (in_front c) (word-bare cs)
    ∙ ap (λ (b : Bool). put_front (is_space c.code && b) c (take n cs) (drop n cs)) z
    ∙ elim (is_space c.code && all_spaces cs) as (λ b. (is_space c.code && all_spaces cs) ≡ b →
    put_front b c (take n cs) (drop n cs) ≡ parted (if b then 0 else suc n) (c ∷ cs)) [
      | true ↦ λ e. ap (λ m. put_front true c [] (drop m cs))
          (spaces-bare cs (and_parts (is_space c.code) (all_spaces cs) e).1)
      | false ↦ λ e. refl
    ] refl

dropped-spaces : (cs : List TaggedChar) → all_spaces (drop (bare_len cs) cs) ≡ true
dropped-spaces [] = refl
dropped-spaces (c ∷ cs) = elim (is_space c.code && all_spaces cs) as (λ b. (is_space c.code && all_spaces cs) ≡ b →
    all_spaces (drop (if b then 0 else suc (bare_len cs)) (c ∷ cs)) ≡ true) [
      | true ↦ λ e. e
      | false ↦ λ e. dropped-spaces cs
    ] refl

spaces-columns : (cs : List TaggedChar) → all_spaces cs ≡ true → code_columns (codes_of cs) ≡ length cs
spaces-columns [] e = refl
spaces-columns (c ∷ cs) e =
    let h = and_parts (is_space c.code) (all_spaces cs) e in
    let w : width c.code ≡ 1 = space-width c.code (eqb-true c.code 32 h.0) in
    sum_by-cons width c.code (codes_of cs) ∙ omega (arith, spaces-columns cs h.1)

pub bare-columns : (cs : List TaggedChar) → code_columns (codes_of (drop (bare_len cs) cs))
    ≡ length (drop (bare_len cs) cs)
bare-columns cs = spaces-columns (drop (bare_len cs) cs) (dropped-spaces cs)

-- ---- the first word

pub first-words : (cuts : Cuts) (s : BreakState) (k b : ℕ) (cells : List TaggedChar) → 0 < length cells →
    k ≡ piece_len s true (codes_of cells) → b ≡ bare_len (take k cells) →
    parts_after cuts 0 (parted b (take k cells))
    (words_in (state_at s k (codes_of cells)) (drop k cells)) ≡ flat_map (parts cuts) (words_in s cells)
first-words cuts s k b [] l e f = absurd (omega arith)
first-words cuts s k b (c ∷ cs) l e f =
    let all = c ∷ cs in
    let n = next_len s c cs in
    ap₂ (λ i j. parts_after cuts 0 (parted j (take i all))
    (words_in (state_at s i (codes_of all)) (drop i all))) e (f ∙ ap (λ i. bare_len (take i all)) e)
    ∙ ap (λ w. parts_after cuts 0 w (words_in (state_at s (suc n) (codes_of all)) (drop (suc n) all)))
    (sym (word-bare (take (suc n) all)))
    ∙ ap (λ ps. flat_map (parts cuts) (map word_of ps)) (sym (pieces-first s c cs))

pub piece-some : (s : BreakState) (codes : List ℕ) → 0 < length codes → 0 < piece_len s true codes
piece-some s [] l = absurd (omega arith)
piece-some s (c ∷ cs) l = omega arith

-- ---- the parts of a word

never_ends : EndsWords never
never_ends c e = absurd (cc)

letters-never : (cs : List TaggedChar) → letters never cs ≡ cs
letters-never [] = refl
letters-never (c ∷ cs) = ap (λ us. c ∷ us) (letters-never cs)

pub part-parts : (cuts : Cuts) (before n : ℕ) (cs : List TaggedChar) → n ≡ part_len never cuts before 0 (codes_of cs) →
    letter_parts cuts before 0 cs ≡ take n cs ∷ more_parts cuts (code_after before n (codes_of cs)) (drop n cs)
part-parts cuts before n cs e =
    ap (letter_parts cuts before 0) (sym (letters-never cs))
    ∙ first-part never never_ends cuts before 0 cs
    ∙ ap (λ k. take k cs ∷ more_parts cuts (code_after before k (codes_of cs)) (letters never (drop k cs))) (sym e)
    ∙ ap (λ us. take n cs ∷ more_parts cuts (code_after before n (codes_of cs)) us) (letters-never (drop n cs))

more-some : (cuts : Cuts) (before : ℕ) (spaces p cs : List TaggedChar) → 0 < length cs →
    with_spaces spaces (p ∷ more_parts cuts before cs)
    ≡ record { letters = p; spaces = [] } ∷ with_spaces spaces (letter_parts cuts before 0 cs)
more-some cuts before spaces p [] l = absurd (omega arith)
more-some cuts before spaces p (c ∷ cs) l =
    with_spaces-more spaces p (letter_parts cuts before 0 (c ∷ cs)) (parts-some cuts before 0 (c ∷ cs))

-- a part that is not the last
pub word-more : (cuts : Cuts) (before n : ℕ) (cs spaces : List TaggedChar) (ws : List Word) →
    n ≡ part_len never cuts before 0 (codes_of cs) → 0 < length (drop n cs) →
    parts_after cuts before (record { letters = cs; spaces = spaces }) ws
    ≡ record { letters = take n cs; spaces = [] } ∷ parts_after cuts (code_after before n (codes_of cs))
    (record { letters = drop n cs; spaces = spaces }) ws
word-more cuts before n cs spaces ws e l =
    let after = code_after before n (codes_of cs) in
    let more = flat_map (parts cuts) ws in
    ap (λ ps. with_spaces spaces ps ++ more) (word-parts cuts before cs ∙ part-parts cuts before n cs e)
    ∙ ap (λ us. us ++ more) (more-some cuts after spaces (take n cs) (drop n cs) l)
    ∙ ap (λ ps. record { letters = take n cs; spaces = [] } ∷ (with_spaces spaces ps ++ more))
    (sym (word-parts cuts after (drop n cs)))

none-left : (cs : List TaggedChar) (n : ℕ) → length cs ≤ n → (drop n cs ≡ []) × (take n cs ≡ cs)
none-left [] zero h = (refl, refl)
none-left [] (suc n) h = (refl, refl)
none-left (c ∷ cs) zero h = absurd (omega arith)
none-left (c ∷ cs) (suc n) h = let r = none-left cs n (omega arith) in (r.0, ap (λ us. c ∷ us) r.1)

-- the last part
pub word-last : (cuts : Cuts) (before n : ℕ) (cs spaces : List TaggedChar) (ws : List Word) →
    n ≡ part_len never cuts before 0 (codes_of cs) → length cs ≤ n →
    parts_after cuts before (record { letters = cs; spaces = spaces }) ws
    ≡ record { letters = cs; spaces = spaces } ∷ flat_map (parts cuts) ws
word-last cuts before n cs spaces ws e l =
    let after = code_after before n (codes_of cs) in
    let more = flat_map (parts cuts) ws in
    let r = none-left cs n l in
    ap (λ ps. with_spaces spaces ps ++ more) (word-parts cuts before cs ∙ part-parts cuts before n cs e)
    ∙ ap₂ (λ us vs. with_spaces spaces (us ∷ more_parts cuts after vs) ++ more) r.1 r.0

pub part-some : (cuts : Cuts) (before : ℕ) (cs : List ℕ) → 0 < length cs → 0 < part_len never cuts before 0 cs
part-some cuts before [] l = absurd (omega arith)
part-some cuts before (c ∷ cs) l =
    let next = part_len never cuts c (0 + width c) cs in
    let test = cuts.split_hyphens && ((c == 45) && is_alphanumeric before && begins_word cs) in
    let wide = cuts.break_words && (nat_lt 0 0 && nat_lt cuts.narrow (0 + width c)) in
    let k : (if wide then 0 else if test then 1 else suc next) ≡ (if test then 1 else suc next) =
    ap (λ (v : Bool). if v then 0 else if test then 1 else suc next)
    (never_wide cuts.break_words (nat_lt cuts.narrow (0 + width c))) in
    let o : 0 < (if test then 1 else suc next) = one_or test next in
    omega arith

pub after-taken : (a n l : ℕ) (cs : List ℕ) → n ≤ l → code_after a n (take l cs) ≡ code_after a n cs
after-taken a zero l cs h = refl
after-taken a (suc n) zero cs h = absurd (omega arith)
after-taken a (suc n) (suc l) [] h = refl
after-taken a (suc n) (suc l) (c ∷ cs) h = after-taken c n l cs (omega arith)
