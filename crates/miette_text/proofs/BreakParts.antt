-- The part at the front, where words lie between the places at which a line may be broken.
use Rattle.std.proofs.Common.{◌≡◌, ℕ, zero, suc, ◌+◌, ◌-◌, ◌<◌, ◌≤◌, Bool, true, false, not, ◌&&◌, ◌==◌}
use Rattle.std.proofs.Common.{List, [], ◌∷◌, flat_map, length, take, drop, get_or, refl, sym, ap, ap₂, ◌∙◌}
use Rattle.std.proofs.Common.{if◌then◌else◌, arith, length-drop, drop-drop}
use Rattle.std.proofs.lemmas.Bool.Decides.{nat_tests}
use Rattle.std.proofs.lemmas.List.{drop_all, drop-take, drop_more, length-map, length-take, take-take}
use Rattle.std.specs.Option.{is_some}
use Rattle.miette_line_breaks.specs.declared.state.BreakState.{BreakState}
use Rattle.miette_line_breaks.specs.views.Places.{after_code, found_before}
use Rattle.miette_runs.specs.rules.Cells.{TaggedChar}
use Rattle.miette_runs.specs.steps.Cells.{code_columns, plain_cell, bare_cells}
use Rattle.miette_text.specs.declared.wrapping.unicode_words.UnicodeWords.{UnicodeWords}
use Rattle.miette_text.specs.rules.Wrapping.{Cuts, Word, is_hyphen, parts}
use Rattle.miette_text.specs.steps.Ends.{IsPart, bare_len, code_after, codes_of, part_len}
use Rattle.miette_text.specs.views.Breaks.{is_done, left_in, never, parts_after, piece_len, rest_in, state_at}
use Rattle.miette_text.specs.views.Breaks.{words_in}
use Rattle.miette_text.proofs.BreakWords.{after-taken, bare-columns, first-words, part-some, parted, word-last}
use Rattle.miette_text.proofs.BreakWords.{word-more}
use Rattle.miette_text.proofs.FirstRow.{after-last, take-codes}
use Rattle.miette_text.proofs.InterleavedCells.{bare-codes}
use Rattle.miette_text.proofs.Parting.{drop-codes}
use Rattle.miette_text.proofs.Passing.{state-more}

-- ---- the loop over the codes of a word

pub piece-goes : (s t : BreakState) (joined next : Bool) (i c : ℕ) (cs : List ℕ) → drop i cs ≡ c ∷ drop (i + 1) cs →
    (not joined && is_some (found_before s c)) ≡ false → t ≡ after_code s c → next ≡ is_hyphen c →
    i + piece_len s joined (drop i cs) ≡ (i + 1) + piece_len t next (drop (i + 1) cs)
piece-goes s t joined next i c cs d e f g =
    let more = piece_len (after_code s c) (is_hyphen c) (drop (i + 1) cs) in
    ap (λ xs. i + piece_len s joined xs) d
    ∙ ap (λ (v : Bool). i + (if v then 0 else suc more)) e
    ∙ (let z : i + suc more ≡ (i + 1) + more = omega arith in z)
    ∙ ap₂ (λ s k. (i + 1) + piece_len s k (drop (i + 1) cs)) (sym f) (sym g)

-- after `i` printable codes: what is left of the word, whose first code begins no word after a hyphen
pub record Walked (start s : BreakState) (i : ℕ) (cs : List ℕ) : Type 0 where
  pub len : piece_len start true cs ≡ i + piece_len s (is_hyphen (code_after 0 i cs)) (drop i cs)
  pub state : s ≡ state_at start i cs

state-suc : (s : BreakState) (i c : ℕ) (cs : List ℕ) → drop i cs ≡ c ∷ drop (suc i) cs → state_at s (suc i) cs
    ≡ after_code (state_at s i cs) c
state-suc s zero c [] h = absurd (cc)
state-suc s zero c (x ∷ xs) h = ap (after_code s) (ap (λ (l : List ℕ). get_or l 0 x) h)
state-suc s (suc i) c [] h = absurd (cc)
state-suc s (suc i) c (x ∷ xs) h = state-suc (after_code s x) i c xs h

pub state-goes : (s t : BreakState) (i c : ℕ) (cs : List ℕ) → drop i cs ≡ c ∷ drop (i + 1) cs →
    t ≡ after_code (state_at s i cs) c → t ≡ state_at s (i + 1) cs
state-goes s t i c cs d e =
    let k : i + 1 ≡ suc i = omega arith in
    e ∙ sym (state-suc s i c cs (d ∙ ap (λ j. c ∷ drop j cs) k)) ∙ ap (λ j. state_at s j cs) (sym k)

-- ---- the same for printable ones

pub walked-first : (start s : BreakState) (c : ℕ) (cs : List ℕ) → s ≡ after_code start c → Walked start s 1 (c ∷ cs)
walked-first start s c cs e = record {
  len = (let more = piece_len (after_code start c) (is_hyphen c) cs in
      let z : suc more ≡ 1 + more = omega arith in z)
      ∙ ap (λ t. 1 + piece_len t (is_hyphen c) cs) (sym e);
  state = e;
}

after-next : (i c : ℕ) (cs : List ℕ) → c ≡ get_or cs i c → i < length cs → c ≡ code_after 0 (i + 1) cs
after-next i c cs e l = e ∙ ap (λ j. get_or cs j c) (omega arith)
    ∙ after-last 0 (i + 1) c cs (omega arith) (omega (arith, l))

pub walked-next : (start s t : BreakState) (i c : ℕ) (cs : List ℕ) → Walked start s i cs → c ≡ get_or cs i c →
    i < length cs → (not (is_hyphen (code_after 0 i cs)) && is_some (found_before s c)) ≡ false → t ≡ after_code s c →
    Walked start t (i + 1) cs
walked-next start s t i c cs w e l f g =
    let d : drop i cs ≡ c ∷ drop (i + 1) cs = drop_more cs i c l ∙ ap (λ x. x ∷ drop (i + 1) cs) (sym e) in record {
      len = w.len ∙ piece-goes s t (is_hyphen (code_after 0 i cs)) (is_hyphen (code_after 0 (i + 1) cs)) i c cs d f g
          (ap is_hyphen (sym (after-next i c cs e l)));
      state = state-goes start t i c cs d (g ∙ ap (λ s. after_code s c) w.state);
    }

-- a word begins here
pub walked-over : (start s : BreakState) (i c : ℕ) (cs : List ℕ) → Walked start s i cs → c ≡ get_or cs i c →
    i < length cs → (not (is_hyphen (code_after 0 i cs)) && is_some (found_before s c)) ≡ true →
    i ≡ piece_len start true cs
walked-over start s i c cs w e l f =
    let d : drop i cs ≡ c ∷ drop (i + 1) cs = drop_more cs i c l ∙ ap (λ x. x ∷ drop (i + 1) cs) (sym e) in
    let joined = is_hyphen (code_after 0 i cs) in
    let more = piece_len (after_code s c) (is_hyphen c) (drop (i + 1) cs) in
    let none : piece_len s joined (drop i cs) ≡ 0 =
    ap (piece_len s joined) d ∙ ap (λ (v : Bool). if v then 0 else suc more) f in
    omega (arith, w.len, none)

-- none is left
pub walked-all : (start s : BreakState) (i : ℕ) (cs : List ℕ) → Walked start s i cs → length cs ≤ i →
    i ≡ piece_len start true cs
walked-all start s i cs w l =
    let joined = is_hyphen (code_after 0 i cs) in
    let none : piece_len s joined (drop i cs) ≡ 0 = ap (piece_len s joined) (drop_all i cs l) in
    omega (arith, w.len, none)

-- the others are walked by the rules
pub walked-rest : (start s t : BreakState) (i n : ℕ) (joined : Bool) (cs : List ℕ) → Walked start s i cs →
    joined ≡ is_hyphen (code_after 0 i cs) → n ≡ piece_len s joined (drop i cs) → t ≡ state_at s n (drop i cs) →
    (i + n ≡ piece_len start true cs) × (t ≡ state_at start (i + n) cs)
walked-rest start s t i n joined cs w e f g =
    let same : n ≡ piece_len s (is_hyphen (code_after 0 i cs)) (drop i cs) =
    f ∙ ap (λ j. piece_len s j (drop i cs)) e in (
      omega (arith, w.len, same),
      g ∙ ap (λ u. state_at u n (drop i cs)) w.state ∙ sym (state-more start i n (i + n) cs refl),
    )

-- ---- what is left

left-some : (it : UnicodeWords) (cuts : Cuts) (cells : List TaggedChar) → 0 < length cells → left_in it cuts cells
    ≡ rest_in it cuts cells
left-some it cuts [] l = absurd (omega arith)
left-some it cuts (c ∷ cs) l = refl

-- the rest of a word, and the words after it
abbrev rest_word : UnicodeWords → List TaggedChar → Word
rest_word it cells = record { letters = take it.letters cells; spaces = take it.spaces (drop it.letters cells) }

abbrev rest_words : UnicodeWords → Cuts → List TaggedChar → List Word
rest_words it cuts cells = parts_after cuts it.before (rest_word it cells)
    (words_in it.state (drop (it.letters + it.spaces) cells))

left-rest : (it : UnicodeWords) (cuts : Cuts) (cells : List TaggedChar) → 0 < length cells → is_done it ≡ false →
    left_in it cuts cells ≡ rest_words it cuts cells
left-rest it cuts cells l e = left-some it cuts cells l
    ∙ ap (λ (b : Bool). if b then flat_map (parts cuts) (words_in it.state cells) else rest_words it cuts cells) e

pub left-done : (it : UnicodeWords) (cuts : Cuts) (cells : List TaggedChar) → is_done it ≡ true → left_in it cuts cells
    ≡ flat_map (parts cuts) (words_in it.state cells)
left-done it cuts [] e = refl
left-done it cuts (c ∷ cs) e =
    ap (λ (b : Bool). if b then flat_map (parts cuts) (words_in it.state (c ∷ cs)) else rest_words it cuts (c ∷ cs)) e

cells-some : (cells : List TaggedChar) (codes : List ℕ) → codes_of cells ≡ codes → length cells ≡ length codes
cells-some cells codes e = sym (length-map cells (λ (c : TaggedChar). c.code)) ∙ ap length e

pub some-left : (it : UnicodeWords) → is_done it ≡ false → 0 < it.letters + it.spaces
some-left it e = elim it.letters as (λ l. ((l == 0) && (it.spaces == 0)) ≡ false → 0 < l + it.spaces) [
  | zero ↦ elim it.spaces as (λ s. ((0 == 0) && (s == 0)) ≡ false → 0 < 0 + s) [
    | zero ↦ λ e. absurd (cc)
    | suc s ↦ λ e. omega arith
  ]
  | suc l ↦ λ e. omega arith
] e

pub not-done : (it : UnicodeWords) → 0 < it.letters + it.spaces → is_done it ≡ false
not-done it h = grind (arith, nat_tests)

-- ---- the last part of a word

abbrev finished : UnicodeWords → UnicodeWords
finished it = record { before = it.before; letters = 0; spaces = 0; state = it.state }

pub last-part : (cuts : Cuts) (it : UnicodeWords) (n : ℕ) (codes : List ℕ) → is_done it ≡ false →
    it.letters + it.spaces ≤ length codes → n ≡ part_len never cuts it.before 0 (take it.letters codes) →
    n ≡ it.letters → IsPart (left_in it cuts) (left_in (finished it) cuts) codes n it.spaces
last-part cuts it n codes d h e f = λ cells q.
    let some : 0 < it.letters + it.spaces = some-left it d in
    let k : length cells ≡ length codes = cells-some cells codes q in
    let letters = take it.letters cells in
    let spaces = take it.spaces (drop it.letters cells) in
    let short : length letters ≤ n = omega (arith, length-take {A = TaggedChar} it.letters cells) in
    left-rest it cuts cells (omega arith) d
    ∙ word-last cuts it.before n letters spaces (words_in it.state (drop (it.letters + it.spaces) cells))
    (e ∙ ap (part_len never cuts it.before 0) (ap (take it.letters) (sym q) ∙ sym (take-codes it.letters cells))) short
    ∙ ap (λ i. record { letters = take i cells; spaces = take it.spaces (drop i cells) }
    ∷ flat_map (parts cuts) (words_in it.state (drop (i + it.spaces) cells))) (sym f)
    ∙ ap (λ ws. record { letters = take n cells; spaces = take it.spaces (drop n cells) } ∷ ws)
    (sym (left-done (finished it) cuts (drop (n + it.spaces) cells) refl))

-- ---- a part that others of the word follow

pub more-some : (cuts : Cuts) (it : UnicodeWords) (n : ℕ) (codes : List ℕ) → it.letters + it.spaces ≤ length codes →
    n ≡ part_len never cuts it.before 0 (take it.letters codes) → n ≤ length (take it.letters codes) →
    (n ≡ it.letters → ⊥) → (0 < n) × (n < it.letters)
more-some cuts it n codes h e w f =
    let k = length-take {A = ℕ} it.letters codes in
    let less : n < it.letters = omega arith in
    let some : 0 < part_len never cuts it.before 0 (take it.letters codes) =
    part-some cuts it.before (take it.letters codes) (omega arith) in
    (omega arith, less)

abbrev shortened : UnicodeWords → ℕ → ℕ → UnicodeWords
shortened it n b = record { before = b; letters = it.letters - n; spaces = it.spaces; state = it.state }

pub more-part : (cuts : Cuts) (it : UnicodeWords) (n b : ℕ) (codes : List ℕ) → is_done it ≡ false →
    it.letters + it.spaces ≤ length codes → n ≡ part_len never cuts it.before 0 (take it.letters codes) →
    n < it.letters → b ≡ code_after it.before n codes →
    IsPart (left_in it cuts) (left_in (shortened it n b) cuts) codes n 0
more-part cuts it n b codes d h e f g = λ cells q.
    let k : length cells ≡ length codes = cells-some cells codes q in
    let left = it.letters - n in
    let letters = take it.letters cells in
    let spaces = take it.spaces (drop it.letters cells) in
    let ws = words_in it.state (drop (it.letters + it.spaces) cells) in
    let rest = drop n cells in
    let part : Word = record { letters = take n cells; spaces = [] } in
    let l : it.letters ≡ n + left = omega arith in
    let e1 : drop n letters ≡ take left rest = ap (λ i. drop n (take i cells)) l ∙ drop-take n left cells in
    let e2 : drop it.letters cells ≡ drop left rest = ap (λ i. drop i cells) l ∙ sym (drop-drop left n cells) in
    let e3 : drop (it.letters + it.spaces) cells ≡ drop (left + it.spaces) rest =
    ap (λ i. drop i cells) (omega arith) ∙ sym (drop-drop (left + it.spaces) n cells) in
    let same : codes_of letters ≡ take it.letters codes = take-codes it.letters cells ∙ ap (take it.letters) q in
    let last : code_after it.before n (codes_of letters) ≡ b = ap (code_after it.before n) same
    ∙ after-taken it.before n it.letters codes (omega arith) ∙ sym g in
    let more : 0 < length (drop n letters) = omega
    (arith, length-drop {A = TaggedChar} n letters, length-take {A = TaggedChar} it.letters cells) in
    let rest_some : 0 < length rest = omega (arith, length-drop {A = TaggedChar} n cells) in
    let it' = shortened it n b in
    let not_yet : 0 < left + it.spaces = omega arith in
    left-rest it cuts cells (omega arith) d
    ∙ word-more cuts it.before n letters spaces ws (e ∙ ap (part_len never cuts it.before 0) (sym same)) more
    ∙ ap₂ (λ us c. record { letters = us; spaces = [] }
    ∷ parts_after cuts c (record { letters = drop n letters; spaces = spaces }) ws)
    (take-take n it.letters cells (omega arith)) last
    ∙ ap (λ us. part ∷ parts_after cuts b (record { letters = us; spaces = spaces }) ws) e1
    ∙ ap₂ (λ us vs. part ∷ parts_after cuts b
    (record { letters = take left rest; spaces = take it.spaces us }) (words_in it.state vs)) e2 e3
    ∙ ap (λ us. part ∷ us) (sym (left-rest it' cuts rest rest_some (not-done it' not_yet)))
    ∙ ap (λ i. part ∷ left_in it' cuts (drop i cells)) (omega arith)

-- ---- the first word

abbrev pub begun : ℕ → ℕ → BreakState → UnicodeWords
begun letters spaces s = record { before = 0; letters = letters; spaces = spaces; state = s }

-- `k` codes are the word and its spaces, and `b` its letters
pub first-left : (cuts : Cuts) (s t : BreakState) (k b : ℕ) (cells : List TaggedChar) (codes : List ℕ) → codes_of cells
    ≡ codes →
    0 < length codes → k ≡ piece_len s true codes → 0 < k → b ≤ k → t ≡ state_at s k codes →
    b ≡ bare_len (bare_cells (take k codes)) →
    left_in (begun b (k - b) t) cuts cells ≡ flat_map (parts cuts) (words_in s cells)
first-left cuts s t k b cells codes q l e some h f g =
    let long : length cells ≡ length codes = cells-some cells codes q in
    let it = begun b (k - b) t in
    let i : k ≡ b + (k - b) = omega arith in
    let b1 : b ≡ bare_len (take k cells) = g ∙ sym (bare-codes (take k cells)
    ∙ ap (λ xs. bare_len (bare_cells xs)) (take-codes k cells ∙ ap (take k) q)) in
    let e1 : drop b (take k cells) ≡ take (k - b) (drop b cells) =
    ap (λ j. drop b (take j cells)) i ∙ drop-take b (k - b) cells in
    left-rest it cuts cells (omega arith) (not-done it (omega arith))
    ∙ ap₂ (λ us vs. parts_after cuts 0 (record { letters = us; spaces = vs })
    (words_in t (drop (b + (k - b)) cells))) (sym (take-take b k cells h)) (sym e1)
    ∙ ap₂ (λ s j. parts_after cuts 0 (parted b (take k cells)) (words_in s (drop j cells)))
    (f ∙ ap (state_at s k) (sym q)) (sym i)
    ∙ first-words cuts s k b cells (omega arith) (e ∙ ap (piece_len s true) (sym q)) b1

plain-codes : (cs : List ℕ) → codes_of (bare_cells cs) ≡ cs
plain-codes [] = refl
plain-codes (c ∷ cs) = ap (λ us. c ∷ us) (plain-codes cs)

-- its spaces have a column each
pub first-spaces : (k b : ℕ) (codes : List ℕ) → k ≤ length codes → b ≤ k →
    b ≡ bare_len (bare_cells (take k codes)) → code_columns (take (k - b) (drop b codes)) ≡ k - b
first-spaces k b codes h l e =
    let cells = bare_cells (take k codes) in
    let i : k ≡ b + (k - b) = omega arith in
    let same : codes_of (drop b cells) ≡ take (k - b) (drop b codes) =
    sym (drop-codes b cells) ∙ ap (drop b) (plain-codes (take k codes)) ∙ ap (λ j. drop b (take j codes)) i
    ∙ drop-take b (k - b) codes in
    let long : length (drop b cells) ≡ k - b = omega (
      arith,
      length-drop {A = TaggedChar} b cells,
      length-map (take k codes) plain_cell,
      length-take {A = ℕ} k codes,
    ) in
    ap code_columns (sym same) ∙ ap (λ j. code_columns (codes_of (drop j cells))) e ∙ bare-columns cells
    ∙ ap (λ j. length (drop j cells)) (sym e) ∙ long
