-- The lines of bytes as texts.
use Rattle.std.proofs.Common.{ℕ, zero, suc, ◌+◌, ◌-◌, ◌<◌, ◌≤◌, ◌≡◌, Bool, true, false, cond, List, [], ◌∷◌, ◌++◌}
use Rattle.std.proofs.Common.{length, take, drop, refl, sym, ap, ◌∙◌, arith, rules}
use Rattle.std.specs.Prelude.{nat_eq, slice_index, slice_range}
use Rattle.miette_fix_rows.specs.rules.Hunks.{has_no_lines}
use Rattle.std.proofs.lemmas.Bool.Decides.{nat_tests}
use Rattle.std.proofs.lemmas.List.{append-nil, append_assoc, drop-take, length-drop, map_push, nil_from_length}
use Rattle.std.proofs.lemmas.List.{take_rest, take-take, take_all}
use Rattle.miette_lines.specs.rules.Lines.{Line, IsCut, ends_line, with_byte, lines_from}
use Rattle.miette_lines.specs.declared.lines.LineOfText.{LineOfText}
use Rattle.miette_lines.specs.views.Walking.{IsFirst}
use Rattle.miette_lines.proofs.Cuts.{cut_from}
use Rattle.miette_fix_rows.specs.rules.Blocks.{line_texts, onto_line, bytes_of}
use Rattle.miette_fix_rows.specs.views.LineLists.{borrowed_lines}
use denote.Ref.{Bor}

-- ---- bytes of lines

onto_bytes : (b : ℕ) (ls : List (List ℕ)) → bytes_of (onto_line b ls) ≡ suc (bytes_of ls)
onto_bytes b [] = omega arith
onto_bytes b (l ∷ ls) = omega arith

bytes-step : (x : Bool) (b : ℕ) (ls : List (List ℕ)) → bytes_of (cond x ((b ∷ []) ∷ ls) (onto_line b ls))
    ≡ suc (bytes_of ls)
bytes-step true b ls = omega arith
bytes-step false b ls = onto_bytes b ls

-- lines have all bytes
pub bytes_of_texts : (bs : List ℕ) → bytes_of (line_texts bs) ≡ length bs
bytes_of_texts [] = refl
bytes_of_texts (b ∷ bs) =
    bytes-step (ends_line b (slice_index bs 0)) b (line_texts bs) ∙ ap suc (bytes_of_texts bs)

pub bytes_of-append : (ls ms : List (List ℕ)) → bytes_of (ls ++ ms) ≡ bytes_of ls + bytes_of ms
bytes_of-append [] ms = omega arith
bytes_of-append (l ∷ ls) ms = omega (arith, bytes_of-append ls ms)

pub bytes_of-take : (k : ℕ) (ls : List (List ℕ)) → bytes_of (take k ls) ≤ bytes_of ls
bytes_of-take zero ls = omega arith
bytes_of-take (suc k) [] = omega arith
bytes_of-take (suc k) (l ∷ ls) = omega (arith, bytes_of-take k ls)

nil-step : (x : Bool) (b : ℕ) (ls : List (List ℕ)) → has_no_lines (cond x ((b ∷ []) ∷ ls) (onto_line b ls)) ≡ false
nil-step true b ls = refl
nil-step false b [] = refl
nil-step false b (l ∷ ls) = refl

pub no_line : (bs : List ℕ) → length bs ≡ 0 → has_no_lines (line_texts bs) ≡ true
no_line [] e = refl
no_line (b ∷ bs) e = absurd (omega (arith, e))

pub some_lines : (bs : List ℕ) → 0 < length bs → has_no_lines (line_texts bs) ≡ false
some_lines [] e = absurd (omega (arith, e))
some_lines (b ∷ bs) e = nil-step (ends_line b (slice_index bs 0)) b (line_texts bs)

-- there is a line where there is a byte
pub nil_is : (bs : List ℕ) → has_no_lines (line_texts bs) ≡ nat_eq (length bs) 0
nil_is [] = refl
nil_is (b ∷ bs) =
    let n : nat_eq (length (b ∷ bs)) 0 ≡ false = search rules in
    some_lines (b ∷ bs) (omega arith) ∙ sym n

-- ---- parts of lines

lines_without : (bs : List ℕ) → line_texts bs ≡ [] → bs ≡ []
lines_without bs e =
    let n : length bs ≡ 0 = sym (bytes_of_texts bs) ∙ ap bytes_of e in nil_from_length bs n

drop-step : (x : Bool) (b k : ℕ) (bs : List ℕ) (ls : List (List ℕ)) → line_texts bs ≡ ls
    → ((j : ℕ) → line_texts (drop (bytes_of (take j ls)) bs) ≡ drop j ls)
    → line_texts (drop (bytes_of (take (suc k) (cond x ((b ∷ []) ∷ ls) (onto_line b ls)))) (b ∷ bs))
    ≡ drop (suc k) (cond x ((b ∷ []) ∷ ls) (onto_line b ls))
drop-step true b k bs ls e ih =
    let n : bytes_of (take (suc k) ((b ∷ []) ∷ ls)) ≡ suc (bytes_of (take k ls)) = omega arith in
    ap (λ m. line_texts (drop m (b ∷ bs))) n ∙ ih k
drop-step false b k bs [] e ih =
    let none : bs ≡ [] = lines_without bs e in
    let n : bytes_of (take (suc k) ((b ∷ []) ∷ [])) ≡ suc (bytes_of (take k [])) = omega arith in
    ap (λ m. line_texts (drop m (b ∷ bs))) n ∙ ih k
drop-step false b k bs (l ∷ ls) e ih =
    let n : bytes_of (take (suc k) ((b ∷ l) ∷ ls)) ≡ suc (bytes_of (take (suc k) (l ∷ ls))) = omega arith in
    ap (λ m. line_texts (drop m (b ∷ bs))) n ∙ ih (suc k)

-- after some of the lines stand the others
pub texts_drop : (bs : List ℕ) (k : ℕ) → line_texts (drop (bytes_of (take k (line_texts bs))) bs)
    ≡ drop k (line_texts bs)
texts_drop [] zero = refl
texts_drop [] (suc k) = refl
texts_drop (b ∷ bs) zero = refl
texts_drop (b ∷ bs) (suc k) = drop-step (ends_line b (slice_index bs 0)) b k bs (line_texts bs) refl (texts_drop bs)

-- a byte that ends a line before another byte ends one at the end
ends_alone : (b next : ℕ) → ends_line b next ≡ true → ends_line b 0 ≡ true
unfolding ends_line
ends_alone b next e = grind (arith, nat_tests, e)

ends_front : (b m : ℕ) (bs : List ℕ) → ends_line b (slice_index bs 0) ≡ true → ends_line b (slice_index (take m bs) 0)
    ≡ true
ends_front b zero bs e = ends_alone b (slice_index bs 0) e
ends_front b (suc m) [] e = e
ends_front b (suc m) (c ∷ bs) e = e

inner_front : (b m : ℕ) (bs : List ℕ) → 0 < m → ends_line b (slice_index bs 0) ≡ false
    → ends_line b (slice_index (take m bs) 0) ≡ false
inner_front b zero bs h e = absurd (omega (arith, h))
inner_front b (suc m) [] h e = e
inner_front b (suc m) (c ∷ bs) h e = e

some-step : (x : Bool) (b : ℕ) (ts : List (List ℕ)) (l : List ℕ) (ls : List (List ℕ))
    → cond x ((b ∷ []) ∷ ts) (onto_line b ts) ≡ l ∷ ls → 0 < length l
some-step true b ts l ls e = let f : b ∷ [] ≡ l = cc in omega (arith, ap length f)
some-step false b [] l ls e = let f : b ∷ [] ≡ l = cc in omega (arith, ap length f)
some-step false b (t ∷ ts) l ls e = let f : b ∷ t ≡ l = cc in omega (arith, ap length f)

-- no line is empty
pub first_some : (bs : List ℕ) (l : List ℕ) (ls : List (List ℕ)) → line_texts bs ≡ l ∷ ls → 0 < length l
first_some [] l ls e = absurd (cc)
first_some (b ∷ bs) l ls e = some-step (ends_line b (slice_index bs 0)) b (line_texts bs) l ls e

take_front : (x : Bool) (b k : ℕ) (bs : List ℕ) (ls : List (List ℕ)) → line_texts bs ≡ ls
    → ends_line b (slice_index bs 0) ≡ x
    → ((j : ℕ) → line_texts (take (bytes_of (take j ls)) bs) ≡ take j ls)
    → line_texts (take (bytes_of (take (suc k) (cond x ((b ∷ []) ∷ ls) (onto_line b ls)))) (b ∷ bs))
    ≡ take (suc k) (cond x ((b ∷ []) ∷ ls) (onto_line b ls))
take_front true b k bs ls e h ih =
    let m : ℕ = bytes_of (take k ls) in
    let n : bytes_of (take (suc k) ((b ∷ []) ∷ ls)) ≡ suc m = omega arith in
    let f : ends_line b (slice_index (take m bs) 0) ≡ true = ends_front b m bs h in
    ap (λ m. line_texts (take m (b ∷ bs))) n
    ∙ ap (λ (y : Bool). cond y ((b ∷ []) ∷ line_texts (take m bs)) (onto_line b (line_texts (take m bs)))) f
    ∙ ap (λ ms. (b ∷ []) ∷ ms) (ih k)
take_front false b k bs [] e h ih =
    let none : bs ≡ [] = lines_without bs e in
    let m : ℕ = bytes_of (take k []) in
    let n : bytes_of (take (suc k) ((b ∷ []) ∷ [])) ≡ suc m = omega arith in
    let f : ends_line b (slice_index (take m bs) 0) ≡ false =
    ap (λ xs. ends_line b (slice_index (take m xs) 0)) none
    ∙ ap (λ xs. ends_line b (slice_index xs 0)) (take_all m [] (omega arith))
    ∙ ap (λ xs. ends_line b (slice_index xs 0)) (sym none) ∙ h in
    ap (λ m. line_texts (take m (b ∷ bs))) n
    ∙ ap (λ (y : Bool). cond y ((b ∷ []) ∷ line_texts (take m bs)) (onto_line b (line_texts (take m bs)))) f
    ∙ ap (onto_line b) (ih k ∙ take_all k [] (omega arith))
    ∙ ap (λ ms. (b ∷ []) ∷ ms) (sym (take_all k [] (omega arith)))
take_front false b k bs (l ∷ ls) e h ih =
    let m : ℕ = bytes_of (take (suc k) (l ∷ ls)) in
    let n : bytes_of (take (suc k) ((b ∷ l) ∷ ls)) ≡ suc m = omega arith in
    let some : 0 < length l = first_some bs l ls e in
    let f : ends_line b (slice_index (take m bs) 0) ≡ false = inner_front b m bs (omega (arith, some)) h in
    ap (λ m. line_texts (take m (b ∷ bs))) n
    ∙ ap (λ (y : Bool). cond y ((b ∷ []) ∷ line_texts (take m bs)) (onto_line b (line_texts (take m bs)))) f
    ∙ ap (onto_line b) (ih (suc k))

-- some of the lines at the front are those of their bytes
pub texts_take : (bs : List ℕ) (k : ℕ) → line_texts (take (bytes_of (take k (line_texts bs))) bs)
    ≡ take k (line_texts bs)
texts_take [] zero = refl
texts_take [] (suc k) = refl
texts_take (b ∷ bs) zero = refl
texts_take (b ∷ bs) (suc k) =
    take_front (ends_line b (slice_index bs 0)) b k bs (line_texts bs) refl refl (texts_take bs)

-- lines from one place up to another are those of their bytes
pub texts_slice : (bs : List ℕ) (i j a b : ℕ) → i ≤ j → a ≡ bytes_of (take i (line_texts bs))
    → b ≡ bytes_of (take j (line_texts bs)) → line_texts (slice_range bs a b) ≡ drop i (take j (line_texts bs))
texts_slice bs i j a b le e f =
    let front : line_texts (take b bs) ≡ take j (line_texts bs) = ap (λ n. line_texts (take n bs)) f
    ∙ texts_take bs j in
    let same : take i (line_texts (take b bs)) ≡ take i (line_texts bs) = ap (take i) front ∙ take-take i j
    (line_texts bs) le in
    let at : a ≡ bytes_of (take i (line_texts (take b bs))) = e ∙ ap bytes_of (sym same) in
    let le2 : a ≤ b = omega (
      arith,
      e,
      f,
      bytes_of-take i (take j (line_texts bs)),
      ap bytes_of (take-take i j (line_texts bs) le),
    ) in
    let s : b ≡ a + (b - a) = omega (arith, le2) in
    let cut : drop a (take b bs) ≡ slice_range bs a b =
    ap (λ n. drop a (take n bs)) s ∙ drop-take a (b - a) bs in
    ap line_texts (sym cut) ∙ ap (λ n. line_texts (drop n (take b bs))) at ∙ texts_drop (take b bs) i ∙ ap
    (drop i) front

-- ---- first lines

-- lines as places
abbrev pub texts_at : ℕ → List ℕ → List Line → List (List ℕ)
texts_at at bs [] = []
texts_at at bs (l ∷ ls) = take (l.end - at) bs ∷ texts_at l.end (drop (l.end - at) bs) ls

with-step : (b at : ℕ) (bs : List ℕ) (ls : List Line) (to : ℕ) → IsCut (at + 1) ls to
    → texts_at at (b ∷ bs) (with_byte b at ls) ≡ onto_line b (texts_at (at + 1) bs ls)
with-step b at bs [] to h =
    let n : at + 1 - at ≡ suc 0 = omega arith in ap (λ m. take m (b ∷ bs) ∷ []) n
with-step b at bs (l ∷ ls) to h =
    let n : l.end - at ≡ suc (l.end - (at + 1)) = omega (arith, h.0, h.1, h.2) in
    ap (λ m. take m (b ∷ bs) ∷ texts_at l.end (drop m (b ∷ bs)) ls) n

texts-step : (x : Bool) (b at : ℕ) (bs : List ℕ) (ls : List Line) (ts : List (List ℕ)) (to : ℕ) → IsCut (at + 1) ls to
    → ts ≡ texts_at (at + 1) bs ls → cond x ((b ∷ []) ∷ ts) (onto_line b ts)
    ≡ texts_at at (b ∷ bs) (cond x (record { start = at; text_end = at; end = at + 1 } ∷ ls) (with_byte b at ls))
texts-step true b at bs ls ts to h e =
    let n : at + 1 - at ≡ suc 0 = omega arith in
    ap (λ ms. (b ∷ []) ∷ ms) e
    ∙ sym (ap (λ m. take m (b ∷ bs) ∷ texts_at (at + 1) (drop m (b ∷ bs)) ls) n)
texts-step false b at bs ls ts to h e = ap (onto_line b) e ∙ sym (with-step b at bs ls to h)

pub texts_by_place : (at : ℕ) (bs : List ℕ) → line_texts bs ≡ texts_at at bs (lines_from at bs)
texts_by_place at [] = refl
texts_by_place at (b ∷ bs) =
    texts-step (ends_line b (slice_index bs 0)) b at bs (lines_from (at + 1) bs) (line_texts bs) (at + 1 + length bs)
    (cut_from (at + 1) bs (at + 1 + length bs) refl) (texts_by_place (at + 1) bs)

-- the first line, and what comes after it
pub first_text : (bs : List ℕ) (line : LineOfText) → IsFirst (record { start = 0; bytes = bs }) line
    → line_texts bs ≡ take line.end bs ∷ line_texts (drop line.end bs)
first_text bs line h =
    let n : line.end - 0 ≡ line.end = omega arith in
    texts_by_place 0 bs ∙ ap (texts_at 0 bs) h.lines
    ∙ ap (λ m. take m bs ∷ texts_at line.end (drop m bs) (lines_from line.end (drop m bs))) n
    ∙ ap (λ ms. take line.end bs ∷ ms) (sym (texts_by_place line.end (drop line.end bs)))

-- ---- a list of lines in the making

-- one line more
pub lines_more : (list new : List (Bor (List ℕ))) (piece : Bor (List ℕ)) (rest all : List ℕ) (line : LineOfText)
    → IsFirst (record { start = 0; bytes = rest }) line → new ≡ list ++ piece ∷ [] → piece.now ≡ take line.end rest
    → borrowed_lines list ++ line_texts rest ≡ line_texts all
    → borrowed_lines new ++ line_texts (take (length rest - line.end) (drop line.end rest)) ≡ line_texts all
lines_more list new piece rest all line first e f h =
    let left : take (length rest - line.end) (drop line.end rest) ≡ drop line.end rest = take_rest rest line.end in
    let texts : borrowed_lines new ≡ borrowed_lines list ++ piece.now ∷ [] =
    ap borrowed_lines e ∙ map_push (λ (l : Bor (List ℕ)). l.now) list piece in
    ap (λ ms. borrowed_lines new ++ line_texts ms) left
    ∙ ap (λ ms. ms ++ line_texts (drop line.end rest)) texts
    ∙ append_assoc (borrowed_lines list) (piece.now ∷ []) (line_texts (drop line.end rest))
    ∙ ap (λ p. borrowed_lines list ++ p ∷ line_texts (drop line.end rest)) f
    ∙ ap (λ ms. borrowed_lines list ++ ms) (sym (first_text rest line first)) ∙ h

pub left_more : (left n : ℕ) (rest : List ℕ) → left ≡ length rest
    → left - n ≡ length (take (length rest - n) (drop n rest))
left_more left n rest e =
    let whole : take (length rest - n) (drop n rest) ≡ drop n rest = take_rest rest n in
    omega (arith, e, ap length whole, length-drop n rest)

-- no line more
pub lines_end : (list : List (Bor (List ℕ))) (rest all : List ℕ) → length rest ≡ 0
    → borrowed_lines list ++ line_texts rest ≡ line_texts all → borrowed_lines list ≡ line_texts all
lines_end list rest all e h =
    sym (append-nil (borrowed_lines list)) ∙ ap (λ r. borrowed_lines list ++ line_texts r)
    (sym (nil_from_length rest e)) ∙ h
