-- No other list of lines cuts the bytes, and a part of the bytes that begins and ends where lines do has the lines
-- between.
use Rattle.std.proofs.Common.{◌≡◌, ◌≢◌, ℕ, suc, zero, ◌+◌, ◌-◌, ◌<◌, ◌≤◌, Bool, true, false, cond, not, ◌&&◌, ◌||◌}
use Rattle.std.proofs.Common.{List, [], ◌∷◌, ◌++◌, length, take, drop, refl, sym, ap, ◌∙◌, inl, inr, subst, arith}
use Rattle.std.specs.Prelude.{◌==◌, slice_index, slice_get, slice_range, All}
use Rattle.std.specs.Option.{option_map_or}
use Rattle.std.proofs.lemmas.Bool.Decides.{nat_tests}
use Rattle.std.proofs.lemmas.List.{take-append-drop, length-append, append_assoc}
use Rattle.std.proofs.Math.Seq.{drop-append_seam, take-append_seam}
use Rattle.miette_lines.specs.rules.Lines.{Line, LF, CR, ends_line, with_byte, lines_from, lines_of, is_text}
use Rattle.miette_lines.specs.rules.Lines.{line_start}
use Rattle.miette_lines.specs.rules.Cutting.{IsTerminator, AreLines, BeginsWith}
use Rattle.miette_lines.proofs.AreLines.{lines_are}

abbrev pub made : ℕ → ℕ → ℕ → Line
made at text_end end = record { start = at; text_end = text_end; end = end }

not_equal : (a b : ℕ) → a ≢ b → (a == b) ≡ false
not_equal a b h = grind (arith, nat_tests, h)

-- bytes that begin with a terminator
first_terminator : (at : ℕ) (end rest : List ℕ) → IsTerminator end rest → 0 < length end →
    lines_from at (end ++ rest) ≡ made at at (at + length end) ∷ lines_from (at + length end) rest
unfolding ends_line
first_terminator at end rest (inl e) some = rw e refl
first_terminator at end rest (inr (inl e)) some = let two : at + 1 + 1 ≡ at + 2 = omega arith in rw (e, two) refl
first_terminator at end rest (inr (inr (inl e))) some =
    let f : (slice_index rest 0 == LF) ≡ false = not_equal (slice_index rest 0) LF e.1 in rw (e.0, f) refl
first_terminator at end rest (inr (inr (inr e))) some =
    let n : length end ≡ 0 = ap length e.0 in absurd (omega (arith, some, n))

text_goes_on : (x y z : Bool) → (not x && not y) ≡ true → (x || (y && not z)) ≡ false
text_goes_on true y z e = cc
text_goes_on false true z e = cc
text_goes_on false false z e = refl

no_cr : (x y : Bool) → (not x && not y) ≡ true → y ≡ false
no_cr true true e = cc
no_cr false true e = cc
no_cr true false e = refl
no_cr false false e = refl

-- a byte of text in front
text_step : (b at : ℕ) (bs : List ℕ) → is_text b ≡ true → lines_from at (b ∷ bs)
    ≡ with_byte b at (lines_from (at + 1) bs)
unfolding ends_line
text_step b at bs e =
    ap (λ (x : Bool). cond x (made at at (at + 1) ∷ lines_from (at + 1) bs) (with_byte b at (lines_from (at + 1) bs)))
    (text_goes_on (b == LF) (b == CR) (slice_index bs 0 == LF) e)

text_line : (b at te e : ℕ) (ls : List Line) → is_text b ≡ true → with_byte b at (made (at + 1) te e ∷ ls)
    ≡ made at te e ∷ ls
text_line b at te e ls h = ap (λ (x : Bool). made at (cond x at te) e ∷ ls) (no_cr (b == LF) (b == CR) h)

rest_all : (b : ℕ) (bs : List ℕ) → All (λ c. is_text c ≡ true) (b ∷ bs) → All (λ c. is_text c ≡ true) bs
rest_all b bs h k d lt = h (suc k) d (omega (arith, lt))

abbrev pub LineFirst : ℕ → List ℕ → List ℕ → List ℕ → Type 0
LineFirst at text end rest =
    lines_from at (text ++ (end ++ rest)) ≡ made at (at + length text) (at + (length text + length end))
    ∷ lines_from (at + (length text + length end)) rest

-- a byte of text in front of bytes that begin with a line
more : (b at : ℕ) (text end rest : List ℕ) → is_text b ≡ true → LineFirst (at + 1) text end rest
    → LineFirst at (b ∷ text) end rest
more b at text end rest e h =
    let p : at + 1 + length text ≡ at + suc (length text) = omega arith in
    let q : at + 1 + (length text + length end) ≡ at + (suc (length text) + length end) = omega arith in
    text_step b at (text ++ (end ++ rest)) e ∙ ap (with_byte b at) h
    ∙ text_line b at (at + 1 + length text) (at + 1 + (length text + length end))
    (lines_from (at + 1 + (length text + length end)) rest) e
    ∙ ap (λ x. made at x (at + 1 + (length text + length end)) ∷ lines_from (at + 1 + (length text + length end)) rest)
    p
    ∙ ap (λ x. made at (at + suc (length text)) x ∷ lines_from x rest) q

last_text : (b at : ℕ) (rest : List ℕ) → is_text b ≡ true → rest ≡ [] → LineFirst at (b ∷ []) [] rest
last_text b at rest e f =
    let p : at + 1 + 0 ≡ at + 1 = omega arith in
    ap (λ xs. lines_from at (b ∷ xs)) f ∙ text_step b at [] e
    ∙ ap (λ xs. made at (at + 1) (at + 1) ∷ lines_from (at + 1) xs) (sym f)

no_terminator : (rest : List ℕ) → IsTerminator [] rest → rest ≡ []
no_terminator rest (inl e) = absurd (cc)
no_terminator rest (inr (inl e)) = absurd (cc)
no_terminator rest (inr (inr (inl e))) = let f : [] ≡ CR ∷ [] = e.0 in absurd (cc)
no_terminator rest (inr (inr (inr e))) = e.1

-- bytes that begin with a line
pub first_line : (at : ℕ) (text end rest : List ℕ) → All (λ b. is_text b ≡ true) text → IsTerminator end rest → 0
    < length text + length end → LineFirst at text end rest
first_line at [] end rest p t some =
    let z : at + 0 ≡ at = omega arith in
    let n : 0 + length end ≡ length end = omega arith in
    rw (z, n) (first_terminator at end rest t (omega (arith, some)))
first_line at (b ∷ []) [] rest p t some = last_text b at rest (p 0 0 (omega arith)) (no_terminator rest t)
first_line at (b ∷ []) (c ∷ cs) rest p t some =
    more b at [] (c ∷ cs) rest (p 0 0 (omega arith)) (first_line (at + 1) [] (c ∷ cs) rest (rest_all b [] p) t
    (omega arith))
first_line at (b ∷ c ∷ cs) end rest p t some =
    more b at (c ∷ cs) end rest (p 0 0 (omega arith)) (first_line (at + 1) (c ∷ cs) end rest (rest_all b (c ∷ cs) p) t
    (omega arith))

only_from : (at : ℕ) (ls : List Line) (bytes : List ℕ) → AreLines at ls bytes → ls ≡ lines_from at bytes
only_from at [] bytes h = sym (ap (lines_from at) h)
only_from at (l ∷ ls) bytes h =
    let w : BeginsWith at l bytes h.0 = h.1 in
    ap (λ m. l ∷ m) (only_from l.end ls h.0 h.2)
    ∙ ap (λ s. made s l.text_end l.end ∷ lines_from l.end h.0) w.start
    ∙ ap (λ t. made at t l.end ∷ lines_from l.end h.0) w.text_end
    ∙ ap (λ e. made at (at + length w.text) e ∷ lines_from e h.0) w.end
    ∙ sym (first_line at w.text w.terminator h.0 w.plain w.ended w.some)
    ∙ sym (ap (lines_from at) w.parts)

-- no other list of lines cuts the bytes
pub lines : (bytes : List ℕ) (ls : List Line) → AreLines 0 ls bytes → ls ≡ lines_of bytes
lines bytes ls h = only_from 0 ls bytes h

-- the bytes of the lines in front, and those of the lines after
record Split (at : ℕ) (xs ys : List Line) (bytes : List ℕ) : Type 0 where
  front : List ℕ
  back : List ℕ
  parts : bytes ≡ front ++ back
  first : AreLines at xs front
  later : AreLines (at + length front) ys back

not_lf : (f b : List ℕ) → slice_index (f ++ b) 0 ≢ LF → slice_index f 0 ≢ LF
not_lf [] b h = λ e. absurd (omega (arith, e))
not_lf (c ∷ cs) b h = h

nil_front : (f b : List ℕ) → f ++ b ≡ [] → f ≡ []
nil_front [] b h = refl
nil_front (c ∷ cs) b h = absurd (cc)

ended_front : (end f b : List ℕ) → IsTerminator end (f ++ b) → IsTerminator end f
ended_front end f b (inl e) = inl e
ended_front end f b (inr (inl e)) = inr (inl e)
ended_front end f b (inr (inr (inl e))) = inr (inr (inl (e.0, not_lf f b e.1)))
ended_front end f b (inr (inr (inr e))) = inr (inr (inr (e.0, nil_front f b e.1)))

again : (text end f b : List ℕ) → text ++ (end ++ (f ++ b)) ≡ (text ++ (end ++ f)) ++ b
again text end f b = sym (append_assoc text (end ++ f) b ∙ ap (λ r. text ++ r) (append_assoc end f b))

are_at : (a b : ℕ) (ls : List Line) (bytes : List ℕ) → a ≡ b → AreLines a ls bytes → AreLines b ls bytes
are_at a b ls bytes e h = let P : ℕ → Type 0 = λ n. AreLines n ls bytes in subst P e h

split : (at : ℕ) (xs ys : List Line) (bytes : List ℕ) → AreLines at (xs ++ ys) bytes → Split at xs ys bytes
split at [] ys bytes h = record {
  front = [];
  back = bytes;
  parts = refl;
  first = refl;
  later = are_at at (at + 0) ys bytes (omega arith) h;
}
split at (x ∷ xs) ys bytes h =
    let w : BeginsWith at x bytes h.0 = h.1 in
    let s : Split x.end xs ys h.0 = split x.end xs ys h.0 h.2 in
    let P : List ℕ → Type 0 = λ r. IsTerminator w.terminator r in
    record {
      front = w.text ++ (w.terminator ++ s.front);
      back = s.back;
      parts = w.parts ∙ ap (λ r. w.text ++ (w.terminator ++ r)) s.parts ∙ again w.text w.terminator s.front s.back;
      first = (
        s.front,
        record {
          text = w.text;
          terminator = w.terminator;
          parts = refl;
          plain = w.plain;
          ended = ended_front w.terminator s.front s.back (subst P s.parts w.ended);
          some = w.some;
          start = w.start;
          text_end = w.text_end;
          end = w.end;
        },
        s.first,
      );
      later = are_at (x.end + length s.front) (at + length (w.text ++ (w.terminator ++ s.front))) ys s.back
          (omega (arith, w.end, length-append w.text (w.terminator ++ s.front), length-append w.terminator s.front))
          s.later;
    }

starts : (n a : ℕ) (ls : List Line) (bs : List ℕ) → AreLines a ls bs → n ≡ a + length bs
    → option_map_or (λ l. l.start) (slice_get ls 0) n ≡ a
starts n a [] bs h e = omega (arith, e, ap length h)
starts n a (l ∷ ls) bs h e = h.1.start

get_drop : (k i : ℕ) (ls : List Line) → slice_get (drop k ls) i ≡ slice_get ls (k + i)
get_drop zero i ls = let e : i ≡ 0 + i = omega arith in ap (slice_get ls) e
get_drop (suc k) i [] = refl
get_drop (suc k) i (l ∷ ls) = let e : suc (k + i) ≡ suc k + i = omega arith in get_drop k i ls
    ∙ ap (slice_get (l ∷ ls)) e

start_by : (bytes : List ℕ) (k j i a : ℕ) (bs : List ℕ) → k ≡ j + i → AreLines a (drop i (drop j (lines_of bytes))) bs
    → length bytes ≡ a + length bs → line_start bytes k ≡ a
unfolding line_start
start_by bytes k j i a bs e h n =
    let z : i + 0 ≡ i = omega arith in
    let g : slice_get (lines_of bytes) k ≡ slice_get (drop i (drop j (lines_of bytes))) 0 =
    sym (get_drop i 0 (drop j (lines_of bytes)) ∙ ap (slice_get (drop j (lines_of bytes))) z
    ∙ get_drop j i (lines_of bytes) ∙ ap (slice_get (lines_of bytes)) (sym e)) in
    ap (λ m. option_map_or (λ l. l.start) m (length bytes)) g
    ∙ starts (length bytes) a (drop i (drop j (lines_of bytes))) bs h n

middle : (bytes a b c : List ℕ) (from to : ℕ) → bytes ≡ a ++ (b ++ c) → from ≡ length a → to ≡ length a + length b
    → slice_range bytes from to ≡ b
middle bytes a b c from to e f g =
    let n : to - from ≡ length b = omega (arith, f, g) in
    ap (λ xs. take (to - from) (drop from xs)) e
    ∙ ap (λ m. take m (drop from (a ++ (b ++ c)))) n
    ∙ ap (λ m. take (length b) (drop m (a ++ (b ++ c)))) f
    ∙ ap (take (length b)) (drop-append_seam a (b ++ c))
    ∙ take-append_seam b c

-- a part of the bytes from the start of a line to that of a later one has the lines between
pub lines_between : (bytes : List ℕ) (low high : ℕ) → low ≤ high →
    lines_from (line_start bytes low) (slice_range bytes (line_start bytes low) (line_start bytes high))
    ≡ slice_range (lines_of bytes) low high
lines_between bytes low high le =
    let ls : List Line = lines_of bytes in
    let m : ℕ = high - low in
    let P : List Line → Type 0 = λ xs. AreLines 0 xs bytes in
    let s : Split 0 (take low ls) (drop low ls) bytes = split 0 (take low ls) (drop low ls) bytes
    (subst P (sym (take-append-drop low ls)) (lines_are bytes)) in
    let Q : List Line → Type 0 = λ xs. AreLines (0 + length s.front) xs s.back in
    let t : Split (0 + length s.front) (take m (drop low ls)) (drop m (drop low ls)) s.back =
    split (0 + length s.front) (take m (drop low ls)) (drop m (drop low ls)) s.back
    (subst Q (sym (take-append-drop m (drop low ls))) s.later) in
    let whole : bytes ≡ s.front ++ (t.front ++ t.back) = s.parts ∙ ap (λ r. s.front ++ r) t.parts in
    let n : length bytes ≡ length s.front + length s.back = ap length s.parts ∙ length-append s.front s.back in
    let o : length s.back ≡ length t.front + length t.back = ap length t.parts ∙ length-append t.front t.back in
    let p : line_start bytes low ≡ 0 + length s.front = start_by bytes low low 0 (0 + length s.front) s.back
    (omega arith) s.later (omega (arith, n)) in
    let q : line_start bytes high ≡ 0 + length s.front + length t.front =
    start_by bytes high low m (0 + length s.front + length t.front) t.back (omega (arith, le)) t.later
    (omega (arith, n, o)) in
    ap (λ a. lines_from a (slice_range bytes (line_start bytes low) (line_start bytes high))) p
    ∙ ap (lines_from (0 + length s.front)) (middle bytes s.front t.front t.back (line_start bytes low)
    (line_start bytes high) whole (omega (arith, p)) (omega (arith, q)))
    ∙ sym (only_from (0 + length s.front) (take m (drop low ls)) t.front t.first)
