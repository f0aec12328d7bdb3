-- A character that is seen at the end of a line: it stands after one that would end a sequence.
use Rattle.std.proofs.Common.{◌≡◌, ℕ, zero, suc, ◌+◌, ◌-◌, ◌<◌, ◌≤◌, Bool, true, false, not, ◌&&◌, ◌==◌, ◌⊎◌, inl, inr}
use Rattle.std.proofs.Common.{List, [], ◌∷◌, ◌++◌, IsAscii, IsUtf8, length, take, drop, get_or, refl, sym, ap, ◌∙◌}
use Rattle.std.proofs.Common.{arith}
use Rattle.std.proofs.Common.{if◌then◌else◌, subst}
use Rattle.std.specs.Prelude.{chars}
use Rattle.std.specs.Char.{is_whitespace}
use Rattle.std.proofs.lemmas.Bool.{and_parts}
use Rattle.std.proofs.lemmas.Bool.Decides.{nat_tests}
use Rattle.std.proofs.lemmas.List.{drop_all, drop_more, take-append-drop}
use Rattle.std.proofs.Math.Bool.{and-false}
use Rattle.std.proofs.lemmas.Str.{IsCharBoundary-before_ascii, IsUtf8-take, chars-IsAscii, chars-append}
use Rattle.std.proofs.lemmas.Str.Ascii.{IsAscii-cons, IsAscii-nil}
use Rattle.miette_style.specs.rules.Codes.{colour_stop}
use Rattle.miette_style.specs.rules.Escapes.{is_escape}
use Rattle.miette_runs.specs.rules.Sequences.{Token, Character, Sequence, after_escape_len, begins, begins_terminator}
use Rattle.miette_runs.specs.rules.Sequences.{command_len, control_len, is_bell, is_final, is_line_feed, one_more}
use Rattle.miette_runs.specs.rules.Sequences.{sequence_len, tokens, tokens_after}
use Rattle.miette_text.specs.steps.WholeText.{are_passed, closes, is_low, is_visible}
use Rattle.miette_text.proofs.PassedFronts.{visible}

-- ---- a sequence that begins before a code that would end one ends there at last

more_most : (m n : ℕ) → m ≤ n → one_more m ≤ suc n
more_most zero n h = omega arith
more_most (suc m) n h = omega (arith, h)

more_none : (m : ℕ) → m ≡ 0 → one_more m ≤ 1
more_none zero e = omega arith
more_none (suc m) e = absurd (omega (arith, e))

control_first : (f g : Bool) (m : ℕ) → g ≡ true → (if f then 0 else if g then 1 else one_more m) ≤ 1
control_first true g m h = omega arith
control_first false true m h = omega arith
control_first false false m h = absurd (cc)

control_next : (f g : Bool) (m n : ℕ) → m ≤ n → (if f then 0 else if g then 1 else one_more m) ≤ suc n
control_next true g m n h = omega arith
control_next false true m n h = omega arith
control_next false false m n h = more_most m n h

control_closed : (p : ℕ) (t y : List ℕ) → is_final p ≡ true → control_len (y ++ p ∷ t) ≤ suc (length y)
control_closed p t [] h = control_first (is_line_feed p) (is_final p) (control_len t) h
control_closed p t (c ∷ y) h =
    control_next (is_line_feed c) (is_final c) (control_len (y ++ p ∷ t)) (suc (length y)) (control_closed p t y h)

command_first : (f g e : Bool) (m : ℕ) → e ≡ false → m ≡ 0 →
    (if f then 0 else if g then 1 else if e then 2 else one_more m) ≤ 1
command_first true g e m h k = omega arith
command_first false true e m h k = omega arith
command_first false false true m h k = absurd (cc)
command_first false false false m h k = more_none m k

command_next : (f g e : Bool) (m n : ℕ) → 1 ≤ n → m ≤ n →
    (if f then 0 else if g then 1 else if e then 2 else one_more m) ≤ suc n
command_next true g e m n l h = omega arith
command_next false true e m n l h = omega arith
command_next false false true m n l h = omega (arith, l)
command_next false false false m n l h = more_most m n h

not_escape : (p : ℕ) → is_final p ≡ true → is_escape p ≡ false
not_escape p h = grind (arith, nat_tests)

command_closed : (p : ℕ) (t y : List ℕ) → is_final p ≡ true → command_len t ≡ 0
    → command_len (y ++ p ∷ t) ≤ suc (length y)
command_closed p t [] h k =
    command_first (is_line_feed p) (is_bell p) (begins_terminator (p ∷ t)) (command_len t)
    (ap (λ b. b && begins 92 t) (not_escape p h)) k
command_closed p t (c ∷ y) h k =
    command_next (is_line_feed c) (is_bell c) (begins_terminator (c ∷ (y ++ p ∷ t))) (command_len (y ++ p ∷ t))
    (suc (length y)) (omega arith) (command_closed p t y h k)

escape_first : (f g : Bool) (m k : ℕ) → f ≡ false → k ≡ 0 →
    (if f then one_more m else if g then one_more k else 0) ≤ 1
escape_first true g m k h e = absurd (cc)
escape_first false true m k h e = more_none k e
escape_first false false m k h e = omega arith

escape_next : (f g : Bool) (m k n : ℕ) → m ≤ n → k ≤ n →
    (if f then one_more m else if g then one_more k else 0) ≤ suc n
escape_next true g m k n h e = more_most m n h
escape_next false true m k n h e = more_most k n e
escape_next false false m k n h e = omega arith

escape_closed : (p : ℕ) (t y : List ℕ) → is_final p ≡ true → (p == 91) ≡ false → command_len t ≡ 0
    → after_escape_len (y ++ p ∷ t) ≤ suc (length y)
escape_closed p t [] h b k = escape_first (p == 91) (p == 93) (control_len t) (command_len t) b k
escape_closed p t (d ∷ y) h b k =
    escape_next (d == 91) (d == 93) (control_len (y ++ p ∷ t)) (command_len (y ++ p ∷ t)) (suc (length y))
    (control_closed p t y h) (command_closed p t y h k)

sequence_next : (e : Bool) (m n : ℕ) → m ≤ n → (if e then one_more m else 0) ≤ suc n
sequence_next true m n h = more_most m n h
sequence_next false m n h = omega arith

sequence_closed : (p c : ℕ) (t y : List ℕ) → is_final p ≡ true → (p == 91) ≡ false → command_len t ≡ 0
    → sequence_len (c ∷ (y ++ p ∷ t)) ≤ suc (suc (length y))
sequence_closed p c t y h b k = sequence_next (is_escape c) (after_escape_len (y ++ p ∷ t)) (suc (length y))
    (escape_closed p t y h b k)

-- ---- a code that is visible begins and ends no sequence

not_feed : (c : ℕ) → is_visible c ≡ true → is_line_feed c ≡ false
not_feed c h = grind (arith, nat_tests)

not_bell : (c : ℕ) → is_visible c ≡ true → is_bell c ≡ false
not_bell c h = grind (arith, nat_tests)

not_begun : (c : ℕ) → is_visible c ≡ true → is_escape c ≡ false
not_begun c h = grind (arith, nat_tests)

quiet_more : (c : ℕ) (t : List ℕ) → is_visible c ≡ true → command_len t ≡ 0 → command_len (c ∷ t) ≡ 0
quiet_more c t h k =
    ap (λ (v : Bool). if v then 0 else if is_bell c then 1 else if begins_terminator (c ∷ t) then 2
    else one_more (command_len t)) (not_feed c h)
    ∙ ap (λ (v : Bool). if v then 1 else if begins_terminator (c ∷ t) then 2 else one_more (command_len t))
    (not_bell c h)
    ∙ ap (λ (v : Bool). if v && begins 92 t then 2 else one_more (command_len t)) (not_begun c h)
    ∙ ap one_more k

visible_low : (c : ℕ) → is_visible c ≡ true → 33 ≤ c
visible_low c h = grind (arith, nat_tests)

visible_high : (c : ℕ) → is_visible c ≡ true → c ≤ 126
visible_high c h = grind (arith, nat_tests)

-- ---- a walk up to codes of which one is seen, where a sequence that begins before them has at most `m` of them

walk_seen : (b : Bool) (s : List ℕ) (m : ℕ)
    → ((c : ℕ) (y : List ℕ) → sequence_len (c ∷ (y ++ s)) ≤ suc (m + length y))
    → ((j : ℕ) → j ≤ m → are_passed b (tokens_after j s) ≡ false)
    → (y : List ℕ) (j : ℕ) → j ≤ m + length y → are_passed b (tokens_after j (y ++ s)) ≡ false
walk_seen b s m ends seen [] j l = seen j (omega (arith, l))
walk_seen b s m ends seen (c ∷ y) (suc j) l = walk_seen b s m ends seen y j (omega (arith, l))
walk_seen b s m ends seen (c ∷ y) zero l =
    let rest = y ++ s in
    elim (sequence_len (c ∷ rest)) as (λ (n : ℕ). n ≤ suc (m + length y)
    → are_passed b (elim n as (λ _. List Token) [
      | zero ↦ Character c ∷ tokens_after 0 rest
      | suc k ↦ Sequence (take (suc k) (c ∷ rest)) ∷ tokens_after k rest
    ]) ≡ false) [
      | zero ↦ λ k. ap (λ v. (b && is_whitespace c) && v) (walk_seen b s m ends seen y 0 (omega arith))
          ∙ and-false (b && is_whitespace c)
      | suc i ↦ λ k. walk_seen b s m ends seen y i (omega (arith, k))
    ] (ends c y)

-- ---- so what is after that code is seen

final_low : (p : ℕ) → is_final p ≡ true → 33 ≤ p
final_low p h = grind (arith, nat_tests)

final_high : (p : ℕ) → is_final p ≡ true → p ≤ 126
final_high p h = grind (arith, nat_tests)

closed_seen : (b : Bool) (p : ℕ) (t : List ℕ) → is_final p ≡ true → are_passed b (tokens t) ≡ false
    → (j : ℕ) → j ≤ 1 → are_passed b (tokens_after j (p ∷ t)) ≡ false
closed_seen b p t h s zero l = visible p b t (final_low p h) (final_high p h)
closed_seen b p t h s (suc zero) l = s
closed_seen b p t h s (suc (suc j)) l = absurd (omega (arith, l))

closed_ends : (p : ℕ) (t : List ℕ) → is_final p ≡ true → (p == 91) ≡ false → command_len t ≡ 0
    → (c : ℕ) (y : List ℕ) → sequence_len (c ∷ (y ++ p ∷ t)) ≤ suc (1 + length y)
closed_ends p t h e k c y = omega (arith, sequence_closed p c t y h e k)

after_seen : (b : Bool) (p : ℕ) (t : List ℕ) → is_final p ≡ true → (p == 91) ≡ false → command_len t ≡ 0
    → are_passed b (tokens t) ≡ false → (y : List ℕ) → are_passed b (tokens (y ++ p ∷ t)) ≡ false
after_seen b p t h e k s y =
    walk_seen b (p ∷ t) 1 (closed_ends p t h e k) (closed_seen b p t h s) y 0 (omega arith)

-- ---- and a code that would end none is seen at the very end

low_final : (c : ℕ) → is_low c ≡ true → is_final c ≡ false
low_final c h = grind (arith, nat_tests)

low_backslash : (c : ℕ) → is_low c ≡ true → (c == 92) ≡ false
low_backslash c h = grind (arith, nat_tests)

low_visible : (c : ℕ) → is_low c ≡ true → is_visible c ≡ true
low_visible c h = grind (arith, nat_tests)

control_last : (f g : Bool) → g ≡ false → (if f then 0 else if g then 1 else one_more 0) ≤ 0
control_last true g h = omega arith
control_last false true h = absurd (cc)
control_last false false h = omega arith

control_low : (c : ℕ) (y : List ℕ) → is_low c ≡ true → control_len (y ++ c ∷ []) ≤ length y
control_low c [] h = control_last (is_line_feed c) (is_final c) (low_final c h)
control_low c (d ∷ y) h =
    control_next (is_line_feed d) (is_final d) (control_len (y ++ c ∷ [])) (length y) (control_low c y h)

command_none : (c : ℕ) → is_low c ≡ true → command_len (c ∷ []) ≡ 0
command_none c h = quiet_more c [] (low_visible c h) refl

command_low : (c : ℕ) (y : List ℕ) → is_low c ≡ true → command_len (y ++ c ∷ []) ≤ length y
command_low c [] h = omega (arith, command_none c h)
command_low c (d ∷ []) h =
    command_first (is_line_feed d) (is_bell d) (begins_terminator (d ∷ c ∷ [])) (command_len (c ∷ []))
    (ap (λ b. is_escape d && b) (low_backslash c h) ∙ and-false (is_escape d)) (command_none c h)
command_low c (d ∷ e ∷ y) h =
    command_next (is_line_feed d) (is_bell d) (begins_terminator (d ∷ e ∷ (y ++ c ∷ [])))
    (command_len (e ∷ (y ++ c ∷ []))) (suc (length y)) (omega arith) (command_low c (e ∷ y) h)

escape_last : (f g : Bool) → (if f then one_more 0 else if g then one_more 0 else 0) ≤ 0
escape_last true g = omega arith
escape_last false true = omega arith
escape_last false false = omega arith

escape_low : (c : ℕ) (y : List ℕ) → is_low c ≡ true → after_escape_len (y ++ c ∷ []) ≤ length y
escape_low c [] h = escape_last (c == 91) (c == 93)
escape_low c (d ∷ y) h =
    escape_next (d == 91) (d == 93) (control_len (y ++ c ∷ [])) (command_len (y ++ c ∷ [])) (length y)
    (control_low c y h) (command_low c y h)

low_ends : (c : ℕ) → is_low c ≡ true → (d : ℕ) (y : List ℕ) → sequence_len (d ∷ (y ++ c ∷ [])) ≤ suc (0 + length y)
low_ends c h d y = omega (
  arith,
  sequence_next (is_escape d) (after_escape_len (y ++ c ∷ [])) (length y) (escape_low c y h),
)

low_seen : (b : Bool) (c : ℕ) → is_low c ≡ true → (j : ℕ) → j ≤ 0 → are_passed b (tokens_after j (c ∷ [])) ≡ false
low_seen b c h zero l =
    visible c b [] (visible_low c (low_visible c h)) (visible_high c (low_visible c h))
low_seen b c h (suc j) l = absurd (omega (arith, l))

last_seen : (b : Bool) (c : ℕ) → is_low c ≡ true → (y : List ℕ) → are_passed b (tokens (y ++ c ∷ [])) ≡ false
last_seen b c h y = walk_seen b (c ∷ []) 0 (low_ends c h) (low_seen b c h) y 0 (omega arith)

-- ---- at the end of a line, or before the code that ends a style there

-- no end of a sequence that begins with `ESC ]`
record IsTail (t : List ℕ) : Type 0 where
  pub ascii : IsAscii t
  pub quiet : command_len t ≡ 0

none_tail : IsTail []
none_tail = record { ascii = IsAscii-nil; quiet = refl }

stop_tail : IsTail colour_stop
stop_tail = record {
  ascii = IsAscii-cons 27 (91 ∷ 48 ∷ 109 ∷ []) (omega arith) (IsAscii-cons 91 (48 ∷ 109 ∷ []) (omega arith)
      (IsAscii-cons 48 (109 ∷ []) (omega arith) (IsAscii-cons 109 [] (omega arith) IsAscii-nil)));
  quiet = refl;
}

tail_of : (t : List ℕ) → (t ≡ []) ⊎ (t ≡ colour_stop) → IsTail t
tail_of t (inl e) = subst (λ s. IsTail s) (sym e) none_tail
tail_of t (inr e) = subst (λ s. IsTail s) (sym e) stop_tail

not_true : (b : Bool) → not b ≡ true → b ≡ false
not_true true h = cc
not_true false h = refl

pub line_seen : (line : List ℕ) (n : ℕ) → IsUtf8 line → 2 ≤ n → n ≤ length line
    → (drop n line ≡ []) ⊎ (drop n line ≡ colour_stop) → closes (get_or line (n - 2) 0) ≡ true
    → is_visible (get_or line (n - 1) 0) ≡ true → (b : Bool) → are_passed b (tokens (chars line)) ≡ false
line_seen line n u l m tail h k b =
    let i = n - 2 in
    let p = get_or line i 0 in
    let c = get_or line (n - 1) 0 in
    let t = drop n line in
    let front = take i line in
    let end = tail_of t tail in
    let closed = and_parts (is_final p) (not (p == 91)) h in
    let low : p < 128 = omega (arith, final_high p closed.0) in
    let seen : c < 128 = omega (arith, visible_high c k) in
    let next : i + 1 ≡ n - 1 = omega (arith, l) in
    let last : (n - 1) + 1 ≡ n = omega (arith, l) in
    let second : drop (i + 1) line ≡ c ∷ t = drop_more line (i + 1) 0 (omega (arith, l, m))
    ∙ ap (λ j. get_or line j 0 ∷ drop (j + 1) line) next ∙ ap (λ j. c ∷ drop j line) last in
    let parts : line ≡ front ++ p ∷ c ∷ t = sym (take-append-drop i line)
    ∙ ap (λ xs. front ++ xs) (drop_more line i 0 (omega (arith, l, m)) ∙ ap (λ xs. p ∷ xs) second) in
    let own : IsUtf8 front = IsUtf8-take line i u (IsCharBoundary-before_ascii line i (omega (arith, l, m)) low) in
    let ascii : IsAscii (p ∷ c ∷ t) = IsAscii-cons p (c ∷ t) low (IsAscii-cons c t seen end.ascii) in
    let text : chars line ≡ chars front ++ p ∷ c ∷ t = ap chars parts ∙ chars-append front (p ∷ c ∷ t) own
    ∙ ap (λ xs. chars front ++ xs) (chars-IsAscii (p ∷ c ∷ t) ascii) in
    ap (λ xs. are_passed b (tokens xs)) text
    ∙ after_seen b p (c ∷ t) closed.0 (not_true (p == 91) closed.1) (quiet_more c t k end.quiet)
    (visible c b t (visible_low c k) (visible_high c k)) (chars front)

pub end_seen : (line : List ℕ) → IsUtf8 line → 1 ≤ length line → is_low (get_or line (length line - 1) 0) ≡ true
    → (b : Bool) → are_passed b (tokens (chars line)) ≡ false
end_seen line u l h b =
    let i = length line - 1 in
    let c = get_or line i 0 in
    let front = take i line in
    let low : c < 128 = omega (arith, visible_high c (low_visible c h)) in
    let none : drop (i + 1) line ≡ [] = drop_all (i + 1) line (omega (arith, l)) in
    let parts : line ≡ front ++ c ∷ [] = sym (take-append-drop i line)
    ∙ ap (λ xs. front ++ xs) (drop_more line i 0 (omega (arith, l)) ∙ ap (λ xs. c ∷ xs) none) in
    let own : IsUtf8 front = IsUtf8-take line i u (IsCharBoundary-before_ascii line i (omega (arith, l)) low) in
    let text : chars line ≡ chars front ++ c ∷ [] = ap chars parts ∙ chars-append front (c ∷ []) own
    ∙ ap (λ xs. chars front ++ xs) (chars-IsAscii (c ∷ []) (IsAscii-cons c [] low IsAscii-nil)) in
    ap (λ xs. are_passed b (tokens xs)) text ∙ last_seen b c h (chars front)
