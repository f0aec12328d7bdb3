-- Lines that are not wrapped, each under its indent.
use Rattle.std.proofs.Common.{◌≡◌, ℕ, suc, ◌+◌, ◌<◌, ◌≤◌, Bool, true, false, ◌&&◌, List, [], ◌∷◌}
use Rattle.std.proofs.Common.{◌++◌, length, refl, sym, ap, ap₂, subst, ◌∙◌, append_assoc, arith, if◌then◌else◌}
use Rattle.std.proofs.Common.{cond, drop, get_or, length-append, lit<, ltb-false, ltb-true, take, take-append-drop}
use Rattle.std.specs.Prelude.{chars, encode_utf8, encode_utf8_all, nat_lt, IsAscii, IsUtf8}
use Rattle.std.specs.Char.{is_whitespace}
use Rattle.std.specs.List.{prefix_len}
use Rattle.std.specs.Str.{IsCharBoundary}
use Rattle.std.proofs.Math.Bool.{and-true, and_assoc}
use Rattle.std.proofs.Math.Seq.{take-append_seam}
use Rattle.std.proofs.lemmas.Bool.Decides.{nat_tests}
use Rattle.std.proofs.lemmas.List.{drop_at, drop_more, get_or-append-add, take_all, take_more}
use Rattle.std.proofs.lemmas.List.Sums.{prefix_len-le-length, prefix_len_stops}
use Rattle.std.proofs.lemmas.Str.{chars-append, chars-IsAscii, chars_past_char, encode_ascii, encodes-chars}
use Rattle.std.proofs.lemmas.Str.{IsUtf8-drop, IsUtf8-take, IsCharBoundary-before_ascii, IsCharBoundary-end}
use Rattle.std.proofs.lemmas.Str.Ascii.{IsAscii-cons, IsAscii-nil}
use Rattle.miette_lines.specs.rules.Lists.{is_nil}
use Rattle.miette_runs.specs.rules.Sequences.{Token, Character, Sequence, spell, tokens}
use Rattle.miette_runs.proofs.Appending.{spell-append}
use Rattle.miette_runs.proofs.Tokens.{spell-tokens}
use Rattle.miette_text.specs.laws.FittingRows.{is_row}
use Rattle.miette_text.specs.rules.Wrapping.{TextLine, all_white, indented_row, last_indented, line_feed}
use Rattle.miette_text.specs.rules.Wrapping.{text_line_tokens}
use Rattle.miette_text.specs.rules.Wrapping.{trimmed_row, whole_lines, with_tag}
use Rattle.miette_text.specs.steps.WholeText.{IsFirstLine, are_passed, indent_before, is_in_row, last_under}
use Rattle.miette_text.specs.steps.WholeText.{line_indent, line_under}
use Rattle.miette_text.proofs.Feeds.{lines, lines-fed}
use Rattle.miette_text.proofs.Fitting.{high-byte}
use Rattle.miette_text.proofs.FittingRows.{line-tokens, line_of, row-line, row_line}
use Rattle.miette_text.proofs.LineWise.{pieces-some}

-- ---- what is seen of a line

tag-white : (s : List ℕ) (p : TextLine) → all_white (with_tag s p).cells ≡ all_white p.cells
tag-white s p = elim p.cells as (λ cs. all_white (with_tag s (record { cells = cs; rest = p.rest })).cells
    ≡ all_white cs) [ [] ↦ refl | c ∷ cs ↦ refl ]

white-line : (ts : List Token) → all_white (line_of ts).cells ≡ are_passed true ts
white-line [] = refl
white-line (Character c ∷ ts) = ap (λ b. is_whitespace c && b) (white-line ts)
white-line (Sequence s ∷ ts) = tag-white s (line_of ts) ∙ white-line ts

tag-none : (s : List ℕ) (p : TextLine) → is_nil (with_tag s p).cells ≡ is_nil p.cells
tag-none s p = elim p.cells as (λ cs. is_nil (with_tag s (record { cells = cs; rest = p.rest })).cells
    ≡ is_nil cs) [ [] ↦ refl | c ∷ cs ↦ refl ]

none-line : (ts : List Token) → is_nil (line_of ts).cells ≡ are_passed false ts
none-line [] = refl
none-line (Character c ∷ ts) = refl
none-line (Sequence s ∷ ts) = tag-none s (line_of ts) ∙ none-line ts

-- ---- a line under its indent

row-under : (indent : List Token) (row : List ℕ) → spell (indented_row indent (row_line row)) ≡ line_under indent row
row-under indent row =
    ap₂ (λ (b : Bool) ts. spell ((if b then trimmed_row indent else indent) ++ ts)) (white-line (tokens row))
    (line-tokens (tokens row))
    ∙ spell-append (line_indent indent row) (tokens row)
    ∙ ap (λ cs. spell (line_indent indent row) ++ cs) (spell-tokens row)

last-row : (indent : List Token) (p : TextLine) → spell (last_indented indent p) ≡ (if is_nil p.cells
    then spell (text_line_tokens p) else spell (indented_row indent p))
last-row indent p = elim p.cells as (λ cs. spell (last_indented indent (record { cells = cs; rest = p.rest }))
    ≡ (if is_nil cs then spell (text_line_tokens (record { cells = cs; rest = p.rest }))
    else spell (indented_row indent (record { cells = cs; rest = p.rest })))) [ [] ↦ refl | c ∷ cs ↦ refl ]

last-line : (indent : List Token) (row : List ℕ) → spell (last_indented indent (row_line row)) ≡ last_under indent row
last-line indent row =
    last-row indent (row_line row)
    ∙ ap (λ (b : Bool). if b then spell (text_line_tokens (row_line row))
    else spell (indented_row indent (row_line row))) (none-line (tokens row))
    ∙ ap₂ (λ us vs. if are_passed false (tokens row) then us else vs)
    (ap spell (line-tokens (tokens row)) ∙ spell-tokens row) (row-under indent row)

-- ---- line by line

-- what the lines of a text print
abbrev pub whole_text : List Token → List Token → List ℕ → List ℕ
whole_text indent further text = spell (whole_lines indent further (lines text))

whole-end : (indent further : List Token) (row : List ℕ) → is_row row ≡ true → whole_text indent further row
    ≡ last_under indent row
whole-end indent further row h =
    ap (λ ps. spell (whole_lines indent further ps)) (row-line row h) ∙ last-line indent row

more-lines : (indent further : List Token) (p : TextLine) (ps : List TextLine) → 0 < length ps
    → spell (whole_lines indent further (p ∷ ps)) ≡ spell (indented_row indent p) ++ 10
    ∷ spell (whole_lines further further ps)
more-lines indent further p [] h = absurd (omega arith)
more-lines indent further p (q ∷ ps) h = spell-append (indented_row indent p)
    (line_feed ∷ whole_lines further further (q ∷ ps))

whole-next : (indent further : List Token) (row rest : List ℕ) → is_row row ≡ true → whole_text indent further
    (row ++ 10 ∷ rest) ≡ line_under indent row ++ 10 ∷ whole_text further further rest
whole-next indent further row rest h =
    ap (λ ps. spell (whole_lines indent further ps)) (lines-fed row rest ∙ ap (λ ps. ps ++ lines rest) (row-line row h))
    ∙ more-lines indent further (row_line row) (lines rest) (pieces-some (tokens rest))
    ∙ ap (λ us. us ++ 10 ∷ whole_text further further rest) (row-under indent row)

-- ---- by the first line of a text, and what is after it

-- a line is printed, and its line feed
pub line-printed : (indent further : List Token) (text line rest fed : List ℕ) (white : Bool) (o p q : List ℕ)
    → IsFirstLine text line rest → white ≡ are_passed true (tokens line) → fed ≡ line ++ 10 ∷ []
    → p ≡ o ++ spell (indent_before white indent) → q ≡ p ++ fed
    → q ++ whole_text further further rest ≡ o ++ whole_text indent further text
line-printed indent further text line rest fed white o p q is w f h k =
    let own = spell (line_indent indent line) in
    let later = whole_text further further rest in
    let put : p ≡ o ++ own = h ∙ ap (λ b. o ++ spell (indent_before b indent)) w in
    ap (λ us. us ++ later) (k ∙ ap₂ (λ us vs. us ++ vs) put f)
    ∙ append_assoc (o ++ own) (line ++ 10 ∷ []) later
    ∙ append_assoc o own ((line ++ 10 ∷ []) ++ later)
    ∙ ap (λ us. o ++ (own ++ us)) (append_assoc line (10 ∷ []) later)
    ∙ ap (λ us. o ++ us) (sym (append_assoc own line (10 ∷ later)))
    ∙ ap (λ us. o ++ us) (sym (ap (whole_text indent further) is.1 ∙ whole-next indent further line rest is.0))

-- ---- a text is parted at its first line feed

row-append : (xs ys : List ℕ) → is_row (xs ++ ys) ≡ (is_row xs && is_row ys)
row-append [] ys = refl
row-append (x ∷ xs) ys =
    ap (λ b. is_in_row x && b) (row-append xs ys) ∙ sym (and_assoc (is_in_row x) (is_row xs) (is_row ys))

high-in-row : (b : ℕ) → 128 ≤ b → is_in_row b ≡ true
high-in-row b h = grind (arith, nat_tests)

row-high : (bs : List ℕ) → ((k : ℕ) → k < length bs → 128 ≤ get_or bs k 0) → is_row bs ≡ true
row-high [] h = refl
row-high (b ∷ bs) h =
    ap₂ (λ x y. x && y) (high-in-row b (h 0 (omega arith))) (row-high bs (λ k l. h (suc k) (omega (arith, l))))

row-character : (c : ℕ) → is_row (encode_utf8 c) ≡ is_in_row c
row-character c = elim (nat_lt c 128) as (λ b. nat_lt c 128 ≡ b → is_row (encode_utf8 c) ≡ is_in_row c) [
  | true ↦ λ e. ap is_row (encode_ascii c (ltb-true _ _ e)) ∙ and-true (is_in_row c)
  | false ↦ λ e.
      let h : 128 ≤ c = grind (arith, nat_tests) in
      row-high (encode_utf8 c) (λ k l. high-byte c k h l) ∙ sym (high-in-row c h)
] refl

row-characters : (cs : List ℕ) → is_row (encode_utf8_all cs) ≡ is_row cs
row-characters [] = refl
row-characters (c ∷ cs) =
    row-append (encode_utf8 c) (encode_utf8_all cs) ∙ ap₂ (λ x y. x && y) (row-character c) (row-characters cs)

-- bytes without a line feed are characters without one
row-text : (bs : List ℕ) → IsUtf8 bs → is_row bs ≡ is_row (chars bs)
row-text bs u = ap is_row (sym (encodes-chars bs u)) ∙ row-characters (chars bs)

in-row : (b : ℕ) (bs : List ℕ) (t : Bool) → is_in_row b ≡ t → is_row (take (prefix_len is_in_row bs) bs) ≡ true
    → is_row (take (cond t (1 + prefix_len is_in_row bs) 0) (b ∷ bs)) ≡ true
in-row b bs true e h =
    let n : 1 + prefix_len is_in_row bs ≡ suc (prefix_len is_in_row bs) = omega arith in
    ap (λ k. is_row (take k (b ∷ bs))) n ∙ ap₂ (λ x y. x && y) e h
in-row b bs false e h = refl

row-front : (bs : List ℕ) → is_row (take (prefix_len is_in_row bs) bs) ≡ true
row-front [] = refl
row-front (b ∷ bs) = in-row b bs (is_in_row b) refl (row-front bs)

is_feed : (b : ℕ) → is_in_row b ≡ false → b ≡ 10
is_feed b h = grind (arith, nat_tests)

pub at-feed : (text : List ℕ) (n : ℕ) → n ≡ prefix_len is_in_row text → n < length text → get_or text n 0 ≡ 10
at-feed text n e h = is_feed (get_or text n 0) (ap (λ k. is_in_row (get_or text k 0)) e
    ∙ prefix_len_stops is_in_row text 0 (omega (arith, e, h)))

module _ (a b : List ℕ) (u : IsUtf8 (a ++ 10 ∷ b)) where
  feed-here : get_or (a ++ 10 ∷ b) (length a) 0 ≡ 10
  feed-here = ap (λ k. get_or (a ++ 10 ∷ b) k 0) (omega arith) ∙ get_or-append-add a (10 ∷ b) 0 0

  within : length a < length (a ++ 10 ∷ b)
  within = omega (arith, length-append a (10 ∷ b))

  front-utf8 : IsUtf8 a
  front-utf8 = subst IsUtf8 (take-append_seam a (10 ∷ b)) (IsUtf8-take (a ++ 10 ∷ b) (length a) u
      (IsCharBoundary-before_ascii (a ++ 10 ∷ b) (length a) within (omega (arith, feed-here))))

  feed-utf8 : IsUtf8 (10 ∷ b)
  feed-utf8 = subst IsUtf8 (drop_at a (10 ∷ b) (length a) refl) (IsUtf8-drop (a ++ 10 ∷ b) (length a) u
      (IsCharBoundary-before_ascii (a ++ 10 ∷ b) (length a) within (omega (arith, feed-here))))

  parted : chars (a ++ 10 ∷ b) ≡ chars a ++ 10 ∷ chars b
  parted = chars-append a (10 ∷ b) front-utf8 ∙ ap (λ cs. chars a ++ cs) (chars_past_char (10 ∷ b) b 10 feed-utf8
      (ap (λ bs. bs ++ b) (sym (encode_ascii 10 (lit< tt)))))

no-feed : (text : List ℕ) (n : ℕ) → IsUtf8 text → n ≡ prefix_len is_in_row text → n ≡ length text
    → is_row (chars text) ≡ true
no-feed text n u e h =
    let all : prefix_len is_in_row text ≡ length text = sym e ∙ h in
    let whole : take (prefix_len is_in_row text) text ≡ text = ap (λ k. take k text) all ∙ take_all (length text) text
    (omega arith) in
    sym (row-text text u) ∙ sym (ap is_row whole) ∙ row-front text

-- what has no line feed is the last line
pub last-printed : (indent further : List Token) (text : List ℕ) (n : ℕ) → IsUtf8 text → n ≡ prefix_len is_in_row text
    → n ≡ length text → last_under indent (chars text) ≡ whole_text indent further (chars text)
last-printed indent further text n u e h = sym (whole-end indent further (chars text) (no-feed text n u e h))

-- a text cut after its first line feed
pub record IsCutAtFeed (text line fed rest : List ℕ) : Type 0 where
  pub ending : chars fed ≡ chars line ++ 10 ∷ []
  pub is_first : IsFirstLine (chars text) (chars line) (chars rest)

feed_ascii : IsAscii (10 ∷ [])
feed_ascii = IsAscii-cons 10 [] (omega arith) IsAscii-nil

pub first-feed : (text fed rest : List ℕ) (n : ℕ) → IsUtf8 text → n ≡ prefix_len is_in_row text → n < length text
    → fed ≡ take (n + 1) text → rest ≡ drop (n + 1) text → IsCutAtFeed text (take n text) fed rest
first-feed text fed rest n u e h a b =
    let front = take n text in
    let after = drop (n + 1) text in
    let here = at-feed text n e h in
    let parts : text ≡ front ++ 10 ∷ after = sym (take-append-drop n text)
    ∙ ap (λ l. front ++ l) (drop_more text n 0 h ∙ ap (λ x. x ∷ after) here) in
    let whole : IsUtf8 (front ++ 10 ∷ after) = subst IsUtf8 parts u in
    let own : IsUtf8 front = front-utf8 front after whole in
    let row : is_row front ≡ true = ap (λ k. is_row (take k text)) e ∙ row-front text in
    let feed : take (n + 1) text ≡ front ++ 10 ∷ [] = take_more text n 0 h ∙ ap (λ x. front ++ x ∷ []) here in
    record {
      ending = ap chars (a ∙ feed) ∙ chars-append front (10 ∷ []) own ∙ ap (λ cs. chars front ++ cs)
          (chars-IsAscii (10 ∷ []) feed_ascii);
      is_first = (
        sym (row-text front own) ∙ row,
        ap chars parts ∙ parted front after whole ∙ ap (λ cs. chars front ++ 10 ∷ chars cs) (sym b),
      );
    }

-- ---- how long the first line is

-- `n` bytes, after which a text may be cut
pub record IsLine (text : List ℕ) (n : ℕ) : Type 0 where
  pub len : n ≡ prefix_len is_in_row text
  pub inside : n ≤ length text
  pub boundary : IsCharBoundary text n

row-boundary : (text : List ℕ) (n : ℕ) → n ≡ prefix_len is_in_row text → IsCharBoundary text n
row-boundary text n e = elim (nat_lt n (length text)) as (λ b. nat_lt n (length text) ≡ b → IsCharBoundary text n) [
  | true ↦ λ l.
      let within : n < length text = ltb-true _ _ l in
      IsCharBoundary-before_ascii text n within (omega (arith, at-feed text n e within))
  | false ↦ λ l.
      let past : length text ≤ n = ltb-false _ _ l in
      let end : length text ≡ n = omega (arith, e, past, prefix_len-le-length is_in_row text) in
      subst (IsCharBoundary text) end (IsCharBoundary-end text)
] refl

pub line-of : (text bytes : List ℕ) (n : ℕ) → bytes ≡ text → n ≡ prefix_len is_in_row bytes → IsLine text n
line-of text bytes n is e =
    let len : n ≡ prefix_len is_in_row text = e ∙ ap (prefix_len is_in_row) is in
    record {
      len = len;
      inside = omega (arith, len, prefix_len-le-length is_in_row text);
      boundary = row-boundary text n len;
    }
