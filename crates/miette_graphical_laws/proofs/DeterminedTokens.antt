-- Rules cut a line into its tokens in one way, and leave the same open.
use Rattle.std.proofs.Common.{arith, ◌≡◌, ℕ, ◌+◌, ◌≤◌, ◌<◌, Bool, true, false, List, [], ◌∷◌, ◌++◌, length, drop, take}
use Rattle.std.proofs.Common.{inl, inr, refl, sym, ap, ap₂, subst, ◌∙◌, Option, Some, None, max}
use Rattle.std.proofs.lemmas.Bool.{and_parts, cases_order, cond_both, leb-true}
use Rattle.std.proofs.lemmas.List.{length-drop}
use Rattle.std.proofs.lemmas.List.Folds.{length-prefix_len}
use Rattle.std.proofs.lemmas.List.Sums.{prefix_len-le-length}
use Rattle.std.specs.Prelude.{IfSome, nat_eq, nat_le, nat_lt, not, ◌&&◌, ◌==◌, string_bytes, unwrap_or}
use Rattle.std.specs.Prelude.{if◌then◌else◌, slice_get}
use Rattle.std.specs.Cmp.Lexicographic.{pointwise}
use Rattle.std.specs.List.{starts_with}
use Rattle.miette_style.specs.declared.style.Style.{Style}
use Rattle.miette_highlight.specs.rules.FollowingCalls.{FollowTokens}
use Rattle.miette_highlight.specs.rules.HighlighterCalls.{asked, listed_pieces, restarted}
use Rattle.miette_highlight.specs.rules.Patterns.{begins_within, character_end, close_end, closed_at, escapes_next}
use Rattle.miette_highlight.specs.rules.Patterns.{MatchEnd, hash_count, char_tail_end, inside, is_listed_word, is_hash}
use Rattle.miette_highlight.specs.rules.Patterns.{is_char_tail}
use Rattle.miette_highlight.specs.rules.Patterns.{is_word_byte, match_of, open_over, prefixed_word, raw_after_quote}
use Rattle.miette_highlight.specs.rules.Patterns.{raw_end}
use Rattle.miette_highlight.specs.rules.Patterns.{raw_inside, raw_text, word_end}
use Rattle.miette_highlight.specs.rules.Pieces.{StyledPiece}
use Rattle.miette_highlight.specs.rules.Tokens.{AreTokens, EndsFrom, first_match, found_or, plain_token}
use Rattle.miette_highlight.specs.rules.Tokens.{continued_match}
use Rattle.miette_highlight.specs.rules.Tokens.{continued_rule, continued_token, token_at}
use Rattle.miette_highlight.specs.declared.rule.Delimiters.{Delimiters}
use Rattle.miette_highlight.specs.declared.rule.Pattern.{Pattern}
use Rattle.miette_highlight.specs.declared.rule.Pattern.TheVariants.{Words, From, Between, Character, Prefixed, Raw}
use Rattle.miette_highlight.specs.declared.rule.Rule.{Rule}
use Rattle.miette_highlight.specs.declared.tokens.OpenPart.{OpenPart}
use Rattle.miette_highlight.specs.declared.tokens.Token.{Token}
use Rattle.miette_graphical_laws.specs.laws.Determined.{IsDetermined}

-- ---- what is found lies within the text

begin-within : (needle xs : List ℕ) → pointwise nat_eq needle (take (length needle) xs) ≡ true
    → length needle ≤ length xs
begin-within [] xs h = omega arith
begin-within (n ∷ needle) [] h = absurd (cc)
begin-within (n ∷ needle) (x ∷ xs) h =
    let p = and_parts (nat_eq n x) (pointwise nat_eq needle (take (length needle) xs)) h in
    let r : length needle ≤ length xs = begin-within needle xs p.1 in
    omega arith

word-within : (at : ℕ) (text : List ℕ) → word_end at text ≤ at + length text
word-within at [] = omega arith
word-within at (b ∷ bs) =
    cond_both (is_word_byte b) (word_end (at + 1) bs) at (λ n. n ≤ at + length (b ∷ bs))
    (λ y. let r : word_end (at + 1) bs ≤ (at + 1) + length bs = word-within (at + 1) bs in omega arith)
    (λ n. omega arith)

if-less : (o : Option ℕ) (m n : ℕ) → m ≤ n → IfSome o (λ end. end ≤ m) → IfSome o (λ end. end ≤ n)
if-less None m n h less = tt
if-less (Some end) m n h less = omega arith

close-within : (d : Delimiters) (escaped : Bool) (at : ℕ) (text : List ℕ)
    → IfSome (close_end d escaped at text) (λ end. end ≤ at + length text)
close-within d escaped at [] = tt
close-within d escaped at (b ∷ bs) =
    let closes = starts_with nat_eq (b ∷ bs) (string_bytes d.closes) in
    cond_both (not escaped && closes) (Some (at + length (string_bytes d.closes)))
    (close_end d (not escaped && escapes_next d.escape b) (at + 1) bs)
    (λ o. IfSome o (λ end. end ≤ at + length (b ∷ bs)))
    (λ y. let l : length (string_bytes d.closes) ≤ length (b ∷ bs) =
    begin-within (string_bytes d.closes) (b ∷ bs) (and_parts (not escaped) closes y).1 in omega arith)
    (λ n. if-less (close_end d (not escaped && escapes_next d.escape b) (at + 1) bs) ((at + 1) + length bs)
    (at + length (b ∷ bs)) (omega arith) (close-within d (not escaped && escapes_next d.escape b) (at + 1) bs))

closed-within : (o : Option ℕ) (line_end : ℕ) (goes_on : Option ℕ) → IfSome o (λ end. end ≤ line_end)
    → (closed_at o line_end goes_on).0 ≤ line_end
closed-within None line_end goes_on h = omega arith
closed-within (Some end) line_end goes_on h = h

inside-within : (d : Delimiters) (at : ℕ) (text : List ℕ) → (inside d at text).0 ≤ at + length text
inside-within d at text =
    closed-within (close_end d false at text) (at + length text) (open_over d.over_lines) (close-within d false at text)

hashes-within : (text : List ℕ) → hash_count text ≤ length text
hashes-within text = omega (arith, length-prefix_len is_hash text, prefix_len-le-length is_hash text)

raw_end-within : (hashes at : ℕ) (text : List ℕ) → IfSome (raw_end hashes at text) (λ end. end ≤ at + length text)
raw_end-within hashes at [] = tt
raw_end-within hashes at (b ∷ bs) =
    cond_both (b == 34 && nat_le hashes (hash_count bs)) (Some (at + 1 + hashes)) (raw_end hashes (at + 1) bs)
    (λ o. IfSome o (λ end. end ≤ at + length (b ∷ bs)))
    (λ y. omega (
      arith,
      hashes-within bs,
      leb-true hashes (hash_count bs)
          (and_parts (b == 34) (nat_le hashes (hash_count bs)) y).1,
    ))
    (λ n. if-less (raw_end hashes (at + 1) bs) ((at + 1) + length bs) (at + length (b ∷ bs)) (omega arith)
    (raw_end-within hashes (at + 1) bs))

raw-within : (hashes at : ℕ) (text : List ℕ) → (raw_inside hashes at text).0 ≤ at + length text
raw-within hashes at text =
    closed-within (raw_end hashes at text) (at + length text) (Some hashes) (raw_end-within hashes at text)

raw_after_quote-within : (hashes at : ℕ) (text : List ℕ) → IfSome (raw_after_quote hashes at text)
    (λ found. found.0 ≤ at + length text)
raw_after_quote-within hashes at [] = tt
raw_after_quote-within hashes at (b ∷ bs) =
    cond_both (b == 34) (Some (raw_inside hashes (at + 1) bs)) None
    (λ o. IfSome o (λ found. found.0 ≤ at + length (b ∷ bs)))
    (λ y. omega (arith, raw-within hashes (at + 1) bs)) (λ n. tt)

found-less : (o : Option MatchEnd) (m n : ℕ) → m ≤ n → IfSome o (λ found. found.0 ≤ m)
    → IfSome o (λ found. found.0 ≤ n)
found-less None m n h less = tt
found-less (Some found) m n h less = omega arith

held-within : (d : Delimiters) (escaped : Bool) (at : ℕ) (text : List ℕ)
    → IfSome (char_tail_end d escaped at text) (λ found. found.0 ≤ at + length text)
held-within d escaped at [] = tt
held-within d escaped at (b ∷ bs) =
    let closes = starts_with nat_eq (b ∷ bs) (string_bytes d.closes) in
    let next = char_tail_end d escaped (at + 1) bs in
    cond_both closes (Some (at + length (string_bytes d.closes), None)) (if is_char_tail escaped b then next else None)
    (λ o. IfSome o (λ found. found.0 ≤ at + length (b ∷ bs)))
    (λ y. let l : length (string_bytes d.closes) ≤ length (b ∷ bs) = begin-within (string_bytes d.closes) (b ∷ bs) y in
    omega arith)
    (λ n. cond_both (is_char_tail escaped b) next None (λ o. IfSome o (λ found. found.0 ≤ at + length (b ∷ bs)))
    (λ y. found-less next ((at + 1) + length bs) (at + length (b ∷ bs)) (omega arith)
    (held-within d escaped (at + 1) bs))
    (λ n. tt))

escape-within : (d : Delimiters) (at : ℕ) (text : List ℕ)
    → IfSome (char_tail_end d true (at + 2) (drop 1 text)) (λ found. found.0 ≤ (at + 1) + length text)
escape-within d at [] = tt
escape-within d at (b ∷ bs) =
    found-less (char_tail_end d true (at + 2) bs) ((at + 2) + length bs) ((at + 1) + length (b ∷ bs)) (omega arith)
    (held-within d true (at + 2) bs)

character-within : (d : Delimiters) (at : ℕ) (text : List ℕ)
    → IfSome (character_end d at text) (λ found. found.0 ≤ at + length text)
character-within d at [] = tt
character-within d at (b ∷ bs) =
    let escaped = char_tail_end d true (at + 2) (drop 1 bs) in
    let plain = char_tail_end d false (at + 1) bs in
    let Within : Option MatchEnd → Type 0 = λ o. IfSome o (λ found. found.0 ≤ at + length (b ∷ bs)) in
    cond_both (starts_with nat_eq (b ∷ bs) (string_bytes d.closes)) None
    (if escapes_next d.escape b then escaped else plain) Within (λ y. tt)
    (λ n. cond_both (escapes_next d.escape b) escaped plain Within
    (λ y. found-less escaped ((at + 1) + length bs) (at + length (b ∷ bs)) (omega arith) (escape-within d at bs))
    (λ n. found-less plain ((at + 1) + length bs) (at + length (b ∷ bs)) (omega arith)
    (held-within d false (at + 1) bs)))

after-within : (before : ℕ) (text : List ℕ)
    → IfSome (raw_text before text) (λ found. found.0 ≤ before + length text)
after-within before text =
    let hashes : ℕ = hash_count text in
    found-less (raw_text before text) (before + hashes + length (drop hashes text)) (before + length text)
    (omega (arith, hashes-within text, length-drop hashes text))
    (raw_after_quote-within hashes (before + hashes) (drop hashes text))

prefixed-within : (byte : ℕ) (text : List ℕ) → IfSome (prefixed_word byte text) (λ found. found.0 ≤ length text)
prefixed-within byte [] = tt
prefixed-within byte (b ∷ bs) =
    cond_both (b == byte && nat_lt 0 (word_end 0 bs)) (Some (word_end 0 bs + 1, None)) None
    (λ o. IfSome o (λ found. found.0 ≤ length (b ∷ bs)))
    (λ y. let w : word_end 0 bs ≤ 0 + length bs = word-within 0 bs in omega arith) (λ n. tt)

match-within : (p : Pattern) (text : List ℕ) → IfSome (match_of p text) (λ found. found.0 ≤ length text)
match-within (Words words) text =
    cond_both (is_listed_word words.items (take (word_end 0 text) text)) (Some (word_end 0 text, None)) None
    (λ o. IfSome o (λ found. found.0 ≤ length text))
    (λ y. let w : word_end 0 text ≤ 0 + length text = word-within 0 text in omega arith) (λ n. tt)
match-within (From first last) text =
    cond_both (begins_within first last text) (Some (word_end 0 text, None)) None
    (λ o. IfSome o (λ found. found.0 ≤ length text))
    (λ y. let w : word_end 0 text ≤ 0 + length text = word-within 0 text in omega arith) (λ n. tt)
match-within (Between d) text =
    let opens = string_bytes d.opens in
    cond_both (starts_with nat_eq text opens) (Some (inside d (length opens) (drop (length opens) text))) None
    (λ o. IfSome o (λ found. found.0 ≤ length text))
    (λ y. let l : length opens ≤ length text = begin-within opens text y in
    let i : (inside d (length opens) (drop (length opens) text)).0 ≤ length opens
    + length (drop (length opens) text) = inside-within d (length opens) (drop (length opens) text) in
    omega (arith, length-drop (length opens) text))
    (λ n. tt)
match-within (Character d) text =
    let opens = string_bytes d.opens in
    cond_both (starts_with nat_eq text opens) (character_end d (length opens) (drop (length opens) text)) None
    (λ o. IfSome o (λ found. found.0 ≤ length text))
    (λ y. let l : length opens ≤ length text = begin-within opens text y in
    found-less (character_end d (length opens) (drop (length opens) text))
    (length opens + length (drop (length opens) text)) (length text) (omega (arith, l, length-drop (length opens) text))
    (character-within d (length opens) (drop (length opens) text)))
    (λ n. tt)
match-within (Prefixed byte) text = prefixed-within byte text
match-within (Raw prefix) text =
    let front = string_bytes prefix in
    cond_both (starts_with nat_eq text front) (raw_text (length front) (drop (length front) text)) None
    (λ o. IfSome o (λ found. found.0 ≤ length text))
    (λ y. let l : length front ≤ length text = begin-within front text y in
    found-less (raw_text (length front) (drop (length front) text)) (length front + length (drop (length front) text))
    (length text) (omega (arith, l, length-drop (length front) text))
    (after-within (length front) (drop (length front) text)))
    (λ n. tt)

-- a token, where there is one, has at most `n` bytes
abbrev IsWithin : ℕ → Option Token → Type 0
IsWithin n o = IfSome o (λ token. token.bytes ≤ n)

found-within : (at : ℕ) (style : Style) (found : Option MatchEnd) (others : Option Token) (n : ℕ)
    → IfSome found (λ it. it.0 ≤ n) → IsWithin n others → IsWithin n (found_or at style found others)
found-within at style None others n h k = k
found-within at style (Some found) others n h k = h

first-within : (at : ℕ) (rules : List Rule) (text : List ℕ) → IsWithin (length text) (first_match at rules text)
first-within at [] text = tt
first-within at (rule ∷ rules) text =
    found-within at rule.style (match_of rule.pattern text) (first_match (at + 1) rules text) (length text)
    (match-within rule.pattern text) (first-within (at + 1) rules text)

open-within : (part : OpenPart) (style : Style) (p : Pattern) (text : List ℕ)
    → IsWithin (length text) (continued_match part style p text)
open-within part style (Words words) text = tt
open-within part style (From first last) text = tt
open-within part style (Character d) text = tt
open-within part style (Prefixed byte) text = tt
open-within part style (Between d) text =
    let i : (inside d 0 text).0 ≤ 0 + length text = inside-within d 0 text in omega arith
open-within part style (Raw prefix) text =
    let i : (raw_inside part.hashes 0 text).0 ≤ 0 + length text = raw-within part.hashes 0 text in omega arith

rule-within : (part : OpenPart) (rule : Option Rule) (text : List ℕ)
    → IsWithin (length text) (continued_rule part rule text)
rule-within part None text = tt
rule-within part (Some rule) text = open-within part rule.style rule.pattern text

running-within : (rules : List Rule) (left_open : Option OpenPart) (text : List ℕ)
    → IsWithin (length text) (continued_token rules left_open text)
running-within rules None text = tt
running-within rules (Some part) text = rule-within part (slice_get rules part.rule) text

one-within : (n : ℕ) (o : Option Token) (token : Token) → IsWithin n o → token.bytes ≤ n
    → (unwrap_or o token).bytes ≤ n
one-within n None token h k = k
one-within n (Some it) token h k = h

token-within : (rules : List Rule) (left_open : Option OpenPart) (text : List ℕ)
    → (token_at rules left_open text).bytes ≤ length text
unfolding token_at
token-within rules left_open text =
    one-within (length text) (continued_token rules left_open text)
    (unwrap_or (first_match 0 rules text) (plain_token text)) (running-within rules left_open text)
    (one-within (length text) (first_match 0 rules text) (plain_token text) (first-within 0 rules text)
    (let w : word_end 0 text ≤ 0 + length text = word-within 0 text in omega arith))

-- ---- tokens

ends-alike : (text : List ℕ) (n j k : ℕ) → n ≤ length text → EndsFrom text n j → EndsFrom text n k → j ≡ k
ends-alike text n j k within a b = elim (cases_order j k) [
  | inl same ↦ same
  | inr other ↦ elim other [
    | inl less ↦ absurd (b.nearest j (a.bound within) less a.boundary)
    | inr more ↦ absurd (a.nearest k (b.bound within) more b.boundary)
  ]
]

tokens-alike : (rules : List Rule) (left_open : Option OpenPart) (text : List ℕ) (ps qs : List StyledPiece)
    (x y : Option OpenPart)
    → AreTokens rules left_open text ps x → AreTokens rules left_open text qs y → (ps ≡ qs) × (x ≡ y)
tokens-alike rules left_open text [] [] x y h k = (refl, h.1 ∙ sym k.1)
tokens-alike rules left_open text [] (q ∷ qs) x y h k =
    let some : 0 < length text = k.0.some in absurd (omega (arith, ap length h.0))
tokens-alike rules left_open text (p ∷ ps) [] x y h k =
    let some : 0 < length text = h.0.some in absurd (omega (arith, ap length k.0))
tokens-alike rules left_open text (p ∷ ps) (q ∷ qs) x y h k =
    let token = token_at rules left_open text in
    let some : 0 < length text = h.0.some in
    let within : token.bytes ≤ length text = token-within rules left_open text in
    let bytes : p.0 ≡ q.0 =
    ends-alike text (max token.bytes 1) p.0 q.0 (omega arith) h.0.ends k.0.ends in
    let rest = tokens-alike rules token.left_open (drop p.0 text) ps qs x y h.1
    (subst (λ n. AreTokens rules token.left_open (drop n text) qs y) (sym bytes) k.1) in (
      ap₂ (λ (r : StyledPiece) (more : List StyledPiece). r ∷ more)
          (ap₂ (λ (n : ℕ) (style : Style). (n, style)) bytes (h.0.style ∙ sym k.0.style)) rest.0,
      rest.1,
    )

-- ---- calls

pub tokens-determined : (rules : List Rule) (left_open : Option OpenPart) → IsDetermined (FollowTokens rules left_open)
tokens-determined rules left_open [] line some others later after h k =
    h.3 ∙ ap listed_pieces (tokens-alike rules left_open line h.0 k.0 h.1 k.1 h.2 k.2).0 ∙ sym k.3
tokens-determined rules left_open (restarted read ∷ earlier) line some others later after h k =
    tokens-determined rules None earlier line some others later after h k
tokens-determined rules left_open (asked text ps ∷ earlier) line some others later after h k =
    let e = (tokens-alike rules left_open text h.0 k.0 h.1 k.1 h.2 k.2).1 in
    tokens-determined rules h.1 earlier line some others later after h.4
    (subst (λ o. FollowTokens rules o (earlier ++ asked line others ∷ after)) (sym e) k.4)
