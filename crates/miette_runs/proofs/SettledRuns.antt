-- Runs that are read again as they were printed.
use Rattle.std.proofs.Common.{◌≡◌, ℕ, zero, suc, ◌<◌, Bool, true, false, not, ◌&&◌, ◌==◌, nat_le, nat_lt, List, [], ◌∷◌}
use Rattle.std.proofs.Common.{◌++◌, map, length, refl, sym, ap, ap₂, ◌∙◌, arith, append-nil, eqb-true, ltb-true}
use Rattle.std.proofs.Common.{if◌then◌else◌}
use Rattle.std.proofs.lemmas.Bool.{and_parts}
use Rattle.std.proofs.lemmas.Bool.Decides.{nat_tests}
use Rattle.std.proofs.Math.Bool.{and_assoc}
use Rattle.miette_style.specs.rules.Codes.{colour_start}
use Rattle.miette_runs.specs.rules.Sequences.{Token, Character, Sequence, is_whole, tokens, spell, is_line_feed}
use Rattle.miette_runs.specs.rules.Sequences.{is_bell, one_more, begins_terminator, control_len, command_len}
use Rattle.miette_runs.specs.rules.Sequences.{after_escape_len, sequence_len, are_canonical}
use Rattle.miette_style.specs.rules.Escapes.{is_escape}
use Rattle.miette_runs.specs.rules.Colours.{is_colour}
use Rattle.miette_style.specs.rules.Escapes.{no_escape}
use Rattle.miette_runs.specs.views.Interleaving.{tag_text, tag_token, upto, beyond, interleaving}
use Rattle.miette_runs.specs.declared.runs.sign.Tag.{Tag}
use Rattle.miette_style.specs.declared.style.Style.{Style}
use Rattle.miette_runs.proofs.Growing.{spell-characters}
use Rattle.miette_runs.proofs.Tokens.{colour-sequence, tokens_character, tokens_sequence}
use Rattle.miette_runs.proofs.Parameters.{start_colour}
use Rattle.miette_runs.specs.steps.WholeTags.{are_whole}

-- ---- a sequence at the front of a text is one whatever stands after it

some-more : (n : ℕ) → 0 < one_more n → 0 < n
some-more zero h = h
some-more (suc n) h = omega arith

control-front : (s r : List ℕ) → 0 < control_len s → control_len (s ++ r) ≡ control_len s
control-front [] r h = absurd (omega arith)
control-front (c ∷ s) r h = grind (arith, nat_tests, some-more (control_len s), control-front s r)

command-step : (feed bell end : Bool) (n m : ℕ) → (0 < n → m ≡ n) → 0
    < (if feed then 0 else if bell then 1 else if end then 2 else one_more n) →
    (if feed then 0 else if bell then 1 else if end then 2 else one_more m)
    ≡ (if feed then 0 else if bell then 1 else if end then 2 else one_more n)
command-step true bell end n m k h = refl
command-step false true end n m k h = refl
command-step false false true n m k h = refl
command-step false false false n m k h = ap one_more (k (some-more n h))

terminator-alone : (c : ℕ) (r : List ℕ) → 0 < command_len (c ∷ []) → command_len (c ∷ r) ≡ command_len (c ∷ [])
terminator-alone c r h = grind (arith, nat_tests)

command-front : (s r : List ℕ) → 0 < command_len s → command_len (s ++ r) ≡ command_len s
command-front [] r h = absurd (omega arith)
command-front (c ∷ []) r h = terminator-alone c r h
command-front (c ∷ d ∷ s) r h = command-step (is_line_feed c) (is_bell c) (begins_terminator (c ∷ d ∷ s))
    (command_len (d ∷ s)) (command_len (d ∷ (s ++ r))) (command-front (d ∷ s) r) h

after-front : (s r : List ℕ) → 0 < after_escape_len s → after_escape_len (s ++ r) ≡ after_escape_len s
after-front [] r h = absurd (omega arith)
after-front (c ∷ s) r h = grind (
  arith,
  nat_tests,
  some-more (control_len s),
  some-more (command_len s),
  control-front s r,
  command-front s r,
)

pub sequence-front : (s r : List ℕ) → 0 < sequence_len s → sequence_len (s ++ r) ≡ sequence_len s
sequence-front [] r h = absurd (omega arith)
sequence-front (c ∷ s) r h = grind (arith, nat_tests, some-more (after_escape_len s), after-front s r)

-- ---- characters that are no escape, and whole sequences

abbrev pub AreSettled : List Token → Type 0
AreSettled [] = Unit {0}
AreSettled (Character c ∷ ts) = (is_escape c ≡ false) × AreSettled ts
AreSettled (Sequence s ∷ ts) = (is_whole s ≡ true) × AreSettled ts

plain-sequence : (c : ℕ) (r : List ℕ) → is_escape c ≡ false → sequence_len (c ∷ r) ≡ 0
plain-sequence c r h = grind (arith, nat_tests)

pub settled-tokens : (ts : List Token) → AreSettled ts → tokens (spell ts) ≡ ts
settled-tokens [] h = refl
settled-tokens (Character c ∷ ts) h =
    tokens_character c (spell ts) (plain-sequence c (spell ts) h.0)
    ∙ ap (λ us. Character c ∷ us) (settled-tokens ts h.1)
settled-tokens (Sequence s ∷ ts) h =
    let p = and_parts (nat_lt 0 (length s)) (sequence_len s == length s) h.0 in
    let some : 0 < length s = ltb-true 0 (length s) p.0 in
    let len : sequence_len s ≡ length s = eqb-true (sequence_len s) (length s) p.1 in
    tokens_sequence s (spell ts) some (sequence-front s (spell ts) (omega arith) ∙ len)
    ∙ ap (λ us. Sequence s ∷ us) (settled-tokens ts h.1)

settled-characters : (cs : List ℕ) → no_escape cs ≡ true → AreSettled (map Character cs)
settled-characters [] h = tt
settled-characters (c ∷ cs) h =
    let p = and_parts (not (is_escape c)) (no_escape cs) h in
    let first : is_escape c ≡ false = grind (arith, nat_tests) in
    (first, settled-characters cs p.1)

-- a text without an escape
pub tokens-plain : (cs : List ℕ) → no_escape cs ≡ true → tokens cs ≡ map Character cs
tokens-plain cs h = ap tokens (sym (spell-characters cs)) ∙ settled-tokens (map Character cs) (settled-characters cs h)

-- ---- characters and tags

upto-whole : (p : ℕ) (ms : List Tag) → are_whole ms ≡ true → are_whole (upto p ms) ≡ true
upto-whole p [] h = refl
upto-whole p (m ∷ ms) h = grind (arith, nat_tests, upto-whole p ms)

beyond-whole : (p : ℕ) (ms : List Tag) → are_whole ms ≡ true → are_whole (beyond p ms) ≡ true
beyond-whole p [] h = refl
beyond-whole p (m ∷ ms) h = grind (arith, nat_tests, beyond-whole p ms)

settled-tags : (ms : List Tag) (ts : List Token) → are_whole ms ≡ true → AreSettled ts
    → AreSettled (map tag_token ms ++ ts)
settled-tags [] ts h k = k
settled-tags (m ∷ ms) ts h k =
    let p = and_parts (is_whole (tag_text m)) (are_whole ms) h in
    (p.0, settled-tags ms ts p.1 k)

settled-left : (ms : List Tag) → are_whole ms ≡ true → AreSettled (map tag_token ms)
settled-left [] h = tt
settled-left (m ∷ ms) h =
    let p = and_parts (is_whole (tag_text m)) (are_whole ms) h in
    (p.0, settled-left ms p.1)

settled-woven : (p : ℕ) (cs : List ℕ) (ms : List Tag) → no_escape cs ≡ true → are_whole ms ≡ true
    → AreSettled (interleaving p cs ms)
settled-woven p [] ms h k = settled-left ms k
settled-woven p (c ∷ cs) ms h k =
    let q = and_parts (not (is_escape c)) (no_escape cs) h in
    let first : is_escape c ≡ false = grind (arith, nat_tests) in
    settled-tags (upto p ms) (Character c ∷ interleaving (suc p) cs (beyond p ms)) (upto-whole p ms k)
    (first, settled-woven (suc p) cs (beyond p ms) q.1 (beyond-whole p ms k))

pub woven-settled : (cs : List ℕ) (ms : List Tag) → no_escape cs ≡ true → are_whole ms ≡ true
    → tokens (spell (interleaving 0 cs ms)) ≡ interleaving 0 cs ms
woven-settled cs ms h k = settled-tokens (interleaving 0 cs ms) (settled-woven 0 cs ms h k)

colour-some : (s : List ℕ) → is_colour s ≡ true → nat_lt 0 (length s) ≡ true
colour-some [] h = absurd (cc)
colour-some (c ∷ s) h = grind (arith, nat_tests)

same-test : (m n : ℕ) → m ≡ n → (m == n) ≡ true
same-test m n h = grind (arith, nat_tests)

pub colour-whole : (s : List ℕ) → is_colour s ≡ true → is_whole s ≡ true
colour-whole s h =
    ap₂ (λ a b. a && b) (colour-some s h) (same-test (sequence_len s) (length s)
    (ap sequence_len (sym (append-nil s)) ∙ colour-sequence s [] h))

pub start-whole : (s : Style) → is_whole (colour_start s) ≡ true
start-whole s = colour-whole (colour_start s) (start_colour s)

-- ---- exactly those are settled

settled-front : (ms : List Tag) (ts : List Token) → are_canonical (map tag_token ms ++ ts)
    ≡ (are_whole ms && are_canonical ts)
settled-front [] ts = refl
settled-front (m ∷ ms) ts =
    ap (λ b. is_whole (tag_text m) && b) (settled-front ms ts)
    ∙ sym (and_assoc (is_whole (tag_text m)) (are_whole ms) (are_canonical ts))

settled-tags_alone : (ms : List Tag) → are_canonical (map tag_token ms) ≡ are_whole ms
settled-tags_alone [] = refl
settled-tags_alone (m ∷ ms) = ap (λ b. is_whole (tag_text m) && b) (settled-tags_alone ms)

whole-parted : (p : ℕ) (ms : List Tag) → are_whole ms ≡ (are_whole (upto p ms) && are_whole (beyond p ms))
whole-parted p [] = refl
whole-parted p (m ∷ ms) = elim (nat_le m.at p) as (λ b. are_whole (m ∷ ms)
    ≡ (are_whole (if b then m ∷ upto p ms else []) && are_whole (if b then beyond p ms else m ∷ ms))) [
      | true ↦ ap (λ b. is_whole (tag_text m) && b) (whole-parted p ms)
          ∙ sym (and_assoc (is_whole (tag_text m)) (are_whole (upto p ms)) (are_whole (beyond p ms)))
      | false ↦ refl
    ]

between : (a b c d : Bool) → (a && (b && (c && d))) ≡ ((b && c) && (a && d))
between true true c d = refl
between true false c d = refl
between false true true d = refl
between false true false d = refl
between false false c d = refl

pub settled-exact : (p : ℕ) (cs : List ℕ) (ms : List Tag) → are_canonical (interleaving p cs ms)
    ≡ (no_escape cs && are_whole ms)
settled-exact p [] ms = settled-tags_alone ms
settled-exact p (c ∷ cs) ms =
    settled-front (upto p ms) (Character c ∷ interleaving (suc p) cs (beyond p ms))
    ∙ ap (λ b. are_whole (upto p ms) && (not (is_escape c) && b)) (settled-exact (suc p) cs (beyond p ms))
    ∙ between (are_whole (upto p ms)) (not (is_escape c)) (no_escape cs) (are_whole (beyond p ms))
    ∙ ap (λ b. (not (is_escape c) && no_escape cs) && b) (sym (whole-parted p ms))
