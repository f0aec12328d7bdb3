-- The words of plain texts, by spaces and by Unicode.
use Rattle.std.proofs.Common.{◌≡◌, ℕ, ◌<◌, Bool, true, false, not, ◌&&◌, ◌||◌, ◌==◌, if◌then◌else◌, List, [], ◌∷◌}
use Rattle.std.proofs.Common.{map, refl, sym, ap, ap₂, ◌∙◌, arith}
use Rattle.std.proofs.lemmas.Bool.{and_parts}
use Rattle.std.proofs.lemmas.Bool.Decides.{nat_tests}
use Rattle.std.specs.Bool.{beq}
use Rattle.std.specs.Option.{is_some}
use Rattle.ucd_table.proofs.Facts.{Stepped-below, same_from_beq}
use Rattle.ucd_breaks.specs.LineBreak.{line_break, line_break_number}
use Rattle.ucd_breaks.proofs.Computing.{ucd_breaks}
use Rattle.ucd_breaks.proofs.LineBreakLemmas.{line_break_stepped}
use Rattle.ucd_breaks.specs.declared.LineBreak.{LineBreak}
use Rattle.ucd_breaks.specs.declared.LineBreak.TheVariants.{Alphabetic, Hyphen, InfixNumeric, Numeric}
use Rattle.ucd_breaks.specs.declared.LineBreak.TheVariants.{Quotation, Space}
use Rattle.miette_lines.specs.rules.Lists.{onto}
use Rattle.miette_line_breaks.specs.declared.characters.Character.{Character}
use Rattle.miette_line_breaks.specs.declared.state.BreakState.{BreakState}
use Rattle.miette_line_breaks.specs.rules.Characters.{character_of}
use Rattle.miette_line_breaks.specs.rules.Classes.{is_hebrew}
use Rattle.miette_line_breaks.specs.steps.States.{break_in, state_after, state_of}
use Rattle.miette_line_breaks.proofs.AsciiClasses.{ascii-property, same_class}
use Rattle.miette_line_breaks.proofs.States.{break-is, state-step}
use Rattle.miette_runs.specs.rules.Cells.{TaggedChar}
use Rattle.miette_text.specs.declared.options.WordSeparator.TheVariants.{AsciiSpace, UnicodeBreakProperties}
use Rattle.miette_text.specs.laws.PlainWords.{is_plain_code, is_plain_text, is_point, plain_after}
use Rattle.miette_text.specs.rules.Wrapping.{ends_word, is_hyphen, is_space, pieces, starts_word, word_of, words}
use Rattle.miette_text.specs.steps.Ends.{codes_of}

-- ---- what such characters are to the rules

data Kind : Type 0 where
  Gap : Kind
  Letter : Kind
  Digit : Kind
  Quote : Kind
  Dash : Kind
  Point : Kind

abbrev class_of : Kind → LineBreak
class_of Gap = Space
class_of Letter = Alphabetic
class_of Digit = Numeric
class_of Quote = Quotation
class_of Dash = Hyphen
class_of Point = InfixNumeric

abbrev is_gap : Kind → Bool
is_gap Gap = true
is_gap _ = false

abbrev is_dash : Kind → Bool
is_dash Dash = true
is_dash _ = false

abbrev is_stop : Kind → Bool
is_stop Point = true
is_stop _ = false

abbrev kind_of : ℕ → Kind
kind_of c =
    if is_space c then Gap
    else if (c == 34) || (c == 39) then Quote
    else if c == 45 then Dash
    else if is_point c then Point
    else if (c == 48) || (c == 49) || (c == 50) || (c == 51) || (c == 52) || (c == 53) || (c == 54) || (c == 55)
    || (c == 56) || (c == 57) then Digit
    else Letter

-- a plain character or a point
abbrev is_usual : ℕ → Bool
is_usual c = is_plain_code c || is_point c

abbrev is_as_kind : ℕ → LineBreak → Bool
is_as_kind c class =
    (line_break_number class == line_break_number (class_of (kind_of c)))
    && (beq (is_space c) (is_gap (kind_of c)) && (beq (is_hyphen c) (is_dash (kind_of c))
    && beq (is_point c) (is_stop (kind_of c))))

usual-tests : (c : ℕ) → c < 128 → (not (is_usual c) || is_as_kind c (line_break c)) ≡ true
unfolding ucd_breaks
usual-tests c below = Stepped-below line_break line_break_stepped (λ x v. not (is_usual x) || is_as_kind x v) 128
    refl c below

usual-below : (c : ℕ) → is_usual c ≡ true → c < 128
usual-below c h = grind (arith, nat_tests)

record AsKind (c : ℕ) : Type 0 where
  pub class : character_of c ≡ record { class = class_of (kind_of c); is_wide = false; is_future_emoji = false }
  pub gap : is_space c ≡ is_gap (kind_of c)
  pub dash : is_hyphen c ≡ is_dash (kind_of c)
  pub point : is_point c ≡ is_stop (kind_of c)

as_kind : (c : ℕ) → is_usual c ≡ true → AsKind c
as_kind c h =
    let below = usual-below c h in
    let t : is_as_kind c (line_break c) ≡ true =
    ap (λ b. not b || is_as_kind c (line_break c)) (sym h) ∙ usual-tests c below in
    let p = and_parts (line_break_number (line_break c) == line_break_number (class_of (kind_of c)))
    (beq (is_space c) (is_gap (kind_of c))
    && (beq (is_hyphen c) (is_dash (kind_of c)) && beq (is_point c) (is_stop (kind_of c)))) t in
    let q = and_parts (beq (is_space c) (is_gap (kind_of c))) (beq (is_hyphen c) (is_dash (kind_of c))
    && beq (is_point c) (is_stop (kind_of c))) p.1 in
    let r = and_parts (beq (is_hyphen c) (is_dash (kind_of c))) (beq (is_point c) (is_stop (kind_of c))) q.1 in record {
      class = ascii-property c below
          ∙ ap (λ (k : LineBreak). record { class = k; is_wide = false; is_future_emoji = false }) (same_class _ _ p.0);
      gap = same_from_beq _ _ q.0;
      dash = same_from_beq _ _ r.0;
      point = same_from_beq _ _ r.1;
    }

-- ---- where they stand

abbrev char_of : Kind → Character
char_of k = record { class = class_of k; is_wide = false; is_future_emoji = false }

abbrev at_with : Kind → Bool → Bool → BreakState
at_with k sp hebrew = record {
  base = char_of k;
  is_spaced = sp;
  is_joined = false;
  follows_hebrew = hebrew;
  has_half_flag = false;
}

-- after a character that is no space, if there is one, and spaces or not
abbrev at : Kind → Bool → BreakState
at k sp = at_with k sp false

no-hebrew : (sp : Bool) (k : Kind) → (not sp && is_hebrew (class_of k)) ≡ false
no-hebrew true k = refl
no-hebrew false Gap = refl
no-hebrew false Letter = refl
no-hebrew false Digit = refl
no-hebrew false Quote = refl
no-hebrew false Dash = refl
no-hebrew false Point = refl

abbrev next : Kind → Kind → Kind
next k m = if is_gap m then k else m

after-kind : (k m : Kind) (sp : Bool) → state_after (at k sp) (char_of m) ≡ at (next k m) (is_gap m)
after-kind k Gap sp = ap (at_with k true) (no-hebrew sp k)
after-kind k Letter sp = ap (at_with Letter false) (no-hebrew sp k)
after-kind k Digit sp = ap (at_with Digit false) (no-hebrew sp k)
after-kind k Quote sp = ap (at_with Quote false) (no-hebrew sp k)
after-kind k Dash sp = ap (at_with Dash false) (no-hebrew sp k)
after-kind k Point sp = ap (at_with Point false) (no-hebrew sp k)

-- ---- each pair of them, after each character before

abbrev all_kinds : (Kind → Bool) → Bool
all_kinds p = p Gap && (p Letter && (p Digit && (p Quote && (p Dash && p Point))))

of_all : (p : Kind → Bool) → all_kinds p ≡ true → (k : Kind) → p k ≡ true
of_all p h k =
    let a = and_parts (p Gap) (p Letter && (p Digit && (p Quote && (p Dash && p Point)))) h in
    let b = and_parts (p Letter) (p Digit && (p Quote && (p Dash && p Point))) a.1 in
    let c = and_parts (p Digit) (p Quote && (p Dash && p Point)) b.1 in
    let d = and_parts (p Quote) (p Dash && p Point) c.1 in
    let e = and_parts (p Dash) (p Point) d.1 in
    elim k as (λ k. p k ≡ true) [
      | Gap ↦ a.0
      | Letter ↦ b.0
      | Digit ↦ c.0
      | Quote ↦ d.0
      | Dash ↦ e.0
      | Point ↦ e.1
    ]

-- whether a word begins by Unicode
abbrev begins : Kind → Kind → Kind → Bool
begins k m n = not (is_dash m) && is_some (break_in (at (next k m) (is_gap m)) (char_of n))

-- where no point stands after a space it begins as by spaces
abbrev agrees : Kind → Kind → Kind → Bool
agrees k m n = (is_gap m && is_stop n) || beq (begins k m n) (is_gap m && not (is_gap n))

all-agree : all_kinds (λ k. all_kinds (λ m. all_kinds (λ n. agrees k m n))) ≡ true
all-agree = refl

begins-same : (k m n : Kind) → (is_gap m && is_stop n) ≡ false → begins k m n ≡ (is_gap m && not (is_gap n))
begins-same k m n h = same_from_beq _ _
    (ap (λ b. b || beq (begins k m n) (is_gap m && not (is_gap n))) (sym h)
    ∙ of_all (λ n. agrees k m n) (of_all (λ m. all_kinds (λ n. agrees k m n))
    (of_all (λ k. all_kinds (λ m. all_kinds (λ n. agrees k m n))) all-agree k) m) n)

-- ---- the words of a line

usual_after : (b c : ℕ) → (is_plain_code c || (is_point c && not (is_space b))) ≡ true → is_usual c ≡ true
usual_after b c h = grind (arith, nat_tests)

plain-point : (c : ℕ) → is_plain_code c ≡ true → is_point c ≡ false
plain-point c h = grind (arith, nat_tests)

no_point : (b c : ℕ) → (is_plain_code c || (is_point c && not (is_space b))) ≡ true → (is_space b && is_point c) ≡ false
no_point b c h = apart (is_plain_code c) (is_point c) (is_space b) (plain-point c) h
  where
    apart : (p q s : Bool) → (p ≡ true → q ≡ false) → (p || (q && not s)) ≡ true → (s && q) ≡ false
    apart true true true f h = absurd (cc (f refl))
    apart true true false f h = refl
    apart true false true f h = refl
    apart true false false f h = refl
    apart false true true f h = absurd (cc)
    apart false true false f h = refl
    apart false false s f h = absurd (cc)

starts-same : (k : Kind) (b c : ℕ) (before : List ℕ) → is_usual b ≡ true →
    (is_plain_code c || (is_point c && not (is_space b))) ≡ true →
    state_of (b ∷ before) ≡ at (next k (kind_of b)) (is_gap (kind_of b)) →
    starts_word UnicodeBreakProperties (b ∷ before) c ≡ starts_word AsciiSpace (b ∷ before) c
starts-same k b c before u h e =
    let s = as_kind b u in
    let t = as_kind c (usual_after b c h) in
    let m = kind_of b in
    let n = kind_of c in
    let apart : (is_gap m && is_stop n) ≡ false = ap₂ (λ x y. x && y) (sym s.gap) (sym t.point) ∙ no_point b c h in
    ap (λ o. not (is_hyphen b) && is_some o) (break-is (b ∷ before) c ∙ ap₂ break_in e t.class)
    ∙ ap (λ d. not d && is_some (break_in (at (next k m) (is_gap m)) (char_of n))) s.dash
    ∙ begins-same k m n apart
    ∙ ap₂ (λ x y. x && not y) (sym s.gap) (sym t.gap)

pieces-same : (k : Kind) (sp : Bool) (last : ℕ) (before : List ℕ) (cs : List TaggedChar) → state_of before ≡ at k sp →
    plain_after last (codes_of cs) ≡ true → pieces UnicodeBreakProperties before cs ≡ pieces AsciiSpace before cs
pieces-same k sp last before [] e h = refl
pieces-same k sp last before (c ∷ cs) e h =
    let x = c.code in
    let p = and_parts (is_plain_code x || (is_point x && not (is_space last))) (plain_after x (codes_of cs)) h in
    let u = usual_after last x p.0 in
    let f : state_of (x ∷ before) ≡ at (next k (kind_of x)) (is_gap (kind_of x)) =
    state-step x before ∙ ap₂ state_after e (as_kind x u).class ∙ after-kind k (kind_of x) sp in
    ap₂ (λ (b : Bool) ps. if b then (c ∷ []) ∷ ps else onto c ps) (ends-same k x before cs u p.1 f)
    (pieces-same (next k (kind_of x)) (is_gap (kind_of x)) x (x ∷ before) cs f p.1)
  where
    ends-same : (k : Kind) (x : ℕ) (before : List ℕ) (cs : List TaggedChar) → is_usual x ≡ true →
        plain_after x (codes_of cs) ≡ true → state_of (x ∷ before) ≡ at (next k (kind_of x)) (is_gap (kind_of x)) →
        ends_word UnicodeBreakProperties (x ∷ before) cs ≡ ends_word AsciiSpace (x ∷ before) cs
    ends-same k x before [] u h f = refl
    ends-same k x before (d ∷ ds) u h f =
        let p = and_parts (is_plain_code d.code || (is_point d.code && not (is_space x)))
        (plain_after d.code (codes_of ds)) h in
        starts-same k x d.code before u p.0 f

pub words-same : (cs : List TaggedChar) → is_plain_text (codes_of cs) ≡ true →
    words UnicodeBreakProperties cs ≡ words AsciiSpace cs
words-same cs h = ap (map word_of) (pieces-same Gap false 0 [] cs refl h)
