-- The table of printable ASCII says what the rules do.
use Rattle.std.proofs.Common.{◌≡◌, ℕ, ◌-◌, ◌<◌, ◌≤◌, Bool, true, false, not, ◌&&◌, ◌||◌, ◌==◌, nat_le, nat_lt, refl}
use Rattle.std.proofs.Common.{[], sym, ap, ap₂, ◌∙◌, if◌then◌else◌, arith, eqb-true, slice_index_or}
use Rattle.std.proofs.Common.{Option, Some, None}
use Rattle.std.proofs.lemmas.Bool.{and_parts}
use Rattle.std.proofs.lemmas.Bool.Decides.{nat_tests}
use Rattle.std.specs.Bool.{beq}
use Rattle.std.specs.Option.{is_some}
use Rattle.ucd_table.proofs.Facts.{same_from_beq}
use Rattle.ucd_table.proofs.TrieCheck.{all_below, all_below-at}
use Rattle.ucd_breaks.specs.LineBreak.{line_break_number}
use Rattle.ucd_breaks.specs.declared.LineBreak.{LineBreak}
use Rattle.ucd_breaks.specs.declared.LineBreak.TheVariants.{Ambiguous, Space}
use Rattle.miette_line_breaks.specs.declared.ascii.TheConstants.{CLASSES}
use Rattle.miette_line_breaks.specs.declared.characters.Character.{Character}
use Rattle.miette_line_breaks.specs.declared.ascii_state.TheConstants.{KINDS, KIND_CLASSES, TRANSITIONS}
use Rattle.miette_line_breaks.specs.declared.state.BreakState.{BreakState}
use Rattle.miette_line_breaks.specs.rules.Characters.{character_of, lone_mark}
use Rattle.miette_line_breaks.specs.rules.Classes.{is_joiner, is_mark, is_regional, is_space_class}
use Rattle.miette_line_breaks.specs.steps.AsciiState.{kind_character, row_state}
use Rattle.miette_line_breaks.specs.steps.States.{attaches, base_after, break_in, ends_hebrew, is_empty, is_lone}
use Rattle.miette_line_breaks.specs.steps.States.{is_start, joined_after, state_after}
use Rattle.miette_line_breaks.specs.views.Places.{after_code}
use Rattle.miette_line_breaks.specs.views.AsciiState.{begins_ascii_state, is_printable}
use Rattle.miette_line_breaks.proofs.AsciiClasses.{ascii-is, same_class, space-is}
use Rattle.miette_line_breaks.proofs.Plain.{made, none-counts}

all_five : (a b c d e : Bool) → (a && b && c && d && e) ≡ true →
    (a ≡ true) × (b ≡ true) × (c ≡ true) × (d ≡ true) × (e ≡ true)
all_five a b c d e h =
    let p = and_parts (a && b && c && d) e h in
    let q = and_parts (a && b && c) d p.0 in
    let r = and_parts (a && b) c q.0 in
    let s = and_parts a b r.0 in
    (s.0, s.1, r.1, q.1, p.1)

-- ---- the classes of characters

abbrev pub kind_of : ℕ → ℕ
kind_of c = slice_index_or KINDS c 0

abbrev same_kind : ℕ → Bool
same_kind c = line_break_number (slice_index_or CLASSES c Ambiguous)
    == line_break_number (slice_index_or KIND_CLASSES (kind_of c) Ambiguous)

abbrev kind_test : ℕ → Bool
kind_test c =
    nat_lt (kind_of c) 15 && beq (is_printable c) (nat_lt (kind_of c) 14) && beq (c == 45) (kind_of c == 12)
    && beq (c == 32) (kind_of c == 13) && (nat_le 14 (kind_of c) || same_kind c)

kind-tests : all_below kind_test 128 ≡ true
unfolding all_below
kind-tests = refl

record Kind (c : ℕ) : Type 0 where
  small : nat_lt (kind_of c) 15 ≡ true
  printable : is_printable c ≡ nat_lt (kind_of c) 14
  hyphen : (c == 45) ≡ (kind_of c == 12)
  space : (c == 32) ≡ (kind_of c == 13)
  class : (nat_le 14 (kind_of c) || same_kind c) ≡ true

kind-is : (c : ℕ) → c < 128 → Kind c
kind-is c below =
    let p = all_five (nat_lt (kind_of c) 15) (beq (is_printable c) (nat_lt (kind_of c) 14))
    (beq (c == 45) (kind_of c == 12)) (beq (c == 32) (kind_of c == 13)) (nat_le 14 (kind_of c) || same_kind c)
    (all_below-at kind_test 128 c kind-tests below) in
    record {
      small = p.0;
      printable = same_from_beq (is_printable c) (nat_lt (kind_of c) 14) p.1;
      hyphen = same_from_beq (c == 45) (kind_of c == 12) p.2;
      space = same_from_beq (c == 32) (kind_of c == 13) p.3;
      class = p.4;
    }

below_15 : (n : ℕ) → nat_lt n 15 ≡ true → n < 15
below_15 n h = grind (arith, nat_tests)

below_14 : (n : ℕ) → n < 14 → nat_lt n 14 ≡ true
below_14 n h = grind (arith, nat_tests)

above_14 : (n : ℕ) → 14 ≤ n → nat_lt n 14 ≡ false
above_14 n h = grind (arith, nat_tests)

less_14 : (n : ℕ) → n < 14 → nat_le 14 n ≡ false
less_14 n h = grind (arith, nat_tests)

pub kind-small : (c : ℕ) → c < 128 → kind_of c < 15
kind-small c below = below_15 (kind_of c) (kind-is c below).small

pub kind-printable : (c : ℕ) → c < 128 → kind_of c < 14 → is_printable c ≡ true
kind-printable c below h = (kind-is c below).printable ∙ below_14 (kind_of c) h

pub kind-none : (c : ℕ) → c < 128 → 14 ≤ kind_of c → is_printable c ≡ false
kind-none c below h = (kind-is c below).printable ∙ above_14 (kind_of c) h

pub kind-row : (c : ℕ) → c < 128 → kind_of c < 28
kind-row c below = omega (arith, kind-small c below)

pub kind-hyphen : (c : ℕ) → c < 128 → kind_of c ≡ 12 → c ≡ 45
kind-hyphen c below h = eqb-true _ _ ((kind-is c below).hyphen ∙ ap (λ k. k == 12) h)

pub kind-other : (c : ℕ) → c < 128 → (kind_of c == 12) ≡ false → (c == 45) ≡ false
kind-other c below h = (kind-is c below).hyphen ∙ h

pub kind-space : (c : ℕ) → c < 128 → (c == 32) ≡ false → (kind_of c == 13) ≡ false
kind-space c below h = sym (kind-is c below).space ∙ h

kept-class : (a b : Bool) → a ≡ false → (a || b) ≡ true → b ≡ true
kept-class true b e h = absurd (cc)
kept-class false b e h = h

pub kind-character : (c : ℕ) → c < 128 → kind_of c < 14 → character_of c ≡ kind_character (kind_of c)
kind-character c below h =
    let same : same_kind c ≡ true = kept-class _ _ (less_14 (kind_of c) h) (kind-is c below).class in
    ascii-is c below ∙ ap (λ (k : LineBreak). record { class = k; is_wide = false; is_future_emoji = false })
    (same_class _ _ same)

pub high-none : (c : ℕ) → 128 ≤ c → is_printable c ≡ false
high-none c h = grind (arith, nat_tests)

-- ---- what stands after them

abbrev pub next_of : ℕ → ℕ → ℕ
next_of row k = slice_index_or (slice_index_or TRANSITIONS row []) k 0

abbrev same_state : BreakState → BreakState → Bool
same_state a b =
    (line_break_number a.base.class == line_break_number b.base.class) && beq a.base.is_wide b.base.is_wide
    && beq a.base.is_future_emoji b.base.is_future_emoji && beq a.is_spaced b.is_spaced
    && beq a.is_joined b.is_joined && beq a.follows_hebrew b.follows_hebrew && beq a.has_half_flag b.has_half_flag

same-is : (a b : BreakState) → same_state a b ≡ true → a ≡ b
same-is a b h =
    let class = line_break_number a.base.class == line_break_number b.base.class in
    let wide = beq a.base.is_wide b.base.is_wide in
    let future = beq a.base.is_future_emoji b.base.is_future_emoji in
    let spaced = beq a.is_spaced b.is_spaced in
    let joined = beq a.is_joined b.is_joined in
    let hebrew = beq a.follows_hebrew b.follows_hebrew in
    let q = and_parts (class && wide && future && spaced && joined && hebrew)
    (beq a.has_half_flag b.has_half_flag) h in
    let r = and_parts (class && wide && future && spaced && joined) hebrew q.0 in
    let p = all_five class wide future spaced joined r.0 in
    ap₂ (λ k w. made k w a.base.is_future_emoji a.is_spaced a.is_joined a.follows_hebrew a.has_half_flag)
    (same_class a.base.class b.base.class p.0) (same_from_beq a.base.is_wide b.base.is_wide p.1)
    ∙ ap₂ (λ f s. made b.base.class b.base.is_wide f s a.is_joined a.follows_hebrew a.has_half_flag)
    (same_from_beq a.base.is_future_emoji b.base.is_future_emoji p.2) (same_from_beq a.is_spaced b.is_spaced p.3)
    ∙ ap₂ (λ j h. made b.base.class b.base.is_wide b.base.is_future_emoji b.is_spaced j h a.has_half_flag)
    (same_from_beq a.is_joined b.is_joined p.4) (same_from_beq a.follows_hebrew b.follows_hebrew r.1)
    ∙ ap (λ g. made b.base.class b.base.is_wide b.base.is_future_emoji b.is_spaced b.is_joined b.follows_hebrew g)
    (same_from_beq a.has_half_flag b.has_half_flag q.1)

-- the row after a character: that of the table, or by the class alone
abbrev row_after : ℕ → ℕ → ℕ
row_after row k = if nat_lt (next_of row k) 28 then next_of row k else k

abbrev breaks : ℕ → ℕ → Bool
breaks row k = is_some (break_in (row_state row) (kind_character k))

abbrev step_test : ℕ → ℕ → Bool
step_test row k =
    beq (breaks row k) (next_of row k == 28) && nat_lt (next_of row k) 30
    && same_state (state_after (row_state row) (kind_character k)) (row_state (row_after row k))
    && (not (k == 12) || nat_le 28 (next_of row k)) && (not (next_of row k == 29) || (k == 12))

step-tests : all_below (λ row. all_below (step_test row) 14) 28 ≡ true
unfolding all_below
step-tests = refl

other-tests : all_below (λ row. next_of row 14 == 30) 28 ≡ true
unfolding all_below
other-tests = refl

record Transition (row k : ℕ) : Type 0 where
  breaks : breaks row k ≡ (next_of row k == 28)
  small : nat_lt (next_of row k) 30 ≡ true
  after : state_after (row_state row) (kind_character k) ≡ row_state (row_after row k)
  hyphen : (not (k == 12) || nat_le 28 (next_of row k)) ≡ true
  only : (not (next_of row k == 29) || (k == 12)) ≡ true

transition-is : (row k : ℕ) → row < 28 → k < 14 → Transition row k
transition-is row k h l =
    let n = next_of row k in
    let after = state_after (row_state row) (kind_character k) in
    let p = all_five (beq (breaks row k) (n == 28)) (nat_lt n 30) (same_state after (row_state (row_after row k)))
    (not (k == 12) || nat_le 28 n) (not (n == 29) || (k == 12))
    (all_below-at (step_test row) 14 k (all_below-at (λ r. all_below (step_test r) 14) 28 row step-tests h) l) in
    record {
      breaks = same_from_beq (breaks row k) (n == 28) p.0;
      small = p.1;
      after = same-is after (row_state (row_after row k)) p.2;
      hyphen = p.3;
      only = p.4;
    }

none-is : {A : Type 0} (o : Option A) → is_some o ≡ false → o ≡ None
none-is (Some x) h = absurd (cc)
none-is None h = refl

below_28 : (n : ℕ) → n < 28 → (nat_lt n 28 ≡ true) × (nat_le 28 n ≡ false) × ((n == 28) ≡ false)
below_28 n h = (grind (arith, nat_tests), grind (arith, nat_tests), grind (arith, nat_tests))

is_false : (a b : Bool) → (not a || b) ≡ true → b ≡ false → a ≡ false
is_false true b h e = absurd (cc)
is_false false b h e = refl

is_true : (a b : Bool) → (not a || b) ≡ true → a ≡ true → b ≡ true
is_true true b h e = h
is_true false b h e = absurd (cc)

pub step-within : (row k : ℕ) → row < 28 → k < 14 → next_of row k < 28 →
    (break_in (row_state row) (kind_character k) ≡ None) × ((k == 12) ≡ false)
    × (state_after (row_state row) (kind_character k) ≡ row_state (next_of row k))
step-within row k h l e =
    let t = transition-is row k h l in
    let b = below_28 (next_of row k) e in (
      none-is _ (t.breaks ∙ b.2),
      is_false (k == 12) (nat_le 28 (next_of row k)) t.hyphen b.1,
      t.after ∙ ap (λ (v : Bool). row_state (if v then next_of row k else k)) b.0,
    )

pub step-broken : (row k : ℕ) → row < 28 → k < 14 → next_of row k ≡ 28 →
    (is_some (break_in (row_state row) (kind_character k)) ≡ true)
    × (state_after (row_state row) (kind_character k) ≡ row_state k)
step-broken row k h l e =
    let t = transition-is row k h l in (
      t.breaks ∙ ap (λ n. n == 28) e,
      t.after ∙ ap (λ n. row_state (if nat_lt n 28 then n else k)) e,
    )

pub step-hyphen : (row k : ℕ) → row < 28 → k < 14 → next_of row k ≡ 29 → (k ≡ 12)
    × (break_in (row_state row) (kind_character k) ≡ None)
    × (state_after (row_state row) (kind_character k) ≡ row_state k)
step-hyphen row k h l e =
    let t = transition-is row k h l in (
      eqb-true k 12 (is_true (next_of row k == 29) (k == 12) t.only (ap (λ n. n == 29) e)),
      none-is _ (t.breaks ∙ ap (λ n. n == 28) e),
      t.after ∙ ap (λ n. row_state (if nat_lt n 28 then n else k)) e,
    )

below_30 : (n : ℕ) → nat_lt n 30 ≡ true → n < 30
below_30 n h = grind (arith, nat_tests)

step-small : (row k : ℕ) → row < 28 → k < 14 → next_of row k < 30
step-small row k h l = below_30 (next_of row k) (transition-is row k h l).small

step-other : (row : ℕ) → row < 28 → next_of row 14 ≡ 30
step-other row h = eqb-true _ _ (all_below-at (λ r. next_of r 14 == 30) 28 row other-tests h)

last_kind : (k : ℕ) → k < 15 → (k == 14) ≡ false → k < 14
last_kind k h e = grind (arith, nat_tests)

-- a character is printable where a row or one of the first two numbers stands for it
pub step-some : (row k : ℕ) → row < 28 → k < 15 → next_of row k < 30 → k < 14
step-some row k h s n = elim (k == 14) as (λ v. (k == 14) ≡ v → k < 14) [
  | true ↦ λ e.
      let other : next_of row k ≡ 30 = ap (next_of row) (eqb-true k 14 e) ∙ step-other row h in
      absurd (omega (arith, n, other))
  | false ↦ λ e. last_kind k s e
] refl

pub step-none : (row k : ℕ) → row < 28 → k < 15 → 30 ≤ next_of row k → 14 ≤ k
step-none row k h s n = elim (k == 14) as (λ v. (k == 14) ≡ v → 14 ≤ k) [
  | true ↦ λ e. omega (arith, eqb-true k 14 e)
  | false ↦ λ e. absurd (omega (arith, step-small row k h (last_kind k s e), n))
] refl

-- ---- after any character but a Hebrew letter

abbrev counts : LineBreak → Bool
counts q = is_mark q || is_space_class q || is_joiner q || is_regional q

class-tests : all_below (λ k. not (counts (kind_character k).class)) 13 ≡ true
unfolding all_below
class-tests = refl

none-of : (a b c d : Bool) → not (a || b || c || d) ≡ true →
    (a ≡ false) × (b ≡ false) × (c ≡ false) × (d ≡ false)
none-of true b c d h = absurd (cc)
none-of false true c d h = absurd (cc)
none-of false false true d h = absurd (cc)
none-of false false false true h = absurd (cc)
none-of false false false false h = (refl, refl, refl, refl)

abbrev place : Character → Bool → Bool → Bool → Bool → BreakState
place base spaced joined hebrew half = record {
  base = base;
  is_spaced = spaced;
  is_joined = joined;
  follows_hebrew = hebrew;
  has_half_flag = half;
}

pub any-after : (s : BreakState) (k : ℕ) → k < 13 → ends_hebrew s ≡ false →
    state_after s (kind_character k) ≡ row_state k
any-after s k l h =
    let x = kind_character k in
    let q = x.class in
    let n = none-of (is_mark q) (is_space_class q) (is_joiner q) (is_regional q)
    (all_below-at (λ k. not (counts (kind_character k).class)) 13 k class-tests l) in
    ap (λ (m : Bool). if m && attaches s then joined_after s (is_joiner q)
    else base_after s (if m then lone_mark else x) (is_joiner q)) n.0
    ∙ ap₂ (λ (p j : Bool). place (if p then s.base else x) p j (ends_hebrew s)
    (is_regional q && not s.has_half_flag)) n.1 n.2
    ∙ ap₂ (λ (f r : Bool). place x false false f (r && not s.has_half_flag)) h n.3
    ∙ sym (ap (λ (b : Bool). place (kind_character (if b then k - 14 else k)) b false false false)
    (less_14 k (omega (arith, l))))

and-false : (b : Bool) → (b && false) ≡ false
and-false true = refl
and-false false = refl

not-space : (c : ℕ) → (c ≡ 32 → ⊥) → (c == 32) ≡ false
not-space c h = grind (arith, nat_tests)

pub begins_ascii_state-none : (s : BreakState) (c : ℕ) → is_printable c ≡ false → begins_ascii_state s c ≡ false
begins_ascii_state-none s c h = ap (λ (b : Bool). b && (if c == 32 then is_empty s else not (ends_hebrew s))) h

pub hebrew-none : (s : BreakState) (c : ℕ) → (c ≡ 32 → ⊥) → ends_hebrew s ≡ true → begins_ascii_state s c ≡ false
hebrew-none s c e h = ap₂ (λ (a b : Bool). is_printable c && (if a then is_empty s else not b)) (not-space c e) h
    ∙ and-false (is_printable c)

before_13 : (k : ℕ) → k < 15 → (k ≡ 14 → ⊥) → (k == 13) ≡ false → k < 13
before_13 k h e f = grind (arith, nat_tests)

-- the kind of a code after which the next row is known
code-kind : (row c : ℕ) → row < 28 → c < 128 → next_of row (kind_of c) < 30
    → (kind_of c < 14) × (character_of c ≡ kind_character (kind_of c))
code-kind row c small below next =
    let l : kind_of c < 14 = step-some row (kind_of c) small (kind-small c below) next in (l, kind-character c below l)

-- a code in a row, by the row that is known after it: none breaks before it
pub code-within : (row c : ℕ) → row < 28 → c < 128 → next_of row (kind_of c) < 28
    → (is_printable c ≡ true) × ((c == 45) ≡ false) × (break_in (row_state row) (character_of c) ≡ None)
    × (state_after (row_state row) (character_of c) ≡ row_state (next_of row (kind_of c)))
code-within row c small below next =
    let at = code-kind row c small below (omega (arith, next)) in
    let w = step-within row (kind_of c) small at.0 next in (
      kind-printable c below at.0,
      kind-other c below w.1,
      ap (break_in (row_state row)) at.1 ∙ w.0,
      ap (state_after (row_state row)) at.1 ∙ w.2,
    )

-- a line may break before it
pub code-broken : (row c : ℕ) → row < 28 → c < 128 → next_of row (kind_of c) ≡ 28
    → (is_printable c ≡ true) × (is_some (break_in (row_state row) (character_of c)) ≡ true)
    × (state_after (row_state row) (character_of c) ≡ row_state (kind_of c))
code-broken row c small below next =
    let at = code-kind row c small below (omega (arith, next)) in
    let w = step-broken row (kind_of c) small at.0 next in (
      kind-printable c below at.0,
      ap (λ y. is_some (break_in (row_state row) y)) at.1 ∙ w.0,
      ap (state_after (row_state row)) at.1 ∙ w.1,
    )

-- it is a hyphen
pub code-hyphen : (row c : ℕ) → row < 28 → c < 128 → next_of row (kind_of c) ≡ 29
    → (c ≡ 45) × (break_in (row_state row) (character_of c) ≡ None)
    × (state_after (row_state row) (character_of c) ≡ row_state (kind_of c))
code-hyphen row c small below next =
    let at = code-kind row c small below (omega (arith, next)) in
    let w = step-hyphen row (kind_of c) small at.0 next in (
      kind-hyphen c below w.0,
      ap (break_in (row_state row)) at.1 ∙ w.1,
      ap (state_after (row_state row)) at.1 ∙ w.2,
    )

-- a character of a kind but the space's
pub kind-after : (s : BreakState) (c : ℕ) → c < 128 → (c ≡ 32 → ⊥) → (kind_of c ≡ 14 → ⊥) → ends_hebrew s ≡ false →
    (is_printable c ≡ true) × (after_code s c ≡ row_state (kind_of c))
kind-after s c below e f h =
    let l : kind_of c < 13 = before_13 (kind_of c) (kind-small c below) f (kind-space c below (not-space c e)) in
    let k : kind_of c < 14 = omega (arith, l) in (
      kind-printable c below k,
      ap (state_after s) (kind-character c below k) ∙ any-after s (kind_of c) l h,
    )

-- ---- at the start of a text

space_class : (q : LineBreak) → is_space_class q ≡ true → q ≡ Space
space_class Space h = refl
space_class q h = absurd (cc)

unspaced : (b : Bool) → not b ≡ true → b ≡ false
unspaced true h = absurd (cc)
unspaced false h = refl

empty-is : (s : BreakState) → is_empty s ≡ true → s ≡ row_state 13
empty-is s h =
    let p = and_parts (is_start s) (is_lone s) h in
    let q = and_parts (is_space_class s.base.class) (not s.is_spaced) p.0 in
    let n = none-counts s.base.is_wide s.base.is_future_emoji s.is_joined s.follows_hebrew s.has_half_flag p.1 in
    ap₂ (λ k w. made k w s.base.is_future_emoji s.is_spaced s.is_joined s.follows_hebrew s.has_half_flag)
    (space_class s.base.class q.0) n.0
    ∙ ap₂ (λ f b. made Space false f b s.is_joined s.follows_hebrew s.has_half_flag) n.1
    (unspaced s.is_spaced q.1)
    ∙ ap₂ (λ j h. made Space false false false j h s.has_half_flag) n.2 n.3
    ∙ ap (λ g. made Space false false false false false g) n.4

pub space-after : (s : BreakState) (c : ℕ) → c ≡ 32 → is_empty s ≡ true →
    (is_printable c ≡ true) × (after_code s c ≡ row_state 27)
space-after s c e h = (
  ap is_printable e,
  ap (after_code s) e ∙ ap₂ state_after (empty-is s h) space-is,
)
