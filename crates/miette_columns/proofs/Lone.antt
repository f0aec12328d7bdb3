-- Characters that join nothing that stands after them: after such a one widths add up.
use Rattle.std.proofs.Common.{ℕ, zero, suc, ◌+◌, ◌<◌, ◌≤◌, ◌≡◌, Bool, true, false, cond, not, ◌||◌, ◌==◌, nat_le}
use Rattle.std.proofs.Common.{List, [], ◌∷◌, ◌++◌, None, refl, sym, ap, ◌∙◌, add-one, inl, inr}
use Rattle.std.specs.Prelude.{if◌then◌else◌}
use Rattle.std.specs.Int.{is_in_range}
use Rattle.std.specs.List.{list_all}
use Rattle.std.proofs.lemmas.Bool.{true≢false, and_right, cases_lt, cond-true, cond-false, le-leb}
use Rattle.std.proofs.lemmas.Bool.{lt-leb}
use Rattle.miette_lines.proofs.Cases.{by_cases}
use Rattle.ucd_table.specs.Rows.{Range, in_ranges}
use Rattle.ucd_table.proofs.Stepped.{Stepped, of_ranges}
use Rattle.ucd_emoji.specs.Binary.{is_emoji_variation_base}
use Rattle.unicode_width.specs.declared.kind.Kind.{Kind}
use Rattle.unicode_width.specs.declared.kind.Kind.TheVariants as kinds
use Rattle.unicode_width.specs.declared.state.After.{After}
use Rattle.unicode_width.specs.declared.state.After.TheVariants as afters
use Rattle.unicode_width.specs.declared.state.State.{State}
use Rattle.unicode_width.specs.Kind.{kind}
use Rattle.unicode_width.specs.Width.{before, plain, is_joined_emoji, of_kind, alone, before_alef, is_emoji}
use Rattle.unicode_width.specs.Width.{joins, Reading, added, if_kept, skips_marks, is_plain, past_selectors, in_context}
use Rattle.unicode_width.specs.Width.{past_emoji, step, read_before, str_width}
use Rattle.unicode_width.proofs.Computing.{unicode_width}
use Rattle.unicode_width.proofs.Rules.{is_simple, str_width-append_simple}
use Rattle.miette_columns.specs.steps.SplitPoints.{joins_nothing_after}
use Rattle.miette_columns.proofs.Excluding.{as_stepped, no_one, no_range, joins_few}
use Rattle.miette_columns.proofs.Ordinary.{IsOrdinary, ordinary, past_context, no_kind}
use Rattle.miette_columns.proofs.KindTests.{kind_test_stepped}

-- ---- what such a character is not

abbrev lone_ranges : List Range
lone_ranges =
    (0x20, 0x22) ∷ (0x24, 0x29) ∷ (0x2B, 0x2F) ∷ (0x3A, 0x7E) ∷ (0xAF, 0x2FF) ∷ (0x391, 0x482) ∷ (0x48A, 0x52F)
    ∷ (0x621, 0x643) ∷ (0x1780, 0x17B3) ∷ (0x3001, 0x3029) ∷ (0x3041, 0x3096) ∷ (0x30A0, 0x30FF) ∷ (0x3400, 0x4DBF)
    ∷ (0x4E00, 0x9FFF) ∷ (0xAC00, 0xD7A3) ∷ []

pub or_false : (b : Bool) → b ≡ (b || false)
or_false true = refl
or_false false = refl

pub or_turn : (a b d : Bool) → ((a || b) || d) ≡ (a || (b || d))
or_turn true b d = refl
or_turn false b d = refl

abbrev lone_stepped : Stepped joins_nothing_after
unfolding in_ranges unicode_width
lone_stepped = as_stepped joins_nothing_after (in_ranges lone_ranges) (λ c. or_false (joins_nothing_after c)
    ∙ simp or_turn)
    (of_ranges lone_ranges refl)

abbrev is_other_kind : Kind → Bool
is_other_kind kinds.Narrow = false
is_other_kind kinds.Wide = false
is_other_kind kinds.Ambiguous = false
is_other_kind kinds.Alef = false
is_other_kind kinds.KhmerLetter = false
is_other_kind _ = true

no_other : (c : ℕ) → joins_nothing_after c ≡ true → is_other_kind (kind c) ≡ false
unfolding unicode_width kind_test_stepped
no_other = no_kind joins_nothing_after lone_stepped is_other_kind refl refl refl

no_indicator : (c : ℕ) → joins_nothing_after c ≡ true → is_in_range 0x1F1E6 0x1F1FF c ≡ false
unfolding unicode_width
no_indicator = no_range joins_nothing_after 0x1F1E6 0x1F1FF lone_stepped (of_ranges ((0x1F1E6, 0x1F1FF) ∷ []) refl) refl

no_modifier : (c : ℕ) → joins_nothing_after c ≡ true → is_in_range 0x1F3FB 0x1F3FF c ≡ false
unfolding unicode_width
no_modifier = no_range joins_nothing_after 0x1F3FB 0x1F3FF lone_stepped (of_ranges ((0x1F3FB, 0x1F3FF) ∷ []) refl) refl

lone_ordinary : (c : ℕ) → joins_nothing_after c ≡ true → IsOrdinary c
unfolding unicode_width
lone_ordinary = ordinary joins_nothing_after lone_stepped refl

-- ---- its step is the same before any text

past_low : (c t : ℕ) (s : State) → joins_nothing_after c ≡ true → c ≤ 0xA0 → past_emoji false c t s ≡ (t + 1, plain)
unfolding past_emoji
past_low c t s h low = rw (
  no_one joins_nothing_after c 0x0A refl h,
  no_one joins_nothing_after c 0x0D refl h,
  le-leb c
      0xA0 low,
) refl

no_emoji_kind : (k : Kind) → is_other_kind k ≡ false → is_emoji k ≡ false
no_emoji_kind kinds.Narrow e = refl
no_emoji_kind kinds.Wide e = refl
no_emoji_kind kinds.Ambiguous e = refl
no_emoji_kind kinds.Alef e = refl
no_emoji_kind kinds.KhmerLetter e = refl
no_emoji_kind k e = absurd (true≢false e)

no_emoji : (c : ℕ) → joins_nothing_after c ≡ true → is_emoji (kind c) ≡ false
no_emoji c h = no_emoji_kind (kind c) (no_other c h)

-- it has some width of its own
own_kind : (c : ℕ) (k : Kind) → is_other_kind k ≡ false → ((of_kind false c k).0 == 0) ≡ false
own_kind c kinds.Narrow e = refl
own_kind c kinds.Wide e = refl
own_kind c kinds.Ambiguous e = refl
own_kind c kinds.Alef e = refl
own_kind c kinds.KhmerLetter e = refl
own_kind c k e = absurd (true≢false e)

own : (c : ℕ) → joins_nothing_after c ≡ true → ((alone false c).0 == 0) ≡ false
unfolding alone
own c h = own_kind c (kind c) (no_other c h)

joins_none : (after : After) (c : ℕ) → joins_nothing_after c ≡ true → ((alone false c).0 == 0) ≡ false
    → joins false after c ≡ None
unfolding joins before_alef
joins_none after c h some = joins_few (λ _ j. j ≡ None) c (lone_ordinary c h).few (record {
  none = λ _. refl;
  modifier = rw ((lone_ordinary c h).modified, no_one joins_nothing_after c 0x200D refl h) refl;
  indicator = rw (no_indicator c h) refl;
  indicators = rw (no_indicator c h, no_one joins_nothing_after c 0x200D refl h) refl;
  emoji = rw (
    no_one joins_nothing_after c 0x20E3 refl h,
    no_indicator c h,
    no_modifier c h,
    no_one joins_nothing_after c 0xE007F refl h,
    no_emoji c h,
  ) refl;
  joined = rw (no_indicator c h) refl;
  even = rw (no_indicator c h, no_one joins_nothing_after c 0x200D refl h) refl;
  odd = rw (no_indicator c h, no_one joins_nothing_after c 0x200D refl h) refl;
  alef = rw ((lone_ordinary c h).lam, some) refl;
}) after

past_quotes : (c t : ℕ) (after : After) → joins_nothing_after c ≡ true → past_selectors false c t after
    ≡ added t (alone false c)
unfolding past_selectors
past_quotes c t after h =
    rw (
      no_one joins_nothing_after c 0x200D refl h,
      (lone_ordinary c h).transparent,
      and_right (skips_marks after) false refl,
      joins_none after c h (own c h),
    ) refl

in_any_context : (c t : ℕ) (s : State) → joins_nothing_after c ≡ true → in_context false c t s ≡ added t (alone false c)
in_any_context c t s h =
    past_context c t s (no_one joins_nothing_after c 0xFE0F refl h) (no_one joins_nothing_after c 0xFE01 refl h)
    (no_one joins_nothing_after c 0xFE0E refl h) (lone_ordinary c h).selected
    ∙ past_quotes c t s.after h

past_high : (c t : ℕ) (s : State) → joins_nothing_after c ≡ true → 0xA0 < c → past_emoji false c t s
    ≡ added t (alone false c)
unfolding past_emoji
past_high c t s h high =
    by_cases {C = past_emoji false c t s ≡ added t (alone false c)} (is_plain s)
    (λ y. rw (no_one joins_nothing_after c 0x0A refl h, no_one joins_nothing_after c 0x0D refl h, lt-leb c 0xA0 high, y)
    refl)
    (λ n. rw (no_one joins_nothing_after c 0x0A refl h, no_one joins_nothing_after c 0x0D refl h, lt-leb c 0xA0 high, n)
    (in_any_context c t s h))

-- its width, and what it is for the character before it
abbrev lone_own : ℕ → ℕ × State
lone_own c = if nat_le c 0xA0 then (1, plain) else alone false c

past_all : (c t : ℕ) (s : State) → joins_nothing_after c ≡ true → past_emoji false c t s ≡ added t (lone_own c)
past_all c t s h =
    elim (cases_lt 0xA0 c) [
      | inl high ↦ past_high c t s h high ∙ ap (added t) (sym (cond-false _ _ _ (lt-leb c 0xA0 high)))
      | inr low ↦ past_low c t s h low ∙ ap (added t) (sym (cond-true _ _ _ (le-leb c 0xA0 low)))
    ]

chosen : (e v : Bool) (a b d r : Reading) → v ≡ false → a ≡ r → d ≡ r → cond (not e) a (cond v b d) ≡ r
chosen false v a b d r n p q = p
chosen true false a b d r n p q = q
chosen true true a b d r n p q = absurd (true≢false n)

step_lone : (c t : ℕ) (s : State) → joins_nothing_after c ≡ true → step false c (t, s) ≡ added t (lone_own c)
unfolding step
step_lone c t s h =
    chosen s.emoji (is_emoji_variation_base c) (past_emoji false c t s)
    (t + (if is_joined_emoji s.after then 0 else 2), before afters.Emoji)
    (past_emoji false c t (record (if_kept s) { emoji = false })) (added t (lone_own c))
    (lone_ordinary c h).selected.variation
    (past_all c t s h)
    (past_all c t (record (if_kept s) { emoji = false }) h)

-- ---- so widths add up

pub read_append : (xs ys : List ℕ) (r : Reading) → read_before false (xs ++ ys) r
    ≡ read_before false xs (read_before false ys r)
read_append [] ys r = refl
read_append (x ∷ xs) ys r = ap (step false x) (read_append xs ys r)

abbrev spaces : ℕ → List ℕ
spaces zero = []
spaces (suc n) = 0x20 ∷ spaces n

simple_spaces : (n : ℕ) → list_all is_simple (spaces n) ≡ true
simple_spaces zero = refl
simple_spaces (suc n) = simple_spaces n

read_spaces : (n : ℕ) → read_before false (spaces n) (0, plain) ≡ (n, plain)
read_spaces zero = refl
read_spaces (suc n) = ap (step false 0x20) (read_spaces n) ∙ step_lone 0x20 n plain refl
    ∙ ap (λ m. (m, plain)) (add-one n)

-- what is read before `n` columns
pub shifted : (xs : List ℕ) (n : ℕ) → (read_before false xs (n, plain)).0 ≡ str_width false xs + n
unfolding str_width
shifted xs n =
    ap (λ r. (read_before false xs r).0) (sym (read_spaces n))
    ∙ ap (λ r. r.0) (sym (read_append xs (spaces n) (0, plain)))
    ∙ str_width-append_simple false xs (spaces n) (simple_spaces n) ∙ ap (λ r. str_width false xs + r.0) (read_spaces n)

pub adds_up : (xs ys : List ℕ) (c : ℕ) → joins_nothing_after c ≡ true → str_width false (xs ++ c ∷ ys)
    ≡ str_width false (xs ++ c ∷ []) + str_width false ys
unfolding str_width
adds_up xs ys c h =
    let r = read_before false ys (0, plain) in
    ap (λ x. x.0) (read_append xs (c ∷ ys) (0, plain)) ∙ ap (λ x. (read_before false xs x).0)
    (step_lone c r.0 r.1 h ∙ sym (step_lone c r.0 plain h))
    ∙ ap (λ x. x.0) (sym (read_append xs (c ∷ []) (r.0, plain))) ∙ shifted (xs ++ c ∷ []) r.0
