-- Regional indicators, and what one leaves to be read before others.
use Rattle.std.proofs.Common.{ℕ, ◌+◌, ◌-◌, ◌<◌, ◌≡◌, Bool, true, false, cond, not, ◌&&◌, nat_le, ◌⊎◌, List, []}
use Rattle.std.proofs.Common.{◌∷◌, Option, Some, None, refl, sym, ap, subst, ◌∙◌}
use Rattle.std.proofs.Common.{arith, inl, inr}
use Rattle.std.specs.Prelude.{if◌then◌else◌}
use Rattle.std.proofs.lemmas.Bool.{true≢false, and_right, le-leb}
use Rattle.miette_lines.proofs.Cases.{by_cases}
use Rattle.ucd_table.specs.Rows.{Range, in_ranges}
use Rattle.ucd_table.proofs.Stepped.{Stepped, of_ranges}
use Rattle.ucd_emoji.specs.Binary.{is_emoji_variation_base}
use Rattle.unicode_width.specs.declared.kind.Kind.{Kind}
use Rattle.unicode_width.specs.declared.kind.Kind.TheVariants as kinds
use Rattle.unicode_width.specs.declared.state.After.{After}
use Rattle.unicode_width.specs.declared.state.After.TheVariants as afters
use Rattle.unicode_width.specs.declared.state.State.{State}
use Rattle.unicode_width.specs.declared.state.Change.{Change}
use Rattle.unicode_width.specs.Kind.{kind}
use Rattle.unicode_width.specs.Width.{before, plain, is_indicator, is_nothing, is_joined_emoji, of_kind, alone}
use Rattle.unicode_width.specs.Width.{before_alef, joins, joined_or, Reading, if_kept, skips_marks, is_plain}
use Rattle.unicode_width.specs.Width.{past_selectors, in_context, past_emoji, step}
use Rattle.unicode_width.proofs.Computing.{unicode_width}
use Rattle.miette_columns.proofs.Excluding.{as_stepped, no_one, no_range, joins_few}
use Rattle.miette_columns.proofs.Ordinary.{IsOrdinary, ordinary, past_context, no_kind}
use Rattle.miette_columns.proofs.KindTests.{kind_test_stepped}
use Rattle.miette_columns.proofs.Lone.{or_false}

-- ---- what an indicator is not

abbrev indicator_ranges : List Range
indicator_ranges = (0x1F1E6, 0x1F1FF) ∷ []

abbrev indicator_stepped : Stepped is_indicator
unfolding in_ranges unicode_width
indicator_stepped = as_stepped is_indicator (in_ranges indicator_ranges) (λ c. or_false (is_indicator c))
    (of_ranges indicator_ranges refl)

abbrev is_other_kind : Kind → Bool
is_other_kind kinds.RegionalIndicator = false
is_other_kind _ = true

no_other : (c : ℕ) → is_indicator c ≡ true → is_other_kind (kind c) ≡ false
unfolding unicode_width kind_test_stepped
no_other = no_kind is_indicator indicator_stepped is_other_kind refl refl refl

own_kind : (c : ℕ) (k : Kind) → is_other_kind k ≡ false → of_kind false c k ≡ (1, before afters.RegionalIndicator)
own_kind c kinds.RegionalIndicator e = refl
own_kind c k e = absurd (true≢false e)

own : (c : ℕ) → is_indicator c ≡ true → alone false c ≡ (1, before afters.RegionalIndicator)
unfolding alone
own c h = own_kind c (kind c) (no_other c h)

indicator_ordinary : (c : ℕ) → is_indicator c ≡ true → IsOrdinary c
unfolding unicode_width
indicator_ordinary = ordinary is_indicator indicator_stepped refl

-- ---- what an indicator leaves to be read

-- one indicator, or more: where a joined emoji follows them, some width is read
abbrev pub Waves : Reading → Type 0
Waves (t, s) =
    (s ≡ before afters.RegionalIndicator) ⊎ ((s ≡ before afters.RegionalIndicators)
    ⊎ ((s ≡ before afters.EvenIndicatorsZwj)
    ⊎ ((0 < t) × ((s ≡ before afters.IndicatorZwj) ⊎ (s ≡ before afters.OddIndicatorsZwj)))))

abbrev JoinsWaving : ℕ → Option (Change × After) → Type 0
JoinsWaving t None = Unit {0}
JoinsWaving t (Some j) = Waves (joined_or t (Some j) (0, plain))

joins_waving : (after : After) (c t : ℕ) → is_indicator c ≡ true → JoinsWaving t (joins false after c)
unfolding joins before_alef
joins_waving after c t h = joins_few (λ _. JoinsWaving t) c (indicator_ordinary c h).few (record {
  none = λ _. tt;
  modifier = rw ((indicator_ordinary c h).modified, no_one is_indicator c 0x200D refl h) tt;
  indicator = rw h (inr (inl refl));
  indicators = rw h (inr (inl refl));
  emoji = rw (no_one is_indicator c 0x20E3 refl h, h) (inr (inr (inr (omega arith, inl refl))));
  joined = rw h (inr (inr (inl refl)));
  even = rw (no_one is_indicator c 0x200D refl h, h) (inr (inr (inr (omega arith, inr refl))));
  odd = rw (no_one is_indicator c 0x200D refl h, h) (inr (inr (inl refl)));
  alef = rw ((indicator_ordinary c h).lam, own c h) tt;
}) after

waving_joined : (t : ℕ) (j : Option (Change × After)) → JoinsWaving t j
    → Waves (joined_or t j (1, before afters.RegionalIndicator))
waving_joined t None p = inl refl
waving_joined t (Some j) p = p

past_quotes : (c t : ℕ) (after : After) → is_indicator c ≡ true → Waves (past_selectors false c t after)
unfolding past_selectors
past_quotes c t after h =
    let is = indicator_ordinary c h in
    rw (no_one is_indicator c 0x200D refl h, is.transparent, and_right (skips_marks after) false refl, own c h)
    (waving_joined t (joins false after c) (joins_waving after c t h))

in_any_context : (c t : ℕ) (s : State) → is_indicator c ≡ true → Waves (in_context false c t s)
in_any_context c t s h =
    subst Waves (sym (past_context c t s (no_one is_indicator c 0xFE0F refl h) (no_one is_indicator c 0xFE01 refl h)
    (no_one is_indicator c 0xFE0E refl h) (indicator_ordinary c h).selected))
    (past_quotes c t s.after h)

indicator_high : (c : ℕ) → is_indicator c ≡ true → nat_le c 0xA0 ≡ false
unfolding unicode_width
indicator_high c h = sym (ap (λ b. b && nat_le c 0xA0) (le-leb 0 c (omega arith)))
    ∙ no_range is_indicator 0 0xA0 indicator_stepped (of_ranges ((0, 0xA0) ∷ []) refl) refl c h

past_all : (c t : ℕ) (s : State) → is_indicator c ≡ true → Waves (past_emoji false c t s)
unfolding past_emoji
past_all c t s h =
    by_cases {C = Waves (past_emoji false c t s)} (is_plain s)
    (λ y. rw (no_one is_indicator c 0x0A refl h, no_one is_indicator c 0x0D refl h, indicator_high c h, y, own c h)
    (inl refl))
    (λ n. rw (no_one is_indicator c 0x0A refl h, no_one is_indicator c 0x0D refl h, indicator_high c h, n)
    (in_any_context c t s h))

waving_cond : (b : Bool) (x y : Reading) → (b ≡ true → Waves x) → (b ≡ false → Waves y) → Waves (cond b x y)
waving_cond true x y p q = p refl
waving_cond false x y p q = q refl

pub step_waves : (c : ℕ) (r : Reading) → is_indicator c ≡ true → Waves (step false c r)
unfolding step
step_waves c (t, s) h =
    waving_cond (not s.emoji) (past_emoji false c t s) (cond (is_emoji_variation_base c)
    (t + (if is_joined_emoji s.after then 0 else 2), before afters.Emoji)
    (past_emoji false c t (record (if_kept s) { emoji = false })))
    (λ e. past_all c t s h)
    (λ e. waving_cond (is_emoji_variation_base c) (t + (if is_joined_emoji s.after then 0 else 2), before afters.Emoji)
    (past_emoji false c t (record (if_kept s) { emoji = false }))
    (λ y. absurd (true≢false (sym y ∙ (indicator_ordinary c h).selected.variation)))
    (λ n. past_all c t (record (if_kept s) { emoji = false }) h))

-- ---- indicators before one another

step_joined : (c t : ℕ) (after : After) → is_indicator c ≡ true → is_nothing after ≡ false → skips_marks after ≡ false
    → step false c (t, before after) ≡ joined_or t (joins false after c) (1, before afters.RegionalIndicator)
unfolding step past_emoji in_context past_selectors
step_joined c t after h some unmarked =
    rw (
      no_one is_indicator c 0x0A refl h,
      no_one is_indicator c 0x0D refl h,
      indicator_high c h,
      some,
      no_one is_indicator c 0xFE0F refl h,
      no_one is_indicator c 0xFE01 refl h,
      no_one is_indicator c 0xFE0E refl h,
      unmarked,
      own c h,
    ) refl

pub after_nothing : (c t : ℕ) → is_indicator c ≡ true → step false c (t, plain)
    ≡ (t + 1, before afters.RegionalIndicator)
unfolding step past_emoji
after_nothing c t h = rw (
  no_one is_indicator c 0x0A refl h,
  no_one is_indicator c 0x0D refl h,
  indicator_high c h,
  own c h,
) refl

pub after_one : (c t : ℕ) → is_indicator c ≡ true → step false c (t, before afters.RegionalIndicator)
    ≡ (t + 1, before afters.RegionalIndicators)
unfolding joins
after_one c t h = step_joined c t afters.RegionalIndicator h refl refl ∙ rw h refl

pub after_more : (c t : ℕ) → is_indicator c ≡ true → step false c (t, before afters.RegionalIndicators)
    ≡ (t + 1, before afters.RegionalIndicators)
unfolding joins
after_more c t h = step_joined c t afters.RegionalIndicators h refl refl ∙ rw h refl

pub after_joined : (c t : ℕ) → is_indicator c ≡ true → step false c (t, before afters.IndicatorZwj)
    ≡ (t - 1, before afters.EvenIndicatorsZwj)
unfolding joins
after_joined c t h = step_joined c t afters.IndicatorZwj h refl refl ∙ rw h refl

pub after_even : (c t : ℕ) → is_indicator c ≡ true → step false c (t, before afters.EvenIndicatorsZwj)
    ≡ (t + 3, before afters.OddIndicatorsZwj)
unfolding joins
after_even c t h = step_joined c t afters.EvenIndicatorsZwj h refl refl
    ∙ rw (no_one is_indicator c 0x200D refl h, h) refl

pub after_odd : (c t : ℕ) → is_indicator c ≡ true → step false c (t, before afters.OddIndicatorsZwj)
    ≡ (t - 1, before afters.EvenIndicatorsZwj)
unfolding joins
after_odd c t h = step_joined c t afters.OddIndicatorsZwj h refl refl ∙ rw (no_one is_indicator c 0x200D refl h, h) refl
