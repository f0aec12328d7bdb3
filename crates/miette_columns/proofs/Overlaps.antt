-- A character that closes leaves the same to be read, whatever stands after it but a selector or a skin tone.
use Rattle.std.proofs.Common.{ℕ, ◌+◌, ◌<◌, ◌≤◌, ◌≡◌, Bool, true, false, cond, ◌&&◌, ◌==◌, nat_le}
use Rattle.std.proofs.Common.{Option, Some, None, refl, sym, ap, ◌∙◌, arith, inl, inr}
use Rattle.std.specs.Prelude.{if◌then◌else◌}
use Rattle.std.specs.Int.{is_in_range}
use Rattle.std.proofs.lemmas.Bool.{and_right, cases_lt, cond-true, cond-false}
use Rattle.std.proofs.lemmas.Bool.{le-leb, lt-leb, ne_eqb}
use Rattle.unicode_width.specs.declared.state.After.{After}
use Rattle.unicode_width.specs.declared.state.State.{State}
use Rattle.unicode_width.specs.declared.state.Change.{Change}
use Rattle.unicode_width.specs.Kind.{kind, is_ligature_transparent}
use Rattle.unicode_width.specs.Width.{before, plain, is_line_feed, alone, joins}
use Rattle.unicode_width.specs.Width.{joined_or, Reading, added, skips_marks, is_plain, past_selectors}
use Rattle.unicode_width.specs.Width.{in_context, past_emoji, step}
use Rattle.miette_columns.specs.steps.SplitPoints.{is_joining, joins_only_by_joiner}
use Rattle.miette_columns.proofs.ClosingCharacters.{is_mild_kind, mild, unlisted, no_transparent, no_indicator}
use Rattle.miette_columns.proofs.ClosingCharacters.{no_marks}
use Rattle.miette_columns.proofs.ClosingCharacters.{no_selector, JoinsOwn, joins_own, low_parts}
use Rattle.miette_columns.proofs.Opening.{is_modifier, IsOpen}

-- what it leaves by itself
abbrev pub own_state : ℕ → State
own_state c = if nat_le c 0xA0 then plain else (alone false c).1

-- characters that leave the same before all but modifiers, and are no marks
pub record IsApart (c : ℕ) : Type 0 where
  pub joiner : (c == 0x200D) ≡ false
  pub transparent : is_ligature_transparent c ≡ false
  pub selector : ((c == 0xFE0F) ≡ false) × (((c == 0xFE01) ≡ false) × ((c == 0xFE0E) ≡ false))
  pub own : (after : After) → is_modifier after ≡ false → JoinsOwn c (joins false after c)

own_joined : (c t : ℕ) (j : Option (Change × After)) → JoinsOwn c j → (joined_or t j (alone false c)).1
    ≡ (alone false c).1
own_joined c t None p = refl
own_joined c t (Some j) p = p

past_quotes : (c t : ℕ) (after : After) → is_modifier after ≡ false → IsApart c → (past_selectors false c t after).1
    ≡ (alone false c).1
unfolding past_selectors
past_quotes c t after u is =
    rw (is.joiner, is.transparent, and_right (skips_marks after) false refl)
    (own_joined c t (joins false after c) (is.own after u))

after_open : (c t : ℕ) (after : After) → is_modifier after ≡ false → IsApart c → (in_context false c t (before after)).1
    ≡ (alone false c).1
unfolding in_context
after_open c t after u is = rw (is.selector.0, is.selector.1.0, is.selector.1.1) (past_quotes c t after u is)

same_cond : (b : Bool) (x y : Reading) (s : State) → x.1 ≡ s → y.1 ≡ s → (cond b x y).1 ≡ s
same_cond true x y s p q = p
same_cond false x y s p q = q

past_high : (c t : ℕ) (after : After) → 0xA0 < c → is_modifier after ≡ false → IsApart c
    → (past_emoji false c t (before after)).1 ≡ (alone false c).1
unfolding past_emoji
past_high c t after high u is =
    rw (ne_eqb c 0x0A (λ e. omega (arith, e, high)), ne_eqb c 0x0D (λ e. omega (arith, e, high)), lt-leb c 0xA0 high)
    (same_cond (is_plain (before after)) (added t (alone false c)) (in_context false c t (before after))
    (alone false c).1 refl (after_open c t after u is))

pub step_apart : (c t : ℕ) (s : State) → 0xA0 < c → IsOpen s → IsApart c → (step false c (t, s)).1 ≡ (alone false c).1
unfolding step
step_apart c t s high (after, (e, u)) is = ap (λ x. (step false c (t, x)).1) e ∙ past_high c t after high u is

past_low : (c t : ℕ) (after : After) → c ≤ 0xA0 → (c == 0x0A) ≡ false → (past_emoji false c t (before after)).1 ≡ plain
unfolding past_emoji
past_low c t after low n = rw (n, le-leb c 0xA0 low) (same_cond ((c == 0x0D) && is_line_feed after) (t, plain)
    (t + 1, plain) plain refl refl)

step_low : (c t : ℕ) (s : State) → c ≤ 0xA0 → IsOpen s → (c == 0x0A) ≡ false → (step false c (t, s)).1 ≡ plain
unfolding step
step_low c t s low (after, (e, u)) n = ap (λ x. (step false c (t, x)).1) e ∙ past_low c t after low n

closing_apart : (c : ℕ) → is_joining c ≡ false → is_mild_kind (kind c) ≡ true → IsApart c
closing_apart c n h = record {
  joiner = (no_marks c h).joiner;
  transparent = no_transparent c h;
  selector =
      no_selector c h;
  own = λ after u. joins_own after c u n h;
}

pub step_closing : (c t : ℕ) (s : State) → IsOpen s → joins_only_by_joiner c ≡ true → (step false c (t, s)).1
    ≡ own_state c
step_closing c t s is h =
    elim (cases_lt 0xA0 c) [
      | inl high ↦ step_apart c t s high is (closing_apart c (unlisted c high h) (mild c high h))
          ∙ sym (cond-false (nat_le c 0xA0) plain (alone false c).1 (lt-leb c 0xA0 high))
      | inr low ↦ step_low c t s low is (low_parts c low h)
          ∙ sym (cond-true (nat_le c 0xA0) plain (alone false c).1 (le-leb c 0xA0 low))
    ]

low_indicator : (c : ℕ) → c ≤ 0xA0 → is_in_range 0x1F1E6 0x1F1FF c ≡ false
low_indicator c low = rw (lt-leb 0x1F1E6 c (omega arith)) refl

-- no such character is half a flag
pub held_no_indicator : (c : ℕ) → joins_only_by_joiner c ≡ true → is_in_range 0x1F1E6 0x1F1FF c ≡ false
held_no_indicator c h =
    elim (cases_lt 0xA0 c) [
      | inl high ↦ no_indicator c (mild c high h)
      | inr low ↦ low_indicator c low
    ]
