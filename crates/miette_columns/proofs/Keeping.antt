-- Skin tones, and letters that nothing after them joins: they leave the same to be read, whatever stands after them but
-- a selector or a skin tone.
use Rattle.std.proofs.Common.{ℕ, ◌≡◌, true, false, not, ◌&&◌, ◌||◌, ◌==◌, nat_le, List, [], ◌∷◌, Some, None, refl}
use Rattle.std.proofs.Common.{sym, ap, subst, ◌∙◌, arith, inl, inr}
use Rattle.std.specs.Int.{is_in_range}
use Rattle.std.proofs.lemmas.Bool.{and_parts, true≢false, and_right, cases_lt, le-leb}
use Rattle.ucd_table.specs.Rows.{Range, in_ranges}
use Rattle.ucd_table.proofs.Stepped.{Stepped, of_ranges, map_stepped}
use Rattle.ucd_bidi.specs.JoiningType.{joining_type, joining_type_eq}
use Rattle.ucd_bidi.specs.declared.JoiningType.TheVariants.{Transparent}
use Rattle.ucd_bidi.proofs.JoiningTypeLemmas.{joining_type_stepped}
use Rattle.unicode_width.specs.declared.kind.Kind.{Kind}
use Rattle.unicode_width.specs.declared.kind.Kind.TheVariants as kinds
use Rattle.unicode_width.specs.declared.state.After.{After}
use Rattle.unicode_width.specs.declared.state.After.TheVariants as afters
use Rattle.unicode_width.specs.declared.state.State.{State}
use Rattle.unicode_width.specs.declared.state.Change.TheVariants.{Same}
use Rattle.unicode_width.specs.Kind.{kind}
use Rattle.unicode_width.specs.Width.{before, of_kind, alone, before_alef, is_emoji, joins, step}
use Rattle.unicode_width.proofs.Computing.{unicode_width}
use Rattle.miette_columns.specs.steps.SplitPoints.{is_keeping}
use Rattle.miette_columns.proofs.Excluding.{as_stepped, excluded, no_one, no_range, joins_few}
use Rattle.miette_columns.proofs.Ordinary.{IsOrdinary, ordinary, no_kind}
use Rattle.miette_columns.proofs.KindTests.{kind_test_stepped}
use Rattle.miette_columns.proofs.Lone.{or_false, or_turn}
use Rattle.miette_columns.proofs.Opening.{tones, tone_kinds, is_modifier, is_tone, IsOpen}
use Rattle.miette_columns.proofs.ClosingCharacters.{JoinsOwn, either}
use Rattle.miette_columns.proofs.Overlaps.{IsApart, step_apart}

-- ---- what such a character is not

abbrev keeping_ranges : List Range
keeping_ranges = (0x5DC, 0x5DC) ∷ (0x671, 0x675) ∷ (0x773, 0x774) ∷ (0x870, 0x882) ∷ (0x1A10, 0x1A10) ∷ (0xA4FC, 0xA4FD)
    ∷ (0xFB3C, 0xFB3C) ∷ (0x10C03, 0x10C03) ∷ (0x1F3FB, 0x1F3FF) ∷ []

abbrev keeping_stepped : Stepped is_keeping
unfolding in_ranges unicode_width
keeping_stepped = as_stepped is_keeping (in_ranges keeping_ranges) (λ c. or_false (is_keeping c) ∙ simp or_turn)
    (of_ranges keeping_ranges refl)

no_mark : (c : ℕ) → is_keeping c ≡ true → joining_type_eq (joining_type c) Transparent ≡ false
unfolding unicode_width
no_mark = excluded is_keeping (λ c. joining_type_eq (joining_type c) Transparent) keeping_stepped
    (map_stepped (λ g. joining_type_eq g Transparent) joining_type joining_type_stepped) refl

no_emoji : (c : ℕ) → is_keeping c ≡ true → is_emoji (kind c) ≡ false
unfolding unicode_width kind_test_stepped
no_emoji = no_kind is_keeping keeping_stepped is_emoji refl refl refl

pub no_indicator : (c : ℕ) → is_keeping c ≡ true → is_in_range 0x1F1E6 0x1F1FF c ≡ false
unfolding unicode_width
no_indicator = no_range is_keeping 0x1F1E6 0x1F1FF keeping_stepped (of_ranges ((0x1F1E6, 0x1F1FF) ∷ []) refl) refl

keeping_high : (c : ℕ) → is_keeping c ≡ true → nat_le c 0xA0 ≡ false
unfolding unicode_width
keeping_high c h = sym (ap (λ b. b && nat_le c 0xA0) (le-leb 0 c (omega arith)))
    ∙ no_range is_keeping 0 0xA0 keeping_stepped (of_ranges ((0, 0xA0) ∷ []) refl) refl c h

keeping_ordinary : (c : ℕ) → is_keeping c ≡ true → IsOrdinary c
unfolding unicode_width
keeping_ordinary = ordinary is_keeping keeping_stepped refl

-- ---- what it leaves

toned : (c : ℕ) → is_in_range 0x1F3FB 0x1F3FF c ≡ true → is_tone (kind c) ≡ true
unfolding in_ranges
toned c h =
    let inside : in_ranges tones c ≡ true = sym (or_false (is_in_range 0x1F3FB 0x1F3FF c)) ∙ h in
    let listed = (and_parts (in_ranges tones c || not (is_tone (kind c))) (not (in_ranges tones c) || is_tone (kind c))
    (tone_kinds c)).1 in
    subst (λ b. (not b || is_tone (kind c)) ≡ true) inside listed

tone_kind : (c : ℕ) (k : Kind) → is_tone k ≡ true → before afters.EmojiModifier ≡ (of_kind false c k).1
tone_kind c kinds.EmojiModifier e = refl
tone_kind c k e = absurd (true≢false (sym e))

tone_own : (c : ℕ) → is_in_range 0x1F3FB 0x1F3FF c ≡ true → before afters.EmojiModifier ≡ (alone false c).1
unfolding alone
tone_own c h = tone_kind c (kind c) (toned c h)

joins_kept : (after : After) (c : ℕ) → is_modifier after ≡ false → is_keeping c ≡ true
    → JoinsOwn c (joins false after c)
unfolding joins before_alef
joins_kept after c u h = joins_few (λ a j. is_modifier a ≡ false → JoinsOwn c j) c (keeping_ordinary c h).few (record {
  none = λ _ _. tt;
  modifier = λ m. absurd (true≢false m);
  indicator = rw (no_indicator c h) (λ _. tt);
  indicators = rw (no_indicator c h, no_one is_keeping c 0x200D refl h) (λ _. tt);
  emoji = rw (no_one is_keeping c 0x20E3 refl h, no_indicator c h, no_one is_keeping c 0xE007F refl h, no_emoji c h)
      (λ _. either c (is_in_range 0x1F3FB 0x1F3FF c) (Some (Same, afters.EmojiModifier)) None (tone_own c) tt);
  joined = rw (no_indicator c h) (λ _. tt);
  even = rw (no_one is_keeping c 0x200D refl h, no_indicator c h) (λ _. tt);
  odd = rw (no_one is_keeping c 0x200D refl h, no_indicator c h) (λ _. tt);
  alef = rw ((keeping_ordinary c h).lam, no_mark c h, and_right ((alone false c).0 == 0) false refl) (λ _. tt);
}) after u

keeping_apart : (c : ℕ) → is_keeping c ≡ true → IsApart c
keeping_apart c h = record {
  joiner = no_one is_keeping c 0x200D refl h;
  transparent = (keeping_ordinary c h).transparent;
  selector = (
    no_one is_keeping c 0xFE0F refl h,
    (
      no_one is_keeping c 0xFE01 refl h,
      no_one is_keeping c 0xFE0E refl h,
    ),
  );
  own = λ after u. joins_kept after c u h;
}

pub step_keeping : (c t : ℕ) (s : State) → IsOpen s → is_keeping c ≡ true → (step false c (t, s)).1 ≡ (alone false c).1
step_keeping c t s is h =
    elim (cases_lt 0xA0 c) [
      | inl high ↦ step_apart c t s high is (keeping_apart c h)
      | inr low ↦ absurd (true≢false (sym (le-leb c 0xA0 low) ∙ keeping_high c h))
    ]
