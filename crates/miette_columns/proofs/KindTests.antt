-- Tests of a character's kind that tell no narrow one from a wide or an ambiguous one: a walk over them needs no tables
-- of wide and of ambiguous ones.
use Rattle.std.proofs.Common.{ℕ, ◌≡◌, Bool, true, false, cond, Option, Some, None, unwrap_or, refl, ap, ◌∙◌}
use Rattle.ucd_table.proofs.Stepped.{Stepped, zip_stepped}
use Rattle.ucd_props.specs.Binary.{is_regional_indicator}
use Rattle.ucd_props.proofs.BinaryLemmas.{is_regional_indicator_stepped}
use Rattle.ucd_emoji.specs.Binary.{is_emoji_modifier, is_emoji_presentation}
use Rattle.ucd_emoji.proofs.BinaryLemmas.{is_emoji_modifier_stepped, is_emoji_presentation_stepped}
use Rattle.ucd_bidi.specs.JoiningGroup.{joining_group, joining_group_eq}
use Rattle.ucd_bidi.specs.declared.JoiningGroup.TheVariants.{Alef}
use Rattle.ucd_bidi.proofs.JoiningGroupLemmas.{joining_group_stepped}
use Rattle.unicode_width.specs.declared.kind.Kind.{Kind}
use Rattle.unicode_width.specs.declared.kind.Kind.TheVariants as kinds
use Rattle.unicode_width.specs.Kind.{kind, named_kind, unnamed_kind, letter_kind, width_kind, by_emoji, by_width}
use Rattle.unicode_width.specs.Kind.{is_zero_width, is_wide, is_ambiguous}
use Rattle.unicode_width.proofs.KindLemmas.{named_kind_stepped, is_zero_width_stepped}

module _ (p : Kind → Bool) (wide : p kinds.Wide ≡ p kinds.Narrow) (ambiguous : p kinds.Ambiguous ≡ p kinds.Narrow) where
  -- ---- the test by what a kind is made of

  abbrev pub test_named : Option Kind → Bool → Bool
  test_named None other = other
  test_named (Some k) other = p k

  abbrev pub test_emoji : Bool → Bool → Bool → Bool → Bool
  test_emoji indicator modifier emoji other = cond indicator (p kinds.RegionalIndicator)
      (cond modifier (p kinds.EmojiModifier) (cond emoji (p kinds.Emoji) other))

  abbrev pub test_letter : Bool → Bool → Bool
  test_letter alef zero = cond alef (p kinds.Alef) (cond zero (p kinds.Zero) (p kinds.Narrow))

  by_name : (k : Option Kind) (other : Kind) → p (unwrap_or k other) ≡ test_named k (p other)
  by_name None other = refl
  by_name (Some k) other = refl

  by_signs : (indicator modifier emoji : Bool) (other : Kind) → p (by_emoji indicator modifier emoji other)
      ≡ test_emoji indicator modifier emoji (p other)
  by_signs true modifier emoji other = refl
  by_signs false true emoji other = refl
  by_signs false false true other = refl
  by_signs false false false other = refl

  by_letter : (alef zero is_wide is_ambiguous : Bool) → p (cond alef kinds.Alef (by_width zero is_wide is_ambiguous))
      ≡ test_letter alef zero
  by_letter true z w a = refl
  by_letter false true w a = refl
  by_letter false false true a = wide
  by_letter false false false true = ambiguous
  by_letter false false false false = refl

  -- ---- its steps

  abbrev pub letter_test : ℕ → Bool
  letter_test c = test_letter (joining_group_eq (joining_group c) Alef) (is_zero_width c)

  abbrev pub unnamed_test : ℕ → Bool
  unnamed_test c = test_emoji (is_regional_indicator c) (is_emoji_modifier c) (is_emoji_presentation c) (letter_test c)

  pub kind_test : (c : ℕ) → p (kind c) ≡ test_named (named_kind c) (unnamed_test c)
  unfolding kind unnamed_kind letter_kind width_kind
  kind_test c =
      by_name (named_kind c) (unnamed_kind c)
      ∙ ap (test_named (named_kind c)) (by_signs (is_regional_indicator c) (is_emoji_modifier c)
      (is_emoji_presentation c) (letter_kind c)
      ∙ ap (test_emoji (is_regional_indicator c) (is_emoji_modifier c) (is_emoji_presentation c))
      (by_letter (joining_group_eq (joining_group c) Alef) (is_zero_width c) (is_wide c) (is_ambiguous c)))

  unfoldable pub kind_test_stepped : Stepped (λ c. p (kind c))
  unfolding named_kind_stepped is_zero_width_stepped is_regional_indicator_stepped is_emoji_modifier_stepped
      is_emoji_presentation_stepped joining_group_stepped
  kind_test_stepped =
      let letter = zip_stepped (λ g zero. test_letter (joining_group_eq g Alef) zero) joining_group is_zero_width
      joining_group_stepped is_zero_width_stepped in
      let two = zip_stepped test_emoji is_regional_indicator is_emoji_modifier is_regional_indicator_stepped
      is_emoji_modifier_stepped in
      let three = zip_stepped (λ (test : Bool → Bool → Bool) emoji. test emoji)
      (λ c. test_emoji (is_regional_indicator c) (is_emoji_modifier c)) is_emoji_presentation two
      is_emoji_presentation_stepped in
      let unnamed = zip_stepped (λ (test : Bool → Bool) other. test other)
      (λ c. test_emoji (is_regional_indicator c) (is_emoji_modifier c) (is_emoji_presentation c)) letter_test three
      letter in
      let all = zip_stepped test_named named_kind unnamed_test named_kind_stepped unnamed in
      record { default = all.default; steps = all.steps; gives = λ c. kind_test c ∙ all.gives c }
