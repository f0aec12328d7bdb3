-- Characters that nothing around them changes: no selector, no modifier and no ligature, and of which no sequence but a
-- few is made. Each class of them is walked once over the tables.
use Rattle.std.proofs.Common.{ℕ, ◌≡◌, Bool, true, false, ◌||◌, ◌==◌, List, [], ◌∷◌, refl}
use Rattle.std.specs.Int.{is_in_range}
use Rattle.std.proofs.lemmas.Bool.{or_parts, and_right}
use Rattle.ucd_table.specs.Rows.{Range, in_ranges}
use Rattle.ucd_table.proofs.Stepped.{Stepped, of_ranges, zip_stepped, map_stepped}
use Rattle.ucd_emoji.specs.Binary.{is_emoji_modifier_base, is_emoji_variation_base}
use Rattle.ucd_emoji.proofs.BinaryLemmas.{is_emoji_modifier_base_stepped, is_emoji_variation_base_stepped}
use Rattle.ucd_bidi.specs.JoiningGroup.{joining_group, joining_group_eq}
use Rattle.ucd_bidi.specs.declared.JoiningGroup.TheVariants.{Lam}
use Rattle.ucd_bidi.proofs.JoiningGroupLemmas.{joining_group_stepped}
use Rattle.unicode_width.specs.declared.kind.Kind.{Kind}
use Rattle.unicode_width.specs.declared.kind.Kind.TheVariants as kinds
use Rattle.unicode_width.specs.Kind.{kind, is_ligature_transparent, is_text_presentation_base}
use Rattle.unicode_width.specs.declared.state.State.{State}
use Rattle.unicode_width.specs.Width.{is_lam, past_selectors, in_context}
use Rattle.unicode_width.proofs.KindLemmas.{is_ligature_transparent_stepped, is_text_presentation_base_stepped}
use Rattle.unicode_width.proofs.Computing.{unicode_width}
use Rattle.miette_columns.proofs.Excluding.{excludes, excluded, first_range, joined_ones, joined_ranges, JoinsFew}
use Rattle.miette_columns.proofs.KindTests.{kind_test_stepped}

-- ---- what no selector changes

abbrev quotes : List Range
quotes = (0x2018, 0x2019) ∷ (0x201C, 0x201D) ∷ []

abbrev is_presented : ℕ → Bool
is_presented c = is_text_presentation_base c || in_ranges quotes c

-- what a selector changes, and the quotation marks
abbrev pub is_selected : ℕ → Bool
is_selected c = is_emoji_variation_base c || is_presented c

abbrev presented_stepped : Stepped is_presented
unfolding unicode_width
presented_stepped = zip_stepped (λ a b. a || b) is_text_presentation_base (in_ranges quotes)
    is_text_presentation_base_stepped (of_ranges quotes refl)

abbrev pub selected_stepped : Stepped is_selected
unfolding unicode_width
selected_stepped = zip_stepped (λ a b. a || b) is_emoji_variation_base is_presented is_emoji_variation_base_stepped
    presented_stepped

pub record IsUnselected (c : ℕ) : Type 0 where
  pub variation : is_emoji_variation_base c ≡ false
  pub presentation : is_text_presentation_base c ≡ false
  pub single_quote : is_in_range 0x2018 0x2019 c ≡ false
  pub double_quote : is_in_range 0x201C 0x201D c ≡ false

pub unselected : (c : ℕ) → is_selected c ≡ false → IsUnselected c
unselected c h =
    let by_emoji = or_parts (is_emoji_variation_base c) (is_presented c) h in
    let by_text = or_parts (is_text_presentation_base c) (in_ranges quotes c) by_emoji.1 in
    let single = first_range (0x2018, 0x2019) ((0x201C, 0x201D) ∷ []) c by_text.1 in
    record {
      variation = by_emoji.0;
      presentation = by_text.0;
      single_quote = single.0;
      double_quote = (first_range (0x201C, 0x201D) [] c single.1).0;
    }

-- what no selector is, and none changes, is read as if no selector stood after it
pub past_context : (c t : ℕ) (s : State) → (c == 0xFE0F) ≡ false → (c == 0xFE01) ≡ false → (c == 0xFE0E) ≡ false
    → IsUnselected c → in_context false c t s ≡ past_selectors false c t s.after
unfolding in_context
past_context c t s emoji quote text is =
    rw (
      emoji,
      quote,
      text,
      is.presentation,
      is.single_quote,
      is.double_quote,
      and_right s.text false refl,
      and_right s.quote false refl,
    ) refl

-- ---- what nothing else changes

abbrev is_joined : ℕ → Bool
is_joined c = in_ranges joined_ones c || in_ranges joined_ranges c

abbrev is_lam_or_joined : ℕ → Bool
is_lam_or_joined c = joining_group_eq (joining_group c) Lam || is_joined c

abbrev is_ligated : ℕ → Bool
is_ligated c = is_ligature_transparent c || is_lam_or_joined c

abbrev is_changed : ℕ → Bool
is_changed c = is_emoji_modifier_base c || is_ligated c

abbrev pub is_sign : ℕ → Bool
is_sign c = is_selected c || is_changed c

abbrev pub sign_stepped : Stepped is_sign
unfolding unicode_width
sign_stepped =
    let joined = zip_stepped (λ a b. a || b) (in_ranges joined_ones) (in_ranges joined_ranges)
    (of_ranges joined_ones refl) (of_ranges joined_ranges refl) in
    let letters = zip_stepped (λ a b. a || b) (λ c. joining_group_eq (joining_group c) Lam) is_joined
    (map_stepped (λ g. joining_group_eq g Lam) joining_group joining_group_stepped) joined in
    let ligated = zip_stepped (λ a b. a || b) is_ligature_transparent is_lam_or_joined is_ligature_transparent_stepped
    letters in
    let changed = zip_stepped (λ a b. a || b) is_emoji_modifier_base is_ligated is_emoji_modifier_base_stepped ligated
    in
    zip_stepped (λ a b. a || b) is_selected is_changed selected_stepped changed

pub record IsOrdinary (c : ℕ) : Type 0 where
  pub selected : IsUnselected c
  pub modified : is_emoji_modifier_base c ≡ false
  pub transparent : is_ligature_transparent c ≡ false
  pub lam : is_lam c ≡ false
  pub few : JoinsFew c

no_lam : (c : ℕ) → joining_group_eq (joining_group c) Lam ≡ false → is_lam c ≡ false
unfolding unicode_width
no_lam c h = h

pub ordinary : (p : ℕ → Bool) (s : Stepped p) → excludes p is_sign s sign_stepped ≡ true → (c : ℕ) → p c ≡ true
    → IsOrdinary c
ordinary p s ok c h =
    let sign = or_parts (is_selected c) (is_changed c) (excluded p is_sign s sign_stepped ok c h) in
    let changed = or_parts (is_emoji_modifier_base c) (is_ligated c) sign.1 in
    let ligated = or_parts (is_ligature_transparent c) (is_lam_or_joined c) changed.1 in
    let letter = or_parts (joining_group_eq (joining_group c) Lam) (is_joined c) ligated.1 in
    let joined = or_parts (in_ranges joined_ones c) (in_ranges joined_ranges c) letter.1 in
    record {
      selected = unselected c sign.0;
      modified = changed.0;
      transparent = ligated.0;
      lam = no_lam c letter.0;
      few = record { ones = joined.0; ranges = joined.1 };
    }

-- of a class of characters none has such a kind
pub no_kind : (p : ℕ → Bool) (s : Stepped p) (is : Kind → Bool) (wide : is kinds.Wide ≡ is kinds.Narrow)
    (ambiguous : is kinds.Ambiguous ≡ is kinds.Narrow)
    → excludes p (λ c. is (kind c)) s (kind_test_stepped is wide ambiguous) ≡ true → (c : ℕ) → p c ≡ true
    → is (kind c) ≡ false
no_kind p s is wide ambiguous = excluded p (λ c. is (kind c)) s (kind_test_stepped is wide ambiguous)
