-- Characters that close: they leave to be read what they leave by themselves, nothing or an emoji, whatever follows
-- them
-- but a selector or a skin tone.
use Rattle.std.proofs.Common.{ℕ, ◌<◌, ◌≤◌, ◌≡◌, Bool, true, false, cond, not, ◌&&◌, ◌||◌, ◌==◌, nat_le, nat_lt, List}
use Rattle.std.proofs.Common.{[], ◌∷◌, Option, Some, None, refl, sym, ap, subst, ◌∙◌, arith, inl, inr, eqb-true}
use Rattle.std.specs.Prelude.{if◌then◌else◌}
use Rattle.std.specs.Int.{is_in_range}
use Rattle.std.proofs.lemmas.Bool.{true≢false, eqb-true, or_cases, or_parts, and_parts, le-ltb, cond-true, cond-false}
use Rattle.std.proofs.lemmas.Bool.{le-leb, lt-leb, ne_eqb, not-true, or_left, or_right}
use Rattle.ucd_table.specs.Rows.{Range, in_ranges}
use Rattle.ucd_table.proofs.Stepped.{Stepped, of_ranges, zip_stepped, map_stepped}
use Rattle.ucd_table.proofs.Facts.{Stepped-everywhere}
use Rattle.unicode_width.specs.declared.kind.Kind.{Kind}
use Rattle.unicode_width.specs.declared.kind.Kind.TheVariants as kinds
use Rattle.unicode_width.specs.declared.state.After.{After}
use Rattle.unicode_width.specs.declared.state.After.TheVariants as afters
use Rattle.unicode_width.specs.declared.state.Change.{Change}
use Rattle.unicode_width.specs.declared.state.Change.TheVariants.{Less, Same}
use Rattle.unicode_width.specs.Kind.{kind, is_ligature_transparent}
use Rattle.unicode_width.specs.Width.{before, of_kind, alone, char_width, before_alef, is_lam, is_emoji, joins}
use Rattle.unicode_width.specs.Width.{first_of}
use Rattle.unicode_width.proofs.KindLemmas.{is_ligature_transparent_stepped}
use Rattle.unicode_width.proofs.Computing.{unicode_width}
use Rattle.miette_columns.specs.rules.Widths.{width_of}
use Rattle.miette_columns.specs.steps.SplitPoints.{is_joining, joins_only_by_joiner}
use Rattle.miette_columns.proofs.Excluding.{excluded, first_range}
use Rattle.miette_columns.proofs.KindTests.{kind_test_stepped}
use Rattle.miette_columns.proofs.Lone.{or_false, or_turn}
use Rattle.ucd_bidi.specs.JoiningGroup.{joining_group, joining_group_eq}
use Rattle.ucd_bidi.specs.declared.JoiningGroup.TheVariants.{Lam}
use Rattle.ucd_bidi.proofs.JoiningGroupLemmas.{joining_group_stepped}
use Rattle.miette_columns.proofs.Opening.{is_modifier}

-- ---- a character that closes leaves nothing or an emoji to be read

abbrev pub is_mild_kind : Kind → Bool
is_mild_kind kinds.Narrow = true
is_mild_kind kinds.Wide = true
is_mild_kind kinds.Ambiguous = true
is_mild_kind kinds.Emoji = true
is_mild_kind _ = false

-- kinds whose characters may join letters or signs
abbrev is_odd_kind : Kind → Bool
is_odd_kind kinds.Zero = false
is_odd_kind k = not (is_mild_kind k)

abbrev joining_ranges : List Range
joining_ranges =
    (0x338, 0x338) ∷ (0x5DC, 0x5DC) ∷ (0x622, 0x627) ∷ (0x671, 0x675) ∷ (0x773, 0x774) ∷ (0x870, 0x882)
    ∷ (0x1780, 0x17D8) ∷ (0x1A10, 0x1A10) ∷ (0x2D31, 0x2D7F) ∷ (0xA4FC, 0xA4FD) ∷ (0xFB3C, 0xFB3C) ∷ (0xFE00, 0xFE0F)
    ∷ (0x10C03, 0x10C03) ∷ (0x16D67, 0x16D68) ∷ (0x1F1E6, 0x1F1FF) ∷ (0x1F3FB, 0x1F3FF) ∷ []

joining_ranged : (c : ℕ) → is_joining c ≡ in_ranges joining_ranges c
unfolding in_ranges
joining_ranged c = or_false (is_joining c) ∙ simp or_turn

-- such a kind has only characters that are listed
odd_listed : (c : ℕ) → is_joining c ≡ false → is_odd_kind (kind c) ≡ false
unfolding unicode_width kind_test_stepped
odd_listed c h =
    let both = zip_stepped (λ o j. j || not o) (λ c. is_odd_kind (kind c)) (in_ranges joining_ranges)
    (kind_test_stepped is_odd_kind refl refl) (of_ranges joining_ranges refl) in
    not-true (is_odd_kind (kind c)) (subst (λ j. (j || not (is_odd_kind (kind c))) ≡ true) (sym (joining_ranged c) ∙ h)
    (Stepped-everywhere _ both refl c))

pub width_high : (c : ℕ) → 0xA0 < c → width_of c ≡ (alone false c).0
unfolding char_width
width_high c h = rw (le-ltb c 0x7F (omega arith), le-leb 0xA0 c (omega arith)) refl

mild_by : (c : ℕ) (k : Kind) → nat_lt 0 (of_kind false c k).0 ≡ true → is_odd_kind k ≡ false → is_mild_kind k ≡ true
mild_by c kinds.Zero h e = absurd (true≢false (sym h))
mild_by c kinds.Narrow h e = refl
mild_by c kinds.Wide h e = refl
mild_by c kinds.Ambiguous h e = refl
mild_by c kinds.Emoji h e = refl
mild_by c k h e = absurd (true≢false e)

high_parts : (c : ℕ) → 0xA0 < c → joins_only_by_joiner c ≡ true → (nat_lt 0 (width_of c) && not (is_joining c)) ≡ true
high_parts c high h = sym (cond-false (nat_le c 0xA0) (not (c == 0x0A)) (nat_lt 0 (width_of c) && not (is_joining c))
    (lt-leb c 0xA0 high)) ∙ h

pub unlisted : (c : ℕ) → 0xA0 < c → joins_only_by_joiner c ≡ true → is_joining c ≡ false
unlisted c high h = not-true (is_joining c) (and_parts (nat_lt 0 (width_of c)) (not (is_joining c))
    (high_parts c high h)).1

pub mild : (c : ℕ) → 0xA0 < c → joins_only_by_joiner c ≡ true → is_mild_kind (kind c) ≡ true
unfolding alone
mild c high h =
    let wide = (and_parts (nat_lt 0 (width_of c)) (not (is_joining c)) (high_parts c high h)).0 in
    mild_by c (kind c) (subst (λ w. nat_lt 0 w ≡ true) (width_high c high) wide) (odd_listed c (unlisted c high h))

-- ---- what a character of such a kind is not

-- ranges of indicators, of skin tones, and of the letters and digits of tags
abbrev tag_ranges : List Range
tag_ranges = (0xE0030, 0xE0039) ∷ (0xE0061, 0xE007A) ∷ []

abbrev emoji_ranges : List Range
emoji_ranges = (0x1F1E6, 0x1F1FF) ∷ (0x1F3FB, 0x1F3FF) ∷ tag_ranges

abbrev is_passed : ℕ → Bool
is_passed c = is_ligature_transparent c || in_ranges emoji_ranges c

abbrev passed_stepped : Stepped is_passed
unfolding unicode_width
passed_stepped = zip_stepped (λ a b. a || b) is_ligature_transparent (in_ranges emoji_ranges)
    is_ligature_transparent_stepped (of_ranges emoji_ranges refl)

-- one walk over the table of kinds for all of them
not_passed : (c : ℕ) → is_mild_kind (kind c) ≡ true → is_passed c ≡ false
unfolding unicode_width kind_test_stepped
not_passed = excluded (λ c. is_mild_kind (kind c)) is_passed (kind_test_stepped is_mild_kind refl refl) passed_stepped
    refl

pub no_transparent : (c : ℕ) → is_mild_kind (kind c) ≡ true → is_ligature_transparent c ≡ false
no_transparent c h = (or_parts (is_ligature_transparent c) (in_ranges emoji_ranges c) (not_passed c h)).0

not_flagged : (c : ℕ) → is_mild_kind (kind c) ≡ true → (is_in_range 0x1F1E6 0x1F1FF c ≡ false)
    × (in_ranges ((0x1F3FB, 0x1F3FF) ∷ tag_ranges) c ≡ false)
not_flagged c h =
    first_range (0x1F1E6, 0x1F1FF) ((0x1F3FB, 0x1F3FF) ∷ tag_ranges) c
    (or_parts (is_ligature_transparent c) (in_ranges emoji_ranges c) (not_passed c h)).1

pub no_indicator : (c : ℕ) → is_mild_kind (kind c) ≡ true → is_in_range 0x1F1E6 0x1F1FF c ≡ false
no_indicator c h = (not_flagged c h).0

pub no_modifier : (c : ℕ) → is_mild_kind (kind c) ≡ true → is_in_range 0x1F3FB 0x1F3FF c ≡ false
no_modifier c h = (first_range (0x1F3FB, 0x1F3FF) tag_ranges c (not_flagged c h).1).0

not_tagged : (c : ℕ) → is_mild_kind (kind c) ≡ true → (is_in_range 0xE0030 0xE0039 c ≡ false)
    × (in_ranges ((0xE0061, 0xE007A) ∷ []) c ≡ false)
not_tagged c h = first_range (0xE0030, 0xE0039) ((0xE0061, 0xE007A) ∷ []) c
    (first_range (0x1F3FB, 0x1F3FF) tag_ranges c (not_flagged c h).1).1

pub no_tag_letter : (c : ℕ) → is_mild_kind (kind c) ≡ true → is_in_range 0xE0061 0xE007A c ≡ false
no_tag_letter c h = (first_range (0xE0061, 0xE007A) [] c (not_tagged c h).1).0

pub no_tag_digit : (c : ℕ) → is_mild_kind (kind c) ≡ true → is_in_range 0xE0030 0xE0039 c ≡ false
no_tag_digit c h = (not_tagged c h).0

no_mark : (c k : ℕ) → is_mild_kind (kind k) ≡ false → is_mild_kind (kind c) ≡ true → (c == k) ≡ false
no_mark c k n h = ne_eqb c k (λ e. absurd (true≢false (sym h ∙ ap (λ x. is_mild_kind (kind x)) e ∙ n)))

-- a joiner, the mark of a key, the end of a tag, and the vowel that follows Ya
pub record IsNoMark (c : ℕ) : Type 0 where
  pub joiner : (c == 0x200D) ≡ false
  pub keycap : (c == 0x20E3) ≡ false
  pub tag_end : (c == 0xE007F) ≡ false
  pub vowel : (c == 0x1A17) ≡ false

pub no_marks : (c : ℕ) → is_mild_kind (kind c) ≡ true → IsNoMark c
unfolding unicode_width
no_marks c h = record {
  joiner = no_mark c 0x200D refl h;
  keycap = no_mark c 0x20E3 refl h;
  tag_end = no_mark c 0xE007F refl h;
  vowel = no_mark c 0x1A17 refl h;
}

pub no_selector : (c : ℕ) → is_mild_kind (kind c) ≡ true → ((c == 0xFE0F) ≡ false)
    × (((c == 0xFE01) ≡ false) × ((c == 0xFE0E) ≡ false))
unfolding unicode_width
no_selector c h = (no_mark c 0xFE0F refl h, (no_mark c 0xFE01 refl h, no_mark c 0xFE0E refl h))

some_width : (c : ℕ) (k : Kind) → is_mild_kind k ≡ true → ((of_kind false c k).0 == 0) ≡ false
some_width c kinds.Narrow e = refl
some_width c kinds.Wide e = refl
some_width c kinds.Ambiguous e = refl
some_width c kinds.Emoji e = refl
some_width c k e = absurd (true≢false (sym e))

pub own_width : (c : ℕ) → is_mild_kind (kind c) ≡ true → ((alone false c).0 == 0) ≡ false
unfolding alone
own_width c h = some_width c (kind c) h

-- a character that is no part of a ligature of its own: U+2D7F, and the vowels of Kirat Rai
pub unligated : (c k : ℕ) → is_joining k ≡ true → is_joining c ≡ false → (c == k) ≡ false
unligated c k n h = ne_eqb c k (λ e. absurd (true≢false (sym n ∙ sym (ap is_joining e) ∙ h)))

-- ---- letters that join others are no emoji

-- Tifinagh and Lisu letters, and those that are lams
abbrev letters : List Range
letters = (0x2D31, 0x2D65) ∷ (0xA4F8, 0xA4FB) ∷ []

abbrev is_letter : ℕ → Bool
is_letter c = joining_group_eq (joining_group c) Lam || in_ranges letters c

abbrev letter_stepped : Stepped is_letter
unfolding unicode_width
letter_stepped =
    zip_stepped (λ a b. a || b) (λ c. joining_group_eq (joining_group c) Lam) (in_ranges letters)
    (map_stepped (λ g. joining_group_eq g Lam) joining_group joining_group_stepped) (of_ranges letters refl)

-- one walk over the table of kinds for all of them
letter_plain : (c : ℕ) → is_letter c ≡ true → is_emoji (kind c) ≡ false
unfolding unicode_width kind_test_stepped
letter_plain = excluded is_letter (λ c. is_emoji (kind c)) letter_stepped (kind_test_stepped is_emoji refl refl) refl

lam_plain : (c : ℕ) → is_lam c ≡ true → is_emoji (kind c) ≡ false
unfolding unicode_width
lam_plain c h = letter_plain c (or_left (joining_group_eq (joining_group c) Lam) (in_ranges letters c) h)

listed_plain : (c : ℕ) → (is_in_range 0x2D31 0x2D65 c || (is_in_range 0xA4F8 0xA4FB c || false)) ≡ true
    → is_emoji (kind c) ≡ false
unfolding in_ranges
listed_plain c h = letter_plain c (or_right (joining_group_eq (joining_group c) Lam) (in_ranges letters c) h)

lisu_plain : (c : ℕ) → is_in_range 0xA4F8 0xA4FB c ≡ true → is_emoji (kind c) ≡ false
lisu_plain c h = listed_plain c (or_right (is_in_range 0x2D31 0x2D65 c) (is_in_range 0xA4F8 0xA4FB c || false)
    (or_left (is_in_range 0xA4F8 0xA4FB c) false h))

tifinagh_range : (c : ℕ) → is_in_range 0x2D31 0x2D65 c ≡ true → is_emoji (kind c) ≡ false
tifinagh_range c h = listed_plain c (or_left (is_in_range 0x2D31 0x2D65 c) (is_in_range 0xA4F8 0xA4FB c || false) h)

tifinagh_mark : is_emoji (kind 0x2D6F) ≡ false
unfolding unicode_width
tifinagh_mark = refl

tifinagh_plain : (c : ℕ) → (is_in_range 0x2D31 0x2D65 c || (c == 0x2D6F)) ≡ true → is_emoji (kind c) ≡ false
tifinagh_plain c h =
    elim (or_cases (is_in_range 0x2D31 0x2D65 c) (c == 0x2D6F) h) [
      | inl e ↦ tifinagh_range c e
      | inr e ↦ subst (λ x. is_emoji (kind x) ≡ false) (sym (eqb-true c 0x2D6F e)) tifinagh_mark
    ]

-- ---- what a character that closes leaves, after which nothing is selected or modified

plain_kind : (c : ℕ) (k : Kind) → is_mild_kind k ≡ true → is_emoji k ≡ false → before afters.Nothing
    ≡ (of_kind false c k).1
plain_kind c kinds.Narrow e n = refl
plain_kind c kinds.Wide e n = refl
plain_kind c kinds.Ambiguous e n = refl
plain_kind c kinds.Emoji e n = absurd (true≢false n)
plain_kind c k e n = absurd (true≢false (sym e))

pub plain_own : (c : ℕ) → is_mild_kind (kind c) ≡ true → is_emoji (kind c) ≡ false → before afters.Nothing
    ≡ (alone false c).1
unfolding alone
plain_own c h n = plain_kind c (kind c) h n

emoji_kind : (c : ℕ) (k : Kind) → is_emoji k ≡ true → before afters.Emoji ≡ (of_kind false c k).1
emoji_kind c kinds.Emoji e = refl
emoji_kind c k e = absurd (true≢false (sym e))

pub emoji_own : (c : ℕ) → is_emoji (kind c) ≡ true → before afters.Emoji ≡ (alone false c).1
unfolding alone
emoji_own c h = emoji_kind c (kind c) h

abbrev pub JoinsOwn : ℕ → Option (Change × After) → Type 0
JoinsOwn c None = Unit {0}
JoinsOwn c (Some j) = before j.1 ≡ (alone false c).1

pub either : (c : ℕ) (b : Bool) (x y : Option (Change × After)) → (b ≡ true → JoinsOwn c x) → JoinsOwn c y
    → JoinsOwn c (cond b x y)
either c true x y p q = p refl
either c false x y p q = q

first_only : (c : ℕ) (x : Option (Change × After)) → JoinsOwn c x → JoinsOwn c (first_of x None)
first_only c None p = p
first_only c (Some j) p = p

literal : (k : ℕ) (after : After) → before after ≡ (alone false k).1 → (c : ℕ) → (c == k) ≡ true → before after
    ≡ (alone false c).1
literal k after own c e = subst (λ x. before after ≡ (alone false x).1) (sym (eqb-true c k e)) own

-- the flag that tags stand after
own_flag : before afters.Emoji ≡ (alone false 0x1F3F4).1
unfolding unicode_width
own_flag = refl

-- vowels, an alef and other letters that are joined to what stands after them, and leave nothing by themselves
record OwnNothing : Type 0 where
  kirat_ai : before afters.Nothing ≡ (alone false 0x16D63).1
  kirat_au : before afters.Nothing ≡ (alone false 0x16D69).1
  alef : before afters.Nothing ≡ (alone false 0x05D0).1
  buginese : before afters.Nothing ≡ (alone false 0x1A15).1
  orkhon : before afters.Nothing ≡ (alone false 0x10C32).1
  khmer : before afters.Nothing ≡ (alone false 0x17D2).1

own_nothing : OwnNothing
unfolding unicode_width
own_nothing = record { kirat_ai = refl; kirat_au = refl; alef = refl; buginese = refl; orkhon = refl; khmer = refl }

flag_own : (c : ℕ) → JoinsOwn c (cond (c == 0x1F3F4) (Some (Same, afters.Emoji)) None)
flag_own c =
    either c (c == 0x1F3F4) (Some (Same, afters.Emoji)) None (λ e. literal 0x1F3F4 afters.Emoji own_flag c e) tt

letter_own : (c k : ℕ) (change : Change) (other : Option (Change × After)) → before afters.Nothing ≡ (alone false k).1
    → JoinsOwn c other → JoinsOwn c (first_of (cond (c == k) (Some (change, afters.Nothing)) other) None)
letter_own c k change other own rest =
    first_only c _ (either c (c == k) (Some (change, afters.Nothing)) other (λ e. literal k afters.Nothing own c e)
    rest)

pub joins_own : (after : After) (c : ℕ) → is_modifier after ≡ false → is_joining c ≡ false → is_mild_kind (kind c)
    ≡ true
    → JoinsOwn c (joins false after c)
unfolding joins before_alef
joins_own afters.EmojiModifier c u n h = absurd (true≢false u)
joins_own afters.RegionalIndicator c u n h = rw (no_indicator c h) tt
joins_own afters.RegionalIndicators c u n h = rw (no_indicator c h, (no_marks c h).joiner) tt
joins_own afters.Emoji c u n h = rw ((no_marks c h).joiner) tt
joins_own afters.ZwjEmoji c u n h = rw (
  (no_marks c h).keycap,
  no_indicator c h,
  no_modifier c h,
  (no_marks c h).tag_end,
)
    (either c (is_emoji (kind c)) (Some (Same, afters.Emoji)) None (λ e. emoji_own c e) tt)
joins_own afters.IndicatorZwj c u n h = rw (no_indicator c h) tt
joins_own afters.EvenIndicatorsZwj c u n h = rw (no_indicator c h, (no_marks c h).joiner) tt
joins_own afters.OddIndicatorsZwj c u n h = rw (no_indicator c h, (no_marks c h).joiner) tt
joins_own afters.TagEnd c u n h = rw (no_tag_letter c h, no_tag_digit c h) tt
joins_own afters.TagDigit1 c u n h = rw (no_tag_digit c h) tt
joins_own afters.TagDigit2 c u n h = rw (no_tag_digit c h) tt
joins_own afters.TagDigit3 c u n h = flag_own c
joins_own afters.TagLetter1 c u n h = rw (no_tag_letter c h, no_tag_digit c h) tt
joins_own afters.TagLetter2 c u n h = rw (no_tag_letter c h, no_tag_digit c h) tt
joins_own afters.TagLetter3 c u n h = rw (no_tag_letter c h, no_tag_digit c h) (flag_own c)
joins_own afters.TagLetter4 c u n h = rw (no_tag_letter c h, no_tag_digit c h) (flag_own c)
joins_own afters.TagLetter5 c u n h = rw (no_tag_letter c h) (flag_own c)
joins_own afters.TagLetter6 c u n h = flag_own c
joins_own afters.KiratE c u n h = rw (unligated c 0x16D67 refl n, unligated c 0x16D68 refl n)
    (letter_own c 0x16D63 Same (if c == 0x16D69 then Some (Same, afters.Nothing) else None) own_nothing.kirat_ai
    (either c (c == 0x16D69) (Some (Same, afters.Nothing)) None
    (λ e. literal 0x16D69 afters.Nothing own_nothing.kirat_au c e) tt))
joins_own afters.KiratAi c u n h = letter_own c 0x16D63 Same None own_nothing.kirat_ai tt
joins_own afters.Alef c u n h = rw (own_width c h) (either c (is_lam c) (Some (Same, afters.Nothing)) None
    (λ e. plain_own c h (lam_plain c e)) tt)
joins_own afters.ZwjLamed c u n h = letter_own c 0x05D0 Same None own_nothing.alef tt
joins_own afters.ZwjYa c u n h = rw ((no_marks c h).vowel) tt
joins_own afters.VowelZwjYa c u n h = letter_own c 0x1A15 Same None own_nothing.buginese tt
joins_own afters.Tifinagh c u n h = rw (unligated c 0x2D7F refl n) tt
joins_own afters.ZwjTifinagh c u n h = rw (unligated c 0x2D7F refl n)
    (first_only c _ (either c (is_in_range 0x2D31 0x2D65 c || (c == 0x2D6F)) (Some (Same, afters.Nothing)) None
    (λ e. plain_own c h (tifinagh_plain c e)) tt))
joins_own afters.JoinerTifinagh c u n h = first_only c _
    (either c (is_in_range 0x2D31 0x2D65 c || (c == 0x2D6F)) (Some (Less, afters.Nothing)) None
    (λ e. plain_own c h (tifinagh_plain c e)) tt)
joins_own afters.LisuTone c u n h = first_only c _ (either c (is_in_range 0xA4F8 0xA4FB c) (Some (Same, afters.Nothing))
    None (λ e. plain_own c h (lisu_plain c e)) tt)
joins_own afters.ZwjOrkhonI c u n h = letter_own c 0x10C32 Same None own_nothing.orkhon tt
joins_own afters.KhmerLetter c u n h = letter_own c 0x17D2 Less None own_nothing.khmer tt
joins_own after c u n h = tt

pub low_parts : (c : ℕ) → c ≤ 0xA0 → joins_only_by_joiner c ≡ true → (c == 0x0A) ≡ false
low_parts c low h = not-true (c == 0x0A) (sym (cond-true (nat_le c 0xA0) (not (c == 0x0A))
    (nat_lt 0 (width_of c) && not (is_joining c)) (le-leb c 0xA0 low)) ∙ h)
