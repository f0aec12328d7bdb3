-- Characters that pass one test and never another, by one walk over the tables of both; and those of which no sequence
-- but a few is made.
use Rattle.std.proofs.Common.{ℕ, ◌≡◌, Bool, true, false, not, ◌&&◌, ◌==◌, List, [], ◌∷◌, Option, None, refl, sym, ap}
use Rattle.std.proofs.Common.{subst, ◌∙◌}
use Rattle.std.specs.Int.{is_in_range}
use Rattle.std.proofs.lemmas.Bool.{true≢false, ne_eqb, or_parts, not-true}
use Rattle.ucd_table.specs.Rows.{Range, in_ranges}
use Rattle.ucd_table.proofs.Stepped.{Stepped, zip_stepped}
use Rattle.ucd_table.proofs.Facts.{always, ends_by, Stepped-everywhere}
use Rattle.unicode_width.specs.declared.state.After.{After}
use Rattle.unicode_width.specs.declared.state.After.TheVariants as afters
use Rattle.unicode_width.specs.declared.state.Change.{Change}
use Rattle.unicode_width.specs.Width.{before_alef, joins}
use Rattle.unicode_width.proofs.Computing.{unicode_width}

-- a test that answers as another one does
abbrev pub as_stepped : (p q : ℕ → Bool) → ((c : ℕ) → p c ≡ q c) → Stepped q → Stepped p
as_stepped p q same s = record { default = s.default; steps = s.steps; gives = λ c. same c ∙ s.gives c }

abbrev pub excludes : (p q : ℕ → Bool) → Stepped p → Stepped q → Bool
unfolding unicode_width
excludes p q s r =
    let both = zip_stepped (λ a b. not (a && b)) p q s r in
    always _ both && (ends_by 0x11_0000 both.steps && both.default)

pub excluded : (p q : ℕ → Bool) (s : Stepped p) (r : Stepped q) → excludes p q s r ≡ true → (c : ℕ) → p c ≡ true → q c
    ≡ false
unfolding unicode_width
excluded p q s r ok c h =
    let both = zip_stepped (λ a b. not (a && b)) p q s r in
    not-true (q c) (subst (λ a. not (a && q c) ≡ true) h (Stepped-everywhere _ both ok c))

pub no_one : (p : ℕ → Bool) (c k : ℕ) → p k ≡ false → p c ≡ true → (c == k) ≡ false
no_one p c k n h = ne_eqb c k (λ e. absurd (true≢false (sym h ∙ ap p e ∙ n)))

pub no_range : (p : ℕ → Bool) (low high : ℕ) (s : Stepped p) (r : Stepped (in_ranges ((low, high) ∷ [])))
    → excludes p (in_ranges ((low, high) ∷ [])) s r ≡ true → (c : ℕ) → p c ≡ true → is_in_range low high c ≡ false
unfolding in_ranges
no_range p low high s r ok c h = (or_parts (is_in_range low high c) false
    (excluded p (in_ranges ((low, high) ∷ [])) s r ok c h)).0

-- the first range of some, and the others
pub first_range : (range : Range) (more : List Range) (c : ℕ) → in_ranges (range ∷ more) c ≡ false
    → (is_in_range range.0 range.1 c ≡ false) × (in_ranges more c ≡ false)
unfolding in_ranges
first_range range more c h = or_parts (is_in_range range.0 range.1 c) (in_ranges more c) h

-- ---- what is joined only where a modifier, an alef, indicators, or a joined emoji follow

-- what is joined elsewhere: these characters, and below letters of Tifinagh and Lisu, digits and letters of tags
abbrev pub joined_ones : List Range
joined_ones = (0x5D0, 0x5D0) ∷ (0x17D2, 0x17D2) ∷ (0x1A15, 0x1A15) ∷ (0x1A17, 0x1A17) ∷ (0x200D, 0x200D)
    ∷ (0x2D6F, 0x2D6F) ∷ (0x2D7F, 0x2D7F) ∷ (0x10C32, 0x10C32) ∷ (0x16D63, 0x16D63) ∷ (0x16D67, 0x16D69)
    ∷ (0x1F3F4, 0x1F3F4) ∷ []

abbrev pub joined_ranges : List Range
joined_ranges = (0x2D31, 0x2D65) ∷ (0xA4F8, 0xA4FB) ∷ (0xE0030, 0xE0039) ∷ (0xE0061, 0xE007A) ∷ []

-- what holds where each of those follows, and where nothing is joined
pub record HoldsOfFew (P : After → Option (Change × After) → Type 0) (c : ℕ) : Type 0 where
  pub none : (after : After) → P after None
  pub modifier : P afters.EmojiModifier (joins false afters.EmojiModifier c)
  pub indicator : P afters.RegionalIndicator (joins false afters.RegionalIndicator c)
  pub indicators : P afters.RegionalIndicators (joins false afters.RegionalIndicators c)
  pub emoji : P afters.ZwjEmoji (joins false afters.ZwjEmoji c)
  pub joined : P afters.IndicatorZwj (joins false afters.IndicatorZwj c)
  pub even : P afters.EvenIndicatorsZwj (joins false afters.EvenIndicatorsZwj c)
  pub odd : P afters.OddIndicatorsZwj (joins false afters.OddIndicatorsZwj c)
  pub alef : P afters.Alef (joins false afters.Alef c)

pub record JoinsFew (c : ℕ) : Type 0 where
  pub ones : in_ranges joined_ones c ≡ false
  pub ranges : in_ranges joined_ranges c ≡ false

other : (c k : ℕ) → in_ranges joined_ones k ≡ true → JoinsFew c → (c == k) ≡ false
other c k listed few = ne_eqb c k (λ e. absurd (true≢false
    (sym listed ∙ ap (in_ranges joined_ones) (sym e) ∙ few.ones)))

no_tifinagh : (c : ℕ) → JoinsFew c → is_in_range 0x2D31 0x2D65 c ≡ false
no_tifinagh c few = (first_range (0x2D31, 0x2D65) _ c few.ranges).0

no_lisu : (c : ℕ) → JoinsFew c → is_in_range 0xA4F8 0xA4FB c ≡ false
no_lisu c few = (first_range (0xA4F8, 0xA4FB) _ c (first_range (0x2D31, 0x2D65) _ c few.ranges).1).0

abbrev tag_ranges : List Range
tag_ranges = (0xE0030, 0xE0039) ∷ (0xE0061, 0xE007A) ∷ []

tags : (c : ℕ) → JoinsFew c → in_ranges tag_ranges c ≡ false
tags c few = (first_range (0xA4F8, 0xA4FB) tag_ranges c
    (first_range (0x2D31, 0x2D65) ((0xA4F8, 0xA4FB) ∷ tag_ranges) c few.ranges).1).1

no_digit : (c : ℕ) → JoinsFew c → is_in_range 0xE0030 0xE0039 c ≡ false
no_digit c few = (first_range (0xE0030, 0xE0039) ((0xE0061, 0xE007A) ∷ []) c (tags c few)).0

no_letter : (c : ℕ) → JoinsFew c → is_in_range 0xE0061 0xE007A c ≡ false
no_letter c few = (first_range (0xE0061, 0xE007A) [] c
    (first_range (0xE0030, 0xE0039) ((0xE0061, 0xE007A) ∷ []) c (tags c few)).1).0

pub joins_few : (P : After → Option (Change × After) → Type 0) (c : ℕ) → JoinsFew c → HoldsOfFew P c → (after : After)
    → P after (joins false after c)
unfolding joins before_alef in_ranges
joins_few P c few it afters.EmojiModifier = it.modifier
joins_few P c few it afters.RegionalIndicator = it.indicator
joins_few P c few it afters.RegionalIndicators = it.indicators
joins_few P c few it afters.Emoji = rw (other c 0x200D refl few) (it.none afters.Emoji)
joins_few P c few it afters.ZwjEmoji = it.emoji
joins_few P c few it afters.IndicatorZwj = it.joined
joins_few P c few it afters.EvenIndicatorsZwj = it.even
joins_few P c few it afters.OddIndicatorsZwj = it.odd
joins_few P c few it afters.TagEnd = rw (no_letter c few, no_digit c few) (it.none afters.TagEnd)
joins_few P c few it afters.TagDigit1 = rw (no_digit c few) (it.none afters.TagDigit1)
joins_few P c few it afters.TagDigit2 = rw (no_digit c few) (it.none afters.TagDigit2)
joins_few P c few it afters.TagDigit3 = rw (other c 0x1F3F4 refl few) (it.none afters.TagDigit3)
joins_few P c few it afters.TagLetter1 = rw (no_letter c few, no_digit c few) (it.none afters.TagLetter1)
joins_few P c few it afters.TagLetter2 = rw (no_letter c few, no_digit c few) (it.none afters.TagLetter2)
joins_few P c few it afters.TagLetter3 = rw (no_letter c few, no_digit c few, other c 0x1F3F4 refl few)
    (it.none afters.TagLetter3)
joins_few P c few it afters.TagLetter4 = rw (no_letter c few, no_digit c few, other c 0x1F3F4 refl few)
    (it.none afters.TagLetter4)
joins_few P c few it afters.TagLetter5 = rw (no_letter c few, other c 0x1F3F4 refl few) (it.none afters.TagLetter5)
joins_few P c few it afters.TagLetter6 = rw (other c 0x1F3F4 refl few) (it.none afters.TagLetter6)
joins_few P c few it afters.KiratE = rw (
  other c 0x16D63 refl few,
  other c 0x16D67 refl few,
  other c 0x16D68 refl few,
  other c 0x16D69 refl few,
) (it.none afters.KiratE)
joins_few P c few it afters.KiratAi = rw (other c 0x16D63 refl few) (it.none afters.KiratAi)
joins_few P c few it afters.Alef = it.alef
joins_few P c few it afters.ZwjLamed = rw (other c 0x05D0 refl few) (it.none afters.ZwjLamed)
joins_few P c few it afters.ZwjYa = rw (other c 0x1A17 refl few) (it.none afters.ZwjYa)
joins_few P c few it afters.VowelZwjYa = rw (other c 0x1A15 refl few) (it.none afters.VowelZwjYa)
joins_few P c few it afters.Tifinagh = rw (other c 0x2D7F refl few) (it.none afters.Tifinagh)
joins_few P c few it afters.ZwjTifinagh = rw (other c 0x2D7F refl few, no_tifinagh c few, other c 0x2D6F refl few)
    (it.none afters.ZwjTifinagh)
joins_few P c few it afters.JoinerTifinagh = rw (no_tifinagh c few, other c 0x2D6F refl few)
    (it.none afters.JoinerTifinagh)
joins_few P c few it afters.LisuTone = rw (no_lisu c few) (it.none afters.LisuTone)
joins_few P c few it afters.ZwjOrkhonI = rw (other c 0x10C32 refl few) (it.none afters.ZwjOrkhonI)
joins_few P c few it afters.KhmerLetter = rw (other c 0x17D2 refl few) (it.none afters.KhmerLetter)
joins_few P c few it after = it.none after
