-- A character that is no selector and no skin tone leaves a state that selects and modifies nothing, whatever stands
-- after it.
use Rattle.std.proofs.Common.{ℕ, ◌+◌, ◌≡◌, Bool, true, false, cond, not, ◌&&◌, ◌||◌, ◌==◌, nat_le, List, [], ◌∷◌}
use Rattle.std.proofs.Common.{Option, Some, None, refl, sym, ap, subst, ◌∙◌}
use Rattle.std.specs.Prelude.{if◌then◌else◌}
use Rattle.std.specs.Int.{is_in_range}
use Rattle.std.proofs.lemmas.Bool.{true≢false, or_parts, and_parts, ne_eqb, not-true}
use Rattle.ucd_table.specs.Rows.{Range, in_ranges}
use Rattle.ucd_table.proofs.Stepped.{of_ranges, zip_stepped}
use Rattle.ucd_table.proofs.Facts.{Stepped-everywhere}
use Rattle.ucd_bidi.specs.JoiningType.{joining_type, joining_type_eq}
use Rattle.ucd_bidi.specs.declared.JoiningType.TheVariants.{Transparent}
use Rattle.ucd_emoji.specs.Binary.{is_emoji_modifier_base, is_emoji_variation_base}
use Rattle.unicode_width.specs.declared.kind.Kind.{Kind}
use Rattle.unicode_width.specs.declared.kind.Kind.TheVariants as kinds
use Rattle.unicode_width.specs.declared.state.After.{After}
use Rattle.unicode_width.specs.declared.state.After.TheVariants as afters
use Rattle.unicode_width.specs.declared.state.State.{State}
use Rattle.unicode_width.specs.declared.state.Change.{Change}
use Rattle.unicode_width.specs.declared.state.Change.TheVariants.{Less, Same, One, Three}
use Rattle.unicode_width.specs.Kind.{kind, is_ligature_transparent, is_text_presentation_base}
use Rattle.unicode_width.specs.Width.{before, plain, single, is_quote, is_line_feed, is_joined_emoji, is_indicator}
use Rattle.unicode_width.specs.Width.{is_tag_letter, is_tag_digit, is_tifinagh, is_lam, is_emoji, of_kind, alone}
use Rattle.unicode_width.specs.Width.{before_alef, joins, first_of, joined_or, Reading, added, if_kept, skips_marks}
use Rattle.unicode_width.specs.Width.{with_joiner, is_plain, past_selectors, in_context, past_emoji, step}
use Rattle.unicode_width.proofs.Computing.{unicode_width}
use Rattle.miette_columns.specs.steps.SplitPoints.{opens}
use Rattle.miette_columns.proofs.KindTests.{kind_test_stepped}
use Rattle.miette_columns.proofs.Lone.{or_false}

-- ---- a state that selects and modifies nothing

abbrev pub is_modifier : After → Bool
is_modifier afters.EmojiModifier = true
is_modifier _ = false

abbrev pub IsOpen : State → Type 0
IsOpen s = (after : After) × ((s ≡ before after) × (is_modifier after ≡ false))

pub plain_open : IsOpen plain
plain_open = (afters.Nothing, (refl, refl))

open_cond : (b : Bool) (x y : Reading) → IsOpen x.1 → IsOpen y.1 → IsOpen (cond b x y).1
open_cond true x y p q = p
open_cond false x y p q = q

open_if : (b : Bool) (x y : Reading) → (b ≡ true → IsOpen x.1) → IsOpen y.1 → IsOpen (cond b x y).1
open_if true x y p q = p refl
open_if false x y p q = q

-- ---- what such a character is not

no_skin : (c : ℕ) → opens c ≡ true → is_in_range 0x1F3FB 0x1F3FF c ≡ false
no_skin c h = (or_parts (is_in_range 0xFE00 0xFE0F c) (is_in_range 0x1F3FB 0x1F3FF c)
    (not-true (is_in_range 0xFE00 0xFE0F c || is_in_range 0x1F3FB 0x1F3FF c) h)).1

no_selectors : (c : ℕ) → opens c ≡ true → is_in_range 0xFE00 0xFE0F c ≡ false
no_selectors c h = (or_parts (is_in_range 0xFE00 0xFE0F c) (is_in_range 0x1F3FB 0x1F3FF c)
    (not-true (is_in_range 0xFE00 0xFE0F c || is_in_range 0x1F3FB 0x1F3FF c) h)).0

no_selector : (c k : ℕ) → is_in_range 0xFE00 0xFE0F k ≡ true → opens c ≡ true → (c == k) ≡ false
no_selector c k is h = ne_eqb c k (λ e. absurd (true≢false
    (sym is ∙ sym (ap (is_in_range 0xFE00 0xFE0F) e) ∙ no_selectors c h)))

abbrev pub tones : List Range
tones = (0x1F3FB, 0x1F3FF) ∷ []

abbrev pub is_tone : Kind → Bool
is_tone kinds.EmojiModifier = true
is_tone _ = false

-- one walk over the table of kinds: whose kind is that of a skin tone is one, and the other way round
pub tone_kinds : (c : ℕ) → ((in_ranges tones c || not (is_tone (kind c)))
    && (not (in_ranges tones c) || is_tone (kind c))) ≡ true
unfolding unicode_width kind_test_stepped
tone_kinds =
    let both = zip_stepped (λ t b. (b || not t) && (not b || t)) (λ c. is_tone (kind c)) (in_ranges tones)
    (kind_test_stepped is_tone refl refl) (of_ranges tones refl) in
    Stepped-everywhere _ both refl

no_tone : (c : ℕ) → opens c ≡ true → is_tone (kind c) ≡ false
unfolding in_ranges
no_tone c h =
    let outside : in_ranges tones c ≡ false = sym (or_false (is_in_range 0x1F3FB 0x1F3FF c)) ∙ no_skin c h in
    let listed = (and_parts (in_ranges tones c || not (is_tone (kind c))) (not (in_ranges tones c) || is_tone (kind c))
    (tone_kinds c)).0 in
    not-true (is_tone (kind c)) (subst (λ b. (b || not (is_tone (kind c))) ≡ true) outside listed)

-- ---- what it leaves by itself

single_open : (c : ℕ) → opens c ≡ true → IsOpen (single false c).1
single_open c h =
    rw (no_selector c 0xFE0F refl h, no_selector c 0xFE01 refl h, no_selector c 0xFE0E refl h)
    (open_cond (c == 0x05DC) _ _ (afters.Lamed, (refl, refl))
    (open_cond (c == 0xFB3C) _ _ (afters.Lamed, (refl, refl)) (open_cond (c == 0x17D8) _ _ plain_open
    (open_cond (c == 0x1A10) _ _ (afters.Ya, (refl, refl)) (open_cond (c == 0x10C03) _ _ (afters.OrkhonI, (refl, refl))
    (open_cond (c == 0x16D67) _ _ (afters.KiratE, (refl, refl))
    (open_cond (c == 0x16D68) _ _ (afters.KiratAi, (refl, refl)) plain_open)))))))

kind_open : (c : ℕ) (k : Kind) → opens c ≡ true → is_tone k ≡ false → IsOpen (of_kind false c k).1
kind_open c kinds.Alef h n = (afters.Alef, (refl, refl))
kind_open c kinds.KhmerLetter h n = (afters.KhmerLetter, (refl, refl))
kind_open c kinds.TifinaghConsonant h n = (afters.Tifinagh, (refl, refl))
kind_open c kinds.LisuTone h n = (afters.LisuTone, (refl, refl))
kind_open c kinds.RegionalIndicator h n = (afters.RegionalIndicator, (refl, refl))
kind_open c kinds.EmojiModifier h n = absurd (true≢false n)
kind_open c kinds.Emoji h n = (afters.Emoji, (refl, refl))
kind_open c kinds.Single h n = single_open c h
kind_open c k h n = (afters.Nothing, (refl, refl))

own_open : (c : ℕ) → opens c ≡ true → IsOpen (alone false c).1
unfolding alone
own_open c h = kind_open c (kind c) h (no_tone c h)

-- ---- what it leaves where it joins what stands after it

abbrev JoinsOpen : Option (Change × After) → Type 0
JoinsOpen None = Unit {0}
JoinsOpen (Some j) = is_modifier j.1 ≡ false

either : (a : Bool) (p : Change × After) → is_modifier p.1 ≡ false → JoinsOpen (if a then Some p else None)
either true p e = e
either false p e = tt

two : (a b : Bool) (p q : Change × After) → is_modifier p.1 ≡ false → is_modifier q.1 ≡ false
    → JoinsOpen (if a then Some p else if b then Some q else None)
two true b p q e f = e
two false b p q e f = either b q f

three : (a b d : Bool) (p q r : Change × After) → is_modifier p.1 ≡ false → is_modifier q.1 ≡ false → is_modifier r.1
    ≡ false →
    JoinsOpen (if a then Some p else if b then Some q else if d then Some r else None)
three true b d p q r e f g = e
three false b d p q r e f g = two b d q r f g

four : (a b d k : Bool) (p q r o : Change × After) → is_modifier p.1 ≡ false → is_modifier q.1 ≡ false → is_modifier r.1
    ≡ false → is_modifier o.1 ≡ false →
    JoinsOpen (if a then Some p else if b then Some q else if d then Some r else if k then Some o else None)
four true b d k p q r o e f g h = e
four false b d k p q r o e f g h = three b d k q r o f g h

first_only : (x : Option (Change × After)) → JoinsOpen x → JoinsOpen (first_of x None)
first_only None p = p
first_only (Some j) p = p

joined_open : (t : ℕ) (j : Option (Change × After)) (own : ℕ × State) → JoinsOpen j → IsOpen own.1
    → IsOpen (joined_or t j own).1
joined_open t None own p q = q
joined_open t (Some j) own p q = (j.1, (refl, p))

joins_open : (after : After) (c : ℕ) → opens c ≡ true → JoinsOpen (joins false after c)
unfolding joins before_alef
joins_open afters.EmojiModifier c h = two (is_emoji_modifier_base c) (c == 0x200D) (Same, afters.Emoji)
    (Same, afters.ZwjEmoji) refl refl
joins_open afters.RegionalIndicator c h = first_only (if is_indicator c then Some (One, afters.RegionalIndicators)
    else None) (either (is_indicator c) (One, afters.RegionalIndicators) refl)
joins_open afters.RegionalIndicators c h = first_only (if is_indicator c then Some (One, afters.RegionalIndicators)
    else if c == 0x200D then Some (Same, afters.ZwjEmoji) else None)
    (two (is_indicator c) (c == 0x200D) (One, afters.RegionalIndicators) (Same, afters.ZwjEmoji) refl refl)
joins_open afters.Emoji c h = first_only (if c == 0x200D then Some (Same, afters.ZwjEmoji) else None)
    (either (c == 0x200D) (Same, afters.ZwjEmoji) refl)
joins_open afters.ZwjEmoji c h = rw (no_skin c h) (four (c == 0x20E3) (is_indicator c) (c == 0xE007F)
    (is_emoji (kind c)) (Same, afters.KeycapZwjEmoji) (One, afters.IndicatorZwj) (Same, afters.TagEnd)
    (Same, afters.Emoji) refl refl refl refl)
joins_open afters.IndicatorZwj c h = first_only (if is_indicator c then Some (Less, afters.EvenIndicatorsZwj) else None)
    (either (is_indicator c) (Less, afters.EvenIndicatorsZwj) refl)
joins_open afters.EvenIndicatorsZwj c h = first_only (if c == 0x200D then Some (Same, afters.ZwjEmoji)
    else if is_indicator c then Some (Three, afters.OddIndicatorsZwj) else None)
    (two (c == 0x200D) (is_indicator c) (Same, afters.ZwjEmoji) (Three, afters.OddIndicatorsZwj) refl refl)
joins_open afters.OddIndicatorsZwj c h = first_only (if c == 0x200D then Some (Same, afters.ZwjEmoji)
    else if is_indicator c then Some (Less, afters.EvenIndicatorsZwj) else None)
    (two (c == 0x200D) (is_indicator c) (Same, afters.ZwjEmoji) (Less, afters.EvenIndicatorsZwj) refl refl)
joins_open afters.TagEnd c h = two (is_tag_letter c) (is_tag_digit c) (Same, afters.TagLetter1) (Same, afters.TagDigit1)
    refl refl
joins_open afters.TagDigit1 c h = either (is_tag_digit c) (Same, afters.TagDigit2) refl
joins_open afters.TagDigit2 c h = either (is_tag_digit c) (Same, afters.TagDigit3) refl
joins_open afters.TagDigit3 c h = either (c == 0x1F3F4) (Same, afters.Emoji) refl
joins_open afters.TagLetter1 c h = two (is_tag_letter c) (is_tag_digit c) (Same, afters.TagLetter2)
    (Same, afters.TagDigit1) refl refl
joins_open afters.TagLetter2 c h = two (is_tag_letter c) (is_tag_digit c) (Same, afters.TagLetter3)
    (Same, afters.TagDigit1) refl refl
joins_open afters.TagLetter3 c h = three (is_tag_letter c) (is_tag_digit c) (c == 0x1F3F4) (Same, afters.TagLetter4)
    (Same, afters.TagDigit1) (Same, afters.Emoji) refl refl refl
joins_open afters.TagLetter4 c h = three (is_tag_letter c) (is_tag_digit c) (c == 0x1F3F4) (Same, afters.TagLetter5)
    (Same, afters.TagDigit1) (Same, afters.Emoji) refl refl refl
joins_open afters.TagLetter5 c h = two (is_tag_letter c) (c == 0x1F3F4) (Same, afters.TagLetter6) (Same, afters.Emoji)
    refl refl
joins_open afters.TagLetter6 c h = either (c == 0x1F3F4) (Same, afters.Emoji) refl
joins_open afters.KiratE c h = first_only (if c == 0x16D63 then Some (Same, afters.Nothing) else if c == 0x16D67 then
    Some (Same, afters.KiratAi) else if c == 0x16D68 then Some (One, afters.KiratE) else if c == 0x16D69 then
    Some (Same, afters.Nothing) else None) (four (c == 0x16D63) (c == 0x16D67) (c == 0x16D68) (c == 0x16D69)
    (Same, afters.Nothing) (Same, afters.KiratAi) (One, afters.KiratE) (Same, afters.Nothing) refl refl refl refl)
joins_open afters.KiratAi c h = first_only (if c == 0x16D63 then Some (Same, afters.Nothing) else None)
    (either (c == 0x16D63) (Same, afters.Nothing) refl)
joins_open afters.Alef c h = two (is_lam c) (((alone false c).0 == 0) && joining_type_eq (joining_type c) Transparent)
    (Same, afters.Nothing) (Same, afters.Alef) refl refl
joins_open afters.ZwjLamed c h = first_only (if c == 0x05D0 then Some (Same, afters.Nothing) else None)
    (either (c == 0x05D0) (Same, afters.Nothing) refl)
joins_open afters.ZwjYa c h = first_only (if c == 0x1A17 then Some (Same, afters.VowelZwjYa) else None)
    (either (c == 0x1A17) (Same, afters.VowelZwjYa) refl)
joins_open afters.VowelZwjYa c h = first_only (if c == 0x1A15 then Some (Same, afters.Nothing) else None)
    (either (c == 0x1A15) (Same, afters.Nothing) refl)
joins_open afters.Tifinagh c h = first_only (if c == 0x2D7F then Some (One, afters.JoinerTifinagh) else None)
    (either (c == 0x2D7F) (One, afters.JoinerTifinagh) refl)
joins_open afters.ZwjTifinagh c h = first_only (if c == 0x2D7F then Some (One, afters.JoinerTifinagh)
    else if is_tifinagh c then Some (Same, afters.Nothing) else None)
    (two (c == 0x2D7F) (is_tifinagh c) (One, afters.JoinerTifinagh) (Same, afters.Nothing) refl refl)
joins_open afters.JoinerTifinagh c h = first_only (if is_tifinagh c then Some (Less, afters.Nothing) else None)
    (either (is_tifinagh c) (Less, afters.Nothing) refl)
joins_open afters.LisuTone c h = first_only (if is_in_range 0xA4F8 0xA4FB c then Some (Same, afters.Nothing) else None)
    (either (is_in_range 0xA4F8 0xA4FB c) (Same, afters.Nothing) refl)
joins_open afters.ZwjOrkhonI c h = first_only (if c == 0x10C32 then Some (Same, afters.Nothing) else None)
    (either (c == 0x10C32) (Same, afters.Nothing) refl)
joins_open afters.KhmerLetter c h = first_only (if c == 0x17D2 then Some (Less, afters.Nothing) else None)
    (either (c == 0x17D2) (Less, afters.Nothing) refl)
joins_open after c h = tt

-- marks are skipped by no modifier
marked : (after : After) → skips_marks after ≡ true → (is_modifier after ≡ false)
    × (is_modifier (with_joiner after) ≡ false)
marked afters.Solidus e = (refl, refl)
marked afters.SolidusAlef e = (refl, refl)
marked afters.Lamed e = (refl, refl)
marked afters.ZwjLamed e = (refl, refl)
marked afters.Ya e = (refl, refl)
marked afters.ZwjYa e = (refl, refl)
marked afters.VowelZwjYa e = (refl, refl)
marked afters.Tifinagh e = (refl, refl)
marked afters.ZwjTifinagh e = (refl, refl)
marked afters.JoinerTifinagh e = (refl, refl)
marked afters.LisuTone e = (refl, refl)
marked afters.OrkhonI e = (refl, refl)
marked afters.ZwjOrkhonI e = (refl, refl)
marked afters.KhmerLetter e = (refl, refl)
marked after e = absurd (true≢false (sym e))

past_open : (c t : ℕ) (after : After) → opens c ≡ true → IsOpen (past_selectors false c t after).1
unfolding past_selectors
past_open c t after h =
    open_if (skips_marks after && (c == 0x200D)) (t, before (with_joiner after)) _
    (λ e. (with_joiner after, (refl, (marked after (and_parts (skips_marks after) (c == 0x200D) e).0).1)))
    (open_if (skips_marks after && is_ligature_transparent c) (t, before after) _
    (λ e. (after, (refl, (marked after (and_parts (skips_marks after) (is_ligature_transparent c) e).0).0)))
    (joined_open t (joins false after c) (alone false c) (joins_open after c h) (own_open c h)))

context_open : (c t : ℕ) (s : State) → opens c ≡ true → IsOpen (in_context false c t s).1
unfolding in_context
context_open c t s h =
    rw (no_selector c 0xFE0F refl h, no_selector c 0xFE01 refl h, no_selector c 0xFE0E refl h)
    (open_cond (s.text && is_text_presentation_base c) (t + 1, plain) _ plain_open
    (open_cond (s.quote && is_quote c) (t + 2, plain) _ plain_open (past_open c t s.after h)))

all_open : (c t : ℕ) (s : State) → opens c ≡ true → IsOpen (past_emoji false c t s).1
unfolding past_emoji
all_open c t s h =
    open_cond (c == 0x0A) (t + 1, before afters.LineFeed) _ (afters.LineFeed, (refl, refl))
    (open_cond ((c == 0x0D) && is_line_feed s.after) (t, plain) _ plain_open
    (open_cond (nat_le c 0xA0) (t + 1, plain) _ plain_open
    (open_cond (is_plain s) (added t (alone false c)) _ (own_open c h) (context_open c t s h))))

pub step_opens : (c t : ℕ) (s : State) → opens c ≡ true → IsOpen (step false c (t, s)).1
unfolding step
step_opens c t s h =
    open_cond (not s.emoji) (past_emoji false c t s) _ (all_open c t s h)
    (open_cond (is_emoji_variation_base c) (t + (if is_joined_emoji s.after then 0 else 2), before afters.Emoji)
    (past_emoji false c t (record (if_kept s) { emoji = false }))
    (afters.Emoji, (refl, refl)) (all_open c t (record (if_kept s) { emoji = false }) h))
