-- Neighbours that part a text: its width is that of what ends with the first and that of what begins with the second.
use Rattle.std.proofs.Common.{ℕ, ◌+◌, ◌<◌, ◌≤◌, ◌≡◌, Bool, true, false, cond, not, ◌&&◌, ◌==◌}
use Rattle.std.proofs.Common.{◌⊎◌, List, [], ◌∷◌, ◌++◌, Option, Some, None, refl, sym, ap, subst, add-zero, ◌∙◌, arith}
use Rattle.std.proofs.Common.{inl, inr}
use Rattle.std.specs.Prelude.{if◌then◌else◌}
use Rattle.std.proofs.lemmas.Bool.{eqb-true, or_cases, and_parts, and_right, cases_lt}
use Rattle.std.proofs.lemmas.Bool.{le-leb, lt-leb, ne_eqb, not-true}
use Rattle.ucd_emoji.specs.Binary.{is_emoji_modifier_base, is_emoji_variation_base}
use Rattle.unicode_width.specs.declared.state.After.{After}
use Rattle.unicode_width.specs.declared.state.After.TheVariants as afters
use Rattle.unicode_width.specs.declared.state.State.{State}
use Rattle.unicode_width.specs.declared.state.Change.{Change}
use Rattle.unicode_width.specs.declared.state.Change.TheVariants.{Same}
use Rattle.unicode_width.specs.Kind.{kind, is_text_presentation_base}
use Rattle.unicode_width.specs.Width.{before, plain, is_joined_emoji, is_line_feed, is_quote, alone}
use Rattle.unicode_width.specs.Width.{is_emoji, joins, joined_or, Reading}
use Rattle.unicode_width.specs.Width.{added, if_kept, skips_marks, is_plain, past_selectors, in_context, past_emoji}
use Rattle.unicode_width.specs.Width.{step, read_before, str_width}
use Rattle.unicode_width.proofs.Computing.{unicode_width}
use Rattle.miette_lines.proofs.Cases.{by_cases}
use Rattle.miette_columns.specs.steps.SplitPoints.{joins_nothing_after, is_joining, joins_only_by_joiner, may_split}
use Rattle.miette_columns.proofs.ClosingCharacters.{is_mild_kind, unlisted, mild, no_marks, no_transparent}
use Rattle.miette_columns.proofs.ClosingCharacters.{no_selector}
use Rattle.miette_columns.proofs.ClosingCharacters.{plain_own, emoji_own, JoinsOwn, joins_own, low_parts}
use Rattle.miette_columns.proofs.Lone.{adds_up, shifted, read_append}

-- ---- after an emoji only a joiner is read otherwise than after nothing

abbrev after_emoji : State
after_emoji = before afters.Emoji

emoji_selector : (t : ℕ) → in_context false 0xFE0F t after_emoji ≡ added t (alone false 0xFE0F)
unfolding unicode_width
emoji_selector t = ap (λ n. (n, record plain { emoji = true })) (sym (add-zero t))

quote_selector : (t : ℕ) → in_context false 0xFE01 t after_emoji ≡ added t (alone false 0xFE01)
unfolding unicode_width
quote_selector t = ap (λ n. (n, record plain { quote = true })) (sym (add-zero t))

text_selector : (t : ℕ) → in_context false 0xFE0E t after_emoji ≡ added t (alone false 0xFE0E)
unfolding unicode_width
text_selector t = ap (λ n. (n, record plain { text = true })) (sym (add-zero t))

skip_marks : (b : ℕ) → (b == 0x200D) ≡ false → joins false afters.Emoji b ≡ None
unfolding joins
skip_marks b n = rw n refl

past_after_emoji : (b t : ℕ) → (b == 0x200D) ≡ false → past_selectors false b t afters.Emoji ≡ added t (alone false b)
unfolding past_selectors
past_after_emoji b t n = rw (skip_marks b n) refl

other_after_emoji : (b t : ℕ) → (b == 0x200D) ≡ false → (b == 0xFE0F) ≡ false → (b == 0xFE01) ≡ false → (b == 0xFE0E)
    ≡ false → in_context false b t after_emoji ≡ added t (alone false b)
unfolding in_context
other_after_emoji b t n f g h = rw (f, g, h) (past_after_emoji b t n)

in_after_emoji : (b t : ℕ) → (b == 0x200D) ≡ false → in_context false b t after_emoji ≡ added t (alone false b)
in_after_emoji b t n =
    let C : ℕ → Type 0 = λ x. in_context false x t after_emoji ≡ added t (alone false x) in
    by_cases {C = C b} (b == 0xFE0F) (λ e. subst C (sym (eqb-true b 0xFE0F e)) (emoji_selector t))
    (λ f. by_cases {C = C b} (b == 0xFE01) (λ e. subst C (sym (eqb-true b 0xFE01 e)) (quote_selector t))
    (λ g. by_cases {C = C b} (b == 0xFE0E) (λ e. subst C (sym (eqb-true b 0xFE0E e)) (text_selector t))
    (λ h. other_after_emoji b t n f g h)))

read_the_same : (b t : ℕ) → (b == 0x200D) ≡ false → step false b (t, after_emoji) ≡ step false b (t, plain)
unfolding step past_emoji
read_the_same b t n = rw (in_after_emoji b t n) refl

-- ---- what such a character leaves to be read

-- the states after nothing and after an emoji
abbrev IsQuiet : State → Type 0
IsQuiet s = (s ≡ plain) ⊎ (s ≡ after_emoji)

quiet_cond : (b : Bool) (x y : Reading) → IsQuiet x.1 → IsQuiet y.1 → IsQuiet (cond b x y).1
quiet_cond true x y p q = p
quiet_cond false x y p q = q

abbrev JoinsQuietly : Option (Change × After) → Type 0
JoinsQuietly None = Unit {0}
JoinsQuietly (Some j) = IsQuiet (before j.1)

quiet_joined : (t : ℕ) (j : Option (Change × After)) (own : ℕ × State) → JoinsQuietly j → IsQuiet own.1
    → IsQuiet (joined_or t j own).1
quiet_joined t None own p q = q
quiet_joined t (Some j) own p q = p

own : (c : ℕ) → is_mild_kind (kind c) ≡ true → IsQuiet (alone false c).1
own c h = by_cases {C = IsQuiet (alone false c).1} (is_emoji (kind c)) (λ e. inr (sym (emoji_own c e)))
    (λ n. inl (sym (plain_own c h n)))

quiet_own : (c : ℕ) (j : Option (Change × After)) → IsQuiet (alone false c).1 → JoinsOwn c j → JoinsQuietly j
quiet_own c None q p = tt
quiet_own c (Some j) q p = subst IsQuiet (sym p) q

quiet_modifier : (b : Bool) → JoinsQuietly (cond b (Some (Same, afters.Emoji)) None)
quiet_modifier true = inr refl
quiet_modifier false = tt

joins_quietly : (after : After) (c : ℕ) → is_joining c ≡ false → is_mild_kind (kind c) ≡ true
    → JoinsQuietly (joins false after c)
unfolding joins
joins_quietly afters.EmojiModifier c n h = rw ((no_marks c h).joiner) (quiet_modifier (is_emoji_modifier_base c))
joins_quietly after c n h = quiet_own c (joins false after c) (own c h) (joins_own after c refl n h)

-- ---- its step

past_quotes : (c t : ℕ) (after : After) → is_joining c ≡ false → is_mild_kind (kind c) ≡ true
    → IsQuiet (past_selectors false c t after).1
unfolding past_selectors
past_quotes c t after n h =
    rw ((no_marks c h).joiner, no_transparent c h, and_right (skips_marks after) false refl)
    (quiet_joined t (joins false after c) (alone false c) (joins_quietly after c n h) (own c h))

in_any_context : (c t : ℕ) (s : State) → is_joining c ≡ false → is_mild_kind (kind c) ≡ true
    → IsQuiet (in_context false c t s).1
unfolding in_context
in_any_context c t s n h =
    rw ((no_selector c h).0, (no_selector c h).1.0, (no_selector c h).1.1)
    (quiet_cond (s.text && is_text_presentation_base c) (t + 1, plain)
    (cond (s.quote && is_quote c) (t + 2, plain) (past_selectors false c t s.after)) (inl refl)
    (quiet_cond (s.quote && is_quote c) (t + 2, plain) (past_selectors false c t s.after) (inl refl)
    (past_quotes c t s.after n h)))

past_high : (c t : ℕ) (s : State) → 0xA0 < c → is_joining c ≡ false → is_mild_kind (kind c) ≡ true
    → IsQuiet (past_emoji false c t s).1
unfolding past_emoji
past_high c t s high n h =
    rw (ne_eqb c 0x0A (λ e. omega (arith, e, high)), ne_eqb c 0x0D (λ e. omega (arith, e, high)), lt-leb c 0xA0 high)
    (quiet_cond (is_plain s) (added t (alone false c)) (in_context false c t s) (own c h) (in_any_context c t s n h))

past_low : (c t : ℕ) (s : State) → c ≤ 0xA0 → (c == 0x0A) ≡ false → IsQuiet (past_emoji false c t s).1
unfolding past_emoji
past_low c t s low n = rw (n, le-leb c 0xA0 low) (quiet_cond ((c == 0x0D) && is_line_feed s.after) (t, plain)
    (t + 1, plain) (inl refl) (inl refl))

past_all : (c t : ℕ) (s : State) → joins_only_by_joiner c ≡ true → IsQuiet (past_emoji false c t s).1
past_all c t s h =
    elim (cases_lt 0xA0 c) [
      | inl high ↦ past_high c t s high (unlisted c high h) (mild c high h)
      | inr low ↦ past_low c t s low (low_parts c low h)
    ]

quiet_step : (c t : ℕ) (s : State) → joins_only_by_joiner c ≡ true → IsQuiet (step false c (t, s)).1
unfolding step
quiet_step c t s h =
    quiet_cond (not s.emoji) (past_emoji false c t s) (cond (is_emoji_variation_base c)
    (t + (if is_joined_emoji s.after then 0 else 2), after_emoji)
    (past_emoji false c t (record (if_kept s) { emoji = false })))
    (past_all c t s h)
    (quiet_cond (is_emoji_variation_base c) (t + (if is_joined_emoji s.after then 0 else 2), after_emoji)
    (past_emoji false c t (record (if_kept s) { emoji = false })) (inr refl)
    (past_all c t (record (if_kept s) { emoji = false }) h))

-- ---- so widths add up

read_quiet : (b t : ℕ) (s : State) → (b == 0x200D) ≡ false → IsQuiet s → step false b (t, s) ≡ step false b (t, plain)
read_quiet b t s n (inl e) = ap (λ x. step false b (t, x)) e
read_quiet b t s n (inr e) = ap (λ x. step false b (t, x)) e ∙ read_the_same b t n

closed : (xs ys : List ℕ) (b d : ℕ) → joins_only_by_joiner d ≡ true → (b == 0x200D) ≡ false
    → str_width false (xs ++ b ∷ d ∷ ys)
    ≡ str_width false (xs ++ b ∷ []) + str_width false (d ∷ ys)
unfolding str_width
closed xs ys b d h n =
    let r = read_before false (d ∷ ys) (0, plain) in
    let rest = read_before false ys (0, plain) in
    ap (λ x. x.0) (read_append xs (b ∷ d ∷ ys) (0, plain))
    ∙ ap (λ x. (read_before false xs x).0) (read_quiet b r.0 r.1 n (quiet_step d rest.0 rest.1 h))
    ∙ ap (λ x. x.0) (sym (read_append xs (b ∷ []) (r.0, plain)))
    ∙ shifted (xs ++ b ∷ []) r.0

pub parted : (xs ys : List ℕ) (b d : ℕ) → may_split b d ≡ true → str_width false (xs ++ b ∷ d ∷ ys)
    ≡ str_width false (xs ++ b ∷ []) + str_width false (d ∷ ys)
parted xs ys b d h =
    elim (or_cases (joins_nothing_after b) (joins_only_by_joiner d && not (b == 0x200D)) h) [
      | inl lone ↦ adds_up xs (d ∷ ys) b lone
      | inr other ↦
          let both = and_parts (joins_only_by_joiner d) (not (b == 0x200D)) other in
          closed xs ys b d both.0 (not-true (b == 0x200D) both.1)
    ]

-- nothing has no width
pub no_width : str_width false [] ≡ 0
unfolding str_width
no_width = refl
