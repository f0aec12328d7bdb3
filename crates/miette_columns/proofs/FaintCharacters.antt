-- Characters that take no columns, one after another at the end of a text: only the first one is seen from before it.
use Rattle.std.proofs.Common.{ℕ, ◌+◌, ◌<◌, ◌≡◌, Bool, true, false, cond, ◌==◌, nat_lt, List, [], ◌∷◌}
use Rattle.std.proofs.Common.{◌++◌, None, refl, sym, ap, subst, add-zero, ◌∙◌, arith, eqb-true, inl, inr}
use Rattle.std.specs.List.{list_all}
use Rattle.std.proofs.lemmas.Bool.{true≢false, and_parts, cases_lt, le-ltb, lt-leb, ne_eqb}
use Rattle.unicode_width.specs.declared.kind.Kind.{Kind}
use Rattle.unicode_width.specs.declared.kind.Kind.TheVariants as kinds
use Rattle.unicode_width.specs.declared.state.After.TheVariants as afters
use Rattle.unicode_width.specs.declared.state.State.{State}
use Rattle.unicode_width.specs.Kind.{kind}
use Rattle.unicode_width.specs.Width.{before, plain, of_kind, single, alone, joins, Reading, added, is_plain}
use Rattle.unicode_width.specs.Width.{past_selectors, in_context, past_emoji, step, read_before, str_width}
use Rattle.unicode_width.proofs.Computing.{unicode_width}
use Rattle.miette_columns.specs.rules.Widths.{width_of}
use Rattle.miette_lines.proofs.Cases.{by_cases}
use Rattle.miette_columns.specs.steps.ZeroWidthRuns.{is_zero_width}
use Rattle.miette_columns.proofs.Excluding.{excluded}
use Rattle.miette_columns.proofs.Ordinary.{IsUnselected, is_selected, selected_stepped, unselected, past_context}
use Rattle.miette_columns.proofs.KindTests.{kind_test_stepped}
use Rattle.miette_columns.proofs.Lone.{read_append}
use Rattle.miette_columns.proofs.ClosingCharacters.{width_high}

-- ---- what such a character leaves to be read: nothing but selectors

-- nothing but these selectors: U+FE0F, U+FE0E and that of quotation marks
abbrev bare : Bool → Bool → Bool → State
bare e x q = record { after = afters.Nothing; emoji = e; text = x; quote = q }

abbrev IsBare : State → Type 0
IsBare s = (e : Bool) × ((x : Bool) × ((q : Bool) × (s ≡ bare e x q)))

-- what has no columns is bare
abbrev IsLight : ℕ × State → Type 0
IsLight own = (own.0 == 0) ≡ true → IsBare own.1

light_or : (b : Bool) (x y : ℕ × State) → IsLight x → IsLight y → IsLight (cond b x y)
light_or true x y p q = p
light_or false x y p q = q

single_light : (c : ℕ) → IsLight (single false c)
single_light c =
    light_or (c == 0x05DC) (1, before afters.Lamed) _ (λ e. absurd (true≢false (sym e)))
    (light_or (c == 0xFB3C) (1, before afters.Lamed) _ (λ e. absurd (true≢false (sym e)))
    (light_or (c == 0x17D8) (3, plain) _ (λ e. absurd (true≢false (sym e)))
    (light_or (c == 0x1A10) (1, before afters.Ya) _ (λ e. absurd (true≢false (sym e)))
    (light_or (c == 0x10C03) (1, before afters.OrkhonI) _ (λ e. absurd (true≢false (sym e)))
    (light_or (c == 0x16D67) (1, before afters.KiratE) _ (λ e. absurd (true≢false (sym e)))
    (light_or (c == 0x16D68) (1, before afters.KiratAi) _ (λ e. absurd (true≢false (sym e)))
    (light_or (c == 0xFE0F) (0, record plain { emoji = true }) _ (λ e. (true, (false, (false, refl))))
    (light_or (c == 0xFE01) (0, record plain { quote = true }) _ (λ e. (false, (false, (true, refl))))
    (light_or (c == 0xFE0E) (0, record plain { text = true }) (0, plain) (λ e. (false, (true, (false, refl))))
    (λ e. (false, (false, (false, refl)))))))))))))

kind_light : (c : ℕ) (k : Kind) → IsLight (of_kind false c k)
kind_light c kinds.Zero = λ e. (false, (false, (false, refl)))
kind_light c kinds.Single = single_light c
kind_light c k = λ e. absurd (true≢false (sym e))

pub faint_high : (c : ℕ) → is_zero_width c ≡ true → 0xA0 < c
faint_high c h =
    elim (cases_lt 0xA0 c) [
      | inl high ↦ high
      | inr low ↦ absurd (true≢false (sym (and_parts (nat_lt 0xA0 c) (width_of c == 0) h).0 ∙ le-ltb 0xA0 c low))
    ]

pub faint_width : (c : ℕ) → is_zero_width c ≡ true → width_of c ≡ 0
faint_width c h = eqb-true (width_of c) 0 (and_parts (nat_lt 0xA0 c) (width_of c == 0) h).1

faint_alone : (c : ℕ) → is_zero_width c ≡ true → (alone false c).0 ≡ 0
faint_alone c h = sym (width_high c (faint_high c h)) ∙ faint_width c h

own_bare : (c : ℕ) → is_zero_width c ≡ true → IsBare (alone false c).1
unfolding alone
own_bare c h = kind_light c (kind c) (ap (λ n. n == 0) (faint_alone c h))

-- ---- what such a character is not

abbrev is_faint_kind : Kind → Bool
is_faint_kind kinds.Zero = true
is_faint_kind kinds.Single = true
is_faint_kind _ = false

kind_faint : (c : ℕ) (k : Kind) → ((of_kind false c k).0 == 0) ≡ true → is_faint_kind k ≡ true
kind_faint c kinds.Zero e = refl
kind_faint c kinds.Single e = refl
kind_faint c k e = absurd (true≢false (sym e))

of_faint_kind : (c : ℕ) → is_zero_width c ≡ true → is_faint_kind (kind c) ≡ true
unfolding alone
of_faint_kind c h = kind_faint c (kind c) (ap (λ n. n == 0) (faint_alone c h))

-- one walk over the table of kinds for all of them
no_selected : (c : ℕ) → is_faint_kind (kind c) ≡ true → IsUnselected c
unfolding unicode_width kind_test_stepped
no_selected c h =
    unselected c (excluded (λ c. is_faint_kind (kind c)) is_selected (kind_test_stepped is_faint_kind refl refl)
    selected_stepped refl c h)

-- ---- its step before others such

emoji_selector : (t : ℕ) (e x q : Bool) → in_context false 0xFE0F t (bare e x q) ≡ added t (alone false 0xFE0F)
unfolding unicode_width
emoji_selector t e x q = ap (λ n. (n, bare true false false)) (sym (add-zero t))

quote_selector : (t : ℕ) (e x q : Bool) → in_context false 0xFE01 t (bare e x q) ≡ added t (alone false 0xFE01)
unfolding unicode_width
quote_selector t e x q = ap (λ n. (n, bare false false true)) (sym (add-zero t))

text_selector : (t : ℕ) (e x q : Bool) → in_context false 0xFE0E t (bare e x q) ≡ added t (alone false 0xFE0E)
unfolding unicode_width
text_selector t e x q = ap (λ n. (n, bare false true false)) (sym (add-zero t))

nothing_joins : (c : ℕ) → joins false afters.Nothing c ≡ None
unfolding joins
nothing_joins c = refl

past_nothing : (c t : ℕ) → past_selectors false c t afters.Nothing ≡ added t (alone false c)
unfolding past_selectors
past_nothing c t = rw (nothing_joins c) refl

past_others : (c t : ℕ) (e x q : Bool) → is_faint_kind (kind c) ≡ true → (c == 0xFE0F) ≡ false → (c == 0xFE01) ≡ false
    → (c == 0xFE0E) ≡ false → in_context false c t (bare e x q) ≡ added t (alone false c)
past_others c t e x q k f g h = past_context c t (bare e x q) f g h (no_selected c k) ∙ past_nothing c t

in_bare_context : (c t : ℕ) (e x q : Bool) → is_faint_kind (kind c) ≡ true → in_context false c t (bare e x q)
    ≡ added t (alone false c)
in_bare_context c t e x q k =
    let C : ℕ → Type 0 = λ z. in_context false z t (bare e x q) ≡ added t (alone false z) in
    by_cases {C = C c} (c == 0xFE0F) (λ y. subst C (sym (eqb-true c 0xFE0F y)) (emoji_selector t e x q))
    (λ f. by_cases {C = C c} (c == 0xFE01) (λ y. subst C (sym (eqb-true c 0xFE01 y)) (quote_selector t e x q))
    (λ g. by_cases {C = C c} (c == 0xFE0E) (λ y. subst C (sym (eqb-true c 0xFE0E y)) (text_selector t e x q))
    (λ h. past_others c t e x q k f g h)))

same_or : (b : Bool) (x y r : Reading) → x ≡ r → y ≡ r → cond b x y ≡ r
same_or true x y r p q = p
same_or false x y r p q = q

past_bare : (c t : ℕ) (e x q : Bool) → 0xA0 < c → is_faint_kind (kind c) ≡ true → past_emoji false c t (bare e x q)
    ≡ added t (alone false c)
unfolding past_emoji
past_bare c t e x q high k =
    rw (ne_eqb c 0x0A (λ y. omega (arith, y, high)), ne_eqb c 0x0D (λ y. omega (arith, y, high)), lt-leb c 0xA0 high)
    (same_or (is_plain (bare e x q)) (added t (alone false c)) (in_context false c t (bare e x q))
    (added t (alone false c)) refl (in_bare_context c t e x q k))

step_bare : (c t : ℕ) (e x q : Bool) → 0xA0 < c → is_faint_kind (kind c) ≡ true → step false c (t, bare e x q)
    ≡ added t (alone false c)
unfolding step
step_bare c t true x q high k = rw ((no_selected c k).variation) (past_bare c t false false false high k)
step_bare c t false x q high k = past_bare c t false x q high k

step_faint : (c t : ℕ) (s : State) → is_zero_width c ≡ true → IsBare s → step false c (t, s) ≡ (t, (alone false c).1)
step_faint c t s h (e, (x, (q, is))) =
    ap (λ r. step false c (t, r)) is ∙ step_bare c t e x q (faint_high c h) (of_faint_kind c h)
    ∙ ap (λ n. (t + n, (alone false c).1)) (faint_alone c h) ∙ ap (λ n. (n, (alone false c).1)) (add-zero t)

-- ---- so only the first one counts

read_faint : (c : ℕ) (cs : List ℕ) → is_zero_width c ≡ true → list_all is_zero_width cs ≡ true
    → read_before false (c ∷ cs) (0, plain) ≡ (0, (alone false c).1)
read_faint c [] h all = step_faint c 0 plain h (false, (false, (false, refl)))
read_faint c (d ∷ ds) h all =
    let both = and_parts (is_zero_width d) (list_all is_zero_width ds) all in
    ap (step false c) (read_faint d ds both.0 both.1) ∙ step_faint c 0 (alone false d).1 h (own_bare d both.0)

-- a text that ends with such a character has the columns of one that goes on with others
pub faint_after : (xs cs : List ℕ) (c : ℕ) → is_zero_width c ≡ true → list_all is_zero_width cs ≡ true
    → str_width false (xs ++ c ∷ cs) ≡ str_width false (xs ++ c ∷ [])
unfolding str_width
faint_after xs cs c h all =
    ap (λ r. r.0) (read_append xs (c ∷ cs) (0, plain))
    ∙ ap (λ r. (read_before false xs r).0) (read_faint c cs h all ∙ sym (read_faint c [] h refl))
    ∙ ap (λ r. r.0) (sym (read_append xs (c ∷ []) (0, plain)))
