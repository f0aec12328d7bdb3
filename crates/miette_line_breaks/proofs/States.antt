-- The state stands for the characters before, and gives what the rules say of them.
use Rattle.std.proofs.Common.{◌≡◌, refl, ◌||◌, sym, ap, ◌∙◌, ℕ, ◌+◌, Bool, true, false, not, ◌&&◌, if◌then◌else◌}
use Rattle.std.proofs.Common.{List, [], ◌∷◌, length, encode_utf8}
use Rattle.miette_lines.specs.rules.Lists.{is_nil}
use Rattle.ucd_breaks.specs.declared.LineBreak.{LineBreak}
use Rattle.ucd_breaks.specs.declared.LineBreak.TheVariants.{Space}
use Rattle.miette_line_breaks.specs.declared.characters.Character.{Character}
use Rattle.miette_line_breaks.specs.rules.Characters.{character_of, lone_mark}
use Rattle.miette_line_breaks.specs.rules.Classes.{is_bracket_end, is_carriage_return, is_dash, is_hard, is_hebrew}
use Rattle.miette_line_breaks.specs.rules.Classes.{is_joiner, is_mark, is_opening, is_quotation, is_space_class}
use Rattle.miette_line_breaks.specs.rules.Classes.{is_zero_width_space, is_word_joiner, is_glue, is_hyphen_class}
use Rattle.miette_line_breaks.specs.rules.Classes.{is_contingent}
use Rattle.miette_line_breaks.specs.rules.Classes.{is_regional}
use Rattle.miette_line_breaks.specs.rules.Rules.{bases, between, break_before, breaks_from, ends_joined, keeps}
use Rattle.miette_line_breaks.specs.rules.Rules.{ends_in_half_flag, joins, keeps_beside, nearest_is}
use Rattle.miette_line_breaks.specs.rules.Rules.{past_spaces, takes_marks}
use Rattle.miette_line_breaks.specs.steps.States.{base_after, break_in, breaks_after, is_start, joined_after}
use Rattle.miette_line_breaks.specs.steps.States.{base_of, keeps_direct, keeps_in, nearest_of, state_after, state_of}
use Rattle.miette_line_breaks.specs.steps.States.{state_over}

space_is : (class : LineBreak) → is_space_class class ≡ true → class ≡ Space
space_is Space h = refl
space_is class h = cc

nearest-any : (p : LineBreak → Bool) → p Space ≡ false → (bs : List Character) →
    nearest_is p bs ≡ p (nearest_of bs).class
nearest-any p h [] = sym h
nearest-any p h (b ∷ bs) = refl

beside : (p : LineBreak → Bool) → p Space ≡ false → (bs : List Character) →
    nearest_is p bs ≡ (not (nearest_is is_space_class bs) && p (nearest_of (past_spaces bs)).class)
beside p h [] = sym h
beside p h (b ∷ bs) = elim (is_space_class b.class) as (λ q. is_space_class b.class ≡ q → p b.class
    ≡ (not q && p (nearest_of (if q then past_spaces bs else b ∷ bs)).class)) [
      | true ↦ λ e. ap p (space_is b.class e) ∙ h
      | false ↦ λ _. refl
    ] refl

base-is : (b : Character) (bs : List Character) → nearest_of (past_spaces (b ∷ bs))
    ≡ (if is_space_class b.class then nearest_of (past_spaces bs) else b)
base-is b bs = elim (is_space_class b.class) as (λ q. nearest_of (if q then past_spaces bs else b ∷ bs)
    ≡ (if q then nearest_of (past_spaces bs) else b)) [ true ↦ refl | false ↦ refl ]

base-step : (b : Character) (bs : List Character) (before joined : Bool) →
    state_over (b ∷ bs) joined ≡ base_after (state_over bs before) b joined
base-step b bs before joined = cc (base-is b bs, beside is_hebrew refl bs)

step-by : (m q : Bool) (x : Character) (bs : List Character) (before joined : Bool) →
    state_over (if m then if q then bs else lone_mark ∷ bs else x ∷ bs) joined
    ≡ (if m && q then joined_after (state_over bs before) joined
    else base_after (state_over bs before) (if m then lone_mark else x) joined)
step-by true true x bs before joined = refl
step-by true false x bs before joined = base-step lone_mark bs before joined
step-by false q x bs before joined = base-step x bs before joined

pub state-step : (c : ℕ) (cs : List ℕ) → state_of (c ∷ cs) ≡ state_after (state_of cs) (character_of c)
state-step c cs =
    let x = character_of c in
    let j = is_joiner x.class in
    let s = state_of cs in
    step-by (is_mark x.class) (nearest_is takes_marks (bases cs)) x (bases cs) (ends_joined cs) j
    ∙ ap (λ q. if is_mark x.class && q then joined_after s j
    else base_after s (if is_mark x.class then lone_mark else x) j) (beside takes_marks refl (bases cs))

-- ---- what is before a character

some-by : (m : Bool) (bs : List Character) (x : Character) →
    is_nil (if m then if nearest_is takes_marks bs then bs else lone_mark ∷ bs else x ∷ bs) ≡ false
some-by true [] x = refl
some-by true (b ∷ bs) x = elim (takes_marks b.class) as
    (λ q. is_nil (if q then b ∷ bs else lone_mark ∷ b ∷ bs) ≡ false) [ true ↦ refl | false ↦ refl ]
some-by false bs x = refl

bases-some : (c : ℕ) (cs : List ℕ) → is_nil (bases (c ∷ cs)) ≡ false
bases-some c cs = some-by (is_mark (character_of c).class) (bases cs) (character_of c)

and-false : (q : Bool) → (q && false) ≡ false
and-false true = refl
and-false false = refl

not_start : (bs : List Character) (joined : Bool) → is_nil bs ≡ false → is_start (state_over bs joined) ≡ false
not_start [] joined h = cc
not_start (b ∷ bs) joined h = elim (is_space_class b.class) as (λ q. is_space_class b.class ≡ q →
    (is_space_class (nearest_of (if q then past_spaces bs else b ∷ bs)).class && not q) ≡ false) [
      | true ↦ λ _. and-false (is_space_class (nearest_of (past_spaces bs)).class)
      | false ↦ λ e. ap (λ q. q && true) e
    ] refl

-- a base, whether a Hebrew letter stands before it, and whether it opens half a flag
abbrev direct_by : Character → Bool → Bool → Character → Bool
direct_by l hebrew half r =
    is_word_joiner l.class || is_glue l.class || (is_glue r.class && not (is_hyphen_class l.class))
    || is_quotation l.class || is_quotation r.class
    || (not (is_contingent l.class || is_contingent r.class)
    && (joins l r || (is_hyphen_class l.class && hebrew) || (half && is_regional r.class)))

direct-is : (bs : List Character) (joined : Bool) (r : Character) → is_nil bs ≡ false →
    keeps_beside bs r ≡ keeps_direct (state_over bs joined) r
direct-is [] joined r h = cc
direct-is (b ∷ bs) joined r h = elim (is_space_class b.class) as (λ q.
    (not q && direct_by b (nearest_is is_hebrew bs) (ends_in_half_flag (b ∷ bs)) r)
    ≡ (not q && direct_by (nearest_of (if q then past_spaces bs else b ∷ bs)) (nearest_is is_hebrew bs)
    (ends_in_half_flag (b ∷ bs)) r)) [ true ↦ refl | false ↦ refl ]

keeps-is : (bs : List Character) (joined : Bool) (r : Character) → is_nil bs ≡ false →
    keeps bs r ≡ keeps_in (state_over bs joined) r
keeps-is bs joined r h = cc (
  nearest-any is_opening refl (past_spaces bs),
  nearest-any is_quotation refl (past_spaces bs),
  nearest-any is_bracket_end refl (past_spaces bs),
  nearest-any is_dash refl (past_spaces bs),
  direct-is bs joined r h,
)

between-is : (bs : List Character) (joined : Bool) (x : Character) → is_nil bs ≡ false →
    between bs joined x ≡ break_in (state_over bs joined) x
between-is bs joined x h = cc (
  not_start bs joined h,
  beside is_carriage_return refl bs,
  beside is_hard refl bs,
  nearest-any is_zero_width_space refl (past_spaces bs),
  beside takes_marks refl bs,
  keeps-is bs joined (base_of x) h,
)

pub break-is : (before : List ℕ) (c : ℕ) → break_before before c ≡ break_in (state_of before) (character_of c)
break-is [] c = refl
break-is (b ∷ before) c =
    between-is (bases (b ∷ before)) (ends_joined (b ∷ before)) (character_of c) (bases-some b before)

-- ---- the opportunities that are still to come

pub breaks-are : (before : List ℕ) (at : ℕ) (cs : List ℕ) →
    breaks_from before at cs ≡ breaks_after (state_of before) at cs
breaks-are [] at [] = refl
breaks-are (b ∷ before) at [] = cc (not_start (bases (b ∷ before)) (ends_joined (b ∷ before)) (bases-some b before))
breaks-are before at (c ∷ cs) = cc (
  break-is before c,
  state-step c before,
  breaks-are (c ∷ before) (at + length (encode_utf8 c)) cs,
)
