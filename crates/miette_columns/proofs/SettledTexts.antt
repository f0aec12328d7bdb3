-- Characters after which what they leave to be read is the same: the width of a text and theirs are together the width
-- of what ends with them and that of what begins with them.
use Rattle.std.proofs.Common.{ℕ, ◌+◌, ◌≡◌, Bool, true, false, cond, ◌&&◌, ◌||◌, ◌==◌, List, [], ◌∷◌, ◌++◌, Option, Some}
use Rattle.std.proofs.Common.{None, refl, sym, ap, subst, add_comm, ◌∙◌, eqb-true, inl, inr}
use Rattle.std.specs.Prelude.{chars, if◌then◌else◌}
use Rattle.std.proofs.lemmas.Bool.{and_parts, or_cases, cond-true, cond-false}
use Rattle.std.proofs.lemmas.Option.{none-some, same_Some}
use Rattle.miette_lines.proofs.Cases.{by_cases}
use Rattle.ucd_emoji.specs.Binary.{is_emoji_variation_base}
use Rattle.unicode_width.specs.declared.state.After.{After}
use Rattle.unicode_width.specs.declared.state.After.TheVariants as afters
use Rattle.unicode_width.specs.declared.state.State.{State}
use Rattle.unicode_width.specs.Width.{before, plain, alone, Reading, added, is_plain, past_emoji, in_context, step}
use Rattle.unicode_width.specs.Width.{read_before, str_width}
use Rattle.unicode_width.proofs.Computing.{unicode_width}
use Rattle.miette_columns.specs.declared.overlap.Overlap.{Overlap}
use Rattle.miette_columns.specs.declared.overlap.Overlap.TheVariants.{One, Selected}
use Rattle.miette_columns.specs.steps.SplitPoints.{joins_only_by_joiner, is_keeping, opens, end_overlap}
use Rattle.miette_columns.specs.steps.Checkpoints.{overlap_text, IsHeld}
use Rattle.miette_columns.proofs.Lone.{shifted, read_append}
use Rattle.miette_columns.proofs.Opening.{IsOpen, plain_open, step_opens}
use Rattle.miette_columns.proofs.Overlaps.{own_state, step_closing, held_no_indicator}
use Rattle.miette_columns.proofs.Keeping.{step_keeping, no_indicator}

-- what some characters leave to be read is the same, whatever state that selects and modifies nothing is after them
abbrev pub Settles : List ℕ → Type 0
Settles cs = (left : State) × ((t : ℕ) (s : State) → IsOpen s → (read_before false cs (t, s)).1 ≡ left)

same_reading : (a b : Reading) → a.0 ≡ b.0 → a.1 ≡ b.1 → a ≡ b
same_reading (t, s) (u, r) e f = ap (λ n. (n, s)) e ∙ ap (λ x. (u, x)) f

pub settled : (xs cs ys : List ℕ) (next : ℕ) → opens next ≡ true → Settles cs
    → str_width false (xs ++ (cs ++ next ∷ ys)) + str_width false cs ≡ str_width false (xs ++ cs)
    + str_width false (cs ++ next ∷ ys)
settled xs cs ys next h (left, leaves) =
    let w = str_width false cs in
    let v = str_width false (cs ++ next ∷ ys) in
    let one = read_before false cs (v, plain) in
    let rest = read_before false ys (w, plain) in
    let ahead = step false next rest in
    let all = read_before false (cs ++ next ∷ ys) (w, plain) in
    let all_state : all.1 ≡ left = ap (λ r. r.1) (read_append cs (next ∷ ys) (w, plain))
    ∙ leaves ahead.0 ahead.1 (step_opens next rest.0 rest.1 h) in
    let one_state : one.1 ≡ left = leaves v plain plain_open in
    let all_total : all.0 ≡ v + w = shifted (cs ++ next ∷ ys) w in
    let one_total : one.0 ≡ w + v = shifted cs v in
    let same : all ≡ one = same_reading all one (all_total ∙ add_comm v w ∙ sym one_total) (all_state ∙ sym one_state)
    in
    sym (shifted (xs ++ (cs ++ next ∷ ys)) w) ∙ ap (λ r. r.0) (read_append xs (cs ++ next ∷ ys) (w, plain))
    ∙ ap (λ r. (read_before false xs r).0) same
    ∙ sym (ap (λ r. r.0) (read_append xs cs (v, plain))) ∙ shifted (xs ++ cs) v

-- ---- an emoji that is selected

emoji_cond : (b : Bool) (x y : Reading) → x.1.emoji ≡ true → y.1.emoji ≡ true → (cond b x y).1.emoji ≡ true
emoji_cond true x y p q = p
emoji_cond false x y p q = q

selected_alone : (t : ℕ) → (added t (alone false 0xFE0F)).1.emoji ≡ true
unfolding unicode_width
selected_alone t = refl

selected_in : (t : ℕ) (s : State) → (in_context false 0xFE0F t s).1.emoji ≡ true
unfolding in_context
selected_in t s = refl

selected_past : (t : ℕ) (after : After) → (past_emoji false 0xFE0F t (before after)).1.emoji ≡ true
unfolding past_emoji
selected_past t after = emoji_cond (is_plain (before after)) (added t (alone false 0xFE0F))
    (in_context false 0xFE0F t (before after)) (selected_alone t) (selected_in t (before after))

selected : (t : ℕ) (s : State) → IsOpen s → (step false 0xFE0F (t, s)).1.emoji ≡ true
unfolding step
selected t s (after, (e, u)) = ap (λ x. (step false 0xFE0F (t, x)).1.emoji) e ∙ selected_past t after

base_read : (c t : ℕ) (s : State) → s.emoji ≡ true → is_emoji_variation_base c ≡ true → (step false c (t, s)).1
    ≡ before afters.Emoji
unfolding step
base_read c t s e h = rw (e, h) refl

settles_selected : (c : ℕ) → is_emoji_variation_base c ≡ true → Settles (c ∷ 0xFE0F ∷ [])
settles_selected c h = (
  before afters.Emoji,
  λ t s is.
      let selector = step false 0xFE0F (t, s) in
      base_read c selector.0 selector.1 (selected t s is) h,
)

-- ---- what is overlap settles, and is no half flag

settles_one : (c : ℕ) → (joins_only_by_joiner c || is_keeping c) ≡ true → Settles (c ∷ [])
settles_one c h =
    elim (or_cases (joins_only_by_joiner c) (is_keeping c) h) [
      | inl e ↦ (own_state c, λ t s is. step_closing c t s is e)
      | inr e ↦ ((alone false c).1, λ t s is. step_keeping c t s is e)
    ]

one_held : (c : ℕ) → (joins_only_by_joiner c || is_keeping c) ≡ true → IsHeld (One c)
one_held c h =
    elim (or_cases (joins_only_by_joiner c) (is_keeping c) h) [
      | inl e ↦ held_no_indicator c e
      | inr e ↦ no_indicator c e
    ]

-- a text that ends with some characters
pub record EndsIn (text cs : List ℕ) : Type 0 where
  pub front : List ℕ
  pub is : chars text ≡ front ++ cs

abbrev pub IsEnd : List ℕ → Overlap → Type 0
IsEnd text first = EndsIn text (overlap_text first) × (Settles (overlap_text first) × IsHeld first)

-- what is overlap of its last characters
pub end_settles : (text : List ℕ) (before last : ℕ) (first : Overlap) → EndsIn text (last ∷ [])
    → (is_emoji_variation_base before ≡ true → EndsIn text (before ∷ last ∷ [])) → end_overlap before last ≡ Some first
    → IsEnd text first
end_settles text before last first one two some =
    let other : Option Overlap = if (last == 0xFE0F) && is_emoji_variation_base before then Some (Selected before)
    else None in
    by_cases {C = IsEnd text first} (joins_only_by_joiner last || is_keeping last)
    (λ y.
    let e : One last ≡ first = same_Some (One last) first
    (sym (cond-true (joins_only_by_joiner last || is_keeping last) (Some (One last)) other y) ∙ some) in
    subst (IsEnd text) e (one, (settles_one last y, one_held last y)))
    (λ n.
    let more : other ≡ Some first = sym (cond-false (joins_only_by_joiner last || is_keeping last) (Some (One last))
    other n)
    ∙ some in
    by_cases {C = IsEnd text first} ((last == 0xFE0F) && is_emoji_variation_base before)
    (λ y.
    let both = and_parts (last == 0xFE0F) (is_emoji_variation_base before) y in
    let e : Selected before ≡ first = same_Some (Selected before) first
    (sym (cond-true ((last == 0xFE0F) && is_emoji_variation_base before) (Some (Selected before)) None y) ∙ more) in
    subst (IsEnd text) e (
      subst (λ k. EndsIn text (before ∷ k ∷ [])) (eqb-true last 0xFE0F both.0) (two both.1),
      (settles_selected before both.1, refl),
    ))
    (λ m. absurd (none-some first (sym (cond-false ((last == 0xFE0F) && is_emoji_variation_base before)
    (Some (Selected before)) None m) ∙ more))))
