-- Letters of ASCII, and spaces, after a letter.
use Rattle.std.proofs.Common.{◌≡◌, ℕ, Bool, true, false, not, ◌||◌, if◌then◌else◌, refl, sym, ap, ap₂, ◌∙◌}
use Rattle.std.proofs.Common.{Some, None}
use Rattle.std.proofs.lemmas.Bool.{and_parts}
use Rattle.std.specs.Char.{is_ascii_alphabetic}
use Rattle.ucd_breaks.specs.declared.LineBreak.{LineBreak}
use Rattle.ucd_breaks.specs.declared.LineBreak.TheVariants.{Alphabetic}
use Rattle.miette_line_breaks.specs.declared.opportunity.BreakOpportunity.TheVariants.{Allowed}
use Rattle.miette_line_breaks.specs.declared.state.BreakState.{BreakState}
use Rattle.miette_line_breaks.specs.rules.Characters.{lone_mark}
use Rattle.miette_line_breaks.specs.steps.States.{break_in, is_alphabetic, is_in_word, is_plain, spaced, state_after}
use Rattle.miette_line_breaks.specs.views.Places.{after_code, found_before}
use Rattle.miette_line_breaks.proofs.AsciiClasses.{alphabetic_is, letter-is, space-is, space_character}

-- after a letter, or spaces after it
abbrev plain_state : Bool → BreakState
plain_state b = record {
  base = lone_mark;
  is_spaced = b;
  is_joined = false;
  follows_hebrew = false;
  has_half_flag = false;
}

-- of five tests
pub none-counts : (a b c d e : Bool) → not (a || b || c || d || e) ≡ true →
    (a ≡ false) × (b ≡ false) × (c ≡ false) × (d ≡ false) × (e ≡ false)
none-counts true b c d e h = absurd (cc)
none-counts false true c d e h = absurd (cc)
none-counts false false true d e h = absurd (cc)
none-counts false false false true e h = absurd (cc)
none-counts false false false false true h = absurd (cc)
none-counts false false false false false h = (refl, refl, refl, refl, refl)

-- a state of these parts
abbrev pub made : LineBreak → Bool → Bool → Bool → Bool → Bool → Bool → BreakState
made class wide future spaced joined hebrew half = record {
  base = record { class = class; is_wide = wide; is_future_emoji = future };
  is_spaced = spaced;
  is_joined = joined;
  follows_hebrew = hebrew;
  has_half_flag = half;
}

plain-is : (s : BreakState) → is_plain s ≡ true → s ≡ plain_state s.is_spaced
plain-is s h =
    let p = and_parts (is_alphabetic s.base.class)
    (not (s.base.is_wide || s.base.is_future_emoji || s.is_joined || s.follows_hebrew || s.has_half_flag)) h in
    let n = none-counts s.base.is_wide s.base.is_future_emoji s.is_joined s.follows_hebrew s.has_half_flag p.1 in
    ap₂ (λ k w. made k w s.base.is_future_emoji s.is_spaced s.is_joined s.follows_hebrew s.has_half_flag)
    (alphabetic_is s.base.class p.0) n.0
    ∙ ap₂ (λ f j. made Alphabetic false f s.is_spaced j s.follows_hebrew s.has_half_flag) n.1 n.2
    ∙ ap₂ (λ h g. made Alphabetic false false s.is_spaced false h g) n.3 n.4

letter-found : (b : Bool) → break_in (plain_state b) lone_mark ≡ (if b then Some Allowed else None)
letter-found true = refl
letter-found false = refl

letter-after : (b : Bool) → state_after (plain_state b) lone_mark ≡ plain_state false
letter-after true = refl
letter-after false = refl

space-found : (b : Bool) → break_in (plain_state b) space_character ≡ None
space-found true = refl
space-found false = refl

space-after : (b : Bool) → state_after (plain_state b) space_character ≡ plain_state true
space-after true = refl
space-after false = refl

pub plain-letter : (s : BreakState) (c : ℕ) → is_plain s ≡ true → is_ascii_alphabetic c ≡ true →
    (found_before s c ≡ (if s.is_spaced then Some Allowed else None)) × (after_code s c ≡ spaced false s)
plain-letter s c h l =
    let e = plain-is s h in
    let x = letter-is c l in (
      ap₂ break_in e x ∙ letter-found s.is_spaced,
      ap₂ state_after e x ∙ letter-after s.is_spaced ∙ ap (spaced false) (sym e),
    )

pub plain-space : (s : BreakState) → is_plain s ≡ true → (found_before s 32 ≡ None) × (after_code s 32 ≡ spaced true s)
plain-space s h =
    let e = plain-is s h in (
      ap₂ break_in e space-is ∙ space-found s.is_spaced,
      ap₂ state_after e space-is ∙ space-after s.is_spaced ∙ ap (spaced true) (sym e),
    )

no-spaces : (b : Bool) → not b ≡ true → b ≡ false
no-spaces true h = absurd (cc)
no-spaces false h = refl

pub in-word : (s : BreakState) (c : ℕ) → is_in_word s ≡ true → is_ascii_alphabetic c ≡ true →
    (found_before s c ≡ None) × (after_code s c ≡ s)
in-word s c h l =
    let p = and_parts (not s.is_spaced) (is_plain s) h in
    let r = plain-letter s c p.1 l in
    let f = no-spaces s.is_spaced p.0 in
    (r.0 ∙ ap (λ (b : Bool). if b then Some Allowed else None) f, r.1 ∙ ap (λ b. spaced b s) (sym f))
