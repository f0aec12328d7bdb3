-- A walk over a text that passes whole sequences, and white characters where these may be passed too.
use Rattle.std.proofs.Common.{◌≡◌, ◌≢◌, ℕ, ◌<◌, ◌≤◌, ◌+◌, Bool, true, false, Option, List, [], ◌∷◌, length, get_or}
use Rattle.std.proofs.Common.{drop}
use Rattle.std.proofs.Common.{refl, sym, ap, ◌∙◌}
use Rattle.std.proofs.lemmas.List.{drop_all}
use Rattle.miette_text.specs.declared.wrapping.blank_lines.SequenceState.{SequenceState}
use Rattle.miette_text.specs.declared.wrapping.blank_lines.SequenceState.TheVariants.{Outside, Escape, Control, Command}
use Rattle.miette_text.specs.declared.wrapping.blank_lines.SequenceState.TheVariants.{CommandEscape}
use Rattle.miette_text.specs.steps.WholeText.{passed_from, passed_through}
use Rattle.miette_text.proofs.Fitting.{front}

pub passed-next : (place : SequenceState) (b : Bool) (cs : List ℕ) (n c m : ℕ) (next : Option SequenceState)
    → (n < length cs) × (c ≡ get_or cs n c) → ((ds : List ℕ) → passed_from place b (c ∷ ds) ≡ passed_through next b ds)
    → m ≡ n + 1 → passed_from place b (drop n cs) ≡ passed_through next b (drop m cs)
passed-next place b cs n c m next t told e =
    ap (passed_from place b) (front cs n c t) ∙ told (drop (n + 1) cs)
    ∙ ap (λ i. passed_through next b (drop i cs)) (sym e)

-- between sequences
abbrev pub is_outside : SequenceState → Bool
is_outside Outside = true
is_outside Escape = false
is_outside Control = false
is_outside Command = false
is_outside CommandEscape = false

pub not-outside : (place : SequenceState) → place ≢ Outside → is_outside place ≡ false
not-outside Outside h = absurd (h refl)
not-outside Escape h = refl
not-outside Control h = refl
not-outside Command h = refl
not-outside CommandEscape h = refl

none-left : (place : SequenceState) (b : Bool) → passed_from place b [] ≡ is_outside place
none-left Outside b = refl
none-left Escape b = refl
none-left Control b = refl
none-left Command b = refl
none-left CommandEscape b = refl

pub passed-end : (place : SequenceState) (b : Bool) (cs : List ℕ) (n : ℕ) → length cs ≤ n
    → passed_from place b (drop n cs)
    ≡ is_outside place
passed-end place b cs n h = ap (passed_from place b) (drop_all n cs h) ∙ none-left place b
