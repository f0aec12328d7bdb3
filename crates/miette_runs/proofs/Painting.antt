-- Runs in a style.
use Rattle.std.proofs.Common.{◌≡◌, ℕ, ◌<◌, true, false, length, List, [], ◌∷◌, ◌++◌, refl, sym, ap, ◌∙◌, arith}
use Rattle.std.proofs.Common.{append_assoc}
use Rattle.std.specs.Str.{chars}
use Rattle.miette_runs.specs.rules.Runs.{printed_run}
use Rattle.miette_style.specs.rules.Codes.{colour_start, colour_stop, style_codes}
use Rattle.miette_lines.specs.rules.Lists.{is_nil}
use Rattle.miette_style.specs.declared.style.Style.{Style}

pub run-plain : (s : Style) (text : List ℕ) → is_nil (style_codes s) ≡ true → printed_run s text ≡ text
run-plain s [] h = refl
run-plain s (c ∷ cs) h = elim (style_codes s) as (λ xs. is_nil xs ≡ true
    → (elim xs as (λ _. List ℕ) [ [] ↦ c ∷ cs | y ∷ ys ↦ colour_start s ++ (c ∷ cs) ++ colour_stop ]) ≡ c ∷ cs) [
      | [] ↦ λ e. refl
      | y ∷ ys ↦ λ e. absurd (cc)
    ] h

pub run-styled : (s : Style) (text : List ℕ) → 0 < length text → is_nil (style_codes s) ≡ false → printed_run s text
    ≡ (colour_start s ++ text) ++ colour_stop
run-styled s [] l h = absurd (omega arith)
run-styled s (c ∷ cs) l h = elim (style_codes s) as (λ xs. is_nil xs ≡ false
    → (elim xs as (λ _. List ℕ) [ [] ↦ c ∷ cs | y ∷ ys ↦ colour_start s ++ (c ∷ cs) ++ colour_stop ])
    ≡ (colour_start s ++ (c ∷ cs)) ++ colour_stop) [
      | [] ↦ λ e. absurd (cc)
      | y ∷ ys ↦ λ e. refl
    ] h

pub run-pushed : (s : Style) (text o o1 o2 o3 : List ℕ) → 0 < length text → is_nil (style_codes s) ≡ false → o1 ≡ o
    ++ colour_start s → o2 ≡ o1 ++ text → o3 ≡ o2 ++ colour_stop → o3 ≡ o ++ printed_run s text
run-pushed s text o o1 o2 o3 l h e f g =
    g ∙ ap (λ x. x ++ colour_stop) (f ∙ ap (λ x. x ++ text) e)
    ∙ append_assoc (o ++ colour_start s) text colour_stop
    ∙ append_assoc o (colour_start s) (text ++ colour_stop)
    ∙ ap (λ x. o ++ x) (sym (append_assoc (colour_start s) text colour_stop) ∙ sym (run-styled s text l h))

pub chars-none : chars [] ≡ []
unfolding chars
chars-none = refl

pub run-empty : (s : Style) (bs : List ℕ) → length bs ≡ 0 → printed_run s (chars bs) ≡ chars bs
run-empty s [] h = ap (λ text. printed_run s text) chars-none ∙ sym chars-none
run-empty s (b ∷ bs) h = absurd (omega arith)
