-- Why edits can't be applied to a source.
use Rattle.std.proofs.Common.{◌≡◌, ◌≢◌, ℕ, false, List, Option, Some, None, refl, sym, ap, ◌∙◌}
use Rattle.std.specs.List.{list_any, position_or_len}
use Rattle.miette_lines.proofs.Cases.{by_cases}
use Rattle.miette_fixes.specs.declared.error.FixError.{FixError}
use Rattle.miette_fixes.specs.declared.error.FixError.TheVariants.{OutOfBounds, Memory}
use Rattle.miette_fixes.specs.rules.Applying.{edits_error}
use Rattle.miette_fixes.specs.rules.Edits.{Replacement, ends_after}

never_both : {X : Type 0} (o : Option X) (x : X) → o ≡ None → o ≡ Some x → ⊥
never_both o x e f = cc

-- none of edits that can be applied ends past the end
pub applied_inside : (n : ℕ) (edits : List Replacement) → edits_error n edits ≡ None
    → list_any (ends_after n) edits ≡ false
applied_inside n edits e =
    by_cases {C = list_any (ends_after n) edits ≡ false} (list_any (ends_after n) edits)
    (λ t. absurd (never_both (edits_error n edits) (OutOfBounds (position_or_len (ends_after n) edits)) e (rw t refl)))
    (λ f. f)

-- edits that are refused for a place aren't refused for memory
pub refused_so : {edit : ℕ} (n : ℕ) (edits : List Replacement) (e : FixError)
    → (e ≢ Memory → edits_error n edits ≡ Some e) → e ≡ OutOfBounds edit
    → edits_error n edits ≡ Some (OutOfBounds edit)
refused_so {edit} n edits e h is = h (λ m. (let no : OutOfBounds edit ≡ Memory = sym is ∙ m in cc)) ∙ ap Some is
