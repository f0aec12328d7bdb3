-- The row of a fix whose source can't be read.
use Rattle.miette_style.specs.views.Printouts.{Printout, ◌⊕◌}
use Rattle.std.proofs.Common.{◌≡◌, true, false, eqb, eqb-true, List, [], ◌∷◌, length, sym, refl, ap, ◌∙◌, arith}
use Rattle.std.specs.Prelude.{codes}
use Rattle.miette_protocol.specs.rules.Reading.{Source}
use Rattle.miette_style.specs.views.Tokens.{rows_tokens}
use Rattle.miette_snippet_rules.specs.rules.SnippetSettings.{SnippetSettings}
use Rattle.miette_fixes.specs.rules.Edits.{Replacement}
use Rattle.miette_fix_rows.specs.rules.DiffRows.{fix_rows, refused_fix_row}

empty_put : (s : SnippetSettings) (whole : Source) (edits : List Replacement) (p : Printout)
    → eqb (length edits) 0 ≡ true → p ≡ p ⊕ rows_tokens (fix_rows s whole true edits)
empty_put s whole [] p e = refl
empty_put s whole (edit ∷ edits) p e = absurd (omega (arith, eqb-true (length (edit ∷ edits)) 0 e))

some_put : (s : SnippetSettings) (whole : Source) (edits : List Replacement) (p n : Printout)
    → eqb (length edits) 0 ≡ false → n ≡ p ⊕ rows_tokens (refused_fix_row s (codes "IoError") ∷ [])
    → n ≡ p ⊕ rows_tokens (fix_rows s whole true edits)
some_put s whole [] p n e h = absurd (cc)
some_put s whole (edit ∷ edits) p n e h = h

-- a fix without edits, and one with some
pub no_edit_put : (s : SnippetSettings) (whole : Source) (given edits : List Replacement) (p : Printout) → given ≡ edits
    → eqb (length given) 0 ≡ true → p ≡ p ⊕ rows_tokens (fix_rows s whole true edits)
no_edit_put s whole given edits p g e = empty_put s whole edits p (sym (ap (λ es. eqb (length es) 0) g) ∙ e)

pub edits_put : (s : SnippetSettings) (whole : Source) (given edits : List Replacement) (p n : Printout) → given ≡ edits
    → eqb (length given) 0 ≡ false → n ≡ p ⊕ rows_tokens (refused_fix_row s (codes "IoError") ∷ [])
    → n ≡ p ⊕ rows_tokens (fix_rows s whole true edits)
edits_put s whole given edits p n g e h = some_put s whole edits p n (sym (ap (λ es. eqb (length es) 0) g) ∙ e) h
