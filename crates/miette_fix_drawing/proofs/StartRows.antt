-- What stands before the text of a line.
use Rattle.miette_style.specs.views.Printouts.{Printout, ◌⊕◌}
use Rattle.std.proofs.Common.{ℕ, ◌-◌, ◌≡◌, List, [], ◌∷◌, ◌++◌, length, replicate, decimal, sym, ◌∙◌}
use Rattle.miette_style.specs.rules.Rows.{styled_run}
use Rattle.miette_style.specs.views.Tokens.{begins, row_tokens, styled_tokens, text_tokens}
use Rattle.miette_style.specs.rules.Styles.{plain}
use Rattle.miette_snippet_rules.specs.rules.LabelRows.{blank}
use Rattle.miette_snippet_rules.specs.rules.Frames.{number_start}
use Rattle.miette_snippet_rules.specs.rules.SnippetSettings.{SnippetSettings}
use Rattle.miette_snippet_rules.proofs.RowTokens.{then, told_as, run_one, blank_row, styled_row}
use Rattle.miette_snippet_frames.proofs.TextRows.{parts_then}
use Rattle.miette_fix_drawing.specs.steps.Starts.{digits_row}

pub digits_put : (s : SnippetSettings) (w number : ℕ) (p b l d : Printout) → b ≡ p ⊕ styled_tokens plain
    (replicate 1 32)
    → l ≡ b ⊕ begins s.theme.styles.linum ∷ []
    → d ≡ l ⊕ text_tokens (replicate (w - length (decimal number)) 32 ++ decimal number)
    → d ≡ p ⊕ row_tokens (digits_row s w number)
digits_put s w number p b l d hb hl hd =
    let digits : List ℕ = replicate (w - length (decimal number)) 32 ++ decimal number in
    let blanked : b ≡ p ⊕ row_tokens (blank s 1 ∷ []) =
    told_as p (styled_tokens plain (replicate 1 32)) (row_tokens (blank s 1 ∷ [])) hb (sym (blank_row s 1)) in
    let numbered : d ≡ b ⊕ row_tokens (styled_run s.width s.theme.styles.linum digits ∷ []) =
    told_as b (styled_tokens s.theme.styles.linum digits)
    (row_tokens (styled_run s.width s.theme.styles.linum digits ∷ []))
    (then b (begins s.theme.styles.linum ∷ []) (text_tokens digits) hl hd)
    (sym (styled_row s.width s.theme.styles.linum digits))
    in
    parts_then (blank s 1 ∷ []) (styled_run s.width s.theme.styles.linum digits ∷ []) p b d blanked numbered

pub number_put : (s : SnippetSettings) (w number : ℕ) (p d v n : Printout) → d ≡ p ⊕ row_tokens (digits_row s w number)
    → v ≡ d ⊕ styled_tokens plain (32 ∷ s.theme.characters.vbar ∷ []) → n ≡ v ⊕ text_tokens (32 ∷ [])
    → n ≡ p ⊕ row_tokens (number_start s w number)
number_put s w number p d v n hd hv hn =
    let bar : List ℕ = 32 ∷ s.theme.characters.vbar ∷ 32 ∷ [] in
    let barred : n ≡ d ⊕ row_tokens (styled_run s.width plain bar ∷ []) =
    told_as d (styled_tokens plain (32 ∷ s.theme.characters.vbar ∷ []) ++ text_tokens (32 ∷ []))
    (row_tokens (styled_run s.width plain bar ∷ [])) (then d (styled_tokens plain (32 ∷ s.theme.characters.vbar ∷ []))
    (text_tokens (32 ∷ [])) hv hn)
    (run_one plain (32 ∷ s.theme.characters.vbar ∷ []) 32 ∙ sym (styled_row s.width plain bar)) in
    parts_then (digits_row s w number) (styled_run s.width plain bar ∷ []) p d n hd barred
