use Rattle.std.proofs.Common.{◌≡◌, drop, map}
use Rattle.miette_style.specs.views.Printouts.{◌⊕◌}
use Rattle.miette_style.specs.views.Tokens.{row_tokens}
use Rattle.miette_snippet_rules.specs.rules.SnippetSettings.{SnippetSettings}
use Rattle.miette_snippet_rules.specs.views.MadeUnderlines.{underline_of}
use Rattle.miette_fix_rows.specs.rules.DiffTexts.{sign_runs}
use Rattle.miette_fix_drawing.proofs.edit_underline_row.push_sign_runs.Given as goal

abbrev pub invariant-loop-mark : goal.invariant-loop-mark
invariant-loop-mark g l = (s : SnippetSettings)
    → l.page ⊕ row_tokens (sign_runs s l.sign l.reached (map underline_of (drop l.mark-index l.marks)))
    ≡ l.fn.page ⊕ row_tokens (sign_runs s l.sign 0 (map underline_of l.marks))
