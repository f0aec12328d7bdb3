-- Signs have no columns.
use Rattle.std.proofs.Common.{◌≡◌, ℕ, suc, ◌+◌, List, [], ◌∷◌, map, refl, sym, ap, ap₂, ◌∙◌, zero-add}
use Rattle.std.proofs.lemmas.List.Sums.{sum_by-append, sum_by-cons}
use Rattle.miette_runs.specs.steps.Cells.{code_columns}
use Rattle.miette_runs.specs.rules.Sequences.{Character}
use Rattle.miette_runs.specs.views.Interleaving.{beyond, tag_token, upto, interleaving}
use Rattle.miette_runs.specs.rules.Cells.{printed_columns, token_width, width}
use Rattle.miette_runs.specs.declared.runs.sign.Tag.{Tag}

signs-columns : (ms : List Tag) → printed_columns (map tag_token ms) ≡ 0
signs-columns [] = refl
signs-columns (m ∷ ms) = sum_by-cons token_width (tag_token m) (map tag_token ms)
    ∙ zero-add (printed_columns (map tag_token ms)) ∙ signs-columns ms

pub woven-columns : (at : ℕ) (cs : List ℕ) (ms : List Tag) → code_columns cs ≡ printed_columns (interleaving at cs ms)
woven-columns at [] ms = sym (signs-columns ms)
woven-columns at (c ∷ cs) ms =
    let ts = interleaving (suc at) cs (beyond at ms) in
    sum_by-cons width c cs
    ∙ ap (λ n. width c + n) (woven-columns (suc at) cs (beyond at ms))
    ∙ sym (sum_by-append token_width (map tag_token (upto at ms)) (Character c ∷ ts)
    ∙ ap₂ (λ m n. m + n) (signs-columns (upto at ms)) (sum_by-cons token_width (Character c) ts)
    ∙ zero-add (width c + printed_columns ts))
