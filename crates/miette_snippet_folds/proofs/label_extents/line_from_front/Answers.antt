use Rattle.std.proofs.Common.{ℕ, ◌≡◌, ◌+◌, List, ap, ◌∙◌}
use Rattle.std.proofs.lemmas.Result.{IfOk-weaker}
use Rattle.miette_lines.specs.rules.Lines.{line_of}
use Rattle.miette_snippet_folds.specs.steps.LineNumbers.{IsLineIn}
use Rattle.miette_snippet_folds.proofs.LineNumbers.{front_is}
use Rattle.miette_snippet_folds.proofs.label_extents.line_from_front.Goals as goal

pub returns : goal.returns
returns c =
    IfOk-weaker c.line_after.result (λ line. line ≡ c.args.contents.now.line + c.line_of.result)
    (IsLineIn c.args.contents.now c.args.offset)
    (λ line e. front_is c.args.contents.now c.args.offset c.bytes_before.result c.line_of.result line
    c.bytes_before.ensures
    (c.line_of.ensures ∙ ap (λ (xs : List ℕ). line_of xs c.bytes_before.result) c.data.ensures) e)
    c.line_after.ensures
