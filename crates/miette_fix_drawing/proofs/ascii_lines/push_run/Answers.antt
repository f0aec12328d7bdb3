use Rattle.std.proofs.Common.{[], ◌∷◌, ◌∙◌, ap}
use Rattle.std.specs.Str.{chars}
use Rattle.std.proofs.lemmas.Str.{IsUtf8-from_ascii, chars-IsAscii}
use Rattle.std.proofs.lemmas.Result.{on_ok_weaker}
use Rattle.miette_style.specs.views.Printouts.{◌⊕◌}
use Rattle.miette_style.specs.views.Tokens.{begins, text_tokens}
use Rattle.miette_snippet_rules.proofs.RowTokens.{then}
use Rattle.miette_snippet_rules.proofs.CutPlain.{printable_ascii}
use Rattle.miette_fix_drawing.proofs.ascii_lines.push_run.Goals as goal

pub unreachable-requires : goal.unreachable-requires
unreachable-requires g c =
    c.in_default.ensures.cases.0 (IsUtf8-from_ascii c.args.bytes.now (printable_ascii c.args.bytes.now c.requires))

pub returns : goal.returns
returns g c =
    on_ok_weaker c.push_str.result (λ h.
    then c.args.page.now (begins c.args.style ∷ []) (text_tokens c.args.bytes.now) c.in_ok-begin.ensures
    (h
    ∙ ap (λ x. c.begin.new.self ⊕ text_tokens x) (ap chars c.in-Ok.ensures.cases.0
    ∙ chars-IsAscii c.args.bytes.now (printable_ascii c.args.bytes.now c.requires)))) c.push_str.ensures
