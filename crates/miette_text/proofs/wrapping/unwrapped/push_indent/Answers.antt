use Rattle.std.proofs.Common.{◌++◌, ◌∙◌, ap, sym}
use Rattle.std.proofs.lemmas.Result.{on_ok_weaker}
use Rattle.miette_runs.specs.rules.Sequences.{spell}
use Rattle.miette_runs.specs.views.Interleaving.{interleaving}
use Rattle.miette_text.specs.steps.WholeText.{indent_before}
use Rattle.miette_text.proofs.wrapping.unwrapped.push_indent.Goals as goal

pub returns-in_default : goal.returns-in_default
returns-in_default g c =
    let o = g.S.Canvas.written c.args.out.now in
    on_ok_weaker c.push_runs_slice.result (λ h. h ∙ ap (λ ts. o ++ spell ts) c.indent_before.ensures)
    c.push_runs_slice.ensures

pub returns-then-is_white : goal.returns-then-is_white
returns-then-is_white g c =
    let o = g.S.Canvas.written c.args.out.now in
    let indent = interleaving 0 c.args.indent.codes.now c.args.indent.tags.now in
    let both = rw c.in-Some.is at c.requires in
    on_ok_weaker c.push_str.result (λ h. h ∙ ap (λ us. o ++ us) both.1
    ∙ ap (λ b. o ++ spell (indent_before b indent)) (sym c.if-is_white.true)) c.push_str.ensures

pub returns : goal.returns
returns g c =
    let o = g.S.Canvas.written c.args.out.now in
    let indent = interleaving 0 c.args.indent.codes.now c.args.indent.tags.now in
    let both = rw c.in-Some.is at c.requires in
    on_ok_weaker c.push_str-2.result (λ h. h ∙ ap (λ us. o ++ us) both.0
    ∙ ap (λ b. o ++ spell (indent_before b indent)) (sym c.if-is_white.false)) c.push_str-2.ensures
