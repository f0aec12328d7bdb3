use Rattle.std.proofs.Common.{Bool, ◌++◌, ◌∙◌, ap, append_assoc, chars, sym, if◌then◌else◌}
use Rattle.std.proofs.lemmas.Result.{on_ok_weaker}
use Rattle.miette_runs.specs.rules.Sequences.{spell}
use Rattle.miette_runs.specs.views.Interleaving.{interleaving}
use Rattle.miette_text.specs.steps.WholeText.{indent_before, line_indent, line_under}
use Rattle.miette_text.proofs.wrapping.unwrapped.push_last.Goals as goal

pub returns-then-is_passed : goal.returns-then-is_passed
returns-then-is_passed g c =
    let o = g.S.Canvas.written c.args.out.now in
    let line = chars c.args.line.now in
    let under = line_under (interleaving 0 c.args.indent.codes.now c.args.indent.tags.now) line in
    on_ok_weaker c.push_str.result (λ h. h ∙ ap (λ (b : Bool). o ++ (if b then line else under))
    (sym (sym c.is_passed.ensures ∙ c.if-is_passed.true))) c.push_str.ensures

pub returns : goal.returns
returns g c =
    let o = g.S.Canvas.written c.args.out.now in
    let line = chars c.args.line.now in
    let indent = interleaving 0 c.args.indent.codes.now c.args.indent.tags.now in
    let under = line_under indent line in
    on_ok_weaker c.push_str-2.result (λ h. h
    ∙ ap (λ us. us ++ line) (c.in_ok-push_indent.ensures
    ∙ ap (λ b. o ++ spell (indent_before b indent)) c.requires)
    ∙ append_assoc o (spell (line_indent indent line)) line
    ∙ ap (λ (b : Bool). o ++ (if b then line else under))
    (sym (sym c.is_passed.ensures ∙ c.if-is_passed.false))) c.push_str-2.ensures
