use Rattle.std.proofs.Common.{◌++◌, ◌∙◌, ap, arith, chars, take, true}
use Rattle.std.proofs.lemmas.List.{take_all}
use Rattle.std.proofs.lemmas.Result.{on_ok_weaker}
use Rattle.miette_runs.specs.rules.Sequences.{spell, tokens}
use Rattle.miette_runs.specs.views.Interleaving.{interleaving}
use Rattle.miette_text.specs.steps.WholeText.{are_passed, indent_before}
use Rattle.miette_text.proofs.WholeLines.{last-printed, line-printed}
use Rattle.miette_text.proofs.wrapping.unwrapped.push_whole.Goals as goal

pub push_last-requires : goal.push_last-requires
push_last-requires g c =
    c.first_line-line.ensures.white ∙ ap (λ bs. are_passed true (tokens (chars bs)))
    (take_all c.first_line-line.result.len c.args.text.now (omega arith))

pub returns-then-len-text : goal.returns-then-len-text
returns-then-len-text g c =
    let indent = interleaving 0 c.args.first.codes.now c.args.first.tags.now in
    let further = interleaving 0 c.args.further.codes.now c.args.further.tags.now in
    let o = g.S.Canvas.written c.args.out.now in
    on_ok_weaker c.push_last.result (λ h. h
    ∙ ap (λ us. o ++ us) (last-printed indent further c.args.text.now c.first_line-line.result.len c.utf8.text
    c.first_line-line.ensures.len (omega arith))) c.push_last.ensures

pub returns : goal.returns
returns g c =
    let indent = interleaving 0 c.args.first.codes.now c.args.first.tags.now in
    let further = interleaving 0 c.args.further.codes.now c.args.further.tags.now in
    let line = c.first_line-line.result in
    on_ok_weaker c.push_printed.result (λ h. h
    ∙ line-printed indent further (chars c.args.text.now) (chars (take line.len c.args.text.now))
    (chars c.cut_line.result.1.now) (chars c.cut_line.result.0.now) line.is_white
    (g.S.Canvas.written c.args.out.now) (g.S.Canvas.written c.push_indent.new.out)
    (g.S.Canvas.written c.push_str.new.self) c.cut_line.ensures.line c.first_line-line.ensures.white
    c.cut_line.ensures.fed
    (c.in_ok-push_indent.ensures ∙ ap (λ us. us ++ spell (indent_before line.is_white indent)) c.in_ok-reserve.ensures)
    c.in_ok-push_str.ensures) c.push_printed.ensures
