use Rattle.std.proofs.Common.{◌++◌, ◌∙◌, ap, arith, chars, rules, take, true}
use Rattle.std.proofs.lemmas.List.{take_all}
use Rattle.std.proofs.lemmas.Result.{on_ok_weaker}
use Rattle.miette_runs.specs.rules.Sequences.{tokens}
use Rattle.miette_runs.specs.views.Interleaving.{interleaving}
use Rattle.miette_text.specs.steps.WholeText.{are_passed}
use Rattle.miette_text.proofs.WholeLines.{last-printed, line-printed}
use Rattle.miette_text.proofs.wrapping.unwrapped.push_further.Goals as goal

pub push_last-requires : goal.push_last-requires
push_last-requires g c =
    c.first_line-line.ensures.white ∙ ap (λ bs. are_passed true (tokens (chars bs)))
    (take_all c.first_line-line.result.len c.lines.rest.now (omega arith))

pub returns-then-len-rest : goal.returns-then-len-rest
returns-then-len-rest g c =
    let indent = interleaving 0 c.args.indent.codes.now c.args.indent.tags.now in
    let o = g.S.Canvas.written c.lines.out in
    on_ok_weaker c.push_last.result (λ h. h
    ∙ ap (λ us. o ++ us) (last-printed indent indent c.lines.rest.now c.first_line-line.result.len
    c.lines.invariant.text c.first_line-line.ensures.len (omega arith)) ∙ c.lines.invariant.printed) c.push_last.ensures

pub lines-preserved : goal.lines-preserved
lines-preserved g c =
    let indent = interleaving 0 c.args.indent.codes.now c.args.indent.tags.now in
    let line = c.first_line-line.result in
    record {
      printed =
          line-printed indent indent (chars c.lines.rest.now) (chars (take line.len c.lines.rest.now))
          (chars c.cut_line.result.1.now) (chars c.cut_line.result.0.now) line.is_white
          (g.S.Canvas.written c.lines.out) (g.S.Canvas.written c.push_indent.new.out)
          (g.S.Canvas.written c.push_str.new.self) c.cut_line.ensures.line c.first_line-line.ensures.white
          c.cut_line.ensures.fed c.in_ok-push_indent.ensures c.in_ok-push_str.ensures ∙ c.lines.invariant.printed;
      text = search rules;
    }
