use Rattle.std.proofs.Common.{◌≡◌, ℕ, ◌-◌, ◌≤◌, List, length, ap, arith, subst, sym, ◌∙◌}
use Rattle.miette_lines.specs.rules.Lines.{line_of, line_start}
use Rattle.miette_lines.proofs.Places.{line_start_le}
use Rattle.miette_read.specs.rules.LineStarts.{last_line_number}
use Rattle.miette_read.proofs.line_starts.line_start.Goals as goal

pub returns-clause-start : goal.returns-clause-start
returns-clause-start c =
    let bytes = c.args.source.now in
    let size = length c.bytes-size.result.now in
    let whole : line_of bytes size ≡ last_line_number bytes =
    ap (λ (b : List ℕ). line_of bytes (length b)) c.bytes-size.ensures in
    let back : line_of bytes size - (c.line_of-last.result.0 - c.args.line) ≡ c.args.line =
    omega (arith, whole, c.line_of-last.ensures.line, c.requires) in
    c.start_before.ensures.start ∙ ap (line_start bytes) back

pub returns-clause-within : goal.returns-clause-within
returns-clause-within c =
    let bytes = c.args.source.now in
    subst (λ (n : ℕ). n ≤ length bytes) (sym (returns-clause-start c))
    (line_start_le bytes c.args.line (length bytes) c.requires)
