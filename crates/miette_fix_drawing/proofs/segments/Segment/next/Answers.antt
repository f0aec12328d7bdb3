use Rattle.std.proofs.Common.{option_copied, option_map}
use Rattle.miette_fix_rows.specs.rules.Blocks.{line_texts}
use Rattle.miette_fix_drawing.specs.views.ShownLines.{paired_line_of}
use Rattle.miette_fix_drawing.proofs.ShownLines.{shown_first}
use Rattle.miette_fix_drawing.proofs.segments.Segment.next.Goals as goal

pub returns-clause-lines : goal.returns-clause-lines
returns-clause-lines c =
    shown_first c.args.self.now.kind c.args.self.now.away c.in_ok-self.field-0 c.in-Some.text.now
    (line_texts c.args.self.now.lines.now) (line_texts c.next_line.new.bytes.now)
    (line_texts c.args.self.now.others.now) (line_texts c.next_line-other.new.bytes.now)
    (option_copied c.next_line-other.result) (option_map paired_line_of c.paired_text.result) c.in-Some.ensures.lines
    c.next_line-other.ensures.lines c.next_line-other.ensures.none c.paired_text.ensures c.in_ok-self.ensures
