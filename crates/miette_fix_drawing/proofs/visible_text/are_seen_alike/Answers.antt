use Rattle.std.proofs.Common.{◌∙◌, ap₂}
use Rattle.std.specs.Str.{bytes_eq}
use Rattle.miette_fix_drawing.proofs.PlainLooks.{plain_seen}
use Rattle.miette_fix_drawing.proofs.visible_text.are_seen_alike.Goals as goal

pub returns-then-all_printable-2 : goal.returns-then-all_printable-2
returns-then-all_printable-2 c =
    let settings = c.args.settings.now in
    c.same_bytes.ensures
    ∙ ap₂ bytes_eq
    (plain_seen settings c.args.line.now c.strip_terminator-text.result.now c.without_spaces.result.now
    c.all_printable.result
    c.without_spaces.ensures c.strip_terminator-text.ensures.text c.all_printable.ensures c.if-all_printable.true)
    (plain_seen settings c.args.other.now c.strip_terminator-paired_text.result.now
    c.without_spaces-then-all_printable-2.result.now c.all_printable-then-all_printable.result
    c.without_spaces-then-all_printable-2.ensures c.strip_terminator-paired_text.ensures.text
    c.all_printable-then-all_printable.ensures c.if-all_printable-2.true)
