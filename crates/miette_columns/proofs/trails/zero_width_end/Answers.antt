use Rattle.std.proofs.Common.{sym, ◌∙◌}
use Rattle.miette_columns.proofs.Columning.{is_next}
use Rattle.miette_columns.proofs.Running.{none_faint, one_faint, all_faint}
use Rattle.miette_columns.proofs.trails.zero_width_end.Goals as goal

pub loop-bytes-init : goal.loop-bytes-init
loop-bytes-init c = none_faint c.args.text.now c.args.from c.requires

pub returns-then-not-is_zero_width : goal.returns-then-not-is_zero_width
returns-then-not-is_zero_width c = all_faint c.args.text.now c.args.from c.loop-bytes.bytes c.loop-bytes.invariant

pub loop-bytes-preserved : goal.loop-bytes-preserved
loop-bytes-preserved c =
    one_faint c.args.text.now c.args.from c.loop-bytes.bytes _ _ c.loop-bytes.invariant
    (is_next _ _ _ _ c.loop-bytes-test.true c.decode_first_char-code.ensures)
    (sym c.is_zero_width.ensures ∙ c.if-not-is_zero_width.false)

pub returns : goal.returns
returns c = all_faint c.args.text.now c.args.from c.loop-bytes.bytes c.loop-bytes.invariant
