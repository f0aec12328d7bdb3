use Rattle.miette_columns.proofs.Plaining.{control_width, plain_one, delete_width}
use Rattle.miette_columns.proofs.cells.ascii_columns.Goals as goal

pub returns-then-byte-lt32 : goal.returns-then-byte-lt32
returns-then-byte-lt32 c = control_width c.args.byte c.if-byte-lt32.true

pub returns-then-byte-lt127 : goal.returns-then-byte-lt127
returns-then-byte-lt127 c = plain_one c.args.byte c.if-byte-lt32.false c.if-byte-lt127.true

pub returns : goal.returns
returns c = delete_width c.args.byte c.if-byte-lt127.false c.requires
