use Rattle.std.proofs.Common.{sym, ◌∙◌}
use Rattle.miette_lines.proofs.Firsts.{parted_none, parted_one, parted_two}
use Rattle.miette_lines.proofs.lines.first_size.Goals as goal

pub returns-in_default-clause-parted : goal.returns-in_default-clause-parted
returns-in_default-clause-parted c = parted_none c.args.bytes.now c.memchr2.result c.requires c.memchr2.ensures
    c.in_default.is

pub returns-then-is_pair-clause-parted : goal.returns-then-is_pair-clause-parted
returns-then-is_pair-clause-parted c =
    parted_two c.args.bytes.now c.memchr2.result c.in-Some.text c.memchr2.ensures c.in-Some.is
    (sym c.is_pair.ensures ∙ c.if-is_pair.true)

pub returns-else-is_pair-clause-parted : goal.returns-else-is_pair-clause-parted
returns-else-is_pair-clause-parted c =
    parted_one c.args.bytes.now c.memchr2.result c.in-Some.text c.memchr2.ensures c.in-Some.is
    (sym c.is_pair.ensures ∙ c.if-is_pair.false)
