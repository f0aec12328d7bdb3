use Rattle.std.proofs.Common.{◌-◌, ◌∙◌, arith, inl, inr, length, sym}
use Rattle.std.proofs.lemmas.List.{drop_all, take_rest}
use Rattle.miette_text.proofs.wrapping.blank_lines.styled_len.Goals as goal

pub returns-then-all-lt4-clause-tail : goal.returns-then-all-lt4-clause-tail
returns-then-all-lt4-clause-tail c = inl (drop_all (length c.args.line.now) c.args.line.now (omega arith))

pub returns-then-ends_style-clause-tail : goal.returns-then-ends_style-clause-tail
returns-then-ends_style-clause-tail c =
    inr (sym (take_rest c.args.line.now (length c.args.line.now - 4)) ∙ c.ends_style.ensures c.if-ends_style.true)

pub returns-clause-tail : goal.returns-clause-tail
returns-clause-tail c = inl (drop_all (length c.args.line.now) c.args.line.now (omega arith))
