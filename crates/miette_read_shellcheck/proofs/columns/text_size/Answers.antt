use Rattle.std.proofs.Common.{ℕ, List, subst}
use Rattle.memchr.specs.Find.{IsFirstByte, is_byte}
use Rattle.miette_read_shellcheck.proofs.ColumnSteps.{text_within}
use Rattle.miette_read_shellcheck.proofs.columns.text_size.Goals as goal

pub returns-clause-first : goal.returns-clause-first
returns-clause-first c =
    subst (λ (bs : List ℕ). IsFirstByte (is_byte 10) bs c.memchr.result) c.rest_from.ensures c.memchr.ensures

pub returns-clause-within : goal.returns-clause-within
returns-clause-within c =
    text_within c.args.bytes.now c.args.at c.memchr.result c.requires
    (subst (λ (bs : List ℕ). IsFirstByte (is_byte 10) bs c.memchr.result) c.rest_from.ensures c.memchr.ensures)
