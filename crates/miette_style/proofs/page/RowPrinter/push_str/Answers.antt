use Rattle.std.proofs.Common.{◌∙◌, sym, chars, length, eqb-true}
use Rattle.std.proofs.lemmas.Result.{on_ok_weaker}
use Rattle.miette_style.proofs.Paging.{none_bytes, nonzero, page_put, printed_as, some-chars}
use Rattle.miette_style.proofs.page.RowPrinter.push_str.Goals as goal

pub returns-then-is_empty : goal.returns-then-is_empty
returns-then-is_empty g c = none_bytes c.args.self.now c.args.text.now
    (eqb-true _ _ (sym c.is_empty.ensures ∙ c.if-is_empty.true))

pub returns : goal.returns
returns g c =
    let started = printed_as (g.O.Canvas.written c.self.inside.out) c.self.inside.style c.self.inside.begun in
    on_ok_weaker c.push_str.result
    (page_put c.args.self.now started (g.O.Canvas.written c.push_str.new.self) (chars c.args.text.now)
    (some-chars c.args.text.now c.utf8.text (nonzero (length c.args.text.now)
    (sym c.is_empty.ensures ∙ c.if-is_empty.false)))
    (c.self.view_is ∙ c.in_ok-start_text.ensures))
    c.push_str.ensures
