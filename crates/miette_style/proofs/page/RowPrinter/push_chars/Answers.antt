use Rattle.std.proofs.Common.{◌∙◌, sym, length}
use Rattle.std.proofs.lemmas.Result.{on_ok_weaker}
use Rattle.miette_style.proofs.Paging.{nonzero, page_put, printed_as}
use Rattle.miette_style.proofs.page.RowPrinter.push_chars.Goals as goal

pub returns : goal.returns
returns g c =
    let started = printed_as (g.O.Canvas.written c.self.inside.out) c.self.inside.style c.self.inside.begun in
    on_ok_weaker c.push_chars.result
    (page_put c.args.self.now started (g.O.Canvas.written c.push_chars.new.self) c.args.characters.now
    (nonzero (length c.args.characters.now) (sym c.is_empty.ensures ∙ c.if-is_empty.false))
    (c.self.view_is ∙ c.in_ok-start_text.ensures))
    c.push_chars.ensures
