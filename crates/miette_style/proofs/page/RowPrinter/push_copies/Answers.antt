use Rattle.std.proofs.Common.{rules, ◌∙◌, ◌<◌, sym, subst, replicate}
use Rattle.std.proofs.lemmas.List.{length-replicate}
use Rattle.std.proofs.lemmas.Result.{on_ok_weaker}
use Rattle.miette_style.proofs.Paging.{page_put, printed_as}
use Rattle.miette_style.proofs.page.RowPrinter.push_copies.Goals as goal

pub returns : goal.returns
returns g c =
    let started = printed_as (g.O.Canvas.written c.self.inside.out) c.self.inside.style c.self.inside.begun in
    let some : 0 < c.args.many = search rules in
    on_ok_weaker c.push_each.result
    (page_put c.args.self.now started (g.O.Canvas.written c.push_each.new.out) (replicate c.args.many c.args.character)
    (subst (λ n. 0 < n) (sym (length-replicate c.args.many c.args.character)) some)
    (c.self.view_is ∙ c.in_ok-start_text.ensures))
    c.push_each.ensures
