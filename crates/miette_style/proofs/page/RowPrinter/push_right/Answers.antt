use Rattle.std.proofs.Common.{rules, ◌-◌, ◌≡◌, length}
use Rattle.std.proofs.lemmas.Result.{on_ok_weaker}
use Rattle.miette_style.proofs.Paging.{right_put}
use Rattle.miette_style.proofs.page.RowPrinter.push_right.Goals as goal

pub returns : goal.returns
returns g c =
    let gap : c.saturating_sub.result ≡ c.args.columns - length c.format-digits.result.now = search rules in
    on_ok_weaker c.push_str.result (λ h.
    right_put c.args.number c.args.columns c.saturating_sub.result c.format-digits.result.now c.args.self.now
    c.push_copies.new.self c.push_str.new.self
    c.format-digits.ensures.text gap c.format-digits.ensures.ascii c.in_ok-push_copies.ensures h) c.push_str.ensures
