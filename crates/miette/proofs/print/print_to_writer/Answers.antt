use Rattle.std.proofs.Common.{ℕ, List, [], subst, sym}
use Rattle.std.proofs.lemmas.Result.{on_ok_weaker}
use Rattle.miette_tree.specs.views.Handler.{AppendsOne}
use Rattle.miette.proofs.print.print_to_writer.Goals as goal

-- what was appended to nothing
whole : (given : List ℕ → Type 0) (text : List ℕ) → AppendsOne given [] text → given text
whole given text one = subst given (sym one.appended) one.is_given

pub returns-clause-ok : goal.returns-clause-ok
returns-clause-ok g c =
    let found = c.in_ok-terminal.ensures in
    on_ok_weaker c.write_report.result (λ one. (
      one.0,
      (
        c.in_ok-handler.handler,
        (found.0, c.in_ok-terminal.terminal, found.1, found.2, c.in_ok-handler.ensures),
        (c.write_report.new.handler, whole _ one.0 one.1),
      ),
      one.2,
    ))
    c.write_report.ensures.asks
