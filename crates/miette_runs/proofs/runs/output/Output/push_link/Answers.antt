use Rattle.std.proofs.Common.{ap, chars, encode_utf8_all, refl, sym, ◌++◌, ◌∙◌}
use Rattle.miette_style.proofs.PrintedText.{printed}
use Rattle.miette_runs.specs.rules.Runs.{link_start}
use Rattle.miette_runs.specs.views.Outputs.{target_text}
use Rattle.miette_runs.proofs.runs.output.Output.push_link.Goals as goal
use Rattle.miette_runs.proofs.runs.output.Output.push_link.Goals.{in-Printed+in_ok-print_link-in-Printed}
use Rattle.miette_runs.proofs.runs.output.Output.push_link.Goals.{in-Collected+in_ok-push_link-in-Collected}

pub returns : goal.returns
returns c =
    let link = link_start (chars c.args.url.now) in
    elim c.match-self.branch [
      | in-Printed+in_ok-print_link-in-Printed w ↦
          ap (λ o. target_text o.target) w.self-inside-is
          ∙ printed w.in-Printed.text w.print_link.new.out link (encode_utf8_all link)
          w.in_ok-print_link-in-Printed.ensures refl
          ∙ ap (λ x. x ++ link) (sym (ap target_text w.in-Printed.is) ∙ c.self.view_is)
      | in-Collected+in_ok-push_link-in-Collected w ↦
          ap (λ o. target_text o.target) w.self-inside-is
          ∙ w.in_ok-push_link-in-Collected.ensures.text
          ∙ ap (λ x. x ++ link) (sym (ap target_text w.in-Collected.is) ∙ c.self.view_is)
    ]
