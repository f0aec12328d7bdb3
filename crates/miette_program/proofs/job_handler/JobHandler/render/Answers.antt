use Rattle.std.proofs.Common.{ap, sym, ◌∙◌, rules}
use Rattle.miette_program.specs.declared.job_handler.JobHandler.TheVariants as chosen
use Rattle.miette_program.proofs.JobHandlerSteps.{json-given, spelled-value, debug-given, graphical-given}
use Rattle.miette_program.proofs.JobHandlerSteps.{narrated-given, narrated-refuses, brief-given, brief-refuses}
use Rattle.miette_program.proofs.JobHandlerSteps.{graphical-accepts, handed-on}
use Rattle.miette_program.proofs.HighlighterSteps.{led-drawing, led-whole, led-without, on-any}
use Rattle.miette_program.proofs.job_handler.JobHandler.render.Goals.{in-Json, in-Debug, in-Built-Graphical}
use Rattle.miette_program.proofs.job_handler.JobHandler.render.Goals.{in-Built-Narrated, in-Built-Brief}
use Rattle.miette_program.proofs.job_handler.JobHandler.render.Goals as goal

pub returns-clause-ok : goal.returns-clause-ok
returns-clause-ok g c =
    let blank = g.H.Highlighter.is_blank in
    let follow = g.H.Highlighter.may_follow in
    elim c.match-self.branch [
      | in-Json w ↦
          handed-on _ _ _ _ _ _ _ (json-given blank follow _ _ _ _ _ w.in-Json.is c.requires.reads
          (spelled-value _ _ _ _ w.append_report_text-rendered.ensures.text)) w.rendered-is w.text-is
          c.text_or_fault.ensures.ok (search rules)
      | in-Debug w ↦
          handed-on _ _ _ _ _ _ _ (debug-given blank follow _ _ _ _ _ w.in-Debug.is
          w.append_report_text-rendered-in-Debug.ensures.text) w.rendered-is w.text-is c.text_or_fault.ensures.ok
          (search rules)
      | in-Built-Graphical w ↦
          handed-on _ _ _ _ _ _ _ (graphical-given blank follow _ w.in-Built-Graphical.handler
          w.debug-rendered.new.self _ _ _ _
          (w.in-Built-Graphical.is ∙ ap chosen.Built w.in-Built-Graphical.field-0-is) c.requires.reads
          w.debug-rendered.ensures.asks) w.rendered-is w.text-is c.text_or_fault.ensures.ok (search rules)
      | in-Built-Narrated w ↦
          handed-on _ _ _ _ _ _ _ (narrated-given blank follow _ w.in-Built-Narrated.handler _ _ _ _
          (w.in-Built-Narrated.is ∙ ap chosen.Built w.in-Built-Narrated.field-0-is) c.requires.reads
          w.render-rendered.ensures.text
          w.render-rendered.ensures.only) w.rendered-is w.text-is c.text_or_fault.ensures.ok
          (search rules)
      | in-Built-Brief w ↦
          handed-on _ _ _ _ _ _ _ (brief-given blank follow _ w.in-Built-Brief.handler _ _ _ _
          (w.in-Built-Brief.is ∙ ap chosen.Built w.in-Built-Brief.field-0-is) c.requires.reads
          w.render-rendered-in-Built-Brief.ensures.text w.render-rendered-in-Built-Brief.ensures.only)
          w.rendered-is w.text-is c.text_or_fault.ensures.ok (search rules)
    ]

pub returns-clause-refused : goal.returns-clause-refused
returns-clause-refused g c =
    λ refused.
    let is = c.text_or_fault.ensures.refused refused in
    elim c.match-self.branch [
      | in-Json w ↦ absurd (w.append_report_text-rendered.ensures.refused (sym w.rendered-is ∙ is))
      | in-Debug w ↦ absurd (w.append_report_text-rendered-in-Debug.ensures.refused (sym w.rendered-is ∙ is))
      | in-Built-Graphical w ↦ graphical-accepts _ w.in-Built-Graphical.handler _ c.requires.reads
          (w.debug-rendered.ensures.refused (sym w.rendered-is ∙ is))
      | in-Built-Narrated w ↦
          narrated-refuses _ w.in-Built-Narrated.handler _ (w.in-Built-Narrated.is
          ∙ ap chosen.Built w.in-Built-Narrated.field-0-is)
          (w.render-rendered.ensures.refused (sym w.rendered-is ∙ is))
      | in-Built-Brief w ↦
          brief-refuses _ w.in-Built-Brief.handler _ (w.in-Built-Brief.is ∙ ap chosen.Built w.in-Built-Brief.field-0-is)
          (w.render-rendered-in-Built-Brief.ensures.refused (sym w.rendered-is ∙ is))
    ]

pub returns-clause-led : goal.returns-clause-led
returns-clause-led g c =
    let follow = g.H.Highlighter.may_follow in
    elim c.match-self.branch [
      | in-Json w ↦
          on-any c.text_or_fault.result _ (led-without follow _ _ (simp w.in-Json.is) (simp (w.self-is, w.in-Json.is)))
      | in-Debug w ↦
          on-any c.text_or_fault.result _
          (led-without follow _ _ (simp w.in-Debug.is) (simp (w.self-is, w.in-Debug.is)))
      | in-Built-Graphical w ↦
          led-whole _ _ c.text_or_fault.result _ _
          (led-drawing follow _ _ w.in-Built-Graphical.handler w.debug-rendered.new.self _ _ _ _ _
          (w.in-Built-Graphical.is ∙ ap chosen.Built w.in-Built-Graphical.field-0-is) w.self-is
          w.debug-rendered.ensures.asks) w.rendered-is c.text_or_fault.ensures.ok
      | in-Built-Narrated w ↦
          on-any c.text_or_fault.result _ (led-without follow _ _
          (simp (w.in-Built-Narrated.is, w.in-Built-Narrated.field-0-is))
          (simp (w.self-is, w.in-Built-Narrated.is, w.in-Built-Narrated.field-0-is)))
      | in-Built-Brief w ↦
          on-any c.text_or_fault.result _ (led-without follow _ _
          (simp (w.in-Built-Brief.is, w.in-Built-Brief.field-0-is))
          (simp (w.self-is, w.in-Built-Brief.is, w.in-Built-Brief.field-0-is)))
    ]
