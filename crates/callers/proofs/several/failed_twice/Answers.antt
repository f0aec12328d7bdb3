use Rattle.std.proofs.Common.{◌≡◌, ◌∙◌, ◌++◌, [], ℕ, List, Some, ap, codes, false, rules, subst}
use Rattle.miette_tree.specs.rules.Reads.{report_in_bounds}
use Rattle.miette_brief.specs.rules.PossibleAnswers.{IsBrief}
use Rattle.miette_brief.specs.rules.Report.{BriefSettings, default_brief_settings}
use Rattle.miette.specs.declared.reporter.form.Form.TheVariants.{Brief}
use Rattle.miette.specs.rules.Reported.{behaving}
use Rattle.callers.specs.Logged.{both_rows, full_disk, no_host}
use Rattle.callers.proofs.LogSteps.{both_logged, full_text, host_text}
use Rattle.callers.proofs.several.failed_twice.Goals as goal

pub returns : goal.returns
returns c = λ done.
    let start = c.with_handler-log.result in
    let law = c.brief_report_has_one_text.ensures.told in
    let set : start.handler ≡ default_brief_settings = search rules in
    let form : start.form ≡ Brief = search rules in
    let empty : start.outputs.writer.items ≡ [] = search rules in
    both_logged
    (behaving IsBrief (λ _ _ _ _ _. Unit {0}) (λ _ tree. report_in_bounds tree ≡ false) (λ old new. new ≡ old)
    (λ writer. Some writer.items))
    (λ old new kept. kept) start c.report_each.new.self _ _ full_disk no_host (codes "error: the disk is full\n")
    (codes "error: no such host\n") form
    (λ own given. full_text own law (subst (λ (s : BriefSettings). IsBrief s full_disk own) set given))
    (λ own given. host_text own law (subst (λ (s : BriefSettings). IsBrief s no_host own) set given))
    c.in_ok-full.ensures.tree c.in_ok-host.ensures.tree c.report_each.ensures done
    ∙ ap (λ (old : List ℕ). old ++ both_rows) empty
