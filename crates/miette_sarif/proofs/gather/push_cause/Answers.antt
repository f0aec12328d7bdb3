use Rattle.std.proofs.Common.{◌+◌, ◌∙◌, ap, length, map, refl, sym}
use Rattle.std.proofs.lemmas.List.{length-map}
use Rattle.std.proofs.lemmas.Result.{on_ok_weaker}
use Rattle.miette_tree.specs.views.Attachments.{section_of}
use Rattle.miette_sarif.specs.views.Sources.{snapshot_of}
use Rattle.miette_sarif.proofs.Finds.{cause_over}
use Rattle.miette_sarif.proofs.gather.push_cause.Goals as goal

pub returns-clause-added : goal.returns-clause-added
returns-clause-added g c =
    on_ok_weaker c.push_fixes.result (λ h. cause_over _ _ _ _ _ _ _ _ _ _ _ c.in_ok-further.ensures.seen
    c.further_snippets.ensures (ap (map snapshot_of) c.deref.ensures.value) c.in_ok-groups.ensures
    c.in_ok-push_groups.ensures refl refl c.fixes.ensures h) c.push_fixes.ensures

pub returns-clause-counted : goal.returns-clause-counted
returns-clause-counted g c =
    on_ok_weaker c.push_fixes.result (λ h. c.in_ok-further.ensures.counted ∙ ap (λ n. c.args.sources.now + n)
    (sym (length-map c.further_snippets.result.now (section_of g.S.SourceCode.source))
    ∙ ap length c.further_snippets.ensures)) c.push_fixes.ensures
