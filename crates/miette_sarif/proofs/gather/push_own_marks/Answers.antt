use Rattle.std.proofs.Common.{◌+◌, ◌++◌, ◌∙◌, ap, length, map, sym}
use Rattle.std.proofs.lemmas.List.{length-map, with_items_is}
use Rattle.miette_tree.specs.rules.Tree.{head}
use Rattle.miette_tree.specs.views.Attachments.{section_of}
use Rattle.miette_tree.specs.views.Report.{tree_of}
use Rattle.miette_sarif.specs.rules.Marks.{marks_of}
use Rattle.miette_sarif.specs.views.Findings.{mark_of}
use Rattle.miette_sarif.specs.views.Grouped.{groups_in}
use Rattle.miette_sarif.specs.views.Sources.{over_of, snapshot_of}
use Rattle.miette_sarif.proofs.Finds.{marks_added}
use Rattle.miette_sarif.proofs.gather.push_own_marks.Goals as goal

pub returns-clause-added : goal.returns-clause-added
returns-clause-added g c =
    marks_added mark_of c.take_primary.result (over_of c.args.seen) c.args.sources.now
    (head (tree_of g.D.Diagnostic.meaning g.S.SourceCode.source c.args.report.now)) _ _ _
    (groups_in c.in_ok-groups.groups.items) (groups_in c.deref_mut.result.now) (groups_in c.take_primary.new.groups)
    _ _ _ c.in_ok-further.ensures.seen c.further_snippets.ensures (ap (map snapshot_of) c.deref.ensures.value)
    c.in_ok-groups.ensures (ap groups_in c.deref_mut.ensures.value) c.take_primary.ensures.picked
    (λ none. ap groups_in (c.take_primary.ensures.stays none)) c.primary_or-primary.ensures
    (c.in_ok-push_groups.ensures
    ∙ ap (λ gs. map mark_of c.args.locations.now.items ++ marks_of (groups_in gs)) (with_items_is c.in_ok-groups.groups
    c.take_primary.new.groups (c.take_primary.auto.groups ∙ c.deref_mut.ensures.len)))

pub returns-clause-counted : goal.returns-clause-counted
returns-clause-counted g c =
    c.in_ok-further.ensures.counted ∙ ap (λ n. c.args.sources.now + n)
    (sym (length-map c.further_snippets.result.now (section_of g.S.SourceCode.source))
    ∙ ap length c.further_snippets.ensures)
