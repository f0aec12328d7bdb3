use Rattle.std.proofs.Common.{◌&&◌, ◌≡◌, ap, false, length, map, subst, sym, ◌∙◌}
use Rattle.std.proofs.Math.Bool.{and-false}
use Rattle.std.proofs.lemmas.Result.{on_ok_weaker}
use Rattle.miette_tree.specs.rules.DiagnosticParts.{given_labels}
use Rattle.miette_tree.specs.rules.Reads.{always_reads}
use Rattle.miette_tree.specs.rules.Tree.{head}
use Rattle.miette_tree.specs.views.Attachments.{section_of}
use Rattle.miette_tree.specs.views.Report.{tree_of}
use Rattle.miette_graphical_rules.specs.rules.Sources.{after_labels, drawn_with, further_sources, labelled, layout_with}
use Rattle.miette_graphical_rules.specs.rules.Sources.{sources_read}
use Rattle.miette_graphical.specs.views.PartTexts.{AreSourcesDrawn, IsSourceDrawn}
use Rattle.miette_graphical.specs.views.Painting.{Paints, settings_of, opt_ref_source}
use Rattle.miette_graphical.proofs.SourceRows.{own_and_further}
use Rattle.miette_graphical.proofs.sources.push_rows.Goals as goal

pub returns-clause-ok : goal.returns-clause-ok
returns-clause-ok g c =
    let is_blank = g.H.Highlighter.is_blank in
    let may = g.H.Highlighter.may_follow in
    let old = c.args.painter.now in
    let mid = c.push_source_rows.new.painter in
    let new = c.push_further.new.painter in
    let m = head (tree_of g.D.Diagnostic.meaning g.S.SourceCode.source c.args.report.now) in
    let source = opt_ref_source g.S.SourceCode.source c.args.source in
    let s = settings_of old in
    let labels = given_labels m.labels in
    let sections = map (section_of g.S.SourceCode.source) c.further_snippets-sections.result.now in
    let laid : c.layout_with-layout.result ≡ layout_with m.snippets s.layout =
    c.layout_with-layout.ensures ∙ ap (λ xs. layout_with xs s.layout) c.further_snippets-sections.ensures in
    let own : Paints is_blank may (IsSourceDrawn (drawn_with m.snippets s) (labelled source labels)) old mid =
    subst (λ layout. Paints is_blank may (IsSourceDrawn (record s { layout = layout }) (labelled source labels)) old
    mid) laid
    (subst (λ ls. Paints is_blank may (IsSourceDrawn (record s { layout = c.layout_with-layout.result })
    (labelled source ls)) old mid) c.labels_of-labels.ensures c.in_ok-push_source_rows.ensures.ok) in
    on_ok_weaker c.push_further.result (λ h.
    own_and_further is_blank may old mid new (drawn_with m.snippets s) (labelled source labels)
    (further_sources m.snippets) own c.push_source_rows.ensures.keeps
    (subst (λ u. Paints is_blank may (AreSourcesDrawn (after_labels (length labels) (drawn_with m.snippets u))
    (further_sources m.snippets)) mid new) c.push_source_rows.ensures.keeps.0
    (subst (λ layout. Paints is_blank may (AreSourcesDrawn (after_labels (length labels)
    (record (settings_of mid) { layout = layout })) (further_sources m.snippets)) mid new)
    (laid ∙ ap (λ u. layout_with m.snippets u.layout) {x = s} {y = settings_of mid}
    (sym c.push_source_rows.ensures.keeps.0))
    (subst (λ ls. Paints is_blank may (AreSourcesDrawn (after_labels (length ls)
    (record (settings_of mid) { layout = c.layout_with-layout.result })) (further_sources m.snippets)) mid new)
    c.labels_of-labels.ensures
    (subst (λ xs. Paints is_blank may (AreSourcesDrawn (after_labels (length c.labels_of-labels.result.now)
    (record (settings_of mid) { layout = c.layout_with-layout.result })) (further_sources xs)) mid new)
    c.further_snippets-sections.ensures h)))))
    c.push_further.ensures.ok

pub returns-clause-refused : goal.returns-clause-refused
returns-clause-refused g c h =
    let m = head (tree_of g.D.Diagnostic.meaning g.S.SourceCode.source c.args.report.now) in
    let own = always_reads (opt_ref_source g.S.SourceCode.source c.args.source) (given_labels m.labels) in
    let further : sources_read (further_sources m.snippets) ≡ false =
    subst (λ xs. sources_read (further_sources xs) ≡ false) c.further_snippets-sections.ensures
    (c.push_further.ensures.refused h) in
    ap (λ read. own && read) further ∙ and-false own
