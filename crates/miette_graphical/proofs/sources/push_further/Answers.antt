use Rattle.std.proofs.Common.{◌≡◌, ◌-◌, [], Some, ap, drop, false, get_or, length, map, rules, subst, sym, take, ◌∙◌}
use Rattle.miette_style.specs.rules.Themes.{theme_of}
use Rattle.miette_tree.specs.rules.Reads.{always_reads}
use Rattle.miette_tree.specs.views.Attachments.{section_of}
use Rattle.miette_tree.specs.views.Owned.{ref_source}
use Rattle.miette_graphical_rules.specs.rules.Sources.{after_labels, further_sources, labelled, sources_read}
use Rattle.miette_graphical_rules.specs.rules.Sources.{theme_after}
use Rattle.miette_graphical.specs.views.PartTexts.{IsSourceDrawn}
use Rattle.miette_graphical.specs.views.Painting.{Paints, settings_of}
use Rattle.miette_graphical.proofs.Remaining.{Left}
use Rattle.miette_graphical.proofs.SourceRows.{first_fails, further_parts, left_in, no_further, source_printed}
use Rattle.miette_graphical.proofs.SourceRows.{sources_left, sources_printed}
use Rattle.miette_graphical.proofs.sources.push_further.Goals as goal

pub returns-in_err-push_source_rows-clause-refused : goal.returns-in_err-push_source_rows-clause-refused
returns-in_err-push_source_rows-clause-refused g c = λ h.
    let value = section_of g.S.SourceCode.source in
    let rs = c.loop-rest.rest.now in
    let item = c.section-item.result in
    let first = get_or rs 0 item in
    let more = further_sources (map value (take (length rs - 1) (drop 1 rs))) in
    let shown = ref_source g.S.SourceCode.source c.source.result in
    let fails : always_reads (Some (value first).source) (value first).labels ≡ false =
    subst (λ r. always_reads (Some (value r).source) (value r).labels ≡ false) c.section-item.is
    (subst (λ x. always_reads (Some x) (value item).labels ≡ false) c.source.ensures
    (subst (λ ls. always_reads (Some shown) ls ≡ false) c.labels-labels.ensures
    (c.in_err-push_source_rows.ensures.refused (search rules)))) in
    c.loop-rest.invariant.0.fails (subst (λ xs. sources_read xs ≡ false)
    (sym (further_parts value rs item c.in-len1-up.len_at_least))
    (first_fails (labelled (Some (value first).source) (value first).labels) more fails))

pub loop-rest-preserved : goal.loop-rest-preserved
loop-rest-preserved g c =
    let is_blank = g.H.Highlighter.is_blank in
    let may = g.H.Highlighter.may_follow in
    let old = c.args.painter.now in
    let now = c.loop-rest.painter in
    let new = c.push_source_rows.new.painter in
    let value = section_of g.S.SourceCode.source in
    let rs = c.loop-rest.rest.now in
    let item = c.section-item.result in
    let first = get_or rs 0 item in
    let it = labelled (Some (value first).source) (value first).labels in
    let more = further_sources (map value (take (length rs - 1) (drop 1 rs))) in
    let theme = theme_of c.loop-rest.theme in
    let layout = c.args.layout.now in
    let s = record (settings_of old) { theme = theme; layout = layout } in
    let all = left_in (after_labels c.args.before (record (settings_of old) { layout = layout }))
    (further_sources (map value c.args.sections.now)) in
    let shown = ref_source g.S.SourceCode.source c.source.result in
    let labels = c.labels-labels.result.now in
    let drawn : Paints is_blank may (IsSourceDrawn s it) now new =
    subst (λ r. Paints is_blank may (IsSourceDrawn s (labelled (Some (value r).source) (value r).labels)) now new)
    c.section-item.is
    (subst (λ x. Paints is_blank may (IsSourceDrawn s (labelled (Some x) (value item).labels)) now new) c.source.ensures
    (subst (λ ls. Paints is_blank may (IsSourceDrawn s (labelled (Some shown) ls)) now new) c.labels-labels.ensures
    (subst (λ u. Paints is_blank may (IsSourceDrawn (record u { theme = theme; layout = layout })
    (labelled (Some shown) labels)) now new) c.loop-rest.invariant.1.0 c.in_ok-push_source_rows.ensures.ok))) in
    let next : theme_after (length it.labels) theme ≡ theme_of c.in_ok-theme-2.theme =
    sym (c.in_ok-theme-2.ensures ∙ ap (λ ls. theme_after (length ls) theme)
    (c.labels-labels.ensures ∙ ap (λ r. (value r).labels) c.section-item.is)) in
    subst (λ t. Left is_blank may sources_left old new all (left_in (record s { theme = t }) more)) next
    (source_printed is_blank may old now new all s it more
    (subst (λ xs. Left is_blank may sources_left old now all (left_in s xs))
    (further_parts value rs item c.in-len1-up.len_at_least) c.loop-rest.invariant) drawn
    c.push_source_rows.ensures.keeps)

pub returns-clause-ok : goal.returns-clause-ok
returns-clause-ok g c =
    let is_blank = g.H.Highlighter.is_blank in
    let may = g.H.Highlighter.may_follow in
    let old = c.args.painter.now in
    let now = c.loop-rest.painter in
    let value = section_of g.S.SourceCode.source in
    let layout = c.args.layout.now in
    let begun = after_labels c.args.before (record (settings_of old) { layout = layout }) in
    let end = record (settings_of old) { theme = theme_of c.loop-rest.theme; layout = layout } in
    let sources = further_sources (map value c.args.sections.now) in
    sources_printed is_blank may old now begun end sources
    (subst (λ xs. Left is_blank may sources_left old now (left_in begun sources) (left_in end xs))
    (no_further value c.loop-rest.rest.now c.in_default.len_below) c.loop-rest.invariant)
