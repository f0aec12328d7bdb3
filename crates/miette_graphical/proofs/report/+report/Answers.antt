use Rattle.std.proofs.Common.{◌≡◌, ◌≤◌, ◌<◌, suc, ◌++◌, ◌-◌, length, take, drop, get_or, ap, ◌∙◌, subst, map}
use Rattle.std.proofs.Common.{false, refl, string_bytes, arith, rules, List}
use Rattle.std.proofs.lemmas.Result.{IfOk-weaker, on_ok_weaker}
use Rattle.miette_runs.specs.rules.Cutting.{trim_leading_feeds, trim_trailing_feeds}
use Rattle.miette_runs.specs.rules.Runs.{print}
use Rattle.miette_runs.specs.rules.Sequences.{spell}
use Rattle.miette_tree.specs.rules.Tree.{effective, head, texts, trees, cause_of, related_of, source_of}
use Rattle.miette_tree.specs.views.Report.{tree_of}
use Rattle.miette_highlight.specs.rules.HighlighterCalls.{Call}
use Rattle.miette_snippet_rules.specs.rules.Highlighting.{follows, leaves_plain}
use Rattle.miette_graphical.specs.views.PartTexts.{IsBodyAndRelated, AreCauses, AreRelated, IsInner, IsOneCause}
use Rattle.miette_graphical.specs.views.PartTexts.{IsOneRelated}
use Rattle.miette_graphical.specs.views.PartTexts.{IsNested, narrowed}
use Rattle.miette_tree.specs.views.Handler.{AppendsOne}
use Rattle.miette_tree.proofs.Nesting.{texts_shown}
use Rattle.miette_graphical_rules.specs.rules.PrintedDiagnostics.{labels_read, printed_causes, printed_related}
use Rattle.miette_graphical_rules.specs.rules.DiagnosticText.{header, under_arrow}
use Rattle.miette_graphical_rules.specs.rules.GraphicalSettings.{GraphicalSettings}
use Rattle.miette_graphical_rules.specs.rules.Text.{are_last, cause_texts, ends_there}
use Rattle.miette_graphical.specs.views.Painting.{Paints, printing, printing_of, settings_of, opt_ref_source}
use Rattle.miette_graphical.proofs.Remaining.{all_printed, all_remain, cause_printed, causes_under, first_falls}
use Rattle.miette_graphical.proofs.Remaining.{related_printed, related_under}
use Rattle.miette_graphical.proofs.Painted.{arrow_after, paints_after, paints_before}
use Rattle.miette_graphical.proofs.Sizes.{tree_size, cause_size, trees_size, related_falls}
use Rattle.miette_graphical.proofs.Steps.{cause_texts_after, no_related_after, below_after, inner_whole}
use Rattle.miette_graphical.proofs.Steps.{sibling_after, first_and_more, one_cause_fails, inner_rows_fail}
use Rattle.miette_graphical.proofs.Steps.{inner_related_fail, sibling_causes_fail, sibling_below_fails}
use Rattle.miette_graphical.proofs.Steps.{one_related_fails}
use Rattle.miette_graphical.proofs.report.+report.Goals as goal
use Rattle.miette_graphical_rules.specs.steps.PrintedParts.{printed_inner, printed_one}

pub push_causes-loop-next-init : goal.push_causes-loop-next-init
push_causes-loop-next-init g t c = (all_remain _ _ _ _, (refl, refl, refl))

pub push_causes-push_one_cause-requires : goal.push_causes-push_one_cause-requires
push_causes-push_one_cause-requires g t c =
    let value = tree_of g.D.Diagnostic.meaning g.S.SourceCode.source in
    let cause = value c.in-Diagnostic.next.now in
    let left = cause_of (value c.loop-next.at.now) in
    let all = cause_of (value c.args.report.now) in
    let first : tree_size cause ≡ cause_size left = ap cause_size c.in-Diagnostic.ensures.value in
    let fits : cause_size left ≤ cause_size all = c.loop-next.invariant.0.fits in
    let small : suc (suc (suc (suc (trees_size (related_of cause))))) < cause_size all =
    omega (arith, related_falls cause, first, fits) in
    search rules

pub push_causes-loop-next-preserved : goal.push_causes-loop-next-preserved
push_causes-loop-next-preserved g t c =
    let value = tree_of g.D.Diagnostic.meaning g.S.SourceCode.source in
    cause_printed g.H.Highlighter.is_blank g.H.Highlighter.may_follow c.args.painter.now c.loop-next.painter
    c.push_one_cause.new.painter c.args.outer (opt_ref_source g.S.SourceCode.source c.args.inherited)
    (cause_of (value c.args.report.now)) (cause_of (value c.loop-next.at.now)) (value c.in-Diagnostic.next.now)
    c.loop-next.invariant c.in-Diagnostic.ensures.value c.in_ok-push_one_cause.ensures.ok
    c.push_one_cause.ensures.keeps

pub push_causes-returns-in_err-push_one_cause-clause-refused :
    goal.push_causes-returns-in_err-push_one_cause-clause-refused
push_causes-returns-in_err-push_one_cause-clause-refused g t c = λ h.
    let inherited = opt_ref_source g.S.SourceCode.source c.args.inherited in
    let cause = tree_of g.D.Diagnostic.meaning g.S.SourceCode.source c.in-Diagnostic.next.now in
    let nested = (settings_of c.args.painter.now).related_as_nested in
    let one : labels_read (printed_inner nested (effective (source_of cause) inherited) cause) ≡ false =
    subst (λ s. labels_read (printed_inner s.related_as_nested (effective (source_of cause) inherited) cause) ≡ false)
    c.loop-next.invariant.1.0 (c.in_err-push_one_cause.ensures.refused (search rules)) in
    c.loop-next.invariant.0.fails (subst (λ x. labels_read (printed_causes nested inherited x) ≡ false)
    c.in-Diagnostic.ensures.value (one_cause_fails nested inherited cause one))

pub push_causes-returns-clause-ok : goal.push_causes-returns-clause-ok
push_causes-returns-clause-ok g t c =
    let is_blank = g.H.Highlighter.is_blank in
    let may = g.H.Highlighter.may_follow in
    let old = c.args.painter.now in
    let now = c.loop-next.painter in
    let new = c.push_cause_texts.new.painter in
    let s = settings_of old in
    let blank = leaves_plain is_blank old.highlighter.now in
    let was : List Call → Type 0 = follows may now.highlighter.now in
    let outer = c.args.outer in
    let inherited = opt_ref_source g.S.SourceCode.source c.args.inherited in
    let all = cause_of (tree_of g.D.Diagnostic.meaning g.S.SourceCode.source c.args.report.now) in
    let left = cause_of (tree_of g.D.Diagnostic.meaning g.S.SourceCode.source c.loop-next.at.now) in
    let ts = map string_bytes c.cause_texts.result.now in
    let last : texts ts ≡ left =
    ap texts c.cause_texts.ensures ∙ texts_shown g.D.Diagnostic.meaning g.S.SourceCode.source c.cause.result left
    c.cause.ensures.value c.in_default.not-Diagnostic in
    let told : new.out ≡ now.out ++ cause_texts s outer ts =
    subst (λ s. new.out ≡ now.out ++ cause_texts s outer ts) c.loop-next.invariant.1.0
    c.in_ok-push_cause_texts.ensures.text in
    all_printed is_blank may (causes_under outer inherited) old now new all left c.loop-next.invariant
    c.push_cause_texts.ensures.stays
    (subst (λ x. AppendsOne (AreCauses outer inherited x (printing s blank was was)) now.out new.out)
    last (cause_texts_after s blank was outer inherited ts now.out new.out told))

pub push_one_cause-returns-clause-ok : goal.push_one_cause-returns-clause-ok
push_one_cause-returns-clause-ok g t c =
    let is_blank = g.H.Highlighter.is_blank in
    let may = g.H.Highlighter.may_follow in
    let old = c.args.painter.now in
    let mid = c.inner_text.new.painter in
    let new = c.push_under_arrow.new.painter in
    let by = printing_of is_blank may old mid in
    let outer = c.args.outer in
    let value = tree_of g.D.Diagnostic.meaning g.S.SourceCode.source c.args.cause.now in
    let inherited = opt_ref_source g.S.SourceCode.source c.args.inherited in
    let own = opt_ref_source g.S.SourceCode.source c.effective_source.result in
    let inner = spell c.in_ok-inner.inner in
    let last = ends_there (cause_of value) in
    paints_before is_blank may (IsOneCause outer inherited value) old mid new c.push_under_arrow.ensures.stays (record {
      text = under_arrow (settings_of old) outer last inner;
      is_given = (
        inner,
        subst (λ o. IsInner o value (narrowed outer last by) inner) {y = effective (source_of value) inherited}
            c.effective_source.ensures (subst (λ b. IsInner own value (narrowed outer b by) inner) c.ends_there.ensures
            c.in_ok-inner.ensures.ok),
        refl,
      );
      appended = subst (λ b. new.out ≡ old.out ++ under_arrow (settings_of old) outer b inner) c.ends_there.ensures
          (arrow_after is_blank old mid new outer c.ends_there.result inner c.inner_text.ensures.out
          c.inner_text.ensures.keeps c.in_ok-push_under_arrow.ensures.text);
    })

pub inner_text-returns-clause-ok : goal.inner_text-returns-clause-ok
inner_text-returns-clause-ok g t c =
    let is_blank = g.H.Highlighter.is_blank in
    let may = g.H.Highlighter.may_follow in
    let old = c.args.painter.now in
    let after = c.inner_runs-text.new.painter.highlighter.now in
    let s = settings_of old in
    let source = opt_ref_source g.S.SourceCode.source c.args.source in
    let value = tree_of g.D.Diagnostic.meaning g.S.SourceCode.source c.args.report.now in
    IfOk-weaker c.inner_runs-text.result _ _ (λ r h.
    subst (λ w. IsInner source value (printing (record s { width = w }) (leaves_plain is_blank old.highlighter.now)
    (follows may old.highlighter.now) (follows may after)) (spell r)) c.in_ok-width.ensures
    (h (c.replace-out.ensures.after ∙ c.for_runs.ensures))) c.inner_runs-text.ensures.ok

-- the width is the outer one again
pub inner_text-returns-clause-keeps : goal.inner_text-returns-clause-keeps
inner_text-returns-clause-keeps g t c = (
  ap {A = GraphicalSettings} (λ s. record s { width = c.args.painter.now.width }) c.inner_runs-text.ensures.keeps.0,
  c.inner_runs-text.ensures.keeps.1,
  c.inner_runs-text.ensures.keeps.2,
)

pub inner_runs-returns-clause-ok : goal.inner_runs-returns-clause-ok
inner_runs-returns-clause-ok g t c = λ n.
    let is_blank = g.H.Highlighter.is_blank in
    let may = g.H.Highlighter.may_follow in
    let old = c.args.painter.now in
    let told = c.push_header_and_message.new.painter in
    let new = c.push_body_and_related.new.painter in
    let source = opt_ref_source g.S.SourceCode.source c.args.source in
    let value = tree_of g.D.Diagnostic.meaning g.S.SourceCode.source c.args.report.now in
    inner_whole (printing_of is_blank may old new) source value old.out
    (old.out ++ print (header (settings_of old) (head value))) told.out new.out
    (spell c.in_ok-runs_without_leading.field-0) n refl c.in_ok-push_header_and_message.ensures.text
    (paints_after is_blank may (IsBodyAndRelated source value) old old told new (refl, refl, refl)
    c.push_header_and_message.ensures.stays
    c.in_ok-push_body_and_related.ensures.ok) (c.in_ok-runs_without_leading.ensures
    ∙ ap trim_leading_feeds c.replace-text.ensures.value)

pub push_body_and_related-returns-in_err-push_body-clause-refused
    : goal.push_body_and_related-returns-in_err-push_body-clause-refused
push_body_and_related-returns-in_err-push_body-clause-refused g t c = λ h.
    inner_rows_fail (settings_of c.args.painter.now).related_as_nested
    (opt_ref_source g.S.SourceCode.source c.args.source)
    (tree_of g.D.Diagnostic.meaning g.S.SourceCode.source c.args.report.now)
    (c.in_err-push_body.ensures.refused (search rules))

pub push_body_and_related-returns-clause-refused : goal.push_body_and_related-returns-clause-refused
push_body_and_related-returns-clause-refused g t c = λ h.
    let source = opt_ref_source g.S.SourceCode.source c.args.source in
    let value = tree_of g.D.Diagnostic.meaning g.S.SourceCode.source c.args.report.now in
    let nested = (settings_of c.args.painter.now).related_as_nested in
    inner_related_fail nested source value
    (subst (λ r. labels_read (printed_related nested source r) ≡ false) c.related.ensures.value
    (subst (λ s. labels_read (printed_related s.related_as_nested source
    (trees (map (tree_of g.D.Diagnostic.meaning g.S.SourceCode.source) c.related.result.now))) ≡ false)
    c.push_body.ensures.keeps.0 (c.push_related.ensures.refused h)))

pub push_body_and_related-returns-clause-ok : goal.push_body_and_related-returns-clause-ok
push_body_and_related-returns-clause-ok g t c =
    let is_blank = g.H.Highlighter.is_blank in
    let may = g.H.Highlighter.may_follow in
    let drawn = c.push_body.new.painter in
    let new = c.push_related.new.painter in
    let source = opt_ref_source g.S.SourceCode.source c.args.source in
    let value = tree_of g.D.Diagnostic.meaning g.S.SourceCode.source c.args.report.now in
    on_ok_weaker c.push_related.result (λ h.
    below_after is_blank may source value c.args.painter.now drawn new c.in_ok-push_body.ensures.ok
    c.push_body.ensures.keeps
    (subst (λ v. Paints is_blank may (AreRelated v source (related_of value)) drawn new) c.severity.ensures
    (subst (λ r. Paints is_blank may (AreRelated c.severity.result source r) drawn new) c.related.ensures.value h)))
    c.push_related.ensures.ok

pub push_sibling-returns-in_err-push_causes-clause-refused : goal.push_sibling-returns-in_err-push_causes-clause-refused
push_sibling-returns-in_err-push_causes-clause-refused g t c = λ h.
    let source = opt_ref_source g.S.SourceCode.source c.args.source in
    let value = tree_of g.D.Diagnostic.meaning g.S.SourceCode.source c.args.report.now in
    sibling_causes_fail (settings_of c.args.painter.now).related_as_nested source value
    (subst (λ s. labels_read (printed_causes s.related_as_nested source (cause_of value)) ≡ false)
    c.push_sibling_header.ensures.stays.0 (c.in_err-push_causes.ensures.refused (search rules)))

pub push_sibling-returns-clause-refused : goal.push_sibling-returns-clause-refused
push_sibling-returns-clause-refused g t c = λ h.
    let source = opt_ref_source g.S.SourceCode.source c.args.source in
    let value = tree_of g.D.Diagnostic.meaning g.S.SourceCode.source c.args.report.now in
    sibling_below_fails (settings_of c.args.painter.now).related_as_nested source value
    (subst (λ s. labels_read (printed_inner s.related_as_nested source value) ≡ false)
    (c.push_causes.ensures.keeps.0 ∙ c.push_sibling_header.ensures.stays.0) (c.push_body_and_related.ensures.refused h))

pub push_sibling-returns-clause-ok : goal.push_sibling-returns-clause-ok
push_sibling-returns-clause-ok g t c =
    let is_blank = g.H.Highlighter.is_blank in
    let may = g.H.Highlighter.may_follow in
    let told = c.push_sibling_header.new.painter in
    let caused = c.push_causes.new.painter in
    let source = opt_ref_source g.S.SourceCode.source c.args.source in
    let value = tree_of g.D.Diagnostic.meaning g.S.SourceCode.source c.args.report.now in
    on_ok_weaker c.push_body_and_related.result (sibling_after is_blank may source value c.args.painter.now told caused
    c.push_body_and_related.new.painter c.in_ok-push_sibling_header.ensures.text c.push_sibling_header.ensures.stays
    (subst (λ v. Paints is_blank may (AreCauses v source (cause_of value)) told caused) c.severity.ensures
    c.in_ok-push_causes.ensures.ok) c.push_causes.ensures.keeps) c.push_body_and_related.ensures.ok

pub push_nested-returns-clause-ok : goal.push_nested-returns-clause-ok
push_nested-returns-clause-ok g t c =
    let is_blank = g.H.Highlighter.is_blank in
    let may = g.H.Highlighter.may_follow in
    let old = c.args.painter.now in
    let mid = c.inner_text.new.painter in
    let new = c.push_under_arrow.new.painter in
    let outer = c.args.branch.outer in
    let last = c.args.branch.is_last in
    let source = opt_ref_source g.S.SourceCode.source c.args.source in
    let value = tree_of g.D.Diagnostic.meaning g.S.SourceCode.source c.args.report.now in
    let inner = spell c.in_ok-inner.inner in
    paints_before is_blank may (IsNested outer last source value) old mid new c.push_under_arrow.ensures.stays (record {
      text = under_arrow (settings_of old) outer last (trim_trailing_feeds inner);
      is_given = (inner, c.in_ok-inner.ensures.ok, refl);
      appended = subst (λ x. new.out ≡ old.out ++ under_arrow (settings_of old) outer last x) c.in_ok-cut.ensures
          (arrow_after is_blank old mid new outer last (spell c.in_ok-cut.cut) c.inner_text.ensures.out
          c.inner_text.ensures.keeps c.in_ok-push_under_arrow.ensures.text);
    })

pub push_related-loop-rest-init : goal.push_related-loop-rest-init
push_related-loop-rest-init g t c = (all_remain _ _ _ _, (refl, refl, refl))

pub push_related-push_one_related-requires : goal.push_related-push_one_related-requires
push_related-push_one_related-requires g t c =
    let value = tree_of g.D.Diagnostic.meaning g.S.SourceCode.source in
    let left = trees (map value c.loop-rest.rest.now) in
    let all = trees (map value c.args.reports.now) in
    let first : suc (tree_size (value c.report-item.result)) < trees_size left =
    first_falls value c.loop-rest.rest.now c.report-item.result c.in-len1-up.len_at_least c.report-item.is in
    let fits : trees_size left ≤ trees_size all = c.loop-rest.invariant.0.fits in
    let small : suc (tree_size (value c.report-item.result)) < trees_size all = omega (arith, first, fits) in
    search rules

pub push_related-loop-rest-preserved : goal.push_related-loop-rest-preserved
push_related-loop-rest-preserved g t c =
    let is_blank = g.H.Highlighter.is_blank in
    let may = g.H.Highlighter.may_follow in
    let now = c.loop-rest.painter in
    let new = c.push_one_related.new.painter in
    let outer = c.args.outer in
    let inherited = opt_ref_source g.S.SourceCode.source c.args.inherited in
    let value = tree_of g.D.Diagnostic.meaning g.S.SourceCode.source in
    let rs = c.loop-rest.rest.now in
    let more = take (length rs - 1) (drop 1 rs) in
    let item = c.report-item.result in
    let first = get_or rs 0 item in
    let one : Paints is_blank may (IsOneRelated outer (are_last (trees (map value more)))
    (effective (source_of (value first)) inherited) (value first)) now new =
    subst (λ b. Paints is_blank may (IsOneRelated outer b (effective (source_of (value first)) inherited)
    (value first)) now new) c.are_last.ensures
    (subst (λ r. Paints is_blank may (IsOneRelated outer c.are_last.result (effective (source_of (value r)) inherited)
    (value r)) now new) c.report-item.is
    (subst (λ o. Paints is_blank may (IsOneRelated outer c.are_last.result o (value item)) now new)
    c.effective_source-source.ensures c.in_ok-push_one_related.ensures.ok)) in
    related_printed is_blank may c.args.painter.now now new outer inherited (trees (map value c.args.reports.now))
    (trees (map value rs)) (value first) (trees (map value more)) c.loop-rest.invariant
    (first_and_more value rs item c.in-len1-up.len_at_least) one c.push_one_related.ensures.keeps

pub push_related-returns-in_err-push_one_related-clause-refused :
    goal.push_related-returns-in_err-push_one_related-clause-refused
push_related-returns-in_err-push_one_related-clause-refused g t c = λ h.
    let inherited = opt_ref_source g.S.SourceCode.source c.args.inherited in
    let value = tree_of g.D.Diagnostic.meaning g.S.SourceCode.source in
    let nested = (settings_of c.args.painter.now).related_as_nested in
    let rs = c.loop-rest.rest.now in
    let more = take (length rs - 1) (drop 1 rs) in
    let item = c.report-item.result in
    let one : labels_read (printed_one nested (opt_ref_source g.S.SourceCode.source c.effective_source-source.result)
    (value item))
    ≡ false =
    subst (λ s. labels_read (printed_one s.related_as_nested
    (opt_ref_source g.S.SourceCode.source c.effective_source-source.result) (value item)) ≡ false)
    c.loop-rest.invariant.1.0
    (c.in_err-push_one_related.ensures.refused (search rules)) in
    c.loop-rest.invariant.0.fails (subst (λ ts. labels_read (printed_related nested inherited ts) ≡ false)
    (first_and_more value rs item c.in-len1-up.len_at_least)
    (one_related_fails nested inherited (value (get_or rs 0 item)) (trees (map value more))
    (subst (λ r. labels_read (printed_one nested (effective (source_of (value r)) inherited) (value r)) ≡ false)
    c.report-item.is
    (subst (λ o. labels_read (printed_one nested o (value item)) ≡ false) c.effective_source-source.ensures one))))

pub push_related-returns-clause-ok : goal.push_related-returns-clause-ok
push_related-returns-clause-ok g t c =
    let is_blank = g.H.Highlighter.is_blank in
    let may = g.H.Highlighter.may_follow in
    let old = c.args.painter.now in
    let now = c.loop-rest.painter in
    let outer = c.args.outer in
    let inherited = opt_ref_source g.S.SourceCode.source c.args.inherited in
    let value = tree_of g.D.Diagnostic.meaning g.S.SourceCode.source in
    let rest = c.loop-rest.rest.now in
    all_printed is_blank may (related_under outer inherited) old now now (trees (map value c.args.reports.now))
    (trees (map value rest)) c.loop-rest.invariant (refl, refl)
    (no_related_after (settings_of old) (leaves_plain is_blank old.highlighter.now) (follows may now.highlighter.now) outer
    inherited value rest now.out c.in_default.len_below)
