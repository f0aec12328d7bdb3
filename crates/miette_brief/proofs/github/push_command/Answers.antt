use Rattle.std.proofs.Common.{◌≡◌, ◌∙◌, ◌++◌, List, length, sym, ap, ap₂, subst, map, string_bytes, codes, rules}
use Rattle.std.specs.Option.{option_map}
use Rattle.miette_tree.specs.rules.Tree.{head, cause_of}
use Rattle.miette_tree.specs.views.Owned.{ref_source}
use Rattle.miette_tree.specs.views.Report.{tree_of}
use Rattle.miette_brief.specs.rules.Github.{nonempty}
use Rattle.miette_brief.specs.rules.LocatedLabels.{LocatedLabel, primary_at, with_first}
use Rattle.miette_brief.specs.steps.CommandParts.{located_label_of, file_location_of}
use Rattle.miette_brief.specs.steps.PrimaryLabels.{IsPrimaryFileLocation, span_at}
use Rattle.miette_brief.specs.steps.Reads.{IsSpanUnread}
use Rattle.miette_brief.proofs.Commanding.{commanded, head_text, message_text, unread_refused}
use Rattle.miette_brief.proofs.PrimaryLabels.{primary_inside}
use Rattle.miette_brief.proofs.WholeSources.{own_over}
use Rattle.miette_brief.proofs.github.push_command.Goals as goal

pub push_message-requires : goal.push_message-requires
push_message-requires g c =
    let f = located_label_of g.S.SourceCode.source in
    primary_inside f c.deref-3.result.now c.primary_at-first.result (c.primary_at-first.ensures
    ∙ ap (λ ms. primary_at (map f ms)) (c.deref.ensures.value ∙ sym c.deref-3.ensures.value))

pub primary_file_location-requires : goal.primary_file_location-requires
primary_file_location-requires g c =
    let is = g.S.SourceCode.source in
    let value = tree_of g.D.Diagnostic.meaning is c.args.report.now in
    let source = option_map (ref_source is) c.args.source in
    record {
      whole = c.requires;
      own = own_over source (head value) _ (map (located_label_of is) c.deref-2.result.now)
          (ap length c.labels_of.ensures)
          (ap (map (located_label_of is)) c.deref-2.ensures.value ∙ c.in_ok-marks.ensures.marks);
    }

pub returns-in_err-site-clause-refused : goal.returns-in_err-site-clause-refused
returns-in_err-site-clause-refused g c = λ h.
    let is = g.S.SourceCode.source in
    let value = tree_of g.D.Diagnostic.meaning is c.args.report.now in
    let source = option_map (ref_source is) c.args.source in
    let its : List LocatedLabel = map (located_label_of is) c.in_ok-marks.marks.items in
    let at = c.primary_at-first.result in
    let chosen : at ≡ primary_at its =
    c.primary_at-first.ensures ∙ ap (λ ms. primary_at (map (located_label_of is) ms)) c.deref.ensures.value in
    let unread : IsSpanUnread (span_at at its) = subst (λ (l : List LocatedLabel). IsSpanUnread (span_at at l))
    (ap (map (located_label_of is)) c.deref-2.ensures.value) (c.in_err-site.ensures.refused (search rules)) in
    unread_refused source (head value) its at c.in_ok-marks.ensures.marks chosen unread

pub returns-clause-text : goal.returns-clause-text
returns-clause-text g c =
    let is = g.S.SourceCode.source in
    let value = tree_of g.D.Diagnostic.meaning is c.args.report.now in
    let m = head value in
    let source = option_map (ref_source is) c.args.source in
    let its : List LocatedLabel = map (located_label_of is) c.in_ok-marks.marks.items in
    let at = c.primary_at-first.result in
    let site = option_map file_location_of c.in_ok-site.site in
    let old = string_bytes c.args.out.now in
    let mid = string_bytes c.push_head.new.out in
    let chosen : at ≡ primary_at its =
    c.primary_at-first.ensures ∙ ap (λ ms. primary_at (map (located_label_of is) ms)) c.deref.ensures.value in
    let placed : IsPrimaryFileLocation source (span_at at its) site =
    subst (λ (l : List LocatedLabel). IsPrimaryFileLocation source (span_at at l) site)
    (ap (map (located_label_of is)) c.deref-2.ensures.value)
    c.in_ok-site.ensures.site in
    let begun : mid ≡ old ++ head_text m.severity site (nonempty m.code) =
    c.in_ok-push_head.ensures ∙ ap₂ (λ s t. old ++ head_text s site t) c.severity.ensures
    (c.nonempty.ensures ∙ ap nonempty c.code.ensures) in
    commanded c.args.chain source m (cause_of value) its at site old mid (string_bytes c.push_message.new.out)
    c.in_ok-marks.ensures.marks chosen placed c.in_ok-marks.ensures.accepted begun
    (c.in_ok-push_message.ensures
    ∙ ap (λ ms. mid ++ (message_text c.args.chain m (cause_of value) (with_first at (map (located_label_of is) ms))
    ++ codes
    "\n"))
    c.deref-3.ensures.value)
