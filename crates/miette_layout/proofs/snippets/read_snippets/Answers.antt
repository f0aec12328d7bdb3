use Rattle.std.proofs.Common.{◌≡◌, rules, refl, ap, sym, ◌∙◌, ◌∷◌, map, List, Option, subst, All}
use Rattle.std.specs.Option.{option_map}
use Rattle.miette_protocol.specs.rules.Reading.{Span}
use Rattle.miette_snippet_frames.specs.views.Places.{place_at}
use Rattle.miette_labels.specs.rules.Around.{group_context}
use Rattle.miette_labels.specs.rules.Groups.{in_order}
use Rattle.miette_snippet_rules.specs.rules.FoldedLabels.{extents_of_labels}
use Rattle.miette_snippet_folds.specs.declared.folds.LabelExtent.{LabelExtent as MadeExtent}
use Rattle.miette_snippet_folds.specs.views.ExtentIndex.{extent_view}
use Rattle.miette_snippet_folds.specs.views.ReadExtents.{HasLines}
use Rattle.miette_snippet_folds.proofs.ReadExtents.{spreads_are}
use Rattle.miette_snippet_rules.specs.rules.SnippetLayout.{settings_around}
use Rattle.miette_snippet_rules.specs.views.SnippetSettings.{settings_of}
use Rattle.miette_labels.specs.views.ProgramLabels.{drawn_of}
use Rattle.miette_snippet_rules.specs.rules.Highlighting.{leaves_plain, follows}
use Rattle.miette_snippet_frames.specs.views.ContentsRows.{PutsRows, contents_snippet}
use Rattle.miette_labels.specs.views.Placing.{placement_of, placements_from}
use Rattle.miette_labels.specs.views.Primary.{PointsTo}
use Rattle.miette_labels.proofs.GroupsOfReads.{are_grouped}
use Rattle.miette_labels.proofs.KnownLabels.{read_known, read_last}
use Rattle.miette_layout.proofs.ReadRows.{contents_texts}
use Rattle.miette_highlight.specs.rules.HighlighterCalls.{Call, Leads, restarted}
use Rattle.miette_labels.proofs.GroupsOfReads.{reads_rise}
use Rattle.miette_snippet_folds.proofs.LineNumbers.{are_numbered}
use Rattle.miette_layout.proofs.SnippetSequence.{none_drawn, drawn_more, all_drawn, gives_rows, gives_none, drawn_is}
use Rattle.miette_layout.proofs.SnippetSequence.{placed_rise, place_ordered, groups_contents, puts_around, none_grouped}
use Rattle.miette_layout.proofs.SnippetSequence.{gives_unread}
use Rattle.miette_layout.proofs.snippets.read_snippets.Goals as goal

pub reads_in_span-requires : goal.reads_in_span-requires
reads_in_span-requires g c =
    reads_rise c.args.settings.now.layout.now.context_lines (g.S.SourceCode.source c.args.source.now)
    c.args.given.now.labels.now c.args.given.now.reads.now c.requires.order c.requires.each

pub primary_location_of-requires-clause-first : goal.primary_location_of-requires-clause-first
primary_location_of-requires-clause-first g c =
    let source = g.S.SourceCode.source c.args.source.now in
    let context = c.args.settings.now.layout.now.context_lines in
    let ls = in_order c.args.given.now.labels.now in
    let group = c.group-item.result in
    read_known (group_context context ls) source group.span group.contents c.known.result.first
    (groups_contents context source ls c.deref-group-items.result.now c.loop-group.group-index group
    c.loop-group.invariant.grouped c.loop-group-test.true c.group-item.is)
    c.known.ensures.offset c.known.ensures.line

pub primary_location_of-requires-clause-last : goal.primary_location_of-requires-clause-last
primary_location_of-requires-clause-last g c =
    let source = g.S.SourceCode.source c.args.source.now in
    let context = c.args.settings.now.layout.now.context_lines in
    let ls = in_order c.args.given.now.labels.now in
    let group = c.group-item.result in
    read_last (group_context context ls) source group.span group.contents c.known.result
    (groups_contents context source ls c.deref-group-items.result.now c.loop-group.group-index group
    c.loop-group.invariant.grouped c.loop-group-test.true c.group-item.is)
    c.known.ensures.offset c.known.ensures.line c.known.ensures.last

pub returns-then-is_unread-clause-gives : goal.returns-then-is_unread-clause-gives
returns-then-is_unread-clause-gives g c =
    let source = g.S.SourceCode.source c.args.source.now in
    let given = c.args.given.now in
    gives_none (settings_of c.args.settings.now) source given.labels.now
    (leaves_plain g.H.Highlighter.is_blank c.args.highlighter.now) _ c.any_own_context-own.result given.reads.now
    c.deref-group-items.result.now c.loop-group.group-index c.group-item.result.span c.in_ok-place.place c.args.page
    c.requires.order c.requires.each c.loop-group.invariant.grouped c.loop-group-test.true
    (subst (λ (o : Option Span). PointsTo source o c.in_ok-place.place) c.in_ok-near.ensures c.in_ok-place.ensures)
    (sym c.is_unread.ensures ∙ c.if-is_unread.true)

pub returns-in_default-clause-gives : goal.returns-in_default-clause-gives
returns-in_default-clause-gives g c =
    let source = g.S.SourceCode.source c.args.source.now in
    let given = c.args.given.now in
    gives_unread (settings_of c.args.settings.now) source given.labels.now
    (leaves_plain g.H.Highlighter.is_blank c.args.highlighter.now) _ given.reads.now c.args.page c.requires.order
    c.requires.each
    (none_grouped c.args.settings.now.layout.now.context_lines source (in_order given.labels.now) _
    c.in_ok-groups.ensures (ap (option_map (λ v. v.items)) c.in_default.is))

pub push_snippet-requires-clause-sorted : goal.push_snippet-requires-clause-sorted
push_snippet-requires-clause-sorted g c =
    let given = c.args.given.now in
    placed_rise (settings_of c.args.settings.now) (g.S.SourceCode.source c.args.source.now) given.labels.now
    given.reads.now c.in_ok-end.end c.deref-2.result.now c.requires.order c.requires.each c.in_ok-end.ensures
    (ap (map placement_of) c.deref-2.ensures.value ∙ c.in_ok-placed.ensures
    ∙ ap (λ styles. placements_from c.in_ok-end.end styles 0 given.labels.now given.reads.now) c.deref.ensures.value)

pub push_snippet-requires-clause-numbered : goal.push_snippet-requires-clause-numbered
push_snippet-requires-clause-numbered g c =
    let source = g.S.SourceCode.source c.args.source.now in
    let context = c.args.settings.now.layout.now.context_lines in
    let ls = in_order c.args.given.now.labels.now in
    let group = c.group-item.result in
    are_numbered (group_context context ls) source group.span group.contents c.in_ok-label_extents.label_extents
    (groups_contents context source ls c.deref-group-items.result.now c.loop-group.group-index group
    c.loop-group.invariant.grouped c.loop-group-test.true c.group-item.is)
    (c.in_ok-label_extents.ensures.lines source c.requires.each)

pub loop-group-init : goal.loop-group-init
loop-group-init g c =
    let source = g.S.SourceCode.source c.args.source.now in
    let s = settings_of c.args.settings.now in
    let ls = in_order c.args.given.now.labels.now in
    record {
      grouped = are_grouped s.layout.context_lines source ls _ c.in-Some.groups.items c.deref-group-items.result.now
          c.in_ok-groups.ensures (ap (option_map (λ v. v.items)) c.in-Some.is) c.deref-group-items.ensures.value;
      drawn =
          none_drawn (settings_around s ls) (extents_of_labels s.layout.label_lines s.layout.context_lines source ls)
          source
          c.args.given.now.labels.now (leaves_plain g.H.Highlighter.is_blank c.args.highlighter.now)
          (follows g.H.Highlighter.may_follow c.args.highlighter.now) c.deref-group-items.result.now c.args.page;
      state = search rules;
      stays = refl;
    }

pub loop-group-preserved : goal.loop-group-preserved
loop-group-preserved g c =
    let source = g.S.SourceCode.source c.args.source.now in
    let s = settings_of c.args.settings.now in
    let given = c.args.given.now in
    let ls = in_order given.labels.now in
    let label_extents = extents_of_labels s.layout.label_lines s.layout.context_lines source ls in
    let group = c.group-item.result in
    let drawn = map drawn_of c.deref-2.result.now in
    let place = option_map place_at c.begins.result in
    let blank = leaves_plain g.H.Highlighter.is_blank c.args.highlighter.now in
    let begun : List Call → Type 0 = follows g.H.Highlighter.may_follow c.args.highlighter.now in
    let was : List Call → Type 0 = follows g.H.Highlighter.may_follow c.loop-group.highlighter in
    let now : List Call → Type 0 = follows g.H.Highlighter.may_follow c.push_snippet.new.highlighter in
    let happen : List Call → Type 0 = λ calls. Leads was (restarted group.contents ∷ calls) now in
    let folded : map extent_view c.in_ok-label_extents.label_extents ≡ label_extents
    = c.in_ok-label_extents.ensures.parts
    ∙ spreads_are s.layout.label_lines s.layout.context_lines source given.labels.now given.reads.now c.requires.order
    c.requires.each in
    let told = subst (λ xs. PutsRows (leaves_plain g.H.Highlighter.is_blank c.loop-group.highlighter) happen
    (contents_texts group.contents) (contents_snippet s xs drawn group.contents place) c.loop-group.page
    c.push_snippet.new.page) folded c.in_ok-push_snippet.ensures.rows in
    let rows = subst (λ b. PutsRows b happen (contents_texts group.contents)
    (contents_snippet s label_extents drawn group.contents place) c.loop-group.page c.push_snippet.new.page)
    c.loop-group.invariant.stays told in
    let around =
    puts_around s (group_context s.layout.context_lines ls) blank happen (contents_texts group.contents) label_extents
    drawn group.contents place c.loop-group.page c.push_snippet.new.page rows in
    record {
      grouped = c.loop-group.invariant.grouped;
      drawn = drawn_more (settings_around s ls) label_extents source given.labels.now blank begun was now
          c.deref-group-items.result.now c.loop-group.group-index group c.args.page c.loop-group.page
          c.push_snippet.new.page drawn place c.loop-group.invariant.drawn c.loop-group-test.true c.group-item.is
          (groups_contents s.layout.context_lines source ls c.deref-group-items.result.now c.loop-group.group-index
          group c.loop-group.invariant.grouped c.loop-group-test.true c.group-item.is)
          (drawn_is s source given.labels.now given.reads.now c.in_ok-end.end c.deref-2.result.now c.requires.order
          c.requires.each c.in_ok-end.ensures
          (ap (map placement_of) c.deref-2.ensures.value ∙ c.in_ok-placed.ensures ∙
          ap (λ styles. placements_from c.in_ok-end.end styles 0 given.labels.now given.reads.now)
          c.deref.ensures.value))
          (ap (option_map place_at) c.begins.ensures ∙ place_ordered s.layout.context_lines source given.labels.now
          c.any_own_context-own.result group.span given.reads.now c.in_ok-place.place c.any_own_context-own.ensures
          c.requires.order
          c.requires.each
          (subst (λ (o : Option Span). PointsTo source o c.in_ok-place.place) c.in_ok-near.ensures
          c.in_ok-place.ensures)
          (sym c.is_unread.ensures ∙ c.if-is_unread.false))
          around;
      stays = c.push_snippet.ensures.stays ∙ c.loop-group.invariant.stays;
      state = c.in_ok-push_snippet.ensures.at;
    }

pub returns-clause-gives : goal.returns-clause-gives
returns-clause-gives g c =
    let source = g.S.SourceCode.source c.args.source.now in
    let s = settings_of c.args.settings.now in
    let given = c.args.given.now in
    let ls = in_order given.labels.now in
    let blank = leaves_plain g.H.Highlighter.is_blank c.args.highlighter.now in
    let begun : List Call → Type 0 = follows g.H.Highlighter.may_follow c.args.highlighter.now in
    let now : List Call → Type 0 = follows g.H.Highlighter.may_follow c.loop-group.highlighter in
    gives_rows s source given.labels.now blank (λ calls. Leads begun calls now) given.reads.now
    c.deref-group-items.result.now c.args.page c.loop-group.page c.requires.order c.requires.each
    c.loop-group.invariant.grouped
    (all_drawn (settings_around s ls) (extents_of_labels s.layout.label_lines s.layout.context_lines source ls) source
    given.labels.now blank begun now c.deref-group-items.result.now c.loop-group.group-index c.args.page
    c.loop-group.page c.loop-group.invariant.drawn c.loop-group-test.false)
