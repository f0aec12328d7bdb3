use Rattle.std.proofs.Common.{◌≡◌, sym, ap, ◌∙◌, subst, length}
use Rattle.std.specs.List.{AllByRecursion}
use Rattle.std.proofs.lemmas.Result.{on_ok_weaker}
use Rattle.miette_fixes.proofs.Overlaps.{fit_unrefused}
use Rattle.miette_fixes.specs.rules.Applying.{by_offset}
use Rattle.miette_fix_rows.specs.rules.DiffTexts.{deleted_spans, inserted_spans}
use Rattle.miette_fix_rows.specs.rules.Hunks.{changes}
use Rattle.miette_fix_drawing.specs.steps.Framing.{PointsWithin}
use Rattle.miette_fix_drawing.specs.steps.Places.{HunkIsIn}
use Rattle.miette_fix_drawing.specs.steps.Rising.{AreRising}
use Rattle.miette_fix_drawing.specs.views.Hunks.{hunks_of}
use Rattle.miette_fix_drawing.proofs.Drawn.{deleted_apart, drawn_put, inserted_apart}
use Rattle.miette_fix_drawing.proofs.HunkPlaces.{hunks_within}
use Rattle.miette_fix_drawing.proofs.Rising.{changes_rising}
use Rattle.miette_fix_drawing.proofs.fix.push_ordered_fix.Goals as goal

pub hunks_of-requires : goal.hunks_of-requires
hunks_of-requires g c =
    subst (AreRising (length c.args.source.now.bytes.now) 0) (sym (c.deref.ensures.value ∙ c.in-Ok.ensures.ok.1))
    (changes_rising c.args.source.now.bytes.now c.args.fix.now.edits c.requires.unrefused)

pub push_frames-requires-clause-deleted : goal.push_frames-requires-clause-deleted
push_frames-requires-clause-deleted g c =
    deleted_apart (length c.args.source.now.bytes.now) (by_offset c.args.fix.now.edits) c.deref-2.result.now
    (fit_unrefused (length c.args.source.now.bytes.now) c.args.fix.now.edits c.requires.unrefused)
    (c.deref-2.ensures.value ∙ c.in_ok-deleted.ensures ∙ ap deleted_spans c.requires.order)

pub push_frames-requires-clause-inserted : goal.push_frames-requires-clause-inserted
push_frames-requires-clause-inserted g c =
    inserted_apart (by_offset c.args.fix.now.edits) c.deref-3.result.now
    (c.deref-3.ensures.value ∙ c.in_ok-inserted.ensures ∙ ap inserted_spans c.requires.order)

pub push_frames-requires-clause-stand : goal.push_frames-requires-clause-stand
push_frames-requires-clause-stand g c =
    subst (AllByRecursion (HunkIsIn c.args.source.now.bytes.now)) (sym c.deref-4.ensures.value)
    c.in_ok-hunks.ensures.stand

pub push_frames-requires-clause-places : goal.push_frames-requires-clause-places
push_frames-requires-clause-places g c =
    let source = c.args.source.now.bytes.now in
    let made : c.deref.result.now ≡ changes source c.args.fix.now.edits =
    c.deref.ensures.value ∙ c.in-Ok.ensures.ok.1 in
    subst (AllByRecursion (PointsWithin (length source)))
    (sym (ap hunks_of c.deref-4.ensures.value ∙ c.in_ok-hunks.ensures.hunks))
    (hunks_within source (length source) 0 c.deref.result.now
    (subst (AreRising (length source) 0) (sym made)
    (changes_rising source c.args.fix.now.edits c.requires.unrefused)))

pub returns : goal.returns
returns g c =
    on_ok_weaker c.push_frames.result
    (λ put. λ whole. λ bytes. λ name.
    drawn_put (record {
      settings = c.args.settings.now;
      name = c.args.source.now.name;
      source = c.args.source.now.bytes;
      deleted = c.deref-2.result;
      inserted = c.deref-3.result;
    }) whole c.args.fix.now.edits c.deref.result.now _ _ c.args.page.now c.push_frames.new.page
    bytes name (c.deref-2.ensures.value ∙ c.in_ok-deleted.ensures ∙ ap deleted_spans c.requires.order)
    (c.deref-3.ensures.value ∙ c.in_ok-inserted.ensures ∙ ap inserted_spans c.requires.order)
    (c.deref.ensures.value ∙ c.in-Ok.ensures.ok.1)
    (ap hunks_of c.deref-4.ensures.value ∙ c.in_ok-hunks.ensures.hunks) c.in_ok-hunks.ensures.behind
    put)
    c.push_frames.ensures
