use Rattle.std.proofs.Common.{◌≡◌, ◌++◌, ◌∙◌, ℕ, List, inl, inr, map, subst, sym}
use Rattle.std.specs.List.{flat_map}
use Rattle.std.specs.Io.KnownBytes.{Appends}
use Rattle.std.proofs.KnownBytes.{Appends-trans}
use Rattle.std.proofs.lemmas.Result.{on_err_weaker, on_ok_weaker}
use Rattle.miette_devices.specs.views.Device.{TakesBeginning}
use Rattle.miette_tree.specs.views.Report.{tree_of}
use Rattle.miette_show.specs.rules.Logging.{unplaced_note}
use Rattle.miette_show.specs.rules.ShownRow.{passed_on}
use Rattle.miette_show_rows.proofs.Beginnings.{none_taken, taken_in, taken_then}
use Rattle.miette_show_rows.proofs.NoteEnds.{on_err_of}
use Rattle.miette_show.proofs.unplaced_reports.tell.Goals as goal

pub returns-in_err-notes-clause-beginning : goal.returns-in_err-notes-clause-beginning
returns-in_err-notes-clause-beginning g c = on_err_of _ _ (none_taken _ _)

pub returns-in_err-pass_on-clause-beginning : goal.returns-in_err-pass_on-clause-beginning
returns-in_err-pass_on-clause-beginning g c =
    let tree = tree_of g.D.Diagnostic.meaning g.S.SourceCode.source in
    let rest = flat_map (unplaced_note c.args.placed c.args.part.number) (map tree c.args.reports.now) in
    let before = g.E.Write.contents c.args.faults.now.inner in
    let passed = passed_on c.args.part.number c.args.part.kind c.args.part.bytes.now in
    on_err_of _ _ (elim c.in_err-pass_on.ensures.untouched [
      | inl failed ↦
          taken_in before (g.E.Write.contents c.pass_on.new.faults.inner) passed rest
          (c.in_err-pass_on.ensures.beginning failed)
      | inr same ↦
          subst (λ d. TakesBeginning before (g.E.Write.contents d.inner) (passed ++ rest)) (sym same)
          (none_taken before (passed ++ rest))
    ])

pub returns-clause-told : goal.returns-clause-told
returns-clause-told g c =
    let tree = tree_of g.D.Diagnostic.meaning g.S.SourceCode.source in
    let rest = flat_map (unplaced_note c.args.placed c.args.part.number) (map tree c.args.reports.now) in
    let before = g.E.Write.contents c.args.faults.now.inner in
    let mid = g.E.Write.contents c.pass_on.new.faults.inner in
    let after = g.E.Write.contents c.write_whole.new.writer.inner in
    let told : c.as_bytes.result.now ≡ rest = c.as_bytes.ensures.value ∙ c.in_ok-notes.ensures in
    on_ok_weaker c.write_whole.result
    (λ h. Appends-trans before mid after (passed_on c.args.part.number c.args.part.kind c.args.part.bytes.now) rest
    c.in_ok-pass_on.ensures.passed (subst (λ (t : List ℕ). Appends mid after t) told h)) c.write_whole.ensures.ok

pub returns-clause-beginning : goal.returns-clause-beginning
returns-clause-beginning g c =
    let tree = tree_of g.D.Diagnostic.meaning g.S.SourceCode.source in
    let rest = flat_map (unplaced_note c.args.placed c.args.part.number) (map tree c.args.reports.now) in
    let before = g.E.Write.contents c.args.faults.now.inner in
    let mid = g.E.Write.contents c.pass_on.new.faults.inner in
    let after = g.E.Write.contents c.write_whole.new.writer.inner in
    let told : c.as_bytes.result.now ≡ rest = c.as_bytes.ensures.value ∙ c.in_ok-notes.ensures in
    on_err_weaker c.write_whole.result
    (λ h. taken_then before mid after (passed_on c.args.part.number c.args.part.kind c.args.part.bytes.now) rest
    c.in_ok-pass_on.ensures.passed (subst (λ (t : List ℕ). TakesBeginning mid after t) told h))
    c.write_whole.ensures.err
