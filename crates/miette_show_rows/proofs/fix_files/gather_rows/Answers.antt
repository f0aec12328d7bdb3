use Rattle.std.proofs.Common.{◌≡◌, ◌<◌, ◌∙◌, ◌++◌, List, Err, inl, inr, length, refl, subst, sym, ap, rules}
use Rattle.std.proofs.Common.{append-nil, append_assoc}
use Rattle.std.specs.Prelude.{option_to_list}
use Rattle.std.proofs.lemmas.List.{nil_from_length}
use Rattle.miette_devices.specs.declared.fault.ProgramError.TheVariants.{Read, Write}
use Rattle.miette_devices.specs.views.Device.{TakesBeginning}
use Rattle.miette_show_rows.specs.rules.ApplicableFixes.{RowFixes}
use Rattle.miette_show_rows.specs.rules.Looking.{IsFoundBy}
use Rattle.miette_show_rows.specs.rules.Notes.{kind_is_unread, note_of}
use Rattle.miette_show_rows.proofs.Beginnings.{none_taken}
use Rattle.miette_show_rows.proofs.Going.{continues_value, goes_still}
use Rattle.miette_show_rows.proofs.NoteEnds.{no_other, not_failed, on_err_of}
use Rattle.miette_show_rows.proofs.MendSteps as steps
use Rattle.miette_show_rows.proofs.fix_files.gather_rows.Goals as goal

-- these rows are put after the first ones
abbrev added : List RowFixes → List RowFixes → List RowFixes → Type 0
added old new rows = new ≡ old ++ rows

added_then : (old mid new more : List RowFixes) → new ≡ mid ++ more
    → (rows : List RowFixes) → added old mid rows → added old new (rows ++ more)
added_then old mid new more is rows h = is ∙ ap (λ l. l ++ more) h ∙ append_assoc old rows more

pub loop-init : goal.loop-init
loop-init g c = record {
  rows_sound = c.requires.rows_sound;
  faults_sound = c.requires.faults_sound;
  goes = goes_still _ _;
  passing = steps.begin (IsFoundBy g.F.Files.found g.F.FileLoader.knows c.args.files.now)
      (added c.args.held.now.items c.args.held.now.items) _ _ 1 c.none-verdict.result refl c.none-verdict.ensures
      (sym (append-nil c.args.held.now.items));
}

pub returns-then-is_empty-clause-ok : goal.returns-then-is_empty-clause-ok
returns-then-is_empty-clause-ok g c =
    let none : length c.next_part.new.part.items ≡ 0 = search rules in
    steps.end (IsFoundBy g.F.Files.found g.F.FileLoader.knows c.args.files.now)
    (added c.args.held.now.items c.loop.held.items) _ _ _ _ _ c.loop.number c.loop.verdict
    c.next_part.new.part.items (nil_from_length c.next_part.new.part.items none) c.loop.invariant.passing
    c.in_ok-following.ensures.part

pub returns-in_err-note_unread_row-clause-read_failed : goal.returns-in_err-note_unread_row-clause-read_failed
returns-in_err-note_unread_row-clause-read_failed g c = (
  (λ failed. (let e = c.in_ok-following.ensures.failed.0 failed in cc)),
  (λ e. absurd (no_other _ _ _ Read refl (search rules) c.in_err-note_unread_row.ensures.others (λ k. cc) (λ k. cc) e)),
)

pub returns-in_err-note_unread_row-clause-write_failed : goal.returns-in_err-note_unread_row-clause-write_failed
returns-in_err-note_unread_row-clause-write_failed g c =
    let is : c.from_residual-in_err-note_unread_row.result ≡ Err c.in_err-note_unread_row.field-0.0 = search rules in (
      (λ w. (let e = c.in_err-note_unread_row.ensures.failed.0 w in
          let same : c.in_err-note_unread_row.field-0.0 ≡ Write = cc in is ∙ ap Err same)),
      (λ e. (let k : Err c.in_err-note_unread_row.field-0.0 ≡ Err Write = sym is ∙ e in
          let same : c.in_err-note_unread_row.field-0.0 ≡ Write = cc in c.in_err-note_unread_row.ensures.failed.1
          (ap Err same))),
    )

pub loop-preserved : goal.loop-preserved
loop-preserved g c =
    let l = c.loop in
    let first = c.args.files.now in
    let found = IsFoundBy g.F.Files.found g.F.FileLoader.knows first in
    let kind = c.in_ok-kind.kind in
    let row = c.next_part.new.part.items in
    let gives = c.in_ok-kind.ensures.given in
    let some : 0 < length row = search rules in
    let is_giving = steps.giving_before g.F.Files.found g.F.FileLoader.knows first l.files c.as_slice.result.now row
    kind
    gives.0 l.invariant.goes c.as_slice.ensures.value gives.1
    in
    record {
      rows_sound = not_failed _ _ Read c.in_ok-following.ensures.failed;
      faults_sound = not_failed _ _ Write c.in_ok-note_unread_row.ensures.failed;
      goes = continues_value (g.F.Files.found first) (g.F.Files.found l.files) (g.F.Files.found c.gather_row.new.files)
          (g.F.FileLoader.knows first) (g.F.FileLoader.knows l.files) (g.F.FileLoader.knows c.gather_row.new.files)
          l.invariant.goes c.gather_row.ensures.goes;
      passing = steps.more found (added c.args.held.now.items l.held.items)
          (added c.args.held.now.items c.gather_row.new.held.items) _ _ _ _ _ _ l.number l.verdict
          c.with-verdict.result row
          kind gives.0 c.in_ok-following.following some l.invariant.passing c.in_ok-following.ensures.part is_giving
          (added_then c.args.held.now.items l.held.items c.gather_row.new.held.items (option_to_list gives.0) gives.2)
          c.in_ok-note_unread_row.ensures.noted c.with-verdict.ensures c.in_ok-following.ensures.number;
    }

pub returns-in_err-following-clause-beginning : goal.returns-in_err-following-clause-beginning
returns-in_err-following-clause-beginning g c = on_err_of _ _
    (steps.begun (IsFoundBy g.F.Files.found g.F.FileLoader.knows c.args.files.now) _ _ _ _ _ c.loop.number
    c.loop.verdict
    c.loop.invariant.passing)

pub returns-in_err-kind-clause-beginning : goal.returns-in_err-kind-clause-beginning
returns-in_err-kind-clause-beginning g c = on_err_of _ _
    (steps.begun (IsFoundBy g.F.Files.found g.F.FileLoader.knows c.args.files.now) _ _ _ _ _ c.loop.number
    c.loop.verdict
    c.loop.invariant.passing)

pub returns-in_err-note_unread_row-clause-beginning : goal.returns-in_err-note_unread_row-clause-beginning
returns-in_err-note_unread_row-clause-beginning g c =
    let l = c.loop in
    let first = c.args.files.now in
    let kind = c.in_ok-kind.kind in
    let row = c.next_part.new.part.items in
    let gives = c.in_ok-kind.ensures.given in
    let some : 0 < length row = search rules in
    let is_giving = steps.giving_before g.F.Files.found g.F.FileLoader.knows first l.files c.as_slice.result.now row
    kind
    gives.0 l.invariant.goes c.as_slice.ensures.value gives.1
    in
    let before = g.E.Write.contents l.faults.inner in
    let said = note_of l.number (kind_is_unread kind) in
    let taken : TakesBeginning before (g.E.Write.contents c.note_unread_row.new.faults.inner) said =
    elim c.in_err-note_unread_row.ensures.untouched [
      | inl failed ↦ c.in_err-note_unread_row.ensures.beginning failed
      | inr same ↦
          subst (λ d. TakesBeginning before (g.E.Write.contents d.inner) said) (sym same) (none_taken before said)
    ]
    in
    on_err_of _ _
    (steps.begun_with (IsFoundBy g.F.Files.found g.F.FileLoader.knows first) _ _ _ _ _ _ _ l.number l.verdict row kind
    gives.0 some l.invariant.passing c.in_ok-following.ensures.part is_giving taken)

pub returns-clause-beginning : goal.returns-clause-beginning
returns-clause-beginning g c =
    steps.begun (IsFoundBy g.F.Files.found g.F.FileLoader.knows c.args.files.now) _ _ _ _ _ c.loop.number c.loop.verdict
    c.loop.invariant.passing
