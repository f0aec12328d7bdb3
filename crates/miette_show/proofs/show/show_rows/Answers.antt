use Rattle.std.proofs.Common.{◌≡◌, ◌<◌, ◌∙◌, ℕ, List, Err, IfSome, inl, inr, length, refl, sym, ap, subst, arith, rules}
use Rattle.std.proofs.lemmas.Bool.Decides.{nat_tests}
use Rattle.std.proofs.lemmas.List.{nil_from_length}
use Rattle.std.specs.Io.KnownBytes.{Appends}
use Rattle.std.specs.Prelude.{◌||◌}
use Rattle.miette_program.proofs.HighlighterSteps.{led-nowhere, led-on}
use Rattle.miette_program.proofs.JobHandlerSteps.{stays-itself, stays-on}
use Rattle.miette_devices.specs.declared.fault.ProgramError.TheVariants.{Read, Refused, Usage, Write}
use Rattle.miette_program.specs.rules.JobText.{IsGiven}
use Rattle.miette_devices.specs.views.Device.{TakesBeginning}
use Rattle.miette_show_rows.specs.rules.Looking.{IsFoundBy}
use Rattle.miette_show.specs.rules.ShownRow.{ShowsFirst, passed_on}
use Rattle.miette_show_rows.specs.views.Reading.{left_of}
use Rattle.miette_show_rows.proofs.Beginnings.{all_taken, none_taken}
use Rattle.miette_show_rows.proofs.Going.{continues_value, goes_still}
use Rattle.miette_show.proofs.Showing.{shown_before}
use Rattle.miette_show_rows.proofs.NoteEnds.{no_other, not_failed, on_err_of}
use Rattle.miette_show.proofs.Progress as progress
use Rattle.miette_show.proofs.show.show_rows.Goals as goal

pub loop-init : goal.loop-init
loop-init g c = record {
  rows_sound = c.requires.rows_sound;
  writer_sound = c.requires.writer_sound;
  faults_sound = c.requires.faults_sound;
  goes = goes_still _ _;
  stays = stays-itself g.H.Highlighter.is_blank _;
  led = led-nowhere g.H.Highlighter.may_follow _;
  progress = progress.begin _ _ _ _ _ _ 1 c.none-verdict.result refl c.none-verdict.ensures;
}

pub returns-then-is_empty-clause-ok : goal.returns-then-is_empty-clause-ok
returns-then-is_empty-clause-ok g c =
    let none : length c.next_part.new.part.items ≡ 0 = search rules in
    progress.end _ _ _ _ _ _ _ _ _ _ c.loop.number c.loop.seen c.is_missing.result c.loop.verdict
    c.with_missing.result c.next_part.new.part.items (nil_from_length c.next_part.new.part.items none)
    c.loop.invariant.progress c.in_ok-following.ensures.part c.is_missing.ensures c.with_missing.ensures

pub returns-in_err-pass_on-clause-accepted : goal.returns-in_err-pass_on-clause-accepted
returns-in_err-pass_on-clause-accepted g c = λ e.
    no_other _ _ _ Refused refl (search rules) c.in_err-pass_on.ensures.others (λ k. cc) (λ k. cc) e

pub returns-in_err-pass_on-clause-called : goal.returns-in_err-pass_on-clause-called
returns-in_err-pass_on-clause-called g c = λ e.
    no_other _ _ _ Usage refl (search rules) c.in_err-pass_on.ensures.others (λ k. cc) (λ k. cc) e

pub returns-in_err-pass_on-clause-read_failed : goal.returns-in_err-pass_on-clause-read_failed
returns-in_err-pass_on-clause-read_failed g c = (
  (λ failed. (let e = c.in_ok-following.ensures.failed.0 failed in cc)),
  (λ e. absurd (no_other _ _ _ Read refl (search rules) c.in_err-pass_on.ensures.others (λ k. cc) (λ k. cc)
      e)),
)

pub returns-in_err-pass_on-clause-write_failed : goal.returns-in_err-pass_on-clause-write_failed
returns-in_err-pass_on-clause-write_failed g c =
    let is : c.from_residual-in_err-pass_on.result ≡ Err c.in_err-pass_on.field-0.0 = search rules in (
      (λ failed. elim failed [
        | inl w ↦ (let e = c.in_ok-kind.ensures.failed.0 w in cc)
        | inr w ↦ (let e = c.in_err-pass_on.ensures.failed.0 w in
            let same : c.in_err-pass_on.field-0.0 ≡ Write = cc in is ∙ ap Err same)
      ]),
      (λ e. inr (let k : Err c.in_err-pass_on.field-0.0 ≡ Err Write = sym is ∙ e in
          let same : c.in_err-pass_on.field-0.0 ≡ Write = cc in c.in_err-pass_on.ensures.failed.1 (ap Err same))),
    )

pub loop-preserved : goal.loop-preserved
loop-preserved g c =
    let l = c.loop in
    let first = c.args.files.now in
    let blank = g.H.Highlighter.is_blank in
    let follow = g.H.Highlighter.may_follow in
    let gives = IsGiven blank follow c.args.handler.now in
    let found = IsFoundBy g.F.Files.found g.F.FileLoader.knows first in
    let kind = c.in_ok-kind.kind in
    let row = c.next_part.new.part.items in
    let shown = c.in_ok-kind.ensures.shown in
    let some : 0 < length row =
    (let a = c.is_empty.ensures in let b = c.if-is_empty.false in grind (arith, nat_tests))
    in
    let is_shown = shown_before c.args.from blank follow c.args.handler.now l.handler g.F.Files.found
    g.F.FileLoader.knows
    first l.files
    c.as_slice.result.now row kind shown.0 l.invariant.stays l.invariant.led l.invariant.goes
    c.as_slice.ensures.value shown.1
    in
    let passed = subst (λ (r : List ℕ). Appends (g.E.Write.contents l.streams.faults.inner)
    (g.E.Write.contents c.pass_on.new.faults.inner) (passed_on l.number kind r)) c.as_slice.ensures.value
    c.in_ok-pass_on.ensures.passed
    in
    record {
      rows_sound = not_failed _ _ Read c.in_ok-following.ensures.failed;
      writer_sound = not_failed _ _ Write c.in_ok-kind.ensures.failed;
      faults_sound = not_failed _ _ Write c.in_ok-pass_on.ensures.failed;
      goes = continues_value (g.F.Files.found first) (g.F.Files.found l.files) (g.F.Files.found c.show_row.new.files)
          (g.F.FileLoader.knows first) (g.F.FileLoader.knows l.files) (g.F.FileLoader.knows c.show_row.new.files)
          l.invariant.goes
          c.show_row.ensures.goes;
      stays = stays-on blank c.args.handler.now l.handler c.show_row.new.handler l.invariant.stays
          c.show_row.ensures.stays;
      led = led-on follow c.args.handler.now l.handler c.show_row.new.handler l.invariant.led
          c.in_ok-kind.ensures.led;
      progress = progress.more c.args.from gives found _ _ _ _ _ _ _ _ _ l.number l.seen c.either-seen.result l.verdict
          c.with-verdict.result row kind shown.0 c.in_ok-following.following some l.invariant.progress
          c.in_ok-following.ensures.part is_shown shown.2 passed c.with-verdict.ensures
          (c.either-seen.ensures ∙ ap (λ b. l.seen || b) c.is_read.ensures) c.in_ok-following.ensures.number;
    }

pub returns-in_err-following-clause-beginning : goal.returns-in_err-following-clause-beginning
returns-in_err-following-clause-beginning g c = on_err_of _ _
    (progress.begun _ _ _ _ _ _ _ _ _ c.loop.number c.loop.seen c.loop.verdict c.loop.invariant.progress)

pub returns-in_err-kind-clause-beginning : goal.returns-in_err-kind-clause-beginning
returns-in_err-kind-clause-beginning g c =
    let l = c.loop in
    let first = c.args.files.now in
    let gives = IsGiven g.H.Highlighter.is_blank g.H.Highlighter.may_follow c.args.handler.now in
    let found = IsFoundBy g.F.Files.found g.F.FileLoader.knows first in
    let left = left_of g.R.Read.remaining c.args.streams.now.rows in
    let row = c.next_part.new.part.items in
    let some : 0 < length row =
    (let a = c.is_empty.ensures in let b = c.if-is_empty.false in grind (arith, nat_tests))
    in
    on_err_of _ _ (elim c.in_err-kind.ensures.untouched [
      | inl failed ↦
          (let cut = c.in_err-kind.ensures.beginning failed in
          let is_shown = shown_before c.args.from g.H.Highlighter.is_blank g.H.Highlighter.may_follow c.args.handler.now
          l.handler g.F.Files.found g.F.FileLoader.knows first l.files c.as_slice.result.now row cut.0 cut.1
          l.invariant.stays l.invariant.led l.invariant.goes c.as_slice.ensures.value cut.2
          in
          progress.begun_with c.args.from gives found left _ _ _ _ _ _ _ _ l.number l.seen l.verdict row cut.0 cut.1
          some l.invariant.progress c.in_ok-following.ensures.part is_shown cut.3
          (none_taken _ _))
      | inr same ↦
          subst (λ d. IfSome left (λ bytes. ShowsFirst c.args.from gives found bytes
          (λ text notes. TakesBeginning (g.W.Write.contents c.args.streams.now.writer.inner)
          (g.W.Write.contents d.inner) text × TakesBeginning (g.E.Write.contents c.args.streams.now.faults.inner)
          (g.E.Write.contents l.streams.faults.inner) notes))) (sym same)
          (progress.begun c.args.from gives found left _ _ _ _ _ l.number l.seen l.verdict l.invariant.progress)
    ])

pub returns-in_err-pass_on-clause-beginning : goal.returns-in_err-pass_on-clause-beginning
returns-in_err-pass_on-clause-beginning g c =
    let l = c.loop in
    let first = c.args.files.now in
    let gives = IsGiven g.H.Highlighter.is_blank g.H.Highlighter.may_follow c.args.handler.now in
    let found = IsFoundBy g.F.Files.found g.F.FileLoader.knows first in
    let left = left_of g.R.Read.remaining c.args.streams.now.rows in
    let kind = c.in_ok-kind.kind in
    let row = c.next_part.new.part.items in
    let shown = c.in_ok-kind.ensures.shown in
    let some : 0 < length row =
    (let a = c.is_empty.ensures in let b = c.if-is_empty.false in grind (arith, nat_tests))
    in
    let is_shown = shown_before c.args.from g.H.Highlighter.is_blank g.H.Highlighter.may_follow c.args.handler.now
    l.handler
    g.F.Files.found g.F.FileLoader.knows first l.files c.as_slice.result.now row kind shown.0 l.invariant.stays
    l.invariant.led l.invariant.goes c.as_slice.ensures.value shown.1
    in
    let before = g.E.Write.contents l.streams.faults.inner in
    let said = passed_on l.number kind row in
    let taken : TakesBeginning before (g.E.Write.contents c.pass_on.new.faults.inner) said =
    elim c.in_err-pass_on.ensures.untouched [
      | inl failed ↦
          subst (λ (r : List ℕ). TakesBeginning before (g.E.Write.contents c.pass_on.new.faults.inner)
          (passed_on l.number kind r)) c.as_slice.ensures.value (c.in_err-pass_on.ensures.beginning failed)
      | inr same ↦
          subst (λ d. TakesBeginning before (g.E.Write.contents d.inner) said) (sym same) (none_taken before said)
    ]
    in
    on_err_of _ _
    (progress.begun_with c.args.from gives found left _ _ _ _ _ _ _ _ l.number l.seen l.verdict row kind shown.0 some
    l.invariant.progress c.in_ok-following.ensures.part is_shown (all_taken _ _ _ shown.2) taken)

pub returns-clause-beginning : goal.returns-clause-beginning
returns-clause-beginning g c =
    progress.begun _ _ _ _ _ _ _ _ _ c.loop.number c.loop.seen c.loop.verdict c.loop.invariant.progress
