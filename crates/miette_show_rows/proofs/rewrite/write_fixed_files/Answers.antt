use Rattle.std.proofs.Common.{◌≤◌, ◌∙◌, ◌++◌, List, ℕ, ap, length, map, refl, string_bytes, subst}
use Rattle.std.proofs.Common.{◌+◌, drop, sym, take, true, arith, Bool, Option}
use Rattle.std.specs.Prelude.{Vec, option_map}
use Rattle.std.specs.declared.alloc.Global.{Global}
use Rattle.std.proofs.lemmas.List.{take_all}
use Rattle.miette_show_rows.specs.views.Holding.{fixes_at}
use Rattle.miette_devices.specs.declared.fault.ProgramError.TheVariants.{Write}
use Rattle.miette_show_rows.proofs.ChangeSteps.{Changing, all_changed, begin, first_more, first_still, more}
use Rattle.miette_show_rows.proofs.ChangeSteps.{neither_failed, one_passed, parted}
use Rattle.miette_show_rows.proofs.NoteEnds.{on_err_of}
use Rattle.miette_show_rows.proofs.rewrite.write_fixed_files.Goals as goal

pub loop-entry-init : goal.loop-entry-init
loop-entry-init g c =
    let streams = c.args.streams.now in
    record {
      writer_sound = c.requires.writer_sound;
      faults_sound = c.requires.faults_sound;
      rows = refl;
      changing = begin (g.F.Files.found c.args.files.now) g.S.FileStore.refuses (fixes_at c.args.gathered.now.fixes)
          true
          (g.S.FileStore.written c.args.store.now) (g.W.Write.contents streams.writer.inner)
          (g.E.Write.contents streams.faults.inner) refl;
    }

pub loop-entry-preserved : goal.loop-entry-preserved
loop-entry-preserved g c =
    let l = c.loop-entry in
    let first = c.args.streams.now in
    let last = c.write_change.new.streams in
    let items = c.names-entry-items.result.now in
    let item = c.entry-item.result in
    let name = c.as_str-name.result.now in
    let files = g.F.Files.found c.args.files.now in
    let refuses = g.S.FileStore.refuses in
    let fixes = fixes_at c.args.gathered.now.fixes in
    let kept = g.S.FileStore.written in
    let out = g.W.Write.contents in
    let err = g.E.Write.contents in
    let wrote = c.in_ok-taken.ensures.ok in
    let taken : Option (List Bool) = option_map (λ (list : Vec Bool Global). list.items) c.in_ok-taken.taken in
    let sound = neither_failed last.writer.failed last.faults.failed c.in_ok-done.done Write
    c.in_ok-done.ensures.write_failed
    in
    let passed = one_passed string_bytes items l.entry-index item name c.loop-entry-test.true c.entry-item.is
    c.as_str-name.ensures.value
    in
    record {
      writer_sound = sound.0;
      faults_sound = sound.1;
      rows = c.write_change.ensures.rows ∙ l.invariant.rows;
      changing = subst (λ (ns : List (List ℕ)). Changing files refuses fixes ns c.both-all.result
          (kept c.args.store.now) (kept c.write_fixed_file.new.store) (out first.writer.inner) (out last.writer.inner)
          (err first.faults.inner) (err last.faults.inner)) passed
          (more files refuses fixes (map string_bytes (take l.entry-index items)) l.all c.in_ok-done.done
          c.both-all.result (kept c.args.store.now) (kept l.store) (kept c.write_fixed_file.new.store)
          (out first.writer.inner) (out l.streams.writer.inner) (out last.writer.inner) (err first.faults.inner)
          (err l.streams.faults.inner) (err last.faults.inner) name wrote.0 taken l.invariant.changing wrote.1 wrote.2
          c.in_ok-done.ensures.done
          c.in_ok-done.ensures.said c.in_ok-done.ensures.noted c.both-all.ensures);
    }

pub returns-clause-ok : goal.returns-clause-ok
returns-clause-ok g c =
    let l = c.loop-entry in
    let items = c.names-entry-items.result.now in
    let end : length items ≤ l.entry-index = omega (arith, c.loop-entry-test.false) in
    all_changed (g.F.Files.found c.args.files.now) g.S.FileStore.refuses (fixes_at c.args.gathered.now.fixes)
    (map string_bytes (take l.entry-index items)) (map string_bytes c.args.gathered.now.names.items) l.all _ _ _ _ _ _
    (ap (map string_bytes) (take_all l.entry-index items end) ∙ ap (map string_bytes) c.names-entry-items.ensures)
    l.invariant.changing

pub returns-in_err-taken-clause-first : goal.returns-in_err-taken-clause-first
returns-in_err-taken-clause-first g c =
    let l = c.loop-entry in
    let items = c.names-entry-items.result.now in
    on_err_of _ _
    (first_still (g.F.Files.found c.args.files.now) g.S.FileStore.refuses (fixes_at c.args.gathered.now.fixes)
    (map string_bytes (take l.entry-index items)) (map string_bytes (drop l.entry-index items))
    (map string_bytes c.args.gathered.now.names.items) l.all _ _ _ _ _ _ _ l.invariant.changing
    c.in_err-taken.ensures.unwritten
    (ap (map string_bytes) (sym c.names-entry-items.ensures) ∙ parted string_bytes items l.entry-index))

pub returns-in_err-done-clause-first : goal.returns-in_err-done-clause-first
returns-in_err-done-clause-first g c =
    let l = c.loop-entry in
    let items = c.names-entry-items.result.now in
    let item = c.entry-item.result in
    let wrote = c.in_ok-taken.ensures.ok in
    let taken : Option (List Bool) = option_map (λ (list : Vec Bool Global). list.items) c.in_ok-taken.taken in
    on_err_of _ _
    (first_more (g.F.Files.found c.args.files.now) g.S.FileStore.refuses (fixes_at c.args.gathered.now.fixes)
    (map string_bytes (take l.entry-index items)) (map string_bytes (drop (l.entry-index + 1) items))
    (map string_bytes c.args.gathered.now.names.items) l.all _ _ _ _ _ _ _ _ _ c.as_str-name.result.now wrote.0 taken
    l.invariant.changing wrote.1 wrote.2
    (ap (map string_bytes) (sym c.names-entry-items.ensures) ∙ parted string_bytes items (l.entry-index + 1)
    ∙ ap (λ (ns : List (List ℕ)). ns ++ map string_bytes (drop (l.entry-index + 1) items))
    (sym (one_passed string_bytes items l.entry-index item c.as_str-name.result.now c.loop-entry-test.true
    c.entry-item.is c.as_str-name.ensures.value))) c.in_err-done.ensures.beginning)
