use Rattle.std.proofs.Common.{◌≡◌, ◌∷◌, [], ℕ, List, Ok, Some, ap, false, inl, inr, subst, true, rules}
use Rattle.miette_show_rows.specs.views.Holding.{fixes_at}
use Rattle.miette_show_rows.specs.rules.Looking.{leads_out}
use Rattle.miette_show_rows.specs.views.Writing.{IsWritten, Writes}
use Rattle.miette_show_rows.proofs.ChangeSteps.{mended_by, writes_nil}
use Rattle.miette_show_rows.proofs.NoteEnds.{on_err_of}
use Rattle.miette_show_rows.proofs.rewrite.write_fixed_file.Goals as goal

pub returns-then-leads_out-clause-ok : goal.returns-then-leads_out-clause-ok
returns-then-leads_out-clause-ok g c =
    let out : leads_out c.args.name.now ≡ true = search rules in
    ([], inr (inl out), writes_nil (g.S.FileStore.written c.args.store.now))

pub returns-in_default-clause-ok : goal.returns-in_default-clause-ok
returns-in_default-clause-ok g c = ([], inl (search rules), writes_nil (g.S.FileStore.written c.args.store.now))

pub returns-in_err-applied-clause-unwritten : goal.returns-in_err-applied-clause-unwritten
returns-in_err-applied-clause-unwritten g c = on_err_of _ _ (writes_nil (g.S.FileStore.written c.args.store.now))

pub returns-then-branch-clause-ok : goal.returns-then-branch-clause-ok
returns-then-branch-clause-ok g c =
    let it = c.in_ok-applied.applied in
    let name = c.args.name.now in
    let file = g.F.Files.found c.args.files.now name in
    let fixes = fixes_at c.args.gathered.now.fixes name in
    let old = g.S.FileStore.written c.args.store.now in
    let new = g.S.FileStore.written c.write.new.self in
    let inside : leads_out name ≡ false = search rules in
    let there : Some c.in-Some.file ≡ file = search rules in
    let done : c.in_ok-write.field-0 ≡ true = search rules in
    let wrote = subst (λ b. IsWritten old new b name c.as_slice.result.now) done c.in_ok-write.ensures.written in (
      it.text.items,
      (
        inside,
        mended_by file c.in-Some.file c.bytes.result.now c.fixes.result.now fixes it.text.items it.taken.items there
            c.bytes.ensures c.fixes.ensures c.in_ok-applied.ensures.text c.in_ok-applied.ensures.taken,
      ),
      subst (λ (t : List ℕ). Writes old new ((name, t) ∷ [])) c.as_slice.ensures.value wrote,
    )

pub returns-else-branch-clause-ok : goal.returns-else-branch-clause-ok
returns-else-branch-clause-ok g c =
    let old = g.S.FileStore.written c.args.store.now in
    let new = g.S.FileStore.written c.write.new.self in
    let not : c.in_ok-write.field-0 ≡ false = search rules in (
      [],
      inr (inr (c.in_ok-write.ensures.refused (ap Ok not))),
      subst (λ b. IsWritten old new b c.args.name.now c.as_slice.result.now) not c.in_ok-write.ensures.written,
    )
