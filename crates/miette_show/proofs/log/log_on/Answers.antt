use Rattle.std.proofs.Common.{◌≡◌, ◌∙◌, ℕ, List, Bool, Option, Err, ap, inl, inr, map, refl, subst, sym, rules}
use Rattle.std.specs.Prelude.{Vec}
use Rattle.std.specs.Io.KnownBytes.{Appends}
use Rattle.std.specs.declared.alloc.Global.{Global}
use Rattle.miette_devices.specs.declared.fault.ProgramError.TheVariants.{Read, Write}
use Rattle.miette_devices.specs.views.Device.{TakesBeginning}
use Rattle.miette_lsp.specs.rules.LogWords.{logged_text}
use Rattle.miette_protocol.specs.rules.Reading.{Source}
use Rattle.miette_protocol.specs.views.Diagnostic.{meaning_of}
use Rattle.miette_tree.specs.rules.Reads.{AllAlwaysRead}
use Rattle.miette_tree.specs.rules.Tree.{Tree, trees}
use Rattle.miette_tree.specs.views.Report.{tree_of}
use Rattle.miette_show_rows.specs.views.Reading.{left_of}
use Rattle.miette_show_rows.proofs.Beginnings.{none_taken}
use Rattle.miette_show.proofs.Logging.{all_first, all_read, logs_all, logs_first, logs_none, logs_some}
use Rattle.miette_show_rows.proofs.NoteEnds.{no_other, on_err_of}
use Rattle.miette_show.specs.rules.LogCalls.{needs_places}
use Rattle.miette_show.specs.declared.words.Format.{Format}
use Rattle.miette_show.specs.views.LoggedRow.{AreLogged, AreLoggedFirst}
use Rattle.miette_show_rows.specs.declared.verdict.Verdict.{Verdict}
use Rattle.miette_show.proofs.log.log_on.Goals as goal

abbrev items_of : Vec ℕ Global → List ℕ
items_of part = part.items

logged_by : (from : Format) (a b : Bool) (files : List ℕ → Option Source) (parts : List (List ℕ))
    (holds : List Tree → List ℕ → Type 0) (verdict : Verdict) → a ≡ b → AreLogged from a files parts holds verdict
    → AreLogged from b files parts holds verdict
logged_by from a b files parts holds verdict e h =
    subst (λ (placed : Bool). AreLogged from placed files parts holds verdict) e h

first_by : (from : Format) (a b : Bool) (files : List ℕ → Option Source) (parts : List (List ℕ))
    (holds : List ℕ → Type 0) → a ≡ b → AreLoggedFirst from a files parts holds
    → AreLoggedFirst from b files parts holds
first_by from a b files parts holds e h =
    subst (λ (placed : Bool). AreLoggedFirst from placed files parts holds) e h

pub text-requires : goal.text-requires
text-requires g c =
    let tree = tree_of meaning_of (λ (it : Source). it) in
    record {
      reads = subst (λ rs. AllAlwaysRead (trees (map tree rs))) (sym c.as_slice.ensures.value)
          (all_read (map tree c.in_ok-verdict.reports.items) c.in_ok-verdict.ensures.reads);
    }

pub returns-clause-ok : goal.returns-clause-ok
returns-clause-ok g c =
    let form : c.log.inside.form ≡ c.args.log.form = search rules in
    let needs = c.needs_places.ensures ∙ ap needs_places form in
    let tree = tree_of meaning_of (λ (it : Source). it) in
    let wrote = g.W.Write.contents c.args.streams.now.writer.inner in
    let written = g.W.Write.contents c.write_whole.new.writer.inner in
    let before = g.E.Write.contents c.args.streams.now.faults.inner in
    let after = g.E.Write.contents c.reports_of_parts.new.faults.inner in
    let text = c.as_bytes.ensures.value ∙ c.in_ok-text.ensures.ok
    ∙ ap (λ rs. logged_text c.args.log (trees (map tree rs))) c.as_slice.ensures.value
    in
    logs_all c.args.from (needs_places c.args.log.form) g.F.Files.found g.F.FileLoader.knows c.args.files.now
    c.load_part_files.new.files
    (left_of g.R.Read.remaining c.args.streams.now.rows) (map items_of c.in_ok-parts.parts.items)
    (λ all notes. (map tree c.in_ok-verdict.reports.items ≡ all) × Appends before after notes)
    (λ ts notes. Appends wrote written (logged_text c.args.log (trees ts)) × Appends before after notes)
    c.in_ok-verdict.verdict c.in_ok-parts.ensures.parts c.in_ok-load_part_files.ensures.known
    c.load_part_files.ensures.goes
    (logged_by c.args.from c.needs_places.result (needs_places c.args.log.form)
    (g.F.Files.found c.load_part_files.new.files) (map items_of c.in_ok-parts.parts.items)
    (λ all notes. (map tree c.in_ok-verdict.reports.items ≡ all) × Appends before after notes)
    c.in_ok-verdict.verdict needs c.in_ok-verdict.ensures.ok)
    (λ ts notes said. (
      subst (λ (all : List Tree). Appends wrote written (logged_text c.args.log (trees all))) said.0
          (subst (Appends wrote written) text c.in_ok-write_whole.ensures.ok),
      said.1,
    ))

-- ---- the writer after an error

pub returns-in_err-write_whole-clause-beginning : goal.returns-in_err-write_whole-clause-beginning
returns-in_err-write_whole-clause-beginning g c =
    let form : c.log.inside.form ≡ c.args.log.form = search rules in
    let needs = c.needs_places.ensures ∙ ap needs_places form in
    let tree = tree_of meaning_of (λ (it : Source). it) in
    let wrote = g.W.Write.contents c.args.streams.now.writer.inner in
    let written = g.W.Write.contents c.write_whole.new.writer.inner in
    let before = g.E.Write.contents c.args.streams.now.faults.inner in
    let after = g.E.Write.contents c.reports_of_parts.new.faults.inner in
    let text = c.as_bytes.ensures.value ∙ c.in_ok-text.ensures.ok
    ∙ ap (λ rs. logged_text c.args.log (trees (map tree rs))) c.as_slice.ensures.value
    in
    on_err_of _ _ (inr
    (logs_some c.args.from (needs_places c.args.log.form) g.F.Files.found g.F.FileLoader.knows c.args.files.now
    c.load_part_files.new.files
    (left_of g.R.Read.remaining c.args.streams.now.rows) (map items_of c.in_ok-parts.parts.items)
    (λ all notes. (map tree c.in_ok-verdict.reports.items ≡ all) × Appends before after notes)
    (λ ts notes. TakesBeginning wrote written (logged_text c.args.log (trees ts)) × Appends before after notes)
    c.in_ok-verdict.verdict c.in_ok-parts.ensures.parts c.in_ok-load_part_files.ensures.known
    c.load_part_files.ensures.goes
    (logged_by c.args.from c.needs_places.result (needs_places c.args.log.form)
    (g.F.Files.found c.load_part_files.new.files) (map items_of c.in_ok-parts.parts.items)
    (λ all notes. (map tree c.in_ok-verdict.reports.items ≡ all) × Appends before after notes)
    c.in_ok-verdict.verdict needs c.in_ok-verdict.ensures.ok)
    (λ ts notes said. (
      subst (λ (all : List Tree). TakesBeginning wrote written (logged_text c.args.log (trees all))) said.0
          (subst (TakesBeginning wrote written) text c.in_err-write_whole.ensures.err),
      said.1,
    ))))

-- ---- what is passed on before an error

pub returns-in_err-parts-clause-noted : goal.returns-in_err-parts-clause-noted
returns-in_err-parts-clause-noted g c = on_err_of _ _
    (logs_none c.args.from (needs_places c.args.log.form) g.F.Files.found g.F.FileLoader.knows c.args.files.now
    c.args.files.now
    (left_of g.R.Read.remaining c.args.streams.now.rows)
    (TakesBeginning (g.E.Write.contents c.args.streams.now.faults.inner)
    (g.E.Write.contents c.args.streams.now.faults.inner)) (none_taken _ _))

pub returns-in_err-load_part_files-clause-noted : goal.returns-in_err-load_part_files-clause-noted
returns-in_err-load_part_files-clause-noted g c = on_err_of _ _
    (logs_none c.args.from (needs_places c.args.log.form) g.F.Files.found g.F.FileLoader.knows c.args.files.now
    c.args.files.now
    (left_of g.R.Read.remaining c.args.streams.now.rows)
    (TakesBeginning (g.E.Write.contents c.args.streams.now.faults.inner)
    (g.E.Write.contents c.args.streams.now.faults.inner)) (none_taken _ _))

pub returns-in_err-verdict-clause-noted : goal.returns-in_err-verdict-clause-noted
returns-in_err-verdict-clause-noted g c =
    let form : c.log.inside.form ≡ c.args.log.form = search rules in
    let needs = c.needs_places.ensures ∙ ap needs_places form in
    on_err_of _ _
    (logs_first c.args.from (needs_places c.args.log.form) g.F.Files.found g.F.FileLoader.knows c.args.files.now
    c.load_part_files.new.files
    (left_of g.R.Read.remaining c.args.streams.now.rows) (map items_of c.in_ok-parts.parts.items)
    (TakesBeginning (g.E.Write.contents c.args.streams.now.faults.inner)
    (g.E.Write.contents c.reports_of_parts.new.faults.inner))
    c.in_ok-parts.ensures.parts c.in_ok-load_part_files.ensures.known c.load_part_files.ensures.goes
    (first_by c.args.from c.needs_places.result (needs_places c.args.log.form)
    (g.F.Files.found c.load_part_files.new.files) (map items_of c.in_ok-parts.parts.items)
    (TakesBeginning (g.E.Write.contents c.args.streams.now.faults.inner)
    (g.E.Write.contents c.reports_of_parts.new.faults.inner)) needs c.in_err-verdict.ensures.beginning))

pub returns-in_err-text-clause-noted : goal.returns-in_err-text-clause-noted
returns-in_err-text-clause-noted g c =
    let form : c.log.inside.form ≡ c.args.log.form = search rules in
    let needs = c.needs_places.ensures ∙ ap needs_places form in
    let before = g.E.Write.contents c.args.streams.now.faults.inner in
    let after = g.E.Write.contents c.reports_of_parts.new.faults.inner in
    on_err_of _ _
    (logs_first c.args.from (needs_places c.args.log.form) g.F.Files.found g.F.FileLoader.knows c.args.files.now
    c.load_part_files.new.files
    (left_of g.R.Read.remaining c.args.streams.now.rows) (map items_of c.in_ok-parts.parts.items)
    (TakesBeginning before after) c.in_ok-parts.ensures.parts c.in_ok-load_part_files.ensures.known
    c.load_part_files.ensures.goes
    (all_first c.args.from (needs_places c.args.log.form) (g.F.Files.found c.load_part_files.new.files)
    (map items_of c.in_ok-parts.parts.items)
    (map (tree_of meaning_of (λ (it : Source). it)) c.in_ok-verdict.reports.items) before after
    c.in_ok-verdict.verdict (logged_by c.args.from c.needs_places.result (needs_places c.args.log.form)
    (g.F.Files.found c.load_part_files.new.files) (map items_of c.in_ok-parts.parts.items)
    (λ all notes. (map (tree_of meaning_of (λ (it : Source). it)) c.in_ok-verdict.reports.items ≡ all)
    × Appends before after notes) c.in_ok-verdict.verdict needs c.in_ok-verdict.ensures.ok)))

pub returns-in_err-write_whole-clause-noted : goal.returns-in_err-write_whole-clause-noted
returns-in_err-write_whole-clause-noted g c =
    let form : c.log.inside.form ≡ c.args.log.form = search rules in
    let needs = c.needs_places.ensures ∙ ap needs_places form in
    let before = g.E.Write.contents c.args.streams.now.faults.inner in
    let after = g.E.Write.contents c.reports_of_parts.new.faults.inner in
    on_err_of _ _
    (logs_first c.args.from (needs_places c.args.log.form) g.F.Files.found g.F.FileLoader.knows c.args.files.now
    c.load_part_files.new.files
    (left_of g.R.Read.remaining c.args.streams.now.rows) (map items_of c.in_ok-parts.parts.items)
    (TakesBeginning before after) c.in_ok-parts.ensures.parts c.in_ok-load_part_files.ensures.known
    c.load_part_files.ensures.goes
    (all_first c.args.from (needs_places c.args.log.form) (g.F.Files.found c.load_part_files.new.files)
    (map items_of c.in_ok-parts.parts.items)
    (map (tree_of meaning_of (λ (it : Source). it)) c.in_ok-verdict.reports.items) before after
    c.in_ok-verdict.verdict (logged_by c.args.from c.needs_places.result (needs_places c.args.log.form)
    (g.F.Files.found c.load_part_files.new.files) (map items_of c.in_ok-parts.parts.items)
    (λ all notes. (map (tree_of meaning_of (λ (it : Source). it)) c.in_ok-verdict.reports.items ≡ all)
    × Appends before after notes) c.in_ok-verdict.verdict needs c.in_ok-verdict.ensures.ok)))

-- ---- which call failed

pub returns-in_err-verdict-clause-read_failed : goal.returns-in_err-verdict-clause-read_failed
returns-in_err-verdict-clause-read_failed g c = (
  (λ failed. (let e = c.in_ok-parts.ensures.failed.0 failed in cc)),
  (λ e. absurd (no_other _ _ _ Read refl (search rules) c.in_err-verdict.ensures.others (λ k. cc) (λ k. cc) e)),
)

pub returns-in_err-verdict-clause-write_failed : goal.returns-in_err-verdict-clause-write_failed
returns-in_err-verdict-clause-write_failed g c =
    let is : c.from_residual-in_err-verdict.result ≡ Err c.in_err-verdict.field-0.0 = search rules in (
      (λ failed. elim failed [
        | inl w ↦ (let sound = c.requires.writer_sound in cc)
        | inr w ↦ (let e = c.in_err-verdict.ensures.failed.0 w in
            let same : c.in_err-verdict.field-0.0 ≡ Write = cc in is ∙ ap Err same)
      ]),
      (λ e. inr (let k : Err c.in_err-verdict.field-0.0 ≡ Err Write = sym is ∙ e in
          let same : c.in_err-verdict.field-0.0 ≡ Write = cc in c.in_err-verdict.ensures.failed.1 (ap Err same))),
    )

pub returns-in_err-write_whole-clause-write_failed : goal.returns-in_err-write_whole-clause-write_failed
returns-in_err-write_whole-clause-write_failed g c =
    let is : c.from_residual-in_err-write_whole.result ≡ Err c.in_err-write_whole.field-0.0 = search rules in
    let k : Err c.in_err-write_whole.field-0.0 ≡ Err Write = c.in_err-write_whole.ensures.fault in
    let same : c.in_err-write_whole.field-0.0 ≡ Write = cc in (
      (λ failed. is ∙ ap Err same),
      (λ e. inl (c.in_err-write_whole.ensures.failed.1 refl)),
    )
