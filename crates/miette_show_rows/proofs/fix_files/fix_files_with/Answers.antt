use Rattle.std.proofs.Common.{◌≡◌, ◌∙◌, ℕ, List, inr, sym, true, rules}
use Rattle.std.specs.List.{flat_map}
use Rattle.std.specs.Io.KnownBytes.{Appends}
use Rattle.std.specs.Prelude.{◌++◌}
use Rattle.miette_show_rows.specs.rules.Packages.{SkippedFixes}
use Rattle.miette_show_rows.specs.rules.Looking.{IsFoundBy}
use Rattle.miette_show_rows.specs.rules.FixesFiles.{FileChange, are_all_written, change_faults, change_row}
use Rattle.miette_show_rows.specs.rules.FixesFiles.{written_by_change}
use Rattle.miette_show_rows.specs.views.Reading.{left_of}
use Rattle.miette_show_rows.specs.views.Writing.{Writes}
use Rattle.miette_show_rows.proofs.MendEnds.{mends_status}
use Rattle.miette_show_rows.proofs.fix_files.fix_files_with.Goals as goal

pub returns-then-all-clause-status : goal.returns-then-all-clause-status
returns-then-all-clause-status g c =
    let first = c.args.streams in
    let last = c.fix_files_on.new.streams in
    let wrote = λ (changes : List FileChange). Writes (g.S.FileStore.written c.args.store.now)
    (g.S.FileStore.written c.fix_files_on.new.store) (flat_map written_by_change changes)
    in
    let all : c.in-Ok.all ≡ true = search rules in
    inr (mends_status (IsFoundBy g.F.Files.found g.F.FileLoader.knows c.args.files.now) g.S.FileStore.refuses
    c.args.broken
    (λ (changes : List FileChange) (left : SkippedFixes) (notes : List ℕ). (c.in-Ok.all ≡ are_all_written changes left)
    × wrote changes
    × Appends (g.W.Write.contents first.writer.inner) (g.W.Write.contents last.writer.inner)
    (flat_map change_row changes)
    × Appends (g.E.Write.contents first.faults.inner) (g.E.Write.contents last.faults.inner)
    (notes ++ change_faults changes left))
    (λ (changes : List FileChange) (left : SkippedFixes) (notes : List ℕ). (are_all_written changes left ≡ true)
    × wrote changes)
    (λ changes left notes h. (sym h.0 ∙ all, h.1)) c.in-Ok.verdict
    (left_of g.R.Read.remaining first.rows) c.status.result c.status.ensures c.in-Ok.ensures.ok)
