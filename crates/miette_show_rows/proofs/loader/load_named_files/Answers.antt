use Rattle.std.proofs.Common.{ℕ, List, All, OnOk, ap, map, string_bytes, subst, ◌∙◌}
use Rattle.serde_json.specs.View.{view}
use Rattle.miette_read.specs.rules.Names.{names_of}
use Rattle.miette_read.specs.views.Values.{texts}
use Rattle.miette_read_sarif.specs.rules.Names as log
use Rattle.miette_show_rows.proofs.Going.{both_known}
use Rattle.miette_show_rows.proofs.loader.load_named_files.Goals as goal

-- the first names stay known when those of the log are looked for
pub returns-clause-known : goal.returns-clause-known
returns-clause-known g c =
    let first = subst (λ (ns : List (List ℕ)). All (g.F.FileLoader.knows c.load_names.new.files) ns)
    (ap texts c.as_slice.ensures.value ∙ c.in_ok-names.ensures) c.in_ok-load_names.ensures.known
    in
    both_known (g.F.Files.found c.load_names.new.files) (g.F.Files.found c.load_listed_files.new.files)
    (g.F.FileLoader.knows c.load_names.new.files) (g.F.FileLoader.knows c.load_listed_files.new.files)
    (names_of (view c.args.row.now)) (log.log_file_names (view c.args.row.now)) c.load_listed_files.result
    c.load_listed_files.ensures.goes
    first
    (subst (λ (ns : List (List ℕ)). OnOk c.load_listed_files.result (All (g.F.FileLoader.knows
    c.load_listed_files.new.files) ns))
    (ap (map string_bytes) c.as_slice-2.ensures.value ∙ c.in_ok-held.ensures) c.load_listed_files.ensures.known)
