use Rattle.std.proofs.Common.{◌≡◌, None, Some, string_bytes, rules}
use Rattle.std.proofs.lemmas.Map.Text.{hash_map_updates_text}
use Rattle.std.specs.HashMap.{get_by_text}
use Rattle.miette_show_rows.proofs.FolderSteps.{stays}
use Rattle.miette_show_rows.proofs.folder.FolderFileLoader.load.Goals as goal

pub returns-clause-goes : goal.returns-clause-goes
returns-clause-goes g c =
    let old = c.args.self.now.files in
    let key = string_bytes c.in_ok-key.key in
    let none : get_by_text old key ≡ None = search rules in
    stays old c.insert.new.self key (Some c.in_ok-file.file)
    (hash_map_updates_text key old c.insert.new.self (Some c.in_ok-file.file) c.in_ok-insert.ensures.updates) none
