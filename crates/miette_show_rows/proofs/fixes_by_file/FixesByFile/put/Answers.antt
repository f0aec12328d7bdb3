use Rattle.std.proofs.Common.{◌≡◌, ℕ, List, Some, string_bytes, subst, rules}
use Rattle.std.proofs.lemmas.Map.Text.{hash_map_updates_text}
use Rattle.miette_show_rows.specs.views.Holding.{Puts}
use Rattle.miette_show_rows.proofs.fixes_by_file.FixesByFile.put.Goals as goal

pub returns-clause-puts : goal.returns-clause-puts
returns-clause-puts c =
    let old = c.args.self.now.fixes in
    let key = string_bytes c.in_ok-key.key in
    let same : key ≡ c.args.name.now = search rules in
    subst (λ (bs : List ℕ). Puts old c.insert.new.self bs c.args.fixes) same
    (hash_map_updates_text key old c.insert.new.self (Some c.args.fixes) c.in_ok-insert.ensures.updates)
