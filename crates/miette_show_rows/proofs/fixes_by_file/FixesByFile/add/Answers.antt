use Rattle.std.proofs.Common.{◌≡◌, ◌∙◌, ℕ, List, [], ◌∷◌, ◌++◌, None, ap, map, refl, string_bytes}
use Rattle.std.proofs.lemmas.List.{map-append}
use Rattle.std.proofs.lemmas.Map.Text.{hash_map_updates_text}
use Rattle.std.proofs.lemmas.Result.{on_ok_weaker}
use Rattle.miette_show_rows.specs.rules.ApplicableFixes.{FileFixes}
use Rattle.miette_show_rows.specs.declared.fixes_by_file.FixesByFile.{FixesByFile}
use Rattle.miette_show_rows.specs.views.Holding.{Puts}
use Rattle.miette_show_rows.proofs.Holds.{adds_known, adds_new}
use Rattle.miette_show_rows.proofs.fixes_by_file.FixesByFile.add.Goals as goal

pub returns-in_ok-push_all-in-Some : goal.returns-in_ok-push_all-in-Some
returns-in_ok-push_all-in-Some c =
    let old = c.args.self.now in
    let mid : FixesByFile = record { names = old.names; fixes = c.remove.new.self } in
    let it : FileFixes = record { name = c.args.name.now; fixes = c.args.fixes.items } in
    on_ok_weaker c.put.result
    (λ (puts : Puts mid.fixes c.put.new.self.fixes it.name c.push_all.new.list).
    adds_known old mid c.put.new.self it c.push_all.new.list
    (hash_map_updates_text it.name old.fixes c.remove.new.self None c.remove.ensures.updates) puts c.in-Some.list
    c.in-Some.ensures.value c.in_ok-push_all-in-Some.ensures c.put.ensures.names) c.put.ensures.puts

pub returns-in_ok-push_item-in-None : goal.returns-in_ok-push_item-in-None
returns-in_ok-push_item-in-None c =
    let old = c.args.self.now in
    let mid : FixesByFile = record { names = c.push_item.new.list; fixes = c.remove.new.self } in
    let it : FileFixes = record { name = c.args.name.now; fixes = c.args.fixes.items } in
    let item = c.in_ok-from_str-in-None.field-0 in
    let names = map string_bytes old.names.items in
    let listed : map string_bytes c.put-in-None.new.self.names.items ≡ names ++ it.name ∷ [] =
    ap (λ l. map string_bytes l.items) c.put-in-None.ensures.names
    ∙ ap (map string_bytes) c.in_ok-push_item-in-None.ensures
    ∙ map-append string_bytes old.names.items (item ∷ [])
    ∙ ap (λ (n : List ℕ). map string_bytes old.names.items ++ n ∷ []) c.in_ok-from_str-in-None.ensures.ok
    in
    on_ok_weaker c.put-in-None.result
    (λ (puts : Puts mid.fixes c.put-in-None.new.self.fixes it.name c.args.fixes).
    adds_new old mid c.put-in-None.new.self it c.args.fixes
    (hash_map_updates_text it.name old.fixes c.remove.new.self None c.remove.ensures.updates) puts
    c.in-None.ensures.value refl listed) c.put-in-None.ensures.puts
