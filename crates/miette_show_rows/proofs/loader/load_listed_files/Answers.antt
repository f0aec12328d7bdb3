use Rattle.std.proofs.Common.{◌≤◌, All, length, map, string_bytes, subst, take, arith}
use Rattle.std.proofs.lemmas.List.{take_all}
use Rattle.std.proofs.lemmas.List.Elements.{All-nil}
use Rattle.miette_show_rows.proofs.Going.{all_stay, continues_value, goes_still, held_more}
use Rattle.miette_show_rows.proofs.loader.load_listed_files.Goals as goal

pub loop-name-init : goal.loop-name-init
loop-name-init g c = record { known = All-nil _; goes = goes_still _ _ }

pub loop-name-preserved : goal.loop-name-preserved
loop-name-preserved g c =
    let l = c.loop-name in
    let names = c.args.names.now in
    record {
      known = held_more string_bytes (g.F.FileLoader.knows c.load.new.self) names l.name-index c.name-item.result
          c.loop-name-test.true c.name-item.is
          (all_stay (g.F.Files.found l.files) (g.F.Files.found c.load.new.self) (g.F.FileLoader.knows l.files)
          (g.F.FileLoader.knows c.load.new.self) (map string_bytes (take l.name-index names)) c.load.ensures.goes
          l.invariant.known)
          (subst (g.F.FileLoader.knows c.load.new.self) c.as_str.ensures.value c.in_ok-load.ensures.known);
      goes = continues_value (g.F.Files.found c.args.files.now) (g.F.Files.found l.files)
          (g.F.Files.found c.load.new.self)
          (g.F.FileLoader.knows c.args.files.now) (g.F.FileLoader.knows l.files) (g.F.FileLoader.knows c.load.new.self)
          l.invariant.goes c.load.ensures.goes;
    }

pub returns-clause-known : goal.returns-clause-known
returns-clause-known g c =
    let l = c.loop-name in
    let names = c.args.names.now in
    let end : length names ≤ l.name-index = omega (arith, c.loop-name-test.false) in
    subst (λ ns. All (g.F.FileLoader.knows l.files) (map string_bytes ns)) (take_all l.name-index names end)
    l.invariant.known
