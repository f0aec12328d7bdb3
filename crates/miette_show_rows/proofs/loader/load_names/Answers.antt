use Rattle.std.proofs.Common.{◌≤◌, ℕ, List, [], All, Bor, length, take, subst, arith}
use Rattle.std.proofs.lemmas.List.{take_all}
use Rattle.std.proofs.lemmas.List.Elements.{All-nil}
use Rattle.miette_read.specs.views.Values.{texts}
use Rattle.miette_show_rows.proofs.Going.{all_stay, continues_value, goes_still, one_more_at}
use Rattle.miette_show_rows.proofs.loader.load_names.Goals as goal

pub loop-name-init : goal.loop-name-init
loop-name-init g c = record { known = All-nil _; goes = goes_still _ _ }

pub loop-name-preserved : goal.loop-name-preserved
loop-name-preserved g c =
    let l = c.loop-name in
    let names = c.args.names.now in
    record {
      known = one_more_at (g.F.FileLoader.knows c.load.new.self) names l.name-index
          (record { ref_ptr = (0, 0); now = [] })
          c.loop-name-test.true
          (all_stay (g.F.Files.found l.files) (g.F.Files.found c.load.new.self) (g.F.FileLoader.knows l.files)
          (g.F.FileLoader.knows c.load.new.self) (texts (take l.name-index names)) c.load.ensures.goes
          l.invariant.known)
          c.in_ok-load.ensures.known;
      goes = continues_value (g.F.Files.found c.args.files.now) (g.F.Files.found l.files)
          (g.F.Files.found c.load.new.self)
          (g.F.FileLoader.knows c.args.files.now) (g.F.FileLoader.knows l.files) (g.F.FileLoader.knows c.load.new.self)
          l.invariant.goes c.load.ensures.goes;
    }

pub returns-clause-known : goal.returns-clause-known
returns-clause-known g c =
    let l = c.loop-name in
    let names = c.args.names.now in
    let end : length names ≤ l.name-index = omega (arith, c.loop-name-test.false) in
    subst (λ (ns : List (Bor (List ℕ))). All (g.F.FileLoader.knows l.files) (texts ns))
    (take_all l.name-index names end)
    l.invariant.known
