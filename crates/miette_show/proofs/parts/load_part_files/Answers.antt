use Rattle.std.proofs.Common.{◌≤◌, ◌∙◌, ℕ, List, All, length, map, subst, take, arith}
use Rattle.std.specs.Prelude.{Vec}
use Rattle.std.specs.declared.alloc.Global.{Global}
use Rattle.std.proofs.lemmas.List.{take_all}
use Rattle.std.proofs.lemmas.List.Elements.{All-nil}
use Rattle.miette_show.specs.views.LoggedRow.{AreKnown}
use Rattle.miette_show_rows.proofs.Going.{continues_value, goes_still}
use Rattle.miette_show.proofs.Logging.{known_stay, one_more_known}
use Rattle.miette_show.proofs.parts.load_part_files.Goals as goal

abbrev items_of : Vec ℕ Global → List ℕ
items_of part = part.items

pub loop-part-init : goal.loop-part-init
loop-part-init g c = record { known = All-nil _; goes = goes_still _ _ }

pub loop-part-preserved : goal.loop-part-preserved
loop-part-preserved g c =
    let l = c.loop-part in
    let from = c.args.held.now.from in
    let parts = c.as_slice-part-items.result.now in
    record {
      known = one_more_known items_of (AreKnown from (g.F.FileLoader.knows c.load_part.new.files)) parts l.part-index
          c.part-item.result c.loop-part-test.true c.part-item.is
          (known_stay from (g.F.Files.found l.files) (g.F.Files.found c.load_part.new.files)
          (g.F.FileLoader.knows l.files)
          (g.F.FileLoader.knows c.load_part.new.files) (map items_of (take l.part-index parts)) c.load_part.ensures.goes
          l.invariant.known)
          (subst (AreKnown from (g.F.FileLoader.knows c.load_part.new.files)) c.as_slice.ensures.value
          c.in_ok-load_part.ensures.known);
      goes = continues_value (g.F.Files.found c.args.files.now) (g.F.Files.found l.files)
          (g.F.Files.found c.load_part.new.files) (g.F.FileLoader.knows c.args.files.now) (g.F.FileLoader.knows l.files)
          (g.F.FileLoader.knows c.load_part.new.files)
          l.invariant.goes c.load_part.ensures.goes;
    }

pub returns-clause-known : goal.returns-clause-known
returns-clause-known g c =
    let l = c.loop-part in
    let parts = c.as_slice-part-items.result.now in
    let end : length parts ≤ l.part-index = omega (arith, c.loop-part-test.false) in
    subst (λ (ps : List (Vec ℕ Global)). All (AreKnown c.args.held.now.from (g.F.FileLoader.knows l.files))
    (map items_of ps)) (take_all l.part-index parts end ∙ c.as_slice-part-items.ensures.value) l.invariant.known
