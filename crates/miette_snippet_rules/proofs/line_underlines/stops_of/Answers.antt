use Rattle.std.proofs.Common.{◌∙◌, List, refl, sym, subst}
use Rattle.std.specs.List.{All}
use Rattle.std.proofs.lemmas.List.Elements.{All-push}
use Rattle.miette_columns.specs.rules.Cells.{Cell}
use Rattle.miette_columns.specs.views.Walking.{ComeFirst}
use Rattle.miette_snippet_rules.specs.steps.ColumnStops.{IsStop}
use Rattle.miette_snippet_rules.specs.views.LineScans.{HasScanned}
use Rattle.miette_snippet_rules.specs.declared.line_underlines.ColumnStop.{ColumnStop}
use Rattle.miette_snippet_rules.proofs.StopColumns.{stop_is}
use Rattle.miette_snippet_rules.proofs.line_underlines.stops_of.Goals as goal

pub loop-stops-preserved : goal.loop-stops-preserved
loop-stops-preserved c =
    let whole : List Cell = c.args.walk in
    let passed : HasScanned whole c.scan_cells.new.passage =
    c.in_ok-scan_cells.ensures.passed whole c.loop-stops.invariant.passed in
    let stop : ColumnStop = record {
      offset = c.scan_cells.new.passage.reached;
      plain = c.in_ok-plain.plain;
      walk = c.copy.result;
    } in
    let is : IsStop whole stop = stop_is whole c.scan_cells.new.passage stop refl
    (subst (λ (cs : List Cell). ComeFirst c.in_ok-plain.plain c.scan_cells.new.passage.walk cs) (sym c.copy.ensures)
    c.in_ok-plain.ensures.first) passed in
    record {
      stops = subst (λ (ss : List ColumnStop). All (IsStop whole) ss) (sym c.in_ok-push.ensures.items)
          (All-push (IsStop whole) c.loop-stops.stops.items stop c.loop-stops.invariant.stops is);
      passed = c.in_ok-plain.ensures.passed whole passed;
      width = c.in_ok-plain.ensures.width ∙ c.in_ok-scan_cells.ensures.width ∙ c.loop-stops.invariant.width;
    }
