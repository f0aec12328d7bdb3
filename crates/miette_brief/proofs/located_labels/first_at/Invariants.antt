use Rattle.std.proofs.Common.{◌≡◌, map, drop}
use Rattle.std.specs.List.{position_from}
use Rattle.miette_brief.specs.rules.LocatedLabels.{is_wanted}
use Rattle.miette_brief.specs.steps.CommandParts.{located_label_of}
use Rattle.miette_brief.proofs.located_labels.first_at.Given as goal

abbrev pub invariant-loop-mark : goal.invariant-loop-mark
invariant-loop-mark g l =
    let f = located_label_of g.S.SourceCode.source in
    record {
      found : position_from (is_wanted l.marked) l.at (map f (drop l.mark-index l.marks)) ≡
          position_from (is_wanted l.marked) 0 (map f l.marks);
      same : l.at ≡ l.mark-index;
    }
