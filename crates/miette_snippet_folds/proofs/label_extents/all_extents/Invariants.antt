use Rattle.std.proofs.Common.{◌≡◌, take, map, All}
use Rattle.miette_protocol.specs.rules.Reading.{Source}
use Rattle.miette_labels.specs.views.Reads.{IsRead}
use Rattle.miette_snippet_folds.specs.views.ExtentIndex.{extent_view}
use Rattle.miette_snippet_folds.specs.views.ReadExtents.{read_extent, HasLines}
use Rattle.miette_snippet_folds.proofs.label_extents.all_extents.Given as goal

abbrev pub invariant-loop-read : goal.invariant-loop-read
invariant-loop-read l = record {
  parts : map extent_view l.label_extents.items ≡ map (read_extent l.context l.own l.labels)
      (take l.read-index l.reads);
  lines : (source : Source) → All (IsRead l.context source l.labels) l.reads
      → All (HasLines source.bytes) l.label_extents.items;
}
