use Rattle.std.proofs.Common.{◌≡◌, map, take}
use Rattle.miette_positions.specs.declared.position.PositionEncoding.TheVariants.{Utf16}
use Rattle.miette_positions.specs.rules.Regions.{region_of}
use Rattle.callers.proofs.positions.regions.Given as goal

abbrev pub invariant-loop-span : goal.invariant-loop-span
invariant-loop-span l = l.regions.items ≡ map (region_of Utf16 l.fn.source) (take l.span-index l.spans)
