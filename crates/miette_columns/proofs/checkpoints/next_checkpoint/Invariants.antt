use Rattle.std.proofs.Common.{◌-◌, ◌<◌, ◌≡◌, true, [], ◌∷◌, length, string_bytes}
use Rattle.ucd_emoji.specs.Binary.{is_emoji_variation_base}
use Rattle.miette_columns.proofs.Flags.{EndsInFlags}
use Rattle.miette_columns.proofs.SettledTexts.{EndsIn}
use Rattle.miette_columns.proofs.PlaceLaws.{IsSince, EndsByEmoji}
use Rattle.miette_columns.proofs.checkpoints.next_checkpoint.Given as goal

abbrev pub invariant-loop-bytes : goal.invariant-loop-bytes
invariant-loop-bytes l = record {
  since : IsSince l.text l.from (string_bytes l.over) l.widths l.bytes;
  flags : EndsInFlags (string_bytes l.over) l.last l.is_half;
  last : l.from.bytes < l.bytes → EndsIn (string_bytes l.over) (l.last ∷ []);
  emoji : is_emoji_variation_base l.last ≡ true → EndsIn (string_bytes l.over) (l.last ∷ []);
  before : EndsByEmoji (string_bytes l.over) l.before l.last;
}

abbrev pub decreases-loop-bytes : goal.decreases-loop-bytes
decreases-loop-bytes l = length l.text - l.bytes
