use Rattle.std.proofs.Common.{◌≡◌, ◌+◌, ◌-◌, ◌<◌, Some, false, sym, string_bytes, ap, ◌∙◌, refl}
use Rattle.std.proofs.Common.{rules, arith}
use Rattle.std.specs.Prelude.{chars}
use Rattle.std.proofs.lemmas.Bool.{true≢false}
use Rattle.std.proofs.lemmas.Str.{IsUtf8-string_bytes}
use Rattle.ucd_emoji.specs.Binary.{is_emoji_variation_base}
use Rattle.unicode_width.specs.Width.{str_width}
use Rattle.unicode_width.proofs.Computing.{unicode_width}
use Rattle.miette_columns.proofs.Columning.{is_next, chars_pushed}
use Rattle.miette_columns.proofs.Flags.{no_flags, flags_pushed}
use Rattle.miette_columns.proofs.PlaceLaws.{none_since, since_read, ends_pushed, ends_twice, is_next_place}
use Rattle.miette_columns.specs.steps.SplitPoints.{overlap_between}
use Rattle.miette_columns.proofs.checkpoints.next_checkpoint.Goals as goal

no_base : is_emoji_variation_base 0 ≡ false
unfolding unicode_width
no_base = refl

pub loop-bytes-init : goal.loop-bytes-init
loop-bytes-init c = record {
  since = none_since c.args.text.now c.args.from (string_bytes c.in_ok-over.over) c.requires.0 c.in_ok-over.ensures;
  flags = no_flags (string_bytes c.in_ok-over.over) 0 c.args.from.overlap c.in_ok-over.ensures c.requires.1.0 refl;
  last = λ h. absurd (omega (arith, h));
  emoji = λ h. absurd (true≢false (sym h ∙ no_base));
  before = λ h. absurd (true≢false (sym h ∙ no_base));
}

pub loop-bytes-preserved : goal.loop-bytes-preserved
loop-bytes-preserved c =
    let code = c.decode_first_char-code.result.0 in
    let ends = ends_pushed (string_bytes c.loop-bytes.over) (string_bytes c.push.new.self) code
    (IsUtf8-string_bytes c.loop-bytes.over) (IsUtf8-string_bytes c.push.new.self) c.in_ok-push.ensures.bytes in
    record {
      since = since_read c.args.text.now c.args.from c.loop-bytes.over c.push.new.self _ _ _ _ _
          c.loop-bytes.invariant.since c.loop-bytes-test.true c.decode_first_char-code.ensures
          c.in_ok-push.ensures.bytes (search rules);
      flags = flags_pushed (string_bytes c.loop-bytes.over) (string_bytes c.push.new.self) c.loop-bytes.last code
          c.loop-bytes.is_half _ c.loop-bytes.invariant.flags
          (chars_pushed (string_bytes c.loop-bytes.over) (string_bytes c.push.new.self) code
          (IsUtf8-string_bytes c.loop-bytes.over) (IsUtf8-string_bytes c.push.new.self) c.in_ok-push.ensures.bytes)
          (search rules);
      last = λ h. ends;
      emoji = λ h. ends;
      before = λ h. ends_twice (string_bytes c.loop-bytes.over) (string_bytes c.push.new.self) c.loop-bytes.last code
          (IsUtf8-string_bytes c.loop-bytes.over) (IsUtf8-string_bytes c.push.new.self) c.in_ok-push.ensures.bytes
          (c.loop-bytes.invariant.emoji h);
    }

pub returns-in-Some : goal.returns-in-Some
returns-in-Some c =
    let from = c.args.from in
    let bytes = c.loop-bytes.bytes in
    let code = c.decode_first_char-code.result.0 in
    let size = c.decode_first_char-code.result.1 in
    let next = is_next c.args.text.now bytes code size c.loop-bytes-test.true c.decode_first_char-code.ensures in
    let after : from.bytes < bytes = search rules in
    let some : overlap_between c.loop-bytes.before c.loop-bytes.last c.loop-bytes.is_half code
    ≡ Some c.in-Some.overlap =
    search rules in
    let at : c.in_ok-place.place.bytes ≡ bytes = c.in_ok-place.ensures.bytes in (
      is_next_place c.args.text.now from c.in_ok-place.place (string_bytes c.loop-bytes.over) _ code
          size c.loop-bytes.widths bytes c.loop-bytes.before c.loop-bytes.last c.loop-bytes.is_half c.in-Some.overlap
          c.requires c.loop-bytes.invariant.since next.first (c.loop-bytes.invariant.last after)
          c.loop-bytes.invariant.before c.loop-bytes.invariant.flags some
          at c.in_ok-place.ensures.widths c.in_ok-place.ensures.overlap
          (c.in_ok-place.ensures.column ∙ ap (λ t. (from.column + str_width false (chars t)) - from.twice)
          c.as_str.ensures.value) c.in_ok-place.ensures.twice,
      omega (arith, at, after),
    )
