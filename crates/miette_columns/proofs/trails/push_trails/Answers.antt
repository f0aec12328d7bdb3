use Rattle.std.proofs.Common.{◌+◌, ◌-◌, false, string_bytes, sym, ap, ◌∙◌, rules}
use Rattle.std.specs.Prelude.{chars}
use Rattle.std.proofs.lemmas.Str.{IsUtf8-string_bytes}
use Rattle.unicode_width.specs.Width.{str_width}
use Rattle.miette_columns.proofs.PlaceLaws.{since_read, ends_pushed}
use Rattle.miette_columns.proofs.Running.{first_trail}
use Rattle.miette_columns.proofs.trails.push_trails.Goals as goal

pub push_parts-requires-clause-trail : goal.push_parts-requires-clause-trail
push_parts-requires-clause-trail c =
    let from = c.args.from in
    let since = since_read c.args.text.now from c.loop-bytes.over c.push.new.self _ _ _ _ _ c.loop-bytes.invariant.since
    c.loop-bytes-test.true c.decode_first_char-code.ensures c.in_ok-push.ensures.bytes (search rules) in
    let ends = ends_pushed (string_bytes c.loop-bytes.over) (string_bytes c.push.new.self)
    c.decode_first_char-code.result.0
    (IsUtf8-string_bytes c.loop-bytes.over) (IsUtf8-string_bytes c.push.new.self) c.in_ok-push.ensures.bytes in
    first_trail c.args.text.now from (string_bytes c.push.new.self) c.decode_first_char-code.result.0 (record {
      bytes = c.loop-bytes.bytes + c.decode_first_char-code.result.1;
      until = c.zero_width_end-until.result;
      column = c.in_ok-column.column;
      widths = c.in_ok-wider.wider;
    }) c.requires.from since ends (sym c.is_zero_width.ensures ∙ c.if-is_zero_width.true) c.zero_width_end-until.ensures
    (c.in_ok-column.ensures ∙ ap (λ t. (from.column + str_width false (chars t)) - from.twice) c.as_str.ensures.value)

pub loop-bytes-preserved-in_ok-push_parts : goal.loop-bytes-preserved-in_ok-push_parts
loop-bytes-preserved-in_ok-push_parts c = record {
  since = since_read _ _ c.loop-bytes.over c.push.new.self _ _ _ _ _ c.loop-bytes.invariant.since
      c.loop-bytes-test.true c.decode_first_char-code.ensures c.in_ok-push.ensures.bytes (search rules);
  trails = c.push_parts.ensures;
}

pub loop-bytes-preserved-else-until-bytes-ge-APART : goal.loop-bytes-preserved-else-until-bytes-ge-APART
loop-bytes-preserved-else-until-bytes-ge-APART c = record {
  since = since_read _ _ c.loop-bytes.over c.push.new.self _ _ _ _ _ c.loop-bytes.invariant.since
      c.loop-bytes-test.true c.decode_first_char-code.ensures c.in_ok-push.ensures.bytes (search rules);
  trails = c.loop-bytes.invariant.trails;
}

pub loop-bytes-preserved : goal.loop-bytes-preserved
loop-bytes-preserved c = record {
  since = since_read _ _ c.loop-bytes.over c.push.new.self _ _ _ _ _ c.loop-bytes.invariant.since
      c.loop-bytes-test.true c.decode_first_char-code.ensures c.in_ok-push.ensures.bytes (search rules);
  trails = c.loop-bytes.invariant.trails;
}
