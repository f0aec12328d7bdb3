use Rattle.std.proofs.Common.{◌≡◌, ◌++◌, string_bytes}
use Rattle.std.specs.Prelude.{encode_utf8_all}
use Rattle.std.specs.Str.{IsUtf8, chars}
use Rattle.miette_brief.specs.rules.Rows.{one_line_text, spaced_text}
use Rattle.miette_brief.proofs.one_line.push_one_line.Given as goal

-- what is written and what is left make up the whole
abbrev pub invariant-loop-c : goal.invariant-loop-c
invariant-loop-c l = record {
  utf8 : IsUtf8 l.c-iterator.rest.now;
  text : string_bytes l.out ++ encode_utf8_all (spaced_text l.goes_on (chars l.c-iterator.rest.now))
      ≡ string_bytes l.fn.out ++ one_line_text l.fn.text;
}
