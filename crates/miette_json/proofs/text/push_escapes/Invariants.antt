use Rattle.std.proofs.Common.{◌≡◌, ◌≤◌, ◌++◌, string_bytes, length, true}
use denote.Shadow.{shadow}
use denote.Text.{Utf8}
use Rattle.miette_json.specs.rules.Json.{escaped_text}
use Rattle.miette_json.specs.steps.EscapedBytes.{begins_escaped}
use Rattle.miette_json.proofs.text.push_escapes.Given as goal

abbrev pub invariant-rest : goal.invariant-rest
invariant-rest l = record {
  told : string_bytes l.out ++ escaped_text l.rest ≡ string_bytes l.fn.out ++ escaped_text l.text;
  here : begins_escaped l.rest ≡ true;
  within : length l.rest ≤ length l.text;
  text : shadow (Utf8 l.rest);
}

abbrev pub decreases-rest : goal.decreases-rest
decreases-rest l = length l.rest
