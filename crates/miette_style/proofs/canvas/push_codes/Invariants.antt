use Rattle.std.proofs.Common.{◌≡◌, ◌++◌, drop, encode_utf8_all, string_bytes}
use Rattle.miette_style.proofs.canvas.push_codes.Given as goal

abbrev pub invariant-loop-code : goal.invariant-loop-code
invariant-loop-code l = string_bytes l.text ++ encode_utf8_all (drop l.code-index l.codes) ≡ string_bytes l.fn.text
    ++ encode_utf8_all l.codes
