use Rattle.std.proofs.Common.{ℕ, ◌≡◌, ◌≤◌, drop}
use Rattle.std.specs.List.{list_any}
use Rattle.miette_fix_rows.specs.rules.DiffTexts.{holds_byte}
use Rattle.miette_fix_drawing.specs.steps.Printable.{byte_at}
use Rattle.miette_fix_drawing.proofs.ascii_lines.alike_from.Given as goal

abbrev pub invariant-loop-span : goal.invariant-loop-span
invariant-loop-span l = (x : ℕ) → l.at ≤ x
    → list_any (holds_byte (byte_at x)) (drop l.span-index l.spans) ≡ list_any (holds_byte (byte_at x)) l.spans
