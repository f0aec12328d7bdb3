-- What edits and fixes represent, and which edits overlap.
use Rattle.std.specs.Prelude.{ℕ, ◌+◌, List, [], ◌∷◌, Bool, true, false, ◌&&◌, ◌||◌, ◌==◌, nat_lt, if◌then◌else◌}
use Rattle.std.specs.List.{list_any}
use Rattle.miette_protocol.specs.rules.Reading.{Span}
use Rattle.miette_fixes.specs.declared.applicability.Applicability.{Applicability}
use Rattle.miette_fixes.specs.declared.applicability.Applicability.TheVariants as how_sure

-- an edit: a span, and the bytes that replace it
pub record Replacement : Type 0 where
  pub span : Span
  pub text : List ℕ

-- a fix: its message as bytes, how certain it is, and its edits in the order given
pub record FixModel : Type 0 where
  pub message : List ℕ
  pub applicability : Applicability
  pub edits : List Replacement

-- whether a fix may be applied without review
abbrev pub is_machine_applicable : Applicability → Bool
is_machine_applicable how_sure.MachineApplicable = true
is_machine_applicable how_sure.MaybeIncorrect = false
is_machine_applicable how_sure.HasPlaceholders = false
is_machine_applicable how_sure.Unspecified = false

-- where an edit ends
abbrev pub end_of : Replacement → ℕ
end_of edit = edit.span.offset + edit.span.len

-- whether an edit ends after the end of a source of `n` bytes
abbrev pub ends_after : ℕ → Replacement → Bool
ends_after n edit = nat_lt n (end_of edit)

-- whether an edit sorts after another one: by offset, then by length
abbrev pub is_after : Replacement → Replacement → Bool
is_after edit other =
    nat_lt other.span.offset edit.span.offset
    || ((other.span.offset == edit.span.offset) && nat_lt other.span.len edit.span.len)

-- whether two edits have the same span
abbrev pub same_span : Replacement → Replacement → Bool
same_span edit other = (edit.span.offset == other.span.offset) && (edit.span.len == other.span.len)

-- two edits overlap if the one that sorts first ends after the other's offset
abbrev pub overlap : Replacement → Replacement → Bool
overlap edit next =
    if is_after edit next then nat_lt edit.span.offset (end_of next) else nat_lt next.span.offset (end_of edit)

-- whether two of these edits overlap
abbrev pub some_overlap : List Replacement → Bool
some_overlap [] = false
some_overlap (edit ∷ edits) = list_any (overlap edit) edits || some_overlap edits
