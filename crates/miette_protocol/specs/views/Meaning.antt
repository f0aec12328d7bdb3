-- What labels and diagnostics represent.
use Rattle.std.specs.Prelude.{ℕ, zero, suc, List, Option, Some, None, Bool}
use Rattle.miette_protocol.specs.rules.Reading.{Span}
use Rattle.miette_protocol.specs.declared.protocol.Severity.{Severity}

-- a label: its text as bytes, its span, whether it is primary, and its own number of context lines
pub record Label : Type 0 where
  pub text : Option (List ℕ)
  pub span : Span
  pub primary : Bool
  pub context : Option ℕ

-- a deserialized number of context lines; 0 counts as none
abbrev pub context_count : Option ℕ → Option ℕ
context_count None = None
context_count (Some zero) = None
context_count (Some (suc n)) = Some (suc n)

-- the parts of a diagnostic, with texts as bytes
pub record Meaning : Type 0 where
  pub message : List ℕ
  pub code : Option (List ℕ)
  pub severity : Option Severity
  pub help : Option (List ℕ)
  pub url : Option (List ℕ)
  pub labels : Option (List Label)
