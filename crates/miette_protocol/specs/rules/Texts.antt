-- The texts of errors.
use Rattle.std.specs.Prelude.{ℕ, List, Option, Some, None, codes}
use Rattle.miette_protocol.specs.views.Meaning.{Meaning}
use Rattle.miette_protocol.specs.declared.error.MietteError.{MietteError}
use Rattle.miette_protocol.specs.declared.error.MietteError.TheVariants.{IoError, OutOfBounds}
use Rattle.miette_protocol.specs.declared.error.RenderError.{RenderError}
use Rattle.miette_protocol.specs.declared.error.RenderError.TheVariants.{Memory, Refused}

-- what is printed, where a contract states it; an error of the system prints itself
abbrev pub error_text : MietteError → Option (List ℕ)
error_text (IoError _) = None
error_text OutOfBounds = Some (codes "The given offset is outside the bounds of its Source")

-- an error of a source as a diagnostic
abbrev pub error_meaning : MietteError → Meaning
error_meaning (IoError _) = record {
  message = codes "a source could not be read";
  code = Some (codes "miette::io_error");
  severity = None;
  help = None;
  url = Some (codes "https://docs.rs/miette/7.6.0/miette/enum.MietteError.html#variant.IoError");
  labels = None;
}
error_meaning OutOfBounds = record {
  message = codes "The given offset is outside the bounds of its Source";
  code = Some (codes "miette::span_out_of_bounds");
  severity = None;
  help = Some (codes "Double-check your spans. Do you have an off-by-one error?");
  url = Some (codes "https://docs.rs/miette/7.6.0/miette/enum.MietteError.html#variant.OutOfBounds");
  labels = None;
}

-- what a rendering error prints
abbrev pub render_text : RenderError → List ℕ
render_text Memory = codes "memory allocation failed"
render_text Refused = codes "a source could not be read where a label points"

-- what is printed for a range that is too long
abbrev pub overflow_text : List ℕ
overflow_text = codes "the length of the range is greater than a usize can say"
