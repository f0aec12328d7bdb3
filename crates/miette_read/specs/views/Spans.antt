-- Which spans of a message are wanted, and in which files.
use Rattle.std.specs.Prelude.{Bool}
use Rattle.serde_json.specs.Data.{Data}
use Rattle.miette_read.specs.rules.Rustc.{Build, is_packaged, is_primary, is_relative, is_secondary, has_file}
use Rattle.miette_read.specs.rules.Rustc.{is_edit}
use Rattle.miette_read.specs.declared.spans.SpanKind.{SpanKind}
use Rattle.miette_read.specs.declared.spans.SpanKind.TheVariants.{Primary, Secondary, Edits}
use Rattle.miette_read.specs.declared.user_span.SearchScope.{SearchScope}
use Rattle.miette_read.specs.declared.user_span.SearchScope.TheVariants.{Package, Workspace, Any}

abbrev pub takes : SpanKind → Data → Bool
takes Primary = is_primary
takes Secondary = is_secondary
takes Edits = is_edit

abbrev pub is_in_scope : Build → SearchScope → Data → Bool
is_in_scope build Package = is_packaged build
is_in_scope build Workspace = is_relative build
is_in_scope build Any = has_file build
