-- What a report was created from, and the reports that it contains.
use Rattle.std.specs.Prelude.{List, [], Option, Some, None, option_map, unwrap_or}
use Rattle.miette_protocol.specs.declared.diagnostic.MietteDiagnostic.{MietteDiagnostic}
use Rattle.miette_tree.specs.declared.innermost.Innermost.{Innermost}
use Rattle.miette_tree.specs.declared.innermost.Innermost.TheVariants as inside
use Rattle.miette_tree.specs.declared.innermost.ReportKind.{ReportKind}
use Rattle.miette_tree.specs.declared.innermost.ReportKind.TheVariants as shown
use Rattle.miette_tree.specs.declared.tree.Cause as seen
use Rattle.miette_tree.specs.declared.tree.Cause.TheVariants as causes
use Rattle.miette_tree.specs.declared.tree.OwnedCause.{OwnedCause}
use Rattle.miette_tree.specs.declared.tree.OwnedCause.TheVariants as kept
use Rattle.miette_tree.specs.declared.tree.Report.{Report, out-Report}

-- a message, a plain diagnostic, a boxed one, or an allocation failure
pub data Kind (D : Type 0) : Type 0 where
  message : Kind D
  built : MietteDiagnostic → Kind D
  boxed : D → Kind D
  out_of_memory : Kind D

abbrev pub innermost_kind : {D : Type 0} → Innermost D → Kind D
innermost_kind (inside.Message text) = message
innermost_kind (inside.Built d) = built d
innermost_kind (inside.Boxed d) = boxed d
innermost_kind (inside.Unwritten error) = message
innermost_kind inside.OutOfMemory = out_of_memory

-- the report that is the cause, if there is one
abbrev pub owned_cause_report : {R : Type 0} → OwnedCause R → Option R
owned_cause_report kept.None = None
owned_cause_report (kept.Diagnostic b) = Some b.value
owned_cause_report (kept.Texts list) = None

-- The parts of a report that its tree doesn't determine: what it was created from, and its cause and related reports as
-- values.
pub record ReportInternals (D S : Type 0) : Type 0 where
  pub kind : Kind D
  pub cause : Option (Report D S)
  pub related : List (Report D S)

abbrev pub internals_of : {D S : Type 0} → Report D S → ReportInternals D S
internals_of {D} {S} r = record {
  kind = innermost_kind (out-Report D S r).innermost;
  cause = owned_cause_report (out-Report D S r).cause;
  related = unwrap_or (option_map (λ v. v.items) (out-Report D S r).related) [];
}

abbrev pub kind_of : {D S : Type 0} → Report D S → Kind D
kind_of r = (internals_of r).kind

-- a report of this kind without cause and related reports
abbrev pub internals_alone : {D S : Type 0} → Kind D → ReportInternals D S
internals_alone kind = record { kind = kind; cause = None; related = [] }

-- the report that the getter returns as the cause, if there is one
abbrev pub cause_report_view : {D S : Type 0} → seen.Cause D S → Option (Report D S)
cause_report_view causes.None = None
cause_report_view (causes.Diagnostic r) = Some r.now
cause_report_view (causes.Texts list) = None

-- the kind that the getter returns
abbrev pub kind_view : {D : Type 0} → ReportKind D → Kind D
kind_view shown.Message = message
kind_view (shown.Built d) = built d.now
kind_view (shown.Boxed d) = boxed d.now
kind_view shown.OutOfMemory = out_of_memory
