-- A session: reports that a program prints one after another in one form.
use Rattle.std.specs.Prelude.{ℕ, ◌&&◌, ◌⊎◌, Bool, false, Option, None, Some, if◌then◌else◌, is_none, nat_eq}
use Rattle.miette.specs.rules.Counting.{no_counts}
use Rattle.miette.specs.declared.reporter.counts.Counts.{Counts}
use Rattle.miette.specs.declared.reporter.form.Form.{Form}
use Rattle.miette.specs.declared.print.Outputs.{Outputs}
use Rattle.miette.specs.declared.print.PrintError.{PrintError}
use Rattle.miette.specs.declared.print.PrintError.TheVariants.{Memory, Refused, Write}

-- The handler, the outputs, the counts, whether a report was written, whether the session ends with a summary, and the
-- last failure.
pub record ReporterRun (T W F : Type 0) : Type 0 where
  pub handler : T
  pub outputs : Outputs W F
  pub form : Form
  pub counts : Counts
  pub is_begun : Bool
  pub is_summed : Bool
  pub failure : Option PrintError

-- a session before its first report
abbrev pub new_run : {T W F : Type 0} → T → Outputs W F → Form → ReporterRun T W F
new_run handler outputs form = record {
  handler = handler;
  outputs = outputs;
  form = form;
  counts = no_counts;
  is_begun = false;
  is_summed = false;
  failure = None;
}

-- the exit code: 0 if there was no error report and nothing failed
abbrev pub run_status : Counts → Option PrintError → ℕ
run_status c failure = if nat_eq c.errors 0 && is_none failure then 0 else 1

-- How a session ends, by its last failure. Without one, and after a refused read, the end was appended. After a failed
-- allocation the end was appended, or nothing. After a failed write it is unspecified.
abbrev pub EndsBy : Option PrintError → Type 0 → Type 0 → Type 0
EndsBy None appended nothing = appended
EndsBy (Some Refused) appended nothing = appended
EndsBy (Some Memory) appended nothing = appended ⊎ nothing
EndsBy (Some Write) appended nothing = Unit {0}
