-- A report without its cause, source and related reports.
use Rattle.std.specs.Prelude.{ℕ, List, [], Option}
use Rattle.miette_fixes.specs.rules.Edits.{FixModel}
use Rattle.miette_protocol.specs.declared.protocol.Severity.{Severity}
use Rattle.miette_protocol.specs.rules.Reading.{Source}
use Rattle.miette_protocol.specs.views.Meaning.{Label, Meaning}

-- labels over a further source
pub record Section : Type 0 where
  pub source : Source
  pub labels : List Label

-- the parts of a diagnostic, with texts as bytes; labels over further sources and fixes, in the order in which they
-- were added
pub record Diagnosis : Type 0 where
  pub message : List ℕ
  pub code : Option (List ℕ)
  pub severity : Option Severity
  pub help : Option (List ℕ)
  pub url : Option (List ℕ)
  pub labels : Option (List Label)
  pub snippets : List Section
  pub fixes : List FixModel

-- the diagnosis of a diagnostic without further snippets and fixes
abbrev pub plain_diagnosis : Meaning → Diagnosis
plain_diagnosis m = record {
  message = m.message;
  code = m.code;
  severity = m.severity;
  help = m.help;
  url = m.url;
  labels = m.labels;
  snippets = [];
  fixes = [];
}
