-- Effect of reports on a session, one after another.
use Rattle.std.specs.Prelude.{◌≡◌, ◌⊎◌, ◌||◌, ℕ, List, [], ◌∷◌, Option, Some, Result, Err, OnOk, OnErr, is_ok}
use Rattle.std.specs.Option.{option_or}
use Rattle.std.specs.Result.{result_err}
use Rattle.miette_tree.specs.rules.Tree.{Tree, head}
use Rattle.miette.specs.rules.Counting.{with_one}
use Rattle.miette.specs.rules.Forms.{IsNext, IsNextBy}
use Rattle.miette.specs.rules.Printing.{WritesOne}
use Rattle.miette.specs.rules.ReporterRun.{ReporterRun}
use Rattle.miette.specs.declared.print.PrintError.{PrintError}
use Rattle.miette.specs.declared.print.PrintError.TheVariants.{Refused, Write}

-- the possible texts of a handler (see `ReportHandler`), and the recorded bytes of a writer
pub record Behaviour (T W : Type 0) : Type 1 where
  pub gives : T → Tree → List ℕ → Type 0
  pub asks : T → T → Tree → List ℕ → List ℕ → Type 0
  pub refuses : T → Tree → Type 0
  pub keeps : T → T → Type 0
  pub contents : W → Option (List ℕ)

abbrev pub behaving : {T W : Type 0} → (T → Tree → List ℕ → Type 0) → (T → T → Tree → List ℕ → List ℕ → Type 0)
    → (T → Tree → Type 0) → (T → T → Type 0) → (W → Option (List ℕ)) → Behaviour T W
behaving gives asks refuses keeps contents = record {
  gives = gives;
  asks = asks;
  refuses = refuses;
  keeps = keeps;
  contents = contents;
}

-- Effect of one call of `report`, by its answer and by the session before and after it. On success the writer got one
-- text of the handler with the form's separators, by what was asked of its highlighter. On failure nothing was written,
-- unless the writer failed, and after that nothing more is. `faults` gets nothing yet. `Refused` occurs only if the
-- handler may refuse the report. The handler stays or keeps its settings. The report is counted in any case, and a
-- failure is stored.
pub record IsReported {T W F : Type 0} (how : Behaviour T W) (answer : Result (Unit {0}) PrintError)
    (old : ReporterRun T W F)
    (t : Tree) (new : ReporterRun T W F) : Type 0 where
  pub written : OnOk answer (WritesOne (IsNext old.form old.is_begun (how.gives old.handler t))
      (how.contents old.outputs.writer) (how.contents new.outputs.writer))
  pub asks : OnOk answer (WritesOne (IsNextBy old.form old.is_begun (how.asks old.handler new.handler t))
      (how.contents old.outputs.writer) (how.contents new.outputs.writer))
  pub unwritten : OnErr answer ((answer ≡ Err Write) ⊎ (new.outputs ≡ old.outputs))
  pub stopped : (old.failure ≡ Some Write) → (answer ≡ Err Write) × (new.outputs ≡ old.outputs)
  pub silent : new.outputs.faults ≡ old.outputs.faults
  pub refused : (answer ≡ Err Refused) → how.refuses old.handler t
  pub settings : (new.handler ≡ old.handler) ⊎ how.keeps old.handler new.handler
  pub state : new ≡ record old {
    handler = new.handler;
    outputs = new.outputs;
    counts = with_one old.counts (head t).severity;
    is_begun = is_ok answer || old.is_begun;
    failure = option_or (result_err answer) old.failure;
  }

-- the same for several reports, one after another, whatever each call returned
abbrev pub AreReported : {T W F : Type 0} → Behaviour T W → ReporterRun T W F → List Tree → ReporterRun T W F → Type 0
AreReported how old [] new = new ≡ old
AreReported {T} {W} {F} how old (t ∷ rest) new =
    (answer : Result (Unit {0}) PrintError) × (next : ReporterRun T W F)
    × IsReported how answer old t next × AreReported how next rest new
