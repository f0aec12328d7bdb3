-- The theorems on the report of each message of a tool. Each report is made over files or over a run of a log.
use Rattle.std.specs.Prelude.{◌≡◌, ℕ, List}
use Rattle.std.specs.List.{AllByRecursion}
use Rattle.serde_json.specs.Data.{Data}
use Rattle.miette_read.specs.laws.Applying.{AllFixesApply}
use Rattle.miette_read.specs.laws.MessageTexts.{IsInReport}
use Rattle.miette_tree.specs.rules.Tree.{Tree, head}

-- All fixes of a report and of its related advice can be applied.
abbrev pub FixesApply : {G : Type 0} → (G → Data → Tree) → Type 0
FixesApply {G} tree = (over : G) (d : Data) → AllFixesApply (tree over d)

-- The report has the tool's message.
abbrev pub MessagesStay : {G : Type 0} → (G → Data → Tree) → (G → Data → List ℕ) → Type 0
MessagesStay {G} tree message = (over : G) (d : Data) → (head (tree over d)).message ≡ message over d

-- The report has these texts of the tool.
abbrev pub TextsStand : {G : Type 0} → (G → Data → Tree) → (G → Data → List (List ℕ)) → Type 0
TextsStand {G} tree texts = (over : G) (d : Data) → AllByRecursion (IsInReport (tree over d)) (texts over d)
