-- What a tree and the settings don't determine: whether reads fail, and the highlighter's pieces.
use Rattle.std.specs.Prelude.{Bool, false, List, [], ◌∷◌}
use Rattle.miette_labels.specs.rules.Answers as snippet_answers
use Rattle.miette_tree.specs.rules.Answers.{AnswerTree, AnswerTrees, answer_or}
pub use Rattle.miette_tree.specs.rules.Answers.{unlisted, listed, no_more, and_more, cause_answers, related_answers}
pub use Rattle.miette_tree.specs.rules.Answers.{first_answers, later_answers}

-- For the labels over one source: whether each read failed, and the pieces of each line of each snippet. By default
-- reads succeed and lines are plain.
abbrev pub SourceAnswer : Type 0
SourceAnswer = snippet_answers.Answers

-- no read failed
abbrev pub pieces_listed : List (List (List snippet_answers.Highlight)) → SourceAnswer
pieces_listed pieces = record {
  end_fails = false;
  label_fails = [];
  join_fails = [];
  place_fails = [];
  pieces = pieces;
}

abbrev pub source_unlisted : SourceAnswer
source_unlisted = pieces_listed []

-- For the labels over a diagnostic's own source and over each further one. A missing entry means the default.
abbrev pub SourceAnswers : Type 0
SourceAnswers = List SourceAnswer

-- For one diagnostic: the answers for its labels, and whether the read for its fixes failed.
pub record DiagnosticAnswer : Type 0 where
  pub sources : SourceAnswers
  pub fixes_fail : Bool

-- no read for fixes failed
abbrev pub sources_listed : SourceAnswers → DiagnosticAnswer
sources_listed sources = record { sources = sources; fixes_fail = false }

abbrev pub nothing_listed : DiagnosticAnswer
nothing_listed = sources_listed []

abbrev pub first_source : SourceAnswers → SourceAnswer
first_source [] = source_unlisted
first_source (a ∷ more) = a

-- For a tree: of its diagnostic, of its cause, and of each related report. A missing entry means that all sources read
-- and no line is highlighted.
abbrev pub Answers : Type 0
Answers = AnswerTree DiagnosticAnswer

abbrev pub RelatedAnswers : Type 0
RelatedAnswers = AnswerTrees DiagnosticAnswer

abbrev pub own_answer : Answers → DiagnosticAnswer
own_answer a = answer_or nothing_listed a
