-- Why a read failed, and labels joined where their lines touch.
use Rattle.std.specs.Prelude.{ℕ, ◌≡◌, true, List, Bool, map}
use Rattle.std.specs.List.{All}
use Rattle.miette_protocol.specs.rules.Reading.{Span, Source}
use Rattle.miette_protocol.specs.declared.error.MietteError.{MietteError}
use Rattle.miette_labels.specs.declared.reading.RefusalReason.{RefusalReason}
use Rattle.miette_labels.specs.declared.groups.LabelGroup.{LabelGroup}
use Rattle.miette_labels.specs.rules.Answers.{NoneFails}
use Rattle.miette_labels.specs.rules.Groups.{groups_answered}
use Rattle.miette_labels.specs.views.Reads.{AreContents}
use Rattle.miette_protocol.specs.declared.error.MietteError.TheVariants as errors
use Rattle.miette_labels.specs.declared.reading.RefusalReason.TheVariants as reasons

-- the reason of an error
abbrev pub Reason : MietteError → RefusalReason → Type 0
Reason (errors.IoError _) reason = reason ≡ reasons.IoError
Reason errors.OutOfBounds reason = reason ≡ reasons.OutOfBounds

-- spans joined where their lines touch, for some results of reads
pub record AreJoined (context : ℕ) (source : Source) (spans : List Span) (groups : List LabelGroup) : Type 0 where
  pub fails : List Bool
  pub always : source.always_reads ≡ true → NoneFails fails
  pub are : map (λ group. group.span) groups ≡ groups_answered context source fails spans
  pub contents_are : All (λ group. AreContents context source group.span group.contents) groups
