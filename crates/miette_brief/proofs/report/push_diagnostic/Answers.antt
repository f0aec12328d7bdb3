use Rattle.std.proofs.Common.{◌≡◌, ◌<◌, ℕ, Bool, true, List, sym, ap, subst, map, length, string_bytes}
use Rattle.std.specs.List.{All}
use Rattle.std.specs.Option.{option_map}
use Rattle.miette_protocol.specs.views.Meaning.{Label}
use Rattle.miette_tree.specs.rules.Tree.{head, cause_of}
use Rattle.miette_tree.specs.rules.DiagnosticParts.{given_labels}
use Rattle.miette_tree.specs.views.Owned.{ref_source}
use Rattle.miette_tree.specs.views.Report.{tree_of}
use Rattle.miette_labels.specs.rules.Groups.{in_order}
use Rattle.miette_labels.specs.views.ProgramLabels.{label_at}
use Rattle.miette_labels.specs.declared.order.OrderedLabel.{OrderedLabel}
use Rattle.miette_brief.specs.steps.AppendedParts.{AppendsCauses}
use Rattle.miette_brief.specs.steps.Conversions.{brief_location_of}
use Rattle.miette_brief.proofs.Telling.{untold, own_told}
use Rattle.miette_brief.proofs.report.push_diagnostic.Goals.{then-chain+in_ok-push_causes, else-chain}
use Rattle.miette_brief.proofs.report.push_diagnostic.Goals as goal

pub push_labelled-requires-clause-inside : goal.push_labelled-requires-clause-inside
push_labelled-requires-clause-inside g c =
    let labels : List Label = given_labels (head (tree_of g.D.Diagnostic.meaning g.S.SourceCode.source
    c.args.report.now)).labels in
    subst (λ (turns : List OrderedLabel). All (λ turn. turn.index < length labels) turns) (sym c.deref.ensures.value)
    (subst (λ (ls : List Label). All (λ turn. turn.index < length ls) c.in_ok-order.order.items) c.labels_of.ensures
    c.in_ok-order.ensures.inside)

pub push_labelled-requires-clause-ordered : goal.push_labelled-requires-clause-ordered
push_labelled-requires-clause-ordered g c =
    let labels : List Label = given_labels (head (tree_of g.D.Diagnostic.meaning g.S.SourceCode.source
    c.args.report.now)).labels in
    let same : map (λ turn. label_at labels turn.index) c.in_ok-order.order.items ≡ in_order labels =
    subst (λ (ls : List Label). map (λ turn. label_at ls turn.index) c.in_ok-order.order.items ≡ in_order ls)
    c.labels_of.ensures c.in_ok-order.ensures.order in
    subst (λ (turns : List OrderedLabel). map (λ turn. label_at labels turn.index) turns ≡ in_order labels)
    (sym c.deref.ensures.value) same

pub returns-clause-text : goal.returns-clause-text
returns-clause-text g c =
    let value = tree_of g.D.Diagnostic.meaning g.S.SourceCode.source c.args.report.now in
    let source = option_map (ref_source g.S.SourceCode.source) c.args.source in
    let at = brief_location_of c.in_ok-at.at in
    let mid = string_bytes c.push_labelled.new.out in
    let caused = string_bytes c.if-chain.out in
    let causes : AppendsCauses c.args.chain at source (cause_of value) mid caused =
    elim c.if-chain.branch [
      | then-chain+in_ok-push_causes w ↦ subst (λ (b : Bool). AppendsCauses b at source (cause_of value) mid caused)
          (sym w.if-chain.true)
          (subst (λ (new : List ℕ). AppendsCauses true at source (cause_of value) mid new)
          (sym (ap string_bytes w.out-is)) w.in_ok-push_causes.ensures)
      | else-chain w ↦ subst (λ (b : Bool). AppendsCauses b at source (cause_of value) mid caused)
          (sym w.if-chain.false) (untold at source (cause_of value) mid caused (ap string_bytes w.out-is))
    ] in
    own_told c.args.chain source (head value) (cause_of value) at (string_bytes c.args.out.now) mid caused
    (string_bytes c.push_advice.new.out) c.in_ok-at.ensures.text causes c.in_ok-push_advice.ensures
