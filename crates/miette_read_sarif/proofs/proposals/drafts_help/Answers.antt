use Rattle.std.proofs.Common.{[], ◌∷◌, take, ap, sym, ◌∙◌}
use Rattle.std.specs.List.{fold}
use Rattle.std.proofs.lemmas.Grind.{fold-append}
use Rattle.miette_read.proofs.Steps.{next_taken}
use Rattle.miette_read_sarif.specs.rules.Proposals.{with_help}
use Rattle.miette_read_sarif.proofs.proposals.drafts_help.Goals as goal

pub loop-draft-preserved : goal.loop-draft-preserved
loop-draft-preserved g c =
    let l = c.loop-draft in
    let help = with_help (g.F.Files.found c.args.files.now) in
    let drafts = c.args.drafts.now in
    let draft = c.draft-item.result in
    c.in_ok-push_help.ensures ∙ ap (λ rows. help rows draft) l.invariant
    ∙ sym (fold-append help [] (take l.draft-index drafts) (draft ∷ []))
    ∙ ap (fold help []) (sym (next_taken drafts l.draft-index draft c.loop-draft-test.true c.draft-item.is))
