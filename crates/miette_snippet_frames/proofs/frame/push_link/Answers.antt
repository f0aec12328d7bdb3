use Rattle.miette_style.specs.views.Printouts.{◌⊕◌}
use Rattle.std.proofs.Common.{◌++◌, ◌≡◌, ◌∙◌, cond, true, ap, sym, rules}
use Rattle.std.specs.Prelude.{chars, codes}
use Rattle.std.proofs.lemmas.Result.{on_ok_weaker}
use Rattle.miette_snippet_rules.specs.rules.Frames.{place_text}
use Rattle.miette_snippet_frames.specs.views.Places.{place_at}
use Rattle.miette_style.specs.views.Tokens.{styled_tokens}
use Rattle.miette_snippet_frames.proofs.FrameRows.{link_put}
use Rattle.miette_snippet_frames.proofs.frame.push_link.Goals as goal

pub returns : goal.returns
returns g c =
    let shown : c.args.frame.now.settings.layout.now.primary_start ≡ true = search rules in
    on_ok_weaker c.push_place.result (λ h.
    link_put c.args.frame.now.settings.theme.now.styles.link (chars c.args.name.now)
    (place_text (place_at c.args.place))
    c.args.page.now c.push_styled.new.page c.push.new.self c.push_place.new.page
    c.in_ok-push_styled.ensures c.in_ok-push.ensures h
    ∙ ap (λ b. c.args.page.now ⊕ styled_tokens c.args.frame.now.settings.theme.now.styles.link
    (cond b (chars c.args.name.now ++ codes ":" ++ place_text (place_at c.args.place)) (chars c.args.name.now)))
    (sym shown)) c.push_place.ensures
