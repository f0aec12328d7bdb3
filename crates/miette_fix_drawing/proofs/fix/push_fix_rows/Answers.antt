use Rattle.std.proofs.Common.{sym, refl, ◌∙◌, length, Some, None}
use Rattle.std.proofs.lemmas.Result.{on_ok_weaker}
use Rattle.miette_snippet_rules.specs.views.SnippetSettings.{settings_of}
use Rattle.miette_fix_drawing.proofs.Drawn.{edits_drawn, no_edit_drawn}
use Rattle.miette_fix_drawing.proofs.fix.push_fix_rows.Goals as goal

pub returns-then-is_empty : goal.returns-then-is_empty
returns-then-is_empty g c = λ whole. λ bytes. λ name.
    no_edit_drawn (settings_of c.args.settings.now) whole c.edits.result.now c.args.fix.now.edits c.args.page.now
    c.edits.ensures (sym c.is_empty.ensures ∙ c.if-is_empty.true)

pub returns-in-Ok : goal.returns-in-Ok
returns-in-Ok g c =
    on_ok_weaker c.push_ordered_fix.result
    (λ put. λ whole. λ bytes. λ name.
    edits_drawn (settings_of c.args.settings.now) whole c.args.source.now.bytes.now (length c.args.source.now.bytes.now)
    c.edits.result.now
    c.edits-2.result.now c.args.fix.now.edits None c.args.page.now c.push_ordered_fix.new.page c.edits.ensures
    (sym c.is_empty.ensures ∙ c.if-is_empty.false) bytes refl c.edits-2.ensures c.in-Ok.ensures.ok.0
    (put whole bytes name))
    c.push_ordered_fix.ensures

pub returns-in-Err : goal.returns-in-Err
returns-in-Err g c =
    on_ok_weaker c.push_refusal.result
    (λ put. λ whole. λ bytes. λ name.
    edits_drawn (settings_of c.args.settings.now) whole c.args.source.now.bytes.now (length c.args.source.now.bytes.now)
    c.edits.result.now
    c.edits-2.result.now c.args.fix.now.edits (Some c.in-Err.error) c.args.page.now c.push_refusal.new.page
    c.edits.ensures (sym c.is_empty.ensures ∙ c.if-is_empty.false) bytes refl c.edits-2.ensures
    (c.in-Err.ensures.refused put.0) put.1)
    c.push_refusal.ensures
