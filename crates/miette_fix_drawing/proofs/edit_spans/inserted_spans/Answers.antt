use Rattle.std.proofs.Common.{ℕ, ◌≡◌, ◌+◌, ◌-◌, ◌∷◌, ◌++◌, List, [], ap, ap₂, sym, ◌∙◌, append_assoc, drop}
use Rattle.std.proofs.Common.{length, rules}
use Rattle.miette_protocol.specs.rules.Reading.{Span}
use Rattle.miette_fixes.specs.rules.Edits.{Replacement, end_of}
use Rattle.miette_fixes.specs.views.Ordered.{edits_of}
use Rattle.miette_fix_rows.specs.rules.DiffTexts.{inserted_from}
use Rattle.miette_fix_drawing.proofs.Framing.{item_first}
use Rattle.miette_fix_drawing.proofs.edit_spans.inserted_spans.Goals as goal

abbrev spanned : ℕ → ℕ → Span
spanned offset len = record { offset = offset; len = len }

inserted_more : (made all pushed : List Span) (old new offset past : ℕ) (edit : Replacement) (es : List Replacement)
    (span : Span) → offset ≡ new + (edit.span.offset - old) → span ≡ spanned offset (length edit.text)
    → pushed ≡ made ++ span ∷ [] → past ≡ offset + length edit.text
    → made ++ inserted_from old new (edit ∷ es) ≡ all → pushed ++ inserted_from (end_of edit) past es ≡ all
inserted_more made all pushed old new offset past edit es span o s p q h =
    let rest : ℕ → List Span = λ n. inserted_from (end_of edit) n es in
    ap (λ xs. xs ++ rest past) p ∙ append_assoc made (span ∷ []) (rest past)
    ∙ ap (λ n. made ++ (span ∷ rest n)) (q ∙ ap (λ n. n + length edit.text) o)
    ∙ ap (λ x. made ++ (x ∷ rest (new + (edit.span.offset - old) + length edit.text)))
    (s ∙ ap (λ n. spanned n (length edit.text)) o)
    ∙ h

pub loop-edit-preserved : goal.loop-edit-preserved
loop-edit-preserved c =
    let edits = c.args.edits.now in
    let i = c.loop-edit.edit-index in
    let made = c.loop-edit.list.items in
    let edit = c.edit-item.result.now in
    let es = edits_of (drop (i + 1) edits) in
    let items : drop i edits ≡ c.edit-item.result ∷ drop (i + 1) edits =
    item_first edits i c.edit-item.result c.loop-edit-test.true c.edit-item.is in
    let start : c.into.result ≡ c.in_ok-offset.offset = search rules in
    let after : c.in_ok-old.old ≡ end_of edit =
    c.in_ok-old.ensures ∙ ap₂ (λ n k. n + k) c.offset-in-loop-edit.ensures c.len.ensures in
    ap (λ n. c.push.new.self.items ++ inserted_from n c.in_ok-new.new es) after
    ∙ inserted_more made _ c.push.new.self.items c.loop-edit.old c.loop-edit.new c.in_ok-offset.offset c.in_ok-new.new
    edit es c.new.result
    (c.in_ok-offset.ensures ∙ ap (λ n. c.loop-edit.new + n) (c.saturating_sub.ensures
    ∙ ap (λ n. n - c.loop-edit.old) c.offset.ensures))
    (c.new.ensures ∙ ap₂ spanned start (ap length c.text-size.ensures)) c.in_ok-push.ensures.items
    (c.in_ok-new.ensures ∙ ap (λ t. c.in_ok-offset.offset + length t) c.text-size.ensures)
    (ap (λ es. made ++ inserted_from c.loop-edit.old c.loop-edit.new (edits_of es)) (sym items)
    ∙ c.loop-edit.invariant)
