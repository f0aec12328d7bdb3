use Rattle.std.proofs.Common.{◌≡◌, ◌++◌, ◌∙◌, ap, string_bytes}
use Rattle.std.specs.Prelude.{slice_range}
use Rattle.std.proofs.lemmas.Str.{IsUtf8-string_bytes}
use Rattle.miette_sarif.specs.views.DraftValue.{draft_of}
use Rattle.miette_sarif.proofs.Shown.{draft_read, draft_unread}
use Rattle.miette_sarif.proofs.edits.finished.Goals as goal

pub returns-in-Ok : goal.returns-in-Ok
returns-in-Ok c =
    let d = draft_of c.args.draft in
    let rest = slice_range c.args.bytes.now d.reached d.deleted.end.offset in
    let all : c.extend_from_slice.new.self.items ≡ d.text ++ rest =
    c.in_ok-extend_from_slice.ensures.items ∙ ap (λ l. d.text ++ l) c.between.ensures in
    let same : string_bytes c.in-Ok.text ≡ c.extend_from_slice.new.self.items =
    ap (λ v. v.items) c.in-Ok.ensures.ok in
    draft_read c.args.bytes.now (string_bytes c.in-Ok.text) d (same ∙ all) (IsUtf8-string_bytes c.in-Ok.text)

pub returns : goal.returns
returns c =
    let d = draft_of c.args.draft in
    draft_unread c.args.bytes.now c.extend_from_slice.new.self.items d
    (c.in_ok-extend_from_slice.ensures.items ∙ ap (λ l. d.text ++ l) c.between.ensures)
    (λ utf8. (let no = c.in-Err.ensures.succeeds utf8 in cc))
