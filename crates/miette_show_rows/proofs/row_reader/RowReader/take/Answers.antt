use Rattle.std.proofs.Common.{◌≡◌, ◌++◌, Some, None, drop, take, sym, ap, subst, ◌∙◌, rules}
use Rattle.std.proofs.lemmas.List.{drop_all, drop-drop}
use Rattle.miette_show_rows.specs.views.Reading.{IsRowEnd}
use Rattle.miette_show_rows.proofs.RowEnds.{taken_row}
use Rattle.miette_show_rows.proofs.row_reader.RowReader.take.Goals as goal

pub returns-in_ok-extend_from_slice-in-Some-clause-taken : goal.returns-in_ok-extend_from_slice-in-Some-clause-taken
returns-in_ok-extend_from_slice-in-Some-clause-taken g c =
    let self = c.self.inside in
    let pending = c.args.self.now.pending in
    let size = c.in-Some.size in
    let same : c.pending-pending.result.now ≡ pending = search rules in
    let is : drop self.start self.chunk.items ≡ pending = search rules in
    let end : IsRowEnd pending (Some size) = subst (λ p. IsRowEnd p (Some size)) same
    (subst (IsRowEnd c.pending-pending.result.now) c.in-Some.is c.row_end.ensures.end)
    in
    let got : c.extend_from_slice.new.self.items ≡ c.args.row.now.items ++ take size c.pending-pending.result.now =
    search rules
    in
    taken_row pending _ c.args.row.now.items c.extend_from_slice.new.self.items size end
    (sym (drop-drop size self.start self.chunk.items) ∙ ap (drop size) is)
    (got ∙ ap (λ p. c.args.row.now.items ++ take size p) same)

pub returns-in_ok-extend_from_slice-in-None-clause-taken : goal.returns-in_ok-extend_from_slice-in-None-clause-taken
returns-in_ok-extend_from_slice-in-None-clause-taken g c =
    let same : c.pending-pending.result.now ≡ c.args.self.now.pending = search rules in
    let none : IsRowEnd c.args.self.now.pending None = subst (λ p. IsRowEnd p None) same
    (subst (IsRowEnd c.pending-pending.result.now) c.in-None.is c.row_end.ensures.end)
    in
    let got : c.extend_from_slice-in-None.new.self.items ≡ c.args.row.now.items ++ c.pending-pending.result.now =
    search rules
    in
    (none, search (rules, drop_all), got ∙ ap (λ p. c.args.row.now.items ++ p) same)
