use Rattle.std.proofs.Common.{◌∙◌, ◌≤◌, ap, ap₂, arith, length, sym}
use Rattle.std.specs.Vec.{with_items}
use Rattle.miette_runs.specs.rules.Cutting.{cut_end}
use Rattle.miette_runs.specs.steps.Feeds.{capped_tag, kept_len}
use Rattle.miette_runs.proofs.InterleavedCuts.{end-cut, end-whole, end-within, tags-changed}
use Rattle.miette_runs.proofs.runs.Runs.cut_end.Goals as goal

pub invariant_of-self : goal.invariant_of-self
invariant_of-self c =
    let codes = c.self.inside.codes.items in
    let tags = c.self.inside.tags in
    let n = c.kept_len-n.result in
    let within : n ≤ length codes = omega (arith, ap length c.deref.ensures.value, c.kept_len-n.ensures.within) in
    end-within codes c.truncate.new.self.items tags.items (with_items tags c.cap.new.tags).items n within
    c.truncate.ensures.items
    (tags-changed (capped_tag n) tags c.deref_mut.result.now c.cap.new.tags c.deref_mut.ensures.value
    c.deref_mut.ensures.len c.cap.ensures)

pub returns-then-n-len : goal.returns-then-n-len
returns-then-n-len c =
    let tags = c.self.inside.tags in
    end-cut c.self.inside.codes.items c.truncate.new.self.items tags.items (with_items tags c.cap.new.tags).items
    c.kept_len-n.result
    (c.kept_len-n.ensures.value ∙ ap₂ (kept_len 0) c.deref.ensures.value c.deref-2.ensures.value)
    c.truncate.ensures.items
    (tags-changed (capped_tag c.kept_len-n.result) tags c.deref_mut.result.now c.cap.new.tags c.deref_mut.ensures.value
    c.deref_mut.ensures.len c.cap.ensures)
    ∙ ap cut_end c.self.view_is

pub returns-else-n-len : goal.returns-else-n-len
returns-else-n-len c =
    let codes = c.self.inside.codes.items in
    let n = c.kept_len-n.result in
    let all : length codes ≤ n = (let e = c.if-n-len.false in let o = c.self.inside.codes.ok.0 in omega arith) in
    sym c.self.view_is
    ∙ end-whole codes c.self.inside.tags.items n (c.kept_len-n.ensures.value
    ∙ ap₂ (kept_len 0) c.deref.ensures.value c.deref-2.ensures.value) all
    ∙ ap cut_end c.self.view_is
