use Rattle.std.proofs.Common.{◌∙◌, ap, ap₂, arith, sym}
use Rattle.std.specs.Vec.{with_items}
use Rattle.miette_runs.specs.rules.Cutting.{cut_front}
use Rattle.miette_runs.specs.steps.Feeds.{feeds_len, lowered_tag}
use Rattle.miette_runs.proofs.InterleavedCuts.{front-cut, front-whole, front-within, tags-changed}
use Rattle.miette_runs.proofs.runs.Runs.cut_front.Goals as goal

pub invariant_of-self : goal.invariant_of-self
invariant_of-self c =
    let codes = c.self.inside.codes.items in
    let tags = c.self.inside.tags in
    let n = c.feeds_len-n.result in
    front-within codes c.drop-drain.new.self.0.items tags.items (with_items tags c.lower.new.tags).items n
    (c.drop-drain.ensures.items ∙ c.drain.ensures.kept) (tags-changed (lowered_tag n) tags c.deref_mut.result.now
    c.lower.new.tags c.deref_mut.ensures.value
    c.deref_mut.ensures.len c.lower.ensures) c.self.invariant

pub returns-then-n-gt0 : goal.returns-then-n-gt0
returns-then-n-gt0 c =
    let tags = c.self.inside.tags in
    front-cut c.self.inside.codes.items c.drop-drain.new.self.0.items tags.items
    (with_items tags c.lower.new.tags).items c.feeds_len-n.result
    (c.feeds_len-n.ensures.value ∙ ap₂ (feeds_len 0) c.deref.ensures.value c.deref-2.ensures.value)
    (c.drop-drain.ensures.items ∙ c.drain.ensures.kept)
    (tags-changed (lowered_tag c.feeds_len-n.result) tags c.deref_mut.result.now c.lower.new.tags
    c.deref_mut.ensures.value
    c.deref_mut.ensures.len c.lower.ensures)
    ∙ ap cut_front c.self.view_is

pub returns-else-n-gt0 : goal.returns-else-n-gt0
returns-else-n-gt0 c =
    let codes = c.self.inside.codes.items in
    let n = c.feeds_len-n.result in
    sym c.self.view_is
    ∙ front-whole codes c.self.inside.tags.items n (c.feeds_len-n.ensures.value
    ∙ ap₂ (feeds_len 0) c.deref.ensures.value c.deref-2.ensures.value) (omega (arith, c.if-n-gt0.false))
    ∙ ap cut_front c.self.view_is
