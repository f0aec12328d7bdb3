use Rattle.std.proofs.Common.{◌≡◌, ℕ, ◌+◌, ◌≤◌, [], ◌∷◌, ◌++◌, length, slice_index, arith, sym, ◌∙◌, ap, true, false}
use Rattle.std.proofs.Common.{Vec, Global}
use Rattle.std.proofs.lemmas.List.{length_push}
use Rattle.miette_lines.specs.rules.Lines.{ends_line, line_of}
use Rattle.miette_lines.proofs.Places.{line_of_none, line_of_yes, line_of_no, push_end}
use Rattle.miette_lines.proofs.line_ends.LineEnds.new.Goals as goal
use Rattle.miette_lines.proofs.line_ends.LineEnds.new.Goals.{then-ends_line+in_ok-push, else-ends_line}

pub loop-at-init : goal.loop-at-init
loop-at-init c = rw c.new-ends.ensures.items (record {
  all = sym (line_of_none c.args.bytes.now);
  each = λ k h. absurd (omega (arith, h));
  within = omega arith;
})

pub loop-at-preserved : goal.loop-at-preserved
loop-at-preserved c =
    let same : length c.loop-at.ends.items ≡ line_of c.args.bytes.now c.in-Some.at = c.loop-at.invariant.all
    ∙ sym c.in-Some.ensures.same in
    let below : c.in-Some.at + 1 ≤ length c.args.bytes.now = omega (arith, c.in-Some.ensures.within) in
    elim c.if-ends_line.branch [
      | then-ends_line+in_ok-push w ↦
          (let e : c.if-ends_line.ends.items ≡ c.loop-at.ends.items ++ (c.in-Some.at + 1) ∷ [] =
          ap (λ (v : Vec ℕ Global). v.items) w.ends-is ∙ w.in_ok-push.ensures.items in
          let t : ends_line (slice_index c.args.bytes.now c.in-Some.at)
          (slice_index c.args.bytes.now (c.in-Some.at + 1)) ≡ true = sym c.ends_line.ensures ∙ w.if-ends_line.true in
          rw e (record {
            all = omega (
              arith,
              length_push c.loop-at.ends.items (c.in-Some.at + 1),
              same,
              line_of_yes c.args.bytes.now c.in-Some.at t,
            );
            each = push_end c.args.bytes.now c.in-Some.at c.loop-at.ends.items c.in-Some.ensures.within t same
                c.loop-at.invariant.each;
            within = below;
          }))
      | else-ends_line w ↦
          (let e : c.if-ends_line.ends.items ≡ c.loop-at.ends.items = ap (λ (v : Vec ℕ Global). v.items) w.ends-is in
          let t : ends_line (slice_index c.args.bytes.now c.in-Some.at)
          (slice_index c.args.bytes.now (c.in-Some.at + 1)) ≡ false = sym c.ends_line.ensures ∙ w.if-ends_line.false
          in
          rw e (record {
            all = same ∙ sym (line_of_no c.args.bytes.now c.in-Some.at t);
            each = c.loop-at.invariant.each;
            within = below;
          }))
    ]
