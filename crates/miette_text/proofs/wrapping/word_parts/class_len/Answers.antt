use Rattle.std.proofs.Common.{◌<◌, ◌∙◌, arith, length, sym}
use Rattle.miette_text.proofs.Counts.{Counts, counted-all, counted-more, counted-stop}
use Rattle.miette_text.proofs.wrapping.word_parts.class_len.Goals as goal

pub rest-init : goal.rest-init
rest-init g c = record { told = omega arith; within = omega arith }

pub returns-then-not-has-clause-value : goal.returns-then-not-has-clause-value
returns-then-not-has-clause-value g c =
    let cs = g.C.Codes.codes c.args.codes in
    let counts : Counts g.K.Class.count g.K.Class.class =
    record { none = g.met.K.Class.none; more = g.met.K.Class.more } in
    let inside : c.rest.i < length cs = omega (arith, c.count-n.ensures, c.rest-test.true) in
    counted-stop g.K.Class.count g.K.Class.class counts cs c.rest.i c.at-code.result inside c.at-code.ensures
    (sym c.has.ensures ∙ c.if-not-has.true) c.rest.invariant.told

pub rest-preserved : goal.rest-preserved
rest-preserved g c =
    let cs = g.C.Codes.codes c.args.codes in
    let counts : Counts g.K.Class.count g.K.Class.class =
    record { none = g.met.K.Class.none; more = g.met.K.Class.more } in
    let inside : c.rest.i < length cs = omega (arith, c.count-n.ensures, c.rest-test.true) in
    record {
      told = counted-more g.K.Class.count g.K.Class.class counts cs c.rest.i c.at-code.result inside c.at-code.ensures
          (sym c.has.ensures ∙ c.if-not-has.false) c.rest.invariant.told;
      within = omega (arith, inside);
    }

pub returns-clause-value : goal.returns-clause-value
returns-clause-value g c =
    let counts : Counts g.K.Class.count g.K.Class.class =
    record { none = g.met.K.Class.none; more = g.met.K.Class.more } in
    counted-all g.K.Class.count g.K.Class.class counts (g.C.Codes.codes c.args.codes) c.rest.i
    (omega (arith, c.count-n.ensures, c.rest-test.false)) c.rest.invariant.told
