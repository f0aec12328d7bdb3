use Rattle.std.proofs.Common.{◌∙◌, ◌++◌, Bool, List, ℕ, ap, chars, refl, string_bytes}
use Rattle.miette_runs.specs.rules.Sequences.{tokens}
use Rattle.miette_runs.proofs.Outputs.{printed-bytes}
use Rattle.miette_text.specs.rules.Wrapping.{WrapPlan, wrapped_text}
use Rattle.miette_text.specs.views.Plans.{options_plan}
use Rattle.miette_text.proofs.Simple.{wrapped-read}
use Rattle.miette_text.proofs.wrap.wrapped_text.Goals as goal

pub returns : goal.returns
returns c =
    let p = options_plan c.args.options.now in
    let text = chars c.args.text.now in
    let plan : Bool → WrapPlan (List ℕ) = λ v. record {
      room = p.room;
      first = p.first;
      further = p.further;
      break_words = p.break_words;
      wrap_lines = p.wrap_lines;
      separator = p.separator;
      split_hyphens = v;
    } in
    printed-bytes c.in_ok-out.out c.push_wrapped.new.out (wrapped_text p text) c.in_ok-out.ensures.bytes
    (c.in_ok-push_wrapped.ensures
    ∙ ap (λ us. chars (string_bytes c.in_ok-out.out) ++ us)
    (wrapped-read (plan c.cuts_hyphens-split_hyphens.result) c.in_ok-first.first c.in_ok-further.further (tokens text)
    text
    c.in_ok-first.ensures.tokens c.in_ok-further.ensures.tokens refl
    ∙ ap (λ v. wrapped_text (plan v) text) c.cuts_hyphens-split_hyphens.ensures))
