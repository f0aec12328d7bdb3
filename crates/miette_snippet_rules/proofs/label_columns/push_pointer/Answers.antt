use Rattle.std.proofs.Common.{ap}
use Rattle.std.specs.Option.{option_copied}
use Rattle.miette_snippet_rules.proofs.EndColumns.{anchor_none, anchor_put}
use Rattle.miette_snippet_rules.proofs.label_columns.push_pointer.Goals as goal

pub returns : goal.returns
returns c =
    anchor_put (option_copied c.args.mark.now.label.text) c.in-Some._text.now c.args.mark.now.pointer
    c.args.ends.now.items c.push.new.self.items (ap option_copied c.in-Some.is) c.in_ok-push.ensures.items

pub returns-in_default : goal.returns-in_default
returns-in_default c =
    anchor_none (option_copied c.args.mark.now.label.text) c.args.mark.now.pointer c.args.ends.now.items
    (ap option_copied c.in_default.is)
