use Rattle.miette_language_server.proofs.Lists.{appended}
use Rattle.miette_language_server.proofs.actions.append.Goals as goal

pub returns : goal.returns
returns c = appended c.append.result c.append.new.self.items c.args.list.now.items c.args.more.items
    c.append.ensures.items
