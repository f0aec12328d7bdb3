use Rattle.std.proofs.Common.{ap, sym, ◌∙◌, Bor, List, ℕ}
use Rattle.std.specs.Option.{option_map}
use Rattle.std.specs.Io.KnownBytes.{Appends}
use Rattle.miette_devices.proofs.FaultRows.{row_named, row_used}
use Rattle.miette_devices.proofs.fault.Program.tell.Goals as goal

pub returns-in-None : goal.returns-in-None
returns-in-None g c =
    record {
      row = row_used c.writeln.result (Appends (g.F.Write.contents c.args.faults.now)
          (g.F.Write.contents c.writeln.new.self)) c.args.self c.args.fault _ _ c.name_and_usage.ensures.name
          c.name_and_usage.ensures.usage
          (ap (option_map (λ (it : Bor (List ℕ)). it.now)) (sym c.in-None.is) ∙ c.reason.ensures)
          c.writeln.ensures.bytes;
    }

pub returns-in-Some : goal.returns-in-Some
returns-in-Some g c =
    record {
      row = row_named c.writeln-in-Some.result (Appends (g.F.Write.contents c.args.faults.now)
          (g.F.Write.contents c.writeln-in-Some.new.self)) c.args.self c.args.fault _ _ c.name_and_usage.ensures.name
          (ap (option_map (λ (it : Bor (List ℕ)). it.now)) (sym c.in-Some.is) ∙ c.reason.ensures)
          c.writeln-in-Some.ensures.bytes;
    }
