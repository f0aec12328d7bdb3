use Rattle.std.proofs.Common.{◌≡◌, ◌++◌, false, length, List, ℕ}
use Rattle.std.specs.Io.KnownBytes.{Appends}
use Rattle.miette_language_server.proofs.client.Client.put.Given as goal

-- no call failed, and the writer took the bytes in front of the rest
abbrev pub invariant-loop-rest : goal.invariant-loop-rest
invariant-loop-rest g l = record {
  sound : l.self.writer.failed ≡ false;
  reader : l.self.reader ≡ l.initial.self.reader;
  taken : (front : List ℕ) × (l.bytes ≡ front ++ l.rest)
      × Appends (g.W.Write.contents l.initial.self.writer.inner) (g.W.Write.contents l.self.writer.inner) front;
}

abbrev pub decreases-loop-rest : goal.decreases-loop-rest
decreases-loop-rest g l = length l.rest
