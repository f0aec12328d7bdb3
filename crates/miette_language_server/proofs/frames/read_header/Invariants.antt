use Rattle.std.proofs.Common.{◌≡◌, ℕ, List, [], Option, None, false, true}
use Rattle.miette_language_server.specs.views.Answered.{IsHeaderFrom}
use Rattle.miette_language_server.proofs.frames.read_header.Given as goal

-- a header of what is left is one of all, with what is known and read of it; no call failed, and nothing was written
abbrev pub invariant-loop : goal.invariant-loop
invariant-loop g l = record {
  header : (new : Option (List ℕ)) (size : Option ℕ)
      → IsHeaderFrom l.known l.row.items (g.R.Read.remaining l.client.reader.inner) new size
      → IsHeaderFrom None [] (g.R.Read.remaining l.initial.client.reader.inner) new size;
  sound : l.client.reader.failed ≡ false;
  sent : l.client.writer.is_sent ≡ true;
  writer : l.client.writer ≡ l.initial.client.writer;
}
