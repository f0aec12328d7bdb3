use Rattle.std.proofs.Common.{◌≡◌, ◌≤◌, false, length, true}
use Rattle.std.specs.Io.KnownBytes.{Consumes}
use Rattle.miette_language_server.proofs.frames.read_body.Given as goal

-- what was read is the body so far; no call failed, and nothing was written
abbrev pub invariant-loop : goal.invariant-loop
invariant-loop g l = record {
  read : Consumes (g.R.Read.remaining l.initial.client.reader.inner) (g.R.Read.remaining l.client.reader.inner)
      l.body.items;
  within : length l.body.items ≤ l.size;
  sound : l.client.reader.failed ≡ false;
  sent : l.client.writer.is_sent ≡ true;
  writer : l.client.writer ≡ l.initial.client.writer;
}
