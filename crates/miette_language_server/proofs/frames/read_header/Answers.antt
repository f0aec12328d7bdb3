use Rattle.std.proofs.Common.{◌≡◌, [], ◌∙◌, Some, ap, false, subst, sym, true}
use Rattle.std.specs.Option.{option_or}
use Rattle.miette_language_server.specs.rules.Frames.{ends_header, content_length_in}
use Rattle.miette_language_server.specs.views.Answered.{IsHeaderFrom, IsNextByte}
use Rattle.miette_devices.specs.declared.fault.ProgramError.TheVariants.{Read}
use Rattle.miette_language_server.proofs.Clients.{not_failed, still_sent}
use Rattle.miette_language_server.proofs.Headers.{more_of_row, more_rows, no_more_rows}
use Rattle.miette_language_server.proofs.frames.read_header.Goals as goal

pub loop-preserved-then-byte-ne10 : goal.loop-preserved-then-byte-ne10
loop-preserved-then-byte-ne10 g c =
    let known = c.loop.known in
    let old = g.R.Read.remaining c.loop.client.reader.inner in
    let mid = g.R.Read.remaining c.next_byte.new.client.reader.inner in
    let next : IsNextByte old mid (Some c.in-Some.byte) = subst (IsNextByte old mid) c.in-Some.is
    c.in_ok-byte.ensures.next in
    record {
      header = λ new size h. c.loop.invariant.header new size
          (more_of_row known c.loop.row.items c.in-Some.byte old mid new size c.if-byte-ne10.true next
          (subst (λ r. IsHeaderFrom known r mid new size) c.in_ok-push_byte.ensures h));
      sound = not_failed _ _ Read c.in_ok-byte.ensures.failed;
      sent = still_sent _ _ c.next_byte.ensures.writer c.loop.invariant.sent;
      writer = c.next_byte.ensures.writer ∙ c.loop.invariant.writer;
    }

pub loop-preserved : goal.loop-preserved
loop-preserved g c =
    let known = c.loop.known in
    let row = c.loop.row.items in
    let old = g.R.Read.remaining c.loop.client.reader.inner in
    let mid = g.R.Read.remaining c.next_byte.new.client.reader.inner in
    let next : IsNextByte old mid (Some c.in-Some.byte) = subst (IsNextByte old mid) c.in-Some.is
    c.in_ok-byte.ensures.next in
    let some : ends_header row ≡ false =
    ap ends_header (sym c.as_slice.ensures.value) ∙ sym c.ends_header.ensures ∙ c.if-ends_header.false in
    let later : c.or-known.result ≡ option_or (content_length_in row) known = c.or-known.ensures
    ∙ ap (λ o. option_or o known) (c.content_length_in.ensures ∙ ap content_length_in c.as_slice-in-loop.ensures.value)
    in
    record {
      header = λ new size h. c.loop.invariant.header new size
          (more_rows known row c.in-Some.byte old mid new size c.if-byte-ne10.false some next
          (subst (λ k. IsHeaderFrom k [] mid new size) later
          (subst (λ r. IsHeaderFrom c.or-known.result r mid new size) c.clear.ensures.items h)));
      sound = not_failed _ _ Read c.in_ok-byte.ensures.failed;
      sent = still_sent _ _ c.next_byte.ensures.writer c.loop.invariant.sent;
      writer = c.next_byte.ensures.writer ∙ c.loop.invariant.writer;
    }

pub returns-then-ends_header-clause-header : goal.returns-then-ends_header-clause-header
returns-then-ends_header-clause-header g c =
    let known = c.loop.known in
    let row = c.loop.row.items in
    let old = g.R.Read.remaining c.loop.client.reader.inner in
    let mid = g.R.Read.remaining c.next_byte.new.client.reader.inner in
    let next : IsNextByte old mid (Some c.in-Some.byte) = subst (IsNextByte old mid) c.in-Some.is
    c.in_ok-byte.ensures.next in
    let none : ends_header row ≡ true =
    ap ends_header (sym c.as_slice.ensures.value) ∙ sym c.ends_header.ensures ∙ c.if-ends_header.true in
    c.loop.invariant.header mid known (no_more_rows known row c.in-Some.byte old mid c.if-byte-ne10.false none next)
