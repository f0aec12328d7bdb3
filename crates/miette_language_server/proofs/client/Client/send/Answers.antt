use Rattle.std.proofs.KnownBytes.{Appends-kept, Appends-trans}
use Rattle.miette_language_server.proofs.Beginnings.{on_err, on_ok, takes_all, takes_more, takes_part}
use Rattle.miette_language_server.proofs.client.Client.send.Goals as goal

pub returns-clause-ok : goal.returns-clause-ok
returns-clause-ok g c =
    on_ok c.flush.result _ (Appends-kept _ _ _ _
    (Appends-trans _ _ _ _ _ c.in_ok-put.ensures.ok c.in_ok-put-2.ensures.ok) c.flush.ensures.bytes)

pub returns-clause-err : goal.returns-clause-err
returns-clause-err g c =
    on_err c.flush.result _ (takes_all _ _ _ (Appends-kept _ _ _ _
    (Appends-trans _ _ _ _ _ c.in_ok-put.ensures.ok c.in_ok-put-2.ensures.ok) c.flush.ensures.bytes))

pub returns-in_err-put-clause-err : goal.returns-in_err-put-clause-err
returns-in_err-put-clause-err g c = on_err _ _ (takes_part _ _ _ _ c.in_err-put.ensures.err)

pub returns-in_err-put-2-clause-err : goal.returns-in_err-put-2-clause-err
returns-in_err-put-2-clause-err g c =
    on_err _ _ (takes_more _ _ _ _ _ c.in_ok-put.ensures.ok c.in_err-put-2.ensures.err)
