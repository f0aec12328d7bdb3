use Rattle.miette_read_sarif.proofs.bases.+base_uri.Given as goal

abbrev pub decreases-base_uri : goal.decreases-base_uri
decreases-base_uri l = l.most
