-- The artifacts of the code, as the rules represent them.
use Rattle.miette_sarif.specs.declared.artifacts.Artifacts.{Artifacts as ArtifactsHere}
use Rattle.miette_sarif.specs.rules.Artifacts.{Artifacts}
use Rattle.miette_sarif.specs.views.Findings.{texts_of}

abbrev pub artifacts_view : ArtifactsHere → Artifacts
artifacts_view it = record { untitled = it.untitled.keys; uris = texts_of it.uris.keys }
