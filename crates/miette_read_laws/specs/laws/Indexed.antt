-- The index of an artifact in a log.
use Rattle.std.specs.Prelude.{◌≡◌, ℕ, ◌++◌, codes, slice_get, Some}
use Rattle.miette_json.specs.rules.Json.{number, string}
use Rattle.miette_sarif.specs.rules.Artifacts.{Artifacts, artifact, artifact_location, artifact_values, uri_of}
use Rattle.miette_sarif.specs.rules.Findings.{SourceName}
use Rattle.miette_sarif.specs.rules.Objects.{object_of, pair}

-- The location of a source has its URI and the index of its artifact, and the artifact with this index has that URI.
pub record IsIndexed (a : Artifacts) (s : SourceName) : Type 0 where
  pub index : ℕ
  pub location : artifact_location a s
      ≡ object_of (pair (codes "uri") (string (uri_of a.untitled s)) ++ pair (codes "index") (number index))
  pub listed : slice_get (artifact_values a) index ≡ Some (artifact (uri_of a.untitled s))
