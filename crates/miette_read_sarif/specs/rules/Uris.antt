-- The file names of URIs.
use Rattle.std.specs.Prelude.{ℕ, List, Option, Some, None, if◌then◌else◌, codes, drop, length, nat_eq}
use Rattle.std.specs.List.{starts_with}
use Rattle.std.specs.Str.Lossy.{utf8_lossy}
use Rattle.percent_encoding.specs.Percent.{percent_decode}

-- The text after a prefix.
unfoldable pub after_front : List ℕ → List ℕ → Option (List ℕ)
after_front front text = if starts_with nat_eq text front then Some (drop (length front) text) else None

abbrev pub or_uri : List ℕ → Option (List ℕ) → List ℕ
or_uri uri None = uri
or_uri uri (Some path) = path

abbrev pub or_path : List ℕ → Option (List ℕ) → List ℕ
or_path uri None = or_uri uri (after_front (codes "file:") uri)
or_path uri (Some path) = path

-- The path of a `file:` URI without a host. Any other URI as it is.
abbrev pub path_of : List ℕ → List ℕ
path_of uri = or_path uri (after_front (codes "file://") uri)

-- The path with its escapes decoded. Bytes that aren't UTF-8 become U+FFFD.
abbrev pub uri_file_name : List ℕ → List ℕ
uri_file_name uri = utf8_lossy (percent_decode (path_of uri))
