-- The files of artifact locations, and the bases of relative URIs.
use Rattle.std.specs.Prelude.{ℕ, zero, suc, ◌-◌, List, [], ◌∷◌, ◌++◌, Option, Some, None, Bool, true, false, ◌||◌, ◌==◌}
use Rattle.std.specs.Prelude.{if◌then◌else◌, codes, length, option_and_then, slice_index, unwrap_or}
use Rattle.serde_json.specs.Data.{Data}
use Rattle.miette_read.specs.rules.Members.{member_object, member_text}
use Rattle.miette_read_sarif.specs.rules.Uris.{uri_file_name}

-- Whether a URI has a scheme: a `:` before the first `/`.
abbrev pub has_scheme : List ℕ → Bool
has_scheme [] = false
has_scheme (b ∷ bs) = if b == 58 then true else if b == 47 then false else has_scheme bs

-- Whether a URI has no base.
abbrev pub is_absolute_uri : List ℕ → Bool
is_absolute_uri uri = (slice_index uri 0 == 47) || has_scheme uri

abbrev pub after_base : List ℕ → List ℕ → List ℕ
after_base base uri = if is_absolute_uri uri then uri else base ++ uri

-- The prefix of URIs in a folder. It ends with `/`, and is empty for the root.
abbrev pub in_folder : List ℕ → List ℕ
in_folder uri = if (length uri == 0) || (slice_index uri (length uri - 1) == 47) then uri else uri ++ 47 ∷ []

abbrev pub own_uri : Data → List ℕ
own_uri l = unwrap_or (member_text (codes "uri") l) []

-- The locations of a run's bases by id.
abbrev pub bases_of : Data → Option Data
bases_of run = member_object (codes "originalUriBaseIds") run

-- The location of a location's base.
abbrev pub base_of : Option Data → Data → Option Data
base_of bases l = option_and_then (λ id. option_and_then (member_object id) bases) (member_text (codes "uriBaseId") l)

-- The prefix of URIs relative to a base. At most `n` bases are followed. A missing base is the root.
unfoldable pub base_uri : ℕ → Option Data → Option Data → List ℕ
base_uri zero bases base = []
base_uri (suc n) bases None = []
base_uri (suc n) bases (Some base) =
    in_folder (after_base (base_uri n bases (base_of bases base)) (own_uri base))

-- The limit ends cycles of bases.
abbrev pub most_bases : ℕ
most_bases = 16

abbrev pub full_uri : Option Data → Data → List ℕ
full_uri bases l = after_base (base_uri most_bases bases (base_of bases l)) (own_uri l)

-- The file name of a location.
abbrev pub file_name : Option Data → Data → List ℕ
file_name bases l = uri_file_name (full_uri bases l)
