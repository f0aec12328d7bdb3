-- Source names that are written to a log and read back unchanged.
use Rattle.std.specs.Prelude.{◌≡◌, ◌≢◌, ◌==◌, ℕ, List, [], true, false, not, codes, nat_eq}
use Rattle.std.specs.List.{list_all, starts_with}
use Rattle.std.specs.Str.{IsUtf8}
use Rattle.miette_sarif.specs.rules.Uris.{has_authority}

-- A nonempty name that isn't a URL: it doesn't start with a scheme and `://`.
pub record IsPlainName (name : List ℕ) : Type 0 where
  pub some : name ≢ []
  pub utf8 : IsUtf8 name
  pub no_address : has_authority name ≡ false

-- A URL without `%` whose scheme isn't `file:`.
pub record IsPlainAddress (name : List ℕ) : Type 0 where
  pub utf8 : IsUtf8 name
  pub address : has_authority name ≡ true
  pub no_escape : list_all (λ b. not (b == 37)) name ≡ true
  pub no_file : starts_with nat_eq name (codes "file:") ≡ false
