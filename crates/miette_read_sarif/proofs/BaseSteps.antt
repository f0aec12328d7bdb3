-- One base more that a base stands on.
use Rattle.std.proofs.Common.{◌≡◌, ℕ, zero, suc, ◌-◌, ◌<◌, Option, Some, ap, arith}
use Rattle.serde_json.specs.Data.{Data}
use Rattle.miette_read_sarif.specs.rules.Bases.{after_base, base_of, base_uri, in_folder, own_uri}

pub base_step : (n : ℕ) (bases : Option Data) (base : Data) → 0 < n → base_uri n bases (Some base)
    ≡ in_folder (after_base (base_uri (n - 1) bases (base_of bases base)) (own_uri base))
unfolding base_uri
base_step zero bases base h = absurd (omega (arith, h))
base_step (suc n) bases base h =
    let same : n ≡ suc n - 1 = omega arith in
    ap (λ m. in_folder (after_base (base_uri m bases (base_of bases base)) (own_uri base))) same
