-- Numbers as arguments.
use Rattle.std.specs.Prelude.{◌≡◌, ℕ, ◌<◌, ◌≤◌, ◌^◌, List, Option, Some, None}
use Rattle.std.specs.Str.Parse.{IsNumeral, digits_value}

-- A number is one or more digits and nothing else, and is below 2 ^ 64.
abbrev pub IsReadAs : List ℕ → Option ℕ → Type 0
IsReadAs word (Some n) = IsNumeral 10 word × (digits_value 10 word < 2 ^ 64) × (n ≡ digits_value 10 word)
IsReadAs word None = IsNumeral 10 word → 2 ^ 64 ≤ digits_value 10 word
