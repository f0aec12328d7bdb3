-- The files that a log is read over have the locations of its findings.
use Rattle.std.specs.Prelude.{List, ℕ, Option, IfSome}
use Rattle.std.specs.List.{AllByRecursion}
use Rattle.miette_positions.specs.declared.position.Stretch.{Stretch}
use Rattle.miette_protocol.specs.rules.Reading.{Source}
use Rattle.miette_sarif.specs.rules.Artifacts.{Artifacts, all_named, artifacts_in}
use Rattle.miette_sarif.specs.rules.Findings.{SarifRegion, Finding, SarifLocation, PhysicalLocation, ApplicableFix}
use Rattle.miette_sarif.specs.rules.Findings.{ReplacementValue, SourceName}
use Rattle.miette_read_laws.specs.laws.Kept.{file_name}
use Rattle.miette_read_laws.specs.laws.RegionsBack.{IsIn}

-- If the source's file is found, the range is one of that file.
abbrev pub IsOver : (List ℕ → Option Source) → Artifacts → SourceName → Stretch → Type 0
IsOver files a s stretch = IfSome (files (file_name a s)) (λ source. IsIn source.bytes stretch)

abbrev pub IsPlaceOver : (List ℕ → Option Source) → Artifacts → PhysicalLocation → Type 0
IsPlaceOver files a p = IfSome p.area (λ (area : SarifRegion). IsOver files a p.source area.stretch)

abbrev pub IsMarkOver : (List ℕ → Option Source) → Artifacts → SarifLocation → Type 0
IsMarkOver files a m = IfSome m.place (IsPlaceOver files a)

abbrev pub IsFixOver : (List ℕ → Option Source) → Artifacts → ApplicableFix → Type 0
IsFixOver files a fix = AllByRecursion (λ (it : ReplacementValue). IsOver files a fix.source it.deleted)
    fix.replacements

pub record IsFindingOver (files : List ℕ → Option Source) (a : Artifacts) (f : Finding) : Type 0 where
  pub primary : IfSome f.primary (IsMarkOver files a)
  pub marks : AllByRecursion (IsMarkOver files a) f.locations
  pub fixes : AllByRecursion (IsFixOver files a) f.fixes

abbrev pub AreFindingsOver : (List ℕ → Option Source) → List Finding → Type 0
AreFindingsOver files fs = AllByRecursion (IsFindingOver files (artifacts_in (all_named fs))) fs
