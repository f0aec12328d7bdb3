use Rattle.std.proofs.Common.{drop, map, refl, string_bytes, subst}
use Rattle.miette_devices.specs.rules.Faults.{status_of}
use Rattle.miette_report.specs.rules.JobCalls.{IsJobEnd, IsNoBenchCall}
use Rattle.miette_devices.specs.declared.fault.Program.TheVariants.{Bench}
use Rattle.miette_report.proofs.JobEnds.{job-status}
use Rattle.miette_report.proofs.bench.bench_with.Goals as goal

pub returns : goal.returns
returns g c =
    let words = map string_bytes c.args.words.now in
    let end = subst (λ d. IsJobEnd (IsNoBenchCall words) (drop 1 words) (g.R.Read.remaining d)
    c.run_bench-work.result)
    c.new-reader.ensures.inner c.run_bench-work.ensures.end in
    record {
      status = job-status (status_of Bench) (λ f. refl) _ _ _ c.run_bench-work.result _ end
          c.finish.ensures;
    }
