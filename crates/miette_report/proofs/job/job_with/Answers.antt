use Rattle.std.proofs.Common.{◌≡◌, map, None, refl, string_bytes, subst}
use Rattle.miette_devices.specs.rules.Faults.{status_of}
use Rattle.miette_report.specs.rules.JobCalls.{IsJobEnd}
use Rattle.miette_program.specs.rules.OptionWords.{parsed_arguments}
use Rattle.miette_devices.specs.declared.fault.Program.TheVariants.{Job}
use Rattle.miette_report.proofs.JobEnds.{job-status}
use Rattle.miette_report.proofs.job.job_with.Goals as goal

pub returns : goal.returns
returns g c =
    let words = map string_bytes c.args.words.now in
    let end = subst (λ d. IsJobEnd (parsed_arguments words ≡ None) words (g.R.Read.remaining d)
    c.run_job-work.result)
    c.new-reader.ensures.inner c.run_job-work.ensures.end in
    record {
      status = job-status (status_of Job) (λ f. refl) _ _ _ c.run_job-work.result _ end
          c.finish.ensures;
    }
