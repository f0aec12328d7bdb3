use Rattle.miette_report.proofs.OneJobText.{one-text}
use Rattle.miette_report.proofs.job_laws.job_one_text_law.Goals as goal

pub returns : goal.returns
returns c = λ words bytes x y not_debug h k. one-text words bytes x y not_debug h k
