use Rattle.miette_graphical_laws.proofs.laws.asked_law.Goals as goal

pub returns : goal.returns
returns g c = λ it after t bytes h. let asked = h.1 in (h.0, (asked.0, asked.1, asked.3), h.2)
