use Rattle.miette_positions.proofs.Rising.{after_back, at_back, before_back, offset_back, only_stop, stops_rise}
use Rattle.miette_positions.proofs.laws.stop_laws.Goals as goal

pub returns-clause-rise : goal.returns-clause-rise
returns-clause-rise c = λ e source i j s t lt h g.
    let later = stops_rise e source i j s t lt h g in (later.offset, later.position)

pub returns-clause-back : goal.returns-clause-back
returns-clause-back c = λ e source k s h.
    (before_back e source k s h, after_back e source k s h, at_back e source k s h, offset_back e source k s h)

pub returns-clause-only : goal.returns-clause-only
returns-clause-only c = λ e source p at h. only_stop e source p at h
