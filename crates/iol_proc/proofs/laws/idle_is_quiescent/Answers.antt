use Rattle.iol_proc.proofs.Quiescence.{quiescent_idle, each_quiescent}
use Rattle.iol_proc.proofs.laws.idle_is_quiescent.Goals as goal

pub returns : goal.returns
returns g c = record {
  all = λ w after most idle. quiescent_idle g.P.Quiescence.quiescent g.P.Process.turns c.quiesces.ensures w most after
      idle;
  each = λ w after most place s idle sits. each_quiescent g.P.Quiescence.quiescent g.P.Process.turns c.quiesces.ensures
      w most place after s idle sits;
}
