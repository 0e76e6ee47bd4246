use Rattle.flash_served.proofs.Sessions.{fair-sessions, any-sessions}
use Rattle.flash_served.proofs.sessions_are_right.Goals as goal

pub returns : goal.returns
returns c = λ s slots past ps its w after sessions. record {
  fair = λ refuses consistent fair. fair-sessions s slots (c.connections_do_not_meet.ensures.run s)
      (c.connections_do_not_meet.ensures.answered s)
      (c.connections_do_not_meet.ensures.whole s) c.connection_numbers_rise.ensures refuses past ps its w after sessions
      consistent fair;
  any =
      λ consistent. any-sessions s slots (c.connections_do_not_meet.ensures.run s)
      (c.connections_do_not_meet.ensures.answered s)
      (c.connections_do_not_meet.ensures.whole s) c.connection_numbers_rise.ensures c.runs_are_fair.ensures.any past ps
      its w after sessions consistent;
}
