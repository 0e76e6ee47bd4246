use Rattle.std.proofs.Common.{refl, subst, sym}
use Rattle.iol_core.specs.Calls.Outside as outside
use Rattle.iol_core.specs.declared.events.Event.{Event}
use Rattle.iol_core.specs.declared.events.Event.TheVariants as event
use Rattle.iol_core.specs.declared.events.Reply.TheVariants as reply
use Rattle.iol_kernel.specs.Calls as calls
use Rattle.iol_kernel.specs.Calls.{with_incoming}
use Rattle.iol_kernel.specs.Kernel.{state_of}
use Rattle.iol_system.specs.Effects.{Does}
use Rattle.iol_system.specs.Wants.{for_arrived}
use Rattle.iol_system.proofs.HeldPlaces.{values_incoming}
use Rattle.iol_system.proofs.Effects.{as_event, carried_does, kept_does}
use Rattle.iol_system.proofs.ReplyAnswers.{done, reported_step}
use Rattle.iol_system.proofs.FileEffects.{places_does}
use Rattle.iol_system.proofs.BackEffects.{flushes_does, drops_does, sends_does}
use Rattle.iol_system.proofs.Safe.{promises_kept}
use Rattle.iol_system.proofs.system.System.step_ref.Goals as goal

pub returns-in-ConnNew : goal.returns-in-ConnNew
returns-in-ConnNew g c =
    rw (← c.self.view_is)
    (promises_kept _ _ _ _ c.self.invariant
    (as_event c.in-ConnNew.is c.conn.ensures
    (carried_does reply.Conn (λ s. outside.conn_new s c.in-ConnNew.pool) (λ a. refl) refl
    (λ s. reported_step reply.Conn (λ a. refl) (outside.conn_new s c.in-ConnNew.pool) s) tt tt (λ k. k) refl
    c.self.invariant.sound c.conn_new.ensures)))

pub returns-in-Arrive : goal.returns-in-Arrive
returns-in-Arrive g c =
    rw (← c.self.view_is)
    (promises_kept _ _ _ _ c.self.invariant
    (as_event c.in-Arrive.is c.count.ensures
    (places_does reply.Count (λ s. (outside.arrive s c.in-Arrive.conn c.in-Arrive.bytes))
    (with_incoming c.in-Arrive.conn) (for_arrived (state_of c.self.inside.kernel) c.in-Arrive.conn c.in-Arrive.bytes)
    (event.Arrive c.in-Arrive.conn c.in-Arrive.bytes) (g.B.Backing.disk c.self.inside.backing)
    (state_of c.self.inside.kernel) (state_of c.arrive.new.self) c.arrive.result (λ a. refl)
    (record {
      unwritten = refl;
      unlent = refl;
      goes = λ d p k. k;
      asks = λ s. refl;
      uses = λ s. refl;
      unshared =
          λ s. refl;
      moving = refl;
      inside = λ s. refl;
      changes = refl;
      keeps = values_incoming c.in-Arrive.conn;
      has =
          λ d k. k;
      lacks = λ d k. k;
      fits = λ d k. k;
      publishes = λ n k. k;
      creates = λ x n. tt;
      late = λ d x n k. k;
      sums =
          λ x n k. k;
    })
    (λ s t r step. reported_step reply.Count (λ a. refl) (outside.arrive s c.in-Arrive.conn c.in-Arrive.bytes) s t r
    step) tt c.arrive.ensures.places c.arrive.ensures.slices)))

pub returns-in-PeerClosed : goal.returns-in-PeerClosed
returns-in-PeerClosed g c =
    rw (← c.self.view_is)
    (promises_kept _ _ _ _ c.self.invariant
    (as_event c.in-PeerClosed.is c.done.ensures
    (kept_does done (λ s. outside.peer_closed s c.in-PeerClosed.conn c.in-PeerClosed.how) (λ a. refl) refl
    (λ s. reported_step done (λ a. refl) (outside.peer_closed s c.in-PeerClosed.conn c.in-PeerClosed.how) s) tt tt
    (λ k. k) (λ s. refl) refl c.self.invariant.sound c.peer_closed.ensures.peer_closed c.peer_closed.ensures.roomy)))

pub returns-in-Transmit : goal.returns-in-Transmit
returns-in-Transmit g c =
    rw (← c.self.view_is)
    (promises_kept _ _ _ _ c.self.invariant
    (as_event c.in-Transmit.is c.segment.ensures
    (sends_does c.in-Transmit.conn c.in-Transmit.max (g.B.Backing.disk c.self.inside.backing)
    (state_of c.self.inside.kernel) (state_of c.transmit.new.self) (calls.reported c.transmit.result)
    c.self.invariant.sound c.transmit.ensures)))

pub returns-in-Flush : goal.returns-in-Flush
returns-in-Flush g c =
    rw (← c.self.view_is)
    (promises_kept _ _ _ _ c.self.invariant
    (as_event c.in-Flush.is c.done-in-Flush.ensures
    (flushes_does (g.B.Backing.disk c.self.inside.backing) (g.B.Backing.disk c.flush.new.backing)
    (state_of c.self.inside.kernel) (state_of c.flush.new.self) c.flush.result c.self.invariant.sound
    c.flush.ensures.serves c.flush.ensures.flushes)))

pub returns-in-DropClean : goal.returns-in-DropClean
returns-in-DropClean g c =
    rw (← c.self.view_is)
    (promises_kept _ _ _ _ c.self.invariant
    (subst (λ (k : Event). Does (g.B.Backing.disk c.self.inside.backing) (state_of c.self.inside.kernel) k reply.Done
    (g.B.Backing.disk c.self.inside.backing) (state_of c.drop_clean.new.self)) (sym c.in-DropClean.is)
    (drops_does (g.B.Backing.disk c.self.inside.backing) (state_of c.self.inside.kernel)
    (state_of c.drop_clean.new.self) (c.drop_clean.ensures.serves (g.B.Backing.disk c.self.inside.backing))
    c.drop_clean.ensures.pages (record {
      none = c.drop_clean.ensures.none;
      victims = c.drop_clean.ensures.victims;
      same = c.drop_clean.ensures.rest;
    }) c.drop_clean.ensures.keeps)))

pub returns-in-Call : goal.returns-in-Call
returns-in-Call g c =
    rw (← c.self.view_is) (promises_kept _ _ _ _ c.self.invariant (as_event c.in-Call.is refl c.answer_call.ensures))

-- the system is safe afterwards
pub invariant_of-self-in-ConnNew : goal.invariant_of-self-in-ConnNew
invariant_of-self-in-ConnNew g c = (returns-in-ConnNew g c).safe

pub invariant_of-self-in-Arrive : goal.invariant_of-self-in-Arrive
invariant_of-self-in-Arrive g c = (returns-in-Arrive g c).safe

pub invariant_of-self-in-PeerClosed : goal.invariant_of-self-in-PeerClosed
invariant_of-self-in-PeerClosed g c = (returns-in-PeerClosed g c).safe

pub invariant_of-self-in-Transmit : goal.invariant_of-self-in-Transmit
invariant_of-self-in-Transmit g c = (returns-in-Transmit g c).safe

pub invariant_of-self-in-Flush : goal.invariant_of-self-in-Flush
invariant_of-self-in-Flush g c = (returns-in-Flush g c).safe

pub invariant_of-self-in-DropClean : goal.invariant_of-self-in-DropClean
invariant_of-self-in-DropClean g c = (returns-in-DropClean g c).safe

pub invariant_of-self : goal.invariant_of-self
invariant_of-self g c = (returns-in-Call g c).safe
