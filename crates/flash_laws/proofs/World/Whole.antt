-- A new world with workers has the invariant, and in a world with the invariant the output of each connection begins
-- its answer.
use Rattle.std.proofs.Common.{inl, inr, ◌≡◌, ℕ, ◌⊎◌, List, [], ◌++◌, ap, refl, sym, subst, Option, Some, None, true}
use Rattle.std.proofs.Common.{false}
use Rattle.iol_core.specs.NumberedLists.{in_place}
use Rattle.iol_core.specs.Text.{bytes_of}
use Rattle.iol_core.specs.State.{State, Connection, descriptor, conn_at}
use Rattle.iol_core.specs.declared.descriptors.Descriptor.TheVariants as on
use Rattle.iol_core.specs.declared.events.Reply.{Reply}
use Rattle.iol_core.specs.declared.events.Reply.TheVariants as reply
use Rattle.iol_laws.specs.Order.{IsOrderly}
use Rattle.iol_proc.specs.Histories.{stream_over, sent_over}
use Rattle.iol_proc.specs.World.{WorldState}
use Rattle.iol_proc.specs.declared.choice.Choice.{Choice}
use Rattle.iol_proc.specs.declared.process_slot.ProcessSlot.{ProcessSlot}
use Rattle.flash_laws.specs.Client.{Client}
use Rattle.flash_laws.specs.Client.Fits.{FitsBy, made_of, response_to}
use Rattle.flash_laws.specs.Workers.WorkerSet.{WorkerSet}
use Rattle.flash_laws.specs.Site.Past.{Past}
use Rattle.flash_laws.specs.Site.Places.{filed}
use Rattle.flash_laws.specs.Site.ClientConsistency.{Held, Aside, AllFit, AreAnswered}
use Rattle.flash_laws.specs.SiteContents.{SiteContents, Begins, IsAnswer}
use Rattle.flash_laws.specs.Site.{server}
use Rattle.flash_laws.specs.World.Consistency.{reports_over, made_over, gone_over, given_over, past_of, Actor}
use Rattle.flash_laws.specs.World.{server_with, Consistent, IsNew, AllAnswered, ClosedAreWhole}
use Rattle.flash_laws.specs.declared.script_run.Running.{Running}
use Rattle.flash_laws.proofs.Conn.Responses.{WindowLaws}
use Rattle.flash_laws.proofs.Lists.{clash}
use Rattle.flash_laws.proofs.Site.Peers.{after_reply-none}
use Rattle.flash_laws.proofs.Site.OwnWorkers.{workers_shared}
use Rattle.flash_laws.proofs.Site.OpenDescriptors.{not-closed, conn-same}
use Rattle.flash_laws.proofs.Site.Expected.{shown-may}
use Rattle.flash_laws.proofs.World.Responses.{begins-none, begins-append, begins-consistency, begins-run}

-- A new world has the invariant.
pub first_consistent : (site_contents : SiteContents) (worker_set : WorkerSet)
    (w : WorldState State (Actor worker_set.Worker)) → IsNew site_contents worker_set w
    → Consistent site_contents worker_set [] [] w
unfolding stream_over sent_over reports_over made_over gone_over given_over
first_consistent site_contents worker_set w new = record {
  even = refl;
  order = new.order;
  fixed = new.fixed;
  in_slots = record {
    state = server_with worker_set.count;
    last = reply.Done;
    workers = new.workers;
    process_slots = new.process_slots;
    serves = record {
      count = refl;
      received = [];
      names = refl;
      fit = record {
        each = λ fd x is. absurd (none fd x is);
        others =
            λ c.
            inr
            (inr (inr (record { other_pool = refl; taken = ap (λ (k : Connection). k.accepted) (new.no_conns c) })));
        aggs_apart = λ fd gd a x y is_x is_y u v. absurd (none fd x is_x);
        fds_apart = λ fd gd a x y is_x is_y u v. absurd (none fd x is_x);
        left = λ c. after_reply-none false (conn_at w.machine c) (new.no_conns c);
        fresh = λ c more. (refl, refl, refl);
        unreported = λ c more. refl;
        own = (workers_shared.first worker_set.count).own;
        free = λ k process_slot sits free. new.free k process_slot sits;
        job_queues = new.job_queues;
      };
      owned = λ a readable. (let none = new.no_aggs a in let some = readable.1 in absurd (cc (none, some)));
    };
  };
}
  where
    none : (fd : ℕ) (x : Client) → in_place {A = Client} [] fd ≡ Some x → ⊥
    none fd x is = cc

module _ (laws : WindowLaws) (site_contents : SiteContents) (worker_set : WorkerSet) (m : State) (p : Past)
    (clients : List (Option Client)) (process_slots : List (ProcessSlot worker_set.Worker))
    (all : AllFit site_contents worker_set m p clients process_slots) where
  -- if the output begins the answer to the bytes taken, it begins the answer to the bytes received
  with-more : (k : ℕ) (took : List ℕ) → p.came k ≡ took ++ bytes_of (conn_at m k).incoming
      → Begins site_contents took (p.sent k ++ bytes_of (conn_at m k).outgoing)
      → Begins site_contents (p.came k) (p.sent k ++ bytes_of (conn_at m k).outgoing)
  with-more k took is begun =
      subst (λ (l : List ℕ). Begins site_contents l (p.sent k ++ bytes_of (conn_at m k).outgoing)) (sym is)
      (begins-append laws site_contents took (bytes_of (conn_at m k).incoming)
      (p.sent k ++ bytes_of (conn_at m k).outgoing) begun)

  -- a client's connection
  begun : (fd k : ℕ) (x : Client) (run : Option Running)
      → FitsBy site_contents worker_set run m (p.came k) (p.sent k) fd k x process_slots
      → (descriptor m server fd ≡ Some (on.Connection k))
      × Begins site_contents (p.came k) (p.sent k ++ bytes_of (conn_at m k).outgoing)
  begun fd k x None f = (
    f.open_on,
    with-more k f.took f.came_is (begins-consistency site_contents (conn_at m k) f.took (p.sent k) x f.expected f.may
        f.consistency),
  )
  begun fd k x (Some y) f = (
    f.open_on,
    with-more k f.took f.came_is (begins-run site_contents (conn_at m k) f.took (p.sent k) x.conn.buffered f.wanted
        (response_to f.wanted (made_of f.wanted f.script.lines f.shown))
        (shown-may site_contents x f.wanted f.script f.shown f.may_show) f.so_far y f.consistency),
  )

  -- so the output of each connection of the net begins its answer
  pub answered : AreAnswered site_contents worker_set m p
  answered c net = by (all.others c)
    where
      by : Held m clients c ⊎ Aside site_contents p c (conn_at m c)
          → Begins site_contents (p.came c) (p.sent c ++ bytes_of (conn_at m c).outgoing)
      by (inl held) =
          let there = all.each held.fd held.client held.at in
          let b = begun held.fd there.conn held.client held.client.run there.fits in
          let is : there.conn ≡ c = conn-same m held.fd there.conn c b.0 held.open_on in
          subst (λ k. Begins site_contents (p.came k) (p.sent k ++ bytes_of (conn_at m k).outgoing)) is b.1
      by (inr (inl waits)) =
          subst (λ (l : List ℕ). Begins site_contents (p.came c) l) (sym waits.none_sent)
          (begins-none site_contents (p.came c))
      by (inr (inr (inr foreign))) = (let a = foreign.other_pool in absurd (cc (a, net)))
      by (inr (inr (inl ended))) = ended.begins

  -- and a closed connection has its whole answer, unless its peer left
  pub whole : IsOrderly m → (c : ℕ) → p.net c ≡ true → (conn_at m c).closed ≡ true → p.gone c ≡ false
      → IsAnswer site_contents (p.came c) (p.sent c ++ bytes_of (conn_at m c).outgoing)
  whole order c net closed stays = by (all.others c)
    where
      by : Held m clients c ⊎ Aside site_contents p c (conn_at m c)
          → IsAnswer site_contents (p.came c) (p.sent c ++ bytes_of (conn_at m c).outgoing)
      by (inl held) = absurd (not-closed m held.fd c c order held.open_on closed refl)
      by (inr (inl waits)) = (let a = order.waits c waits.waits in absurd (cc (a, closed)))
      by (inr (inr (inr foreign))) = (let a = foreign.other_pool in absurd (cc (a, net)))
      by (inr (inr (inl ended))) = elim ended.whole [ inl gone ↦ absurd (clash (p.gone c) gone stays) | inr all ↦ all ]

-- If the invariant holds, the output of each connection of the net begins its answer.
pub consistent_answered : (laws : WindowLaws) (site_contents : SiteContents) (worker_set : WorkerSet) (xs : List Choice)
    (rs : List Reply) (w : WorldState State (Actor worker_set.Worker))
    → Consistent site_contents worker_set xs rs w → AllAnswered site_contents xs rs w.machine
consistent_answered laws site_contents worker_set xs rs w consistent =
    let s = consistent.in_slots in
    answered laws site_contents worker_set w.machine (past_of xs rs)
    (filed s.state.workers s.state.clients s.state.pending_call s.last s.serves.received) s.workers s.serves.fit

-- And a closed connection has its whole answer, unless its peer left.
pub consistent_whole : (laws : WindowLaws) (site_contents : SiteContents) (worker_set : WorkerSet) (xs : List Choice)
    (rs : List Reply) (w : WorldState State (Actor worker_set.Worker))
    → Consistent site_contents worker_set xs rs w → ClosedAreWhole site_contents xs rs w.machine
consistent_whole laws site_contents worker_set xs rs w consistent =
    let s = consistent.in_slots in
    whole laws site_contents worker_set w.machine (past_of xs rs)
    (filed s.state.workers s.state.clients s.state.pending_call s.last s.serves.received) s.workers s.serves.fit
    consistent.order
