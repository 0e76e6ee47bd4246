-- Calls of other domains and external events preserve the invariants of all clients, and of all workers.
use Rattle.std.proofs.Common.{inl, inr, ◌≡◌, ◌≢◌, ◌<◌, ◌⊎◌, ℕ, List, ap, ◌∙◌, refl, sym, subst, arith, Option, Some}
use Rattle.std.proofs.Common.{true, false, Bool}
use Rattle.std.specs.Prelude.{◌&&◌, not, Result, Ok, Err}
use Rattle.iol_core.specs.State.{State, Connection, descriptor, conn_at, may_read}
use Rattle.iol_core.specs.Meaning.{Meaning, Step}
use Rattle.iol_core.specs.Run.{StepsTo, meaning, outcome}
use Rattle.iol_core.specs.declared.descriptors.Descriptor.TheVariants as on
use Rattle.iol_core.specs.declared.events.Call.{Call}
use Rattle.iol_core.specs.declared.events.Event.{Event}
use Rattle.iol_core.specs.declared.events.Event.TheVariants as event
use Rattle.iol_core.specs.declared.events.Reply.{Reply}
use Rattle.iol_core.specs.declared.events.Reply.TheVariants as reply
use Rattle.iol_core.specs.declared.refusals.Refusal.{Refusal}
use Rattle.iol_laws.specs.Order.{IsOrderly}
use Rattle.iol_laws.specs.Others as o
use Rattle.iol_proc.specs.declared.process_slot.ProcessSlot.{ProcessSlot}
use Rattle.flash_laws.specs.Client.{Client}
use Rattle.flash_laws.specs.Workers.WorkerSet.{WorkerSet, IsFixedFor}
use Rattle.flash_laws.specs.Site.Past.{Past, and_then, IsAct}
use Rattle.flash_laws.specs.Run.{worker_domain}
use Rattle.flash_laws.specs.Site.ClientConsistency.{Ended, Aside, AllFit}
use Rattle.flash_laws.specs.SiteContents.{SiteContents}
use Rattle.flash_laws.specs.Site.{server, KeepsSite}
use Rattle.flash_laws.specs.Site.OtherConns.{Waits}
use Rattle.flash_laws.proofs.Lists.{not-equal}
use Rattle.flash_laws.proofs.Site.Pasts.{past-same, none-after_reply, past-after_reply}
use Rattle.flash_laws.proofs.Site.Peers.{after_reply-call}
use Rattle.flash_laws.proofs.World.AllLaws.{AllLaws}
use Rattle.flash_laws.proofs.World.Outside.Acts.{was-accepted, arrives, transmits, connects}
use Rattle.flash_laws.proofs.World.Outside.Conns.{Goes, goes-same, all_on}
use Rattle.flash_laws.proofs.World.Outside.Peers.{peer_closes}
use Rattle.flash_laws.proofs.Site.OpenDescriptors.{held-open}

-- an event that changes neither the state nor the history
nothing : (site_contents : SiteContents) (worker_set : WorkerSet) (m n : State) (p : Past)
    (clients : List (Option Client)) (process_slots : List (ProcessSlot worker_set.Worker)) (e : Event) (r : Reply)
    → n ≡ m
    → and_then p e r ≡ p → AllFit site_contents worker_set m p clients process_slots
    → AllFit site_contents worker_set n (and_then p e r) clients process_slots
nothing site_contents worker_set m n p clients process_slots e r same past all =
    subst (λ (q : Past). AllFit site_contents worker_set n q clients process_slots) (sym past)
    (subst (λ (s : State). AllFit site_contents worker_set s p clients process_slots) (sym same) all)

does-nothing : (x : Meaning Reply) (m n : State) (a : Result Reply Refusal) → x.after ≡ m → Step x m a n → n ≡ m
does-nothing x m n (Ok a) is step = step.2 ∙ is
does-nothing x m n (Err y) is step = step.1

module _ (site_contents : SiteContents) (worker_set : WorkerSet) (laws : AllLaws worker_set) where
  -- a call of a domain that is neither the server's nor a worker's
  pub others_call : (m n : State) (p : Past) (clients : List (Option Client))
      (process_slots : List (ProcessSlot worker_set.Worker)) (d : ℕ) (k : Call)
      (r : Reply) → IsOrderly m → IsOrderly n → IsFixedFor site_contents worker_set m → d ≢ server
      → ((j : ℕ) → j < worker_set.count → d ≢ worker_domain j) → KeepsSite m n → StepsTo m (event.Call d k) r n
      → AllFit site_contents worker_set m p clients process_slots
      → AllFit site_contents worker_set n p clients process_slots
  others_call m n p clients process_slots d k r order order_n fixed differ no_worker site step all =
      all_on site_contents worker_set laws m n p p clients process_slots (event.Call d k) r order fixed site step
      (not-equal d server differ) (λ j lt. not-equal d (worker_domain j) (no_worker j lt)) all
      goes asides (λ c. after_reply-call (p.gone c) m n d k r c order step (all.left c)) (λ c more. let up =
      laws.the.rises m n (event.Call d k) r step in all.fresh c (omega (arith, up, more)))
      (λ c more. let up = laws.the.rises m n (event.Call d k) r step in all.unreported c (omega (arith, up, more)))
    where
      -- the caller has no such connection
      unheld : (c : ℕ) → (((conn_at m c).accepted ≡ false) ⊎ ((conn_at m c).closed ≡ true)) → (f : ℕ)
          → descriptor m d f ≡ Some (on.Connection c) → ⊥
      unheld c why f is = by (conn_at m c).accepted (conn_at m c).closed (order.all_stand d f (on.Connection c) is) why
        where
          by : (a b : Bool) → (a && not b) ≡ true → ((a ≡ false) ⊎ (b ≡ true)) → ⊥
          by true false both (inl x) = cc
          by true false both (inr x) = cc
          by true true both why = cc
          by false b both why = cc

      -- only the server has the connection of a client
      goes : (fd c : ℕ) → descriptor m server fd ≡ Some (on.Connection c) → Goes m n p p c
      goes fd c opens =
          let same =
          laws.the.other.conn m n d k r c order step
          (λ f is. differ (order.one d server f fd (on.Connection c) refl is opens).0)
          (inl (held-open m fd c order opens).0) in
          goes-same m n p p c same refl refl

      asides : (c : ℕ) → Aside site_contents p c (conn_at m c) → Aside site_contents p c (conn_at n c)
      asides c (inl waits) = by (p.net c) refl
        where
          -- a connection of the net stays; another may be accepted
          by : (b : Bool) → p.net c ≡ b → Aside site_contents p c (conn_at n c)
          by true is =
              let same =
              laws.the.other.conn m n d k r c order step (unheld c (inl waits.waits))
              (inr (ap (λ z. may_read m d z) (waits.pool_is is) ∙ fixed.site.net_alone d differ)) in
              inl (subst (λ (z : Connection). Waits p c z) (sym same) waits)
          by false is = elim (laws.the.other.waiting m n d k r c order step waits.waits) [
            | inl same ↦ inl (subst (λ (z : Connection). Waits p c z) (sym same) waits)
            | inr now ↦ inr (inr (record { other_pool = is; taken = now }))
          ]
      asides c (inr (inl ended)) =
          let same =
          laws.the.other.conn m n d k r c order step (unheld c (inr ended.closed))
          (inl (was-accepted m c order ended.closed)) in
          inr (inl (subst (λ (z : Connection). Ended site_contents p c z) (sym same) ended))
      asides c (inr (inr foreign)) =
          inr
          (inr
          (record {
            other_pool = foreign.other_pool;
            taken = laws.the.other.accepted m n d k r c order step foreign.taken;
          }))

  -- external events
  pub acts : (m n : State) (p : Past) (clients : List (Option Client))
      (process_slots : List (ProcessSlot worker_set.Worker)) (e : Event) (r : Reply)
      → IsOrderly m → IsOrderly n → IsFixedFor site_contents worker_set m → IsAct e → KeepsSite m n → StepsTo m e r n
      → AllFit site_contents worker_set m p clients process_slots
      → AllFit site_contents worker_set n (and_then p e r) clients process_slots
  acts m n p clients process_slots (event.Call d k) r order order_n fixed act site step all = absurd act
  acts m n p clients process_slots (event.ConnNew pool) r order order_n fixed act site step all =
      by r (laws.the.other.connect m n pool r order step) step
    where
      by : (r : Reply) → o.MakesConn m pool r n → StepsTo m (event.ConnNew pool) r n
          → AllFit site_contents worker_set n (and_then p (event.ConnNew pool) r) clients process_slots
      by (reply.Conn c) did step = connects site_contents worker_set laws m n p clients process_slots pool c order fixed
          site step all
      by (reply.Refused x) did step =
          nothing site_contents worker_set m n p clients process_slots (event.ConnNew pool) (reply.Refused x) did
          (past-same p (event.ConnNew pool) (reply.Refused x) (λ c. refl) (λ c. refl) (λ c. refl) (λ c. refl)
          (λ a. refl)) all
      by r did step = absurd did
  acts m n p clients process_slots (event.Arrive c bytes) r order order_n fixed act site step all =
      by r (laws.the.other.arrive m n c bytes r order step) step
    where
      by : (r : Reply) → o.Arrives m c bytes r n → StepsTo m (event.Arrive c bytes) r n
          → AllFit site_contents worker_set n (and_then p (event.Arrive c bytes) r) clients process_slots
      by (reply.Count k) did step =
          arrives site_contents worker_set laws m n p clients process_slots c bytes k order fixed site step all
      by (reply.Refused x) did step =
          nothing site_contents worker_set m n p clients process_slots (event.Arrive c bytes) (reply.Refused x) did
          (past-same p (event.Arrive c bytes) (reply.Refused x) (λ z. refl) (λ z. refl) (λ z. refl) (λ z. refl)
          (λ a. refl)) all
      by r did step = absurd did
  acts m n p clients process_slots (event.PeerClosed c w) r order order_n fixed act site step all =
      by r (laws.the.other.peer_closed m n c w r order step) step
    where
      by : (r : Reply) → o.PeerCloses m c w r n → StepsTo m (event.PeerClosed c w) r n
          → AllFit site_contents worker_set n (and_then p (event.PeerClosed c w) r) clients process_slots
      by reply.Done did step =
          subst (λ (q : Past). AllFit site_contents worker_set n q clients process_slots) (sym (past-after_reply p c w))
          (peer_closes site_contents worker_set laws m n p clients process_slots c w order order_n fixed site step all)
      by (reply.Refused x) did step =
          nothing site_contents worker_set m n p clients process_slots (event.PeerClosed c w) (reply.Refused x) did
          (past-same p (event.PeerClosed c w) (reply.Refused x) (λ z. refl) (λ z. refl) (λ z. refl)
          (λ z. none-after_reply c z w x) (λ a. refl)) all
      by r did step = absurd did
  acts m n p clients process_slots (event.Transmit c max) r order order_n fixed act site step all =
      by r (laws.the.other.transmit m n c max r order step) step
    where
      by : (r : Reply) → o.Transmits m c max r n → StepsTo m (event.Transmit c max) r n
          → AllFit site_contents worker_set n (and_then p (event.Transmit c max) r) clients process_slots
      by (reply.Segment bytes sum) did step =
          transmits site_contents worker_set laws m n p clients process_slots c max bytes sum order order_n fixed site
          step all
      by (reply.Refused x) did step =
          nothing site_contents worker_set m n p clients process_slots (event.Transmit c max) (reply.Refused x) did
          (past-same p (event.Transmit c max) (reply.Refused x) (λ z. refl) (λ z. refl) (λ z. refl) (λ z. refl)
          (λ a. refl)) all
      by r did step = absurd did
  acts m n p clients process_slots event.Flush r order order_n fixed act site step all =
      nothing site_contents worker_set m n p clients process_slots event.Flush r
      (does-nothing (meaning m event.Flush) m n (outcome r) refl step)
      (past-same p event.Flush r (λ z. refl) (λ z. refl) (λ z. refl) (λ z. refl) (λ a. refl)) all
  acts m n p clients process_slots event.DropClean r order order_n fixed act site step all =
      nothing site_contents worker_set m n p clients process_slots event.DropClean r
      (does-nothing (meaning m event.DropClean) m n (outcome r) refl step)
      (past-same p event.DropClean r (λ z. refl) (λ z. refl) (λ z. refl) (λ z. refl) (λ a. refl)) all
