-- Events other than calls of the server or a worker preserve the invariants of all clients and workers, if their
-- connections change as `Goes` states.
use Rattle.std.proofs.Common.{inl, inr, ◌≡◌, ◌≢◌, ◌≤◌, ◌<◌, ◌⊎◌, ℕ, List, [], ◌++◌, ap, ◌∙◌, refl, sym, subst, arith}
use Rattle.std.proofs.Common.{Option, Some, None, true, false, append-nil}
use Rattle.std.proofs.lemmas.Bool.{cases_eq}
use Rattle.iol_core.specs.Text.{bytes_of}
use Rattle.iol_core.specs.State.{State, Connection, descriptor, conn_at}
use Rattle.iol_core.specs.Run.{StepsTo}
use Rattle.iol_core.specs.declared.descriptors.Descriptor.TheVariants as on
use Rattle.iol_core.specs.declared.events.Event.{Event}
use Rattle.iol_core.specs.declared.events.Reply.{Reply}
use Rattle.iol_laws.specs.Order.{IsOrderly}
use Rattle.iol_proc.specs.declared.process_slot.ProcessSlot.{ProcessSlot}
use Rattle.flash_cgi.specs.Beside.{is_call_of}
use Rattle.flash_laws.specs.Client.{Client}
use Rattle.flash_laws.specs.Client.Fits.{FitsBy, Fits}
use Rattle.flash_laws.specs.Workers.WorkerSet.{WorkerSet, IsFixedFor}
use Rattle.flash_laws.specs.Site.Past.{Past}
use Rattle.flash_laws.specs.Run.{worker_domain}
use Rattle.flash_laws.specs.Site.ClientConsistency.{Held, Aside, FitsAt, AllFit}
use Rattle.flash_laws.specs.SiteContents.{SiteContents, Begins, IsAnswer}
use Rattle.flash_laws.specs.Site.{server, KeepsSite}
use Rattle.flash_laws.specs.declared.script_run.Running.{Running}
use Rattle.flash_laws.proofs.Site.Peers.{IsAfterReply}
use Rattle.flash_laws.proofs.World.AllLaws.{AllLaws}
use Rattle.flash_laws.proofs.World.JobQueue.Frame.{none-touched}
use Rattle.flash_laws.proofs.World.ClientFrame.{Changes, fits_beside}
use Rattle.flash_laws.proofs.World.Outside.JobQueues.{one-left, free-left, job_queues-left}
use Rattle.flash_laws.proofs.Site.OpenDescriptors.{held-open}

-- the change of a client's connection
pub record Goes (m n : State) (p q : Past) (c : ℕ) : Type 0 where
  pub more : List ℕ
  pub came : q.came c ≡ p.came c ++ more
  pub grows : bytes_of (conn_at n c).incoming ≡ bytes_of (conn_at m c).incoming ++ more
  pub changes : Changes (conn_at m c) (conn_at n c) (p.sent c) (q.sent c)

-- the connection and its history are unchanged
pub goes-same : (m n : State) (p q : Past) (c : ℕ) → conn_at n c ≡ conn_at m c → q.came c ≡ p.came c
    → q.sent c ≡ p.sent c → Goes m n p q c
goes-same m n p q c same came sent = record {
  more = [];
  came = came ∙ sym (append-nil (p.came c));
  grows = ap (λ (k : Connection). bytes_of k.incoming) same ∙ sym (append-nil (bytes_of (conn_at m c).incoming));
  changes = subst (λ (k : Connection). Changes (conn_at m c) k (p.sent c) (q.sent c)) (sym same)
      (inl (record {
        total = ap (λ (l : List ℕ). l ++ bytes_of (conn_at m c).outgoing) (sym sent);
        gone = refl;
        ended = λ closed. (refl, closed);
      }));
}

-- the server's descriptor is open on the connection of a client
fits-open : (site_contents : SiteContents) (worker_set : WorkerSet) (m : State) (came sent : List ℕ) (fd c : ℕ)
    (x : Client) (process_slots : List (ProcessSlot worker_set.Worker)) (run : Option Running)
    → FitsBy site_contents worker_set run m came sent fd c x process_slots
    → descriptor m server fd ≡ Some (on.Connection c)
fits-open site_contents worker_set m came sent fd c x process_slots None f = f.open_on
fits-open site_contents worker_set m came sent fd c x process_slots (Some y) f = f.open_on

module _ (site_contents : SiteContents) (worker_set : WorkerSet) (laws : AllLaws worker_set) (m n : State) (p q : Past)
    (clients : List (Option Client)) (process_slots : List (ProcessSlot worker_set.Worker))
    (e : Event) (r : Reply) (order : IsOrderly m) (fixed : IsFixedFor site_contents worker_set m) (site : KeepsSite m n)
    (step : StepsTo m e r n)
    (not_server : is_call_of e server ≡ false) (not_worker : (k : ℕ) → k < worker_set.count
    → is_call_of e (worker_domain k) ≡ false) where
  -- only statements about connections remain to be proved
  pub all_on : AllFit site_contents worker_set m p clients process_slots
      → ((fd c : ℕ) → descriptor m server fd ≡ Some (on.Connection c) → Goes m n p q c)
      → ((c : ℕ) → Aside site_contents p c (conn_at m c) → Aside site_contents q c (conn_at n c))
      → ((c : ℕ) → IsAfterReply (q.gone c) (conn_at n c))
      → ((c : ℕ) → n.next_conn ≤ c → (q.came c ≡ []) × (q.sent c ≡ []) × (q.net c ≡ false))
      → ((c : ℕ) → n.next_conn ≤ c → q.gone c ≡ false)
      → AllFit site_contents worker_set n q clients process_slots
  all_on all goes asides after_reply fresh unreported = record {
    each = λ fd x is. let at = all.each fd x is in record { conn = at.conn; fits = fits_at fd x at };
    others = λ c. somewhere c (all.others c);
    aggs_apart = all.aggs_apart;
    fds_apart = all.fds_apart;
    left = after_reply;
    fresh = fresh;
    unreported = unreported;
    own = all.own;
    free = free-left site_contents worker_set laws m n p clients process_slots e r order fixed site step not_server
        not_worker all;
    job_queues = job_queues-left site_contents worker_set laws m n p clients process_slots e r order fixed site step
        not_server not_worker all;
  }
    where
      fits_at : (fd : ℕ) (x : Client) → (at : FitsAt site_contents worker_set m p fd x process_slots)
          → Fits site_contents worker_set n (q.came at.conn) (q.sent at.conn) fd at.conn x process_slots
      fits_at fd x at =
          let on_it =
          goes fd at.conn (fits-open site_contents worker_set m (p.came at.conn) (p.sent at.conn) fd at.conn x
          process_slots x.run at.fits) in
          subst (λ (l : List ℕ). Fits site_contents worker_set n l (q.sent at.conn) fd at.conn x process_slots)
          (sym on_it.came)
          (fits_beside site_contents worker_set laws m n e r (p.came at.conn) (p.sent at.conn) on_it.more
          (q.sent at.conn) fd at.conn x process_slots order fixed all.job_queues step
          (one-left site_contents worker_set laws m n p clients process_slots e r order fixed site step not_server
          not_worker all fd x at) on_it.grows on_it.changes at.fits)

      somewhere : (c : ℕ) → Held m clients c ⊎ Aside site_contents p c (conn_at m c)
          → Held n clients c ⊎ Aside site_contents q c (conn_at n c)
      somewhere c (inl held) = inl (record {
        fd = held.fd;
        client = held.client;
        at = held.at;
        open_on = (laws.the.steps.leaves m n e r step).fds server held.fd (on.Connection c) held.open_on
            (none-touched m e server held.fd not_server);
      })
      somewhere c (inr aside) = inr (asides c aside)

-- histories that differ only in one connection
pub record SameBut (p q : Past) (c : ℕ) : Type 0 where
  pub came : (k : ℕ) → c ≢ k → q.came k ≡ p.came k
  pub sent : (k : ℕ) → c ≢ k → q.sent k ≡ p.sent k
  pub net : (k : ℕ) → c ≢ k → q.net k ≡ p.net k
  pub gone : (k : ℕ) → c ≢ k → q.gone k ≡ p.gone k

-- a connection aside stays aside if its history is unchanged
aside-same : (site_contents : SiteContents) (p q : Past) (c k : ℕ) (j : Connection) → SameBut p q c → c ≢ k
    → Aside site_contents p k j → Aside site_contents q k j
aside-same site_contents p q c k j past differ (inl w) = inl (record {
  waits = w.waits;
  pool_is = λ net. w.pool_is (sym (past.net k differ) ∙ net);
  came_is = past.came k differ ∙ w.came_is;
  none_sent = ap (λ (l : List ℕ). l ++ bytes_of j.outgoing) (past.sent k differ) ∙ w.none_sent;
})
aside-same site_contents p q c k j past differ (inr (inl w)) = inr (inl (record {
  closed = w.closed;
  begins = subst (λ (l : List ℕ). Begins site_contents (q.came k) (l ++ bytes_of j.outgoing)) (sym (past.sent k differ))
      (subst (λ (l : List ℕ). Begins site_contents l (p.sent k ++ bytes_of j.outgoing)) (sym (past.came k differ))
      w.begins);
  whole = elim w.whole [
    | inl gone ↦ inl (past.gone k differ ∙ gone)
    | inr all ↦
        inr (subst (λ (l : List ℕ). IsAnswer site_contents (q.came k) (l ++ bytes_of j.outgoing))
        (sym (past.sent k differ))
        (subst (λ (l : List ℕ). IsAnswer site_contents l (p.sent k ++ bytes_of j.outgoing)) (sym (past.came k differ))
        all))
  ];
}))
aside-same site_contents p q c k j past differ (inr (inr w)) =
    inr (inr (record { other_pool = past.net k differ ∙ w.other_pool; taken = w.taken }))

module _ (site_contents : SiteContents) (worker_set : WorkerSet) (laws : AllLaws worker_set) where
  -- an event that touches one connection: only statements about that one remain to be proved
  pub outside : (m n : State) (p q : Past) (clients : List (Option Client))
      (process_slots : List (ProcessSlot worker_set.Worker)) (e : Event) (r : Reply) (c : ℕ)
      → IsOrderly m → IsFixedFor site_contents worker_set m → KeepsSite m n → StepsTo m e r n
      → ((d : ℕ) → is_call_of e d ≡ false)
      → ((k : ℕ) → c ≢ k → conn_at n k ≡ conn_at m k) → SameBut p q c
      → ((conn_at m c).accepted ≡ true → (conn_at m c).closed ≡ false → Goes m n p q c)
      → (Aside site_contents p c (conn_at m c) → Aside site_contents q c (conn_at n c))
      → IsAfterReply (q.gone c) (conn_at n c)
      → (n.next_conn ≤ c → (q.came c ≡ []) × (q.sent c ≡ []) × (q.net c ≡ false))
      → (n.next_conn ≤ c → q.gone c ≡ false)
      → AllFit site_contents worker_set m p clients process_slots
      → AllFit site_contents worker_set n q clients process_slots
  outside m n p q clients process_slots e r c order fixed site step none same past goes_c aside_c left_c fresh_c
      unreported_c all =
      all_on site_contents worker_set laws m n p q clients process_slots e r order fixed site step (none server)
      (λ k lt. none (worker_domain k)) all goes asides after_reply fresh unreported
    where
      goes : (fd k : ℕ) → descriptor m server fd ≡ Some (on.Connection k) → Goes m n p q k
      goes fd k opens = elim (cases_eq c k) [
        | inl here ↦
            (let held =
            held-open m fd c order (subst (λ z. descriptor m server fd ≡ Some (on.Connection z)) (sym here) opens) in
            subst (λ z. Goes m n p q z) here (goes_c held.0 held.1))
        | inr differ ↦ goes-same m n p q k (same k differ) (past.came k differ) (past.sent k differ)
      ]

      asides : (k : ℕ) → Aside site_contents p k (conn_at m k) → Aside site_contents q k (conn_at n k)
      asides k aside = elim (cases_eq c k) [
        | inl here ↦
            subst (λ z. Aside site_contents q z (conn_at n z)) here
            (aside_c (subst (λ z. Aside site_contents p z (conn_at m z)) (sym here) aside))
        | inr differ ↦ subst (λ (j : Connection). Aside site_contents q k j) (sym (same k differ))
            (aside-same site_contents p q c k (conn_at m k) past differ aside)
      ]

      after_reply : (k : ℕ) → IsAfterReply (q.gone k) (conn_at n k)
      after_reply k = elim (cases_eq c k) [
        | inl here ↦ subst (λ z. IsAfterReply (q.gone z) (conn_at n z)) here left_c
        | inr differ ↦
            subst (λ b. IsAfterReply b (conn_at n k)) (sym (past.gone k differ))
            (subst (λ (z : Connection). IsAfterReply (p.gone k) z) (sym (same k differ)) (all.left k))
      ]

      fresh : (k : ℕ) → n.next_conn ≤ k → (q.came k ≡ []) × (q.sent k ≡ []) × (q.net k ≡ false)
      fresh k more = elim (cases_eq c k) [
        | inl here ↦ subst (λ z. (q.came z ≡ []) × (q.sent z ≡ []) × (q.net z ≡ false)) here
            (fresh_c (subst (λ z. n.next_conn ≤ z) (sym here) more))
        | inr differ ↦ (let up = laws.the.rises m n e r step in let was = all.fresh k (omega (arith, up, more)) in
            (past.came k differ ∙ was.0, past.sent k differ ∙ was.1, past.net k differ ∙ was.2))
      ]

      unreported : (k : ℕ) → n.next_conn ≤ k → q.gone k ≡ false
      unreported k more = elim (cases_eq c k) [
        | inl here ↦ subst (λ z. q.gone z ≡ false) here (unreported_c (subst (λ z. n.next_conn ≤ z) (sym here) more))
        | inr differ ↦
            (let up = laws.the.rises m n e r step in past.gone k differ ∙ all.unreported k (omega (arith, up, more)))
      ]
