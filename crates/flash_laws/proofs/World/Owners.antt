-- The server has only the aggregates that its clients use, or that external calls gave it: each step preserves this.
use Rattle.std.proofs.Common.{inl, inr, ◌≡◌, ◌≢◌, ℕ, ◌==◌, ◌⊎◌, List, ap, ◌∙◌, refl, sym, Option, Some, None, true}
use Rattle.std.proofs.Common.{false, Bool}
use Rattle.std.specs.Prelude.{◌||◌, ◌&&◌}
use Rattle.std.proofs.lemmas.Bool.{cases_eq}
use Rattle.iol_core.specs.NumberedLists.{in_place}
use Rattle.iol_core.specs.State.{State, descriptor, conn_at}
use Rattle.iol_core.specs.Run.{StepsTo}
use Rattle.iol_core.specs.declared.events.Call.{Call}
use Rattle.iol_core.specs.declared.events.Call.TheVariants as call
use Rattle.iol_core.specs.declared.events.Event.{Event}
use Rattle.iol_core.specs.declared.events.Event.TheVariants as event
use Rattle.iol_core.specs.declared.events.Reply.{Reply}
use Rattle.iol_core.specs.declared.events.Reply.TheVariants as reply
use Rattle.iol_laws.specs.Aggregates.{AggregatesComeAndGo, brings}
use Rattle.iol_laws.specs.Caller as o
use Rattle.iol_laws.specs.Caller.{readable_at}
use Rattle.iol_laws.specs.Order.{IsOrderly}
use Rattle.iol_proc.specs.declared.process_slot.ProcessSlot.{ProcessSlot}
use Rattle.flash_laws.specs.Client.{Client, new_client, uses_agg, Readies}
use Rattle.flash_laws.specs.Conn as conn
use Rattle.flash_laws.specs.Conn.{Conn}
use Rattle.flash_laws.specs.Workers.WorkerSet.{WorkerSet}
use Rattle.flash_laws.specs.Conn.Fits.{IsReadable}
use Rattle.flash_laws.specs.Site.Past.{Past, given_by, and_then, IsAct}
use Rattle.flash_laws.specs.Site.Places.{accepted}
use Rattle.flash_laws.specs.Site.ClientConsistency.{Held, Aside, AllFit, IsUsed, AreOwned}
use Rattle.flash_laws.specs.SiteContents.{SiteContents}
use Rattle.flash_laws.specs.Site.{server}
use Rattle.flash_laws.specs.Site.OtherConns.{with_at}
use Rattle.flash_laws.specs.declared.phase.Phase.{Phase}
use Rattle.flash_laws.specs.declared.phase.Phase.TheVariants as phase
use Rattle.flash_laws.specs.declared.script_run.Running.{Running}
use Rattle.flash_laws.proofs.Forms.{of}
use Rattle.flash_laws.proofs.Conn.Responses.{some-inj}
use Rattle.flash_laws.proofs.Site.InPlaces.{at-same, at-other}
use Rattle.flash_laws.proofs.Lists.{not-equal, later_of, former_of}
use Rattle.flash_laws.proofs.Site.Pasts.{call_after_reply}
use Rattle.flash_laws.proofs.World.AllLaws.{AllLaws}
use Rattle.flash_laws.proofs.World.Calls.{opens-on}

-- ---- events of others

-- the invariant does not depend on the aggregates that were given to the server
pub fit-called : (site_contents : SiteContents) (worker_set : WorkerSet) (m : State) (p : Past)
    (clients : List (Option Client)) (process_slots : List (ProcessSlot worker_set.Worker)) (d : ℕ) (k : Call)
    (r : Reply)
    → AllFit site_contents worker_set m p clients process_slots
    → AllFit site_contents worker_set m (call_after_reply p d k r) clients process_slots
fit-called site_contents worker_set m p clients process_slots d k r all = record {
  each = λ fd x is. let at = all.each fd x is in record { conn = at.conn; fits = at.fits };
  others = λ c. by c (all.others c);
  aggs_apart = all.aggs_apart;
  fds_apart = all.fds_apart;
  left = all.left;
  fresh = all.fresh;
  unreported = all.unreported;
  own = all.own;
  free = all.free;
  job_queues = all.job_queues;
}
  where
    by : (c : ℕ) → Held m clients c ⊎ Aside site_contents p c (conn_at m c)
        → Held m clients c ⊎ Aside site_contents (call_after_reply p d k r) c (conn_at m c)
    by c (inl held) = inl held
    by c (inr (inl w)) =
        inr (inl (record { waits = w.waits; pool_is = w.pool_is; came_is = w.came_is; none_sent = w.none_sent }))
    by c (inr (inr (inl w))) = inr (inr (inl (record { closed = w.closed; begins = w.begins; whole = w.whole })))
    by c (inr (inr (inr w))) = inr (inr (inr (record { other_pool = w.other_pool; taken = w.taken })))

-- a call of another domain brings the server only the aggregates that it gives it; an external event brings none
pub call-brings : (d : ℕ) (k : Call) (r : Reply) (a : ℕ) → d ≢ server
    → brings (event.Call d k) r server a ≡ given_by a (event.Call d k) r
call-brings d (call.AggGive b to) (reply.Agg n) a differ = refl
call-brings d k (reply.Agg n) a differ = ap (λ b. b && (n == a)) (not-equal d server differ)
call-brings d k (reply.Aggs n j) a differ = ap (λ b. b && ((n == a) || (j == a))) (not-equal d server differ)
call-brings d k r a differ = refl

pub act-brings : (e : Event) (r : Reply) (a : ℕ) → IsAct e → brings e r server a ≡ given_by a e r
act-brings (event.Call d k) r a act = absurd act
act-brings e r a act = refl

-- an aggregate that exists after a step existed before, or the step brought it
was-there : (come : AggregatesComeAndGo) (m n : State) (e : Event) (r : Reply) (a : ℕ) → StepsTo m e r n
    → IsReadable n a
    → IsReadable m a ⊎ ((readable_at m server a ≡ None) × (brings e r server a ≡ true))
was-there come m n e r a step readable = by (readable_at m server a) (brings e r server a) refl refl
  where
    by : (was : Option (List ℕ)) (b : Bool) → readable_at m server a ≡ was → brings e r server a ≡ b
        → IsReadable m a ⊎ ((readable_at m server a ≡ None) × (brings e r server a ≡ true))
    by (Some bytes) b is brought = inl (bytes, is)
    by None true is brought = inr (is, brought)
    by None false is brought = (let none = come.none m n e r server a step is brought in let some = readable.1 in
        absurd (cc (none, some)))

pub owned-outside : (come : AggregatesComeAndGo) (m n : State) (p : Past) (clients : List (Option Client)) (e : Event)
    (r : Reply) → StepsTo m e r n
    → ((a : ℕ) → brings e r server a ≡ given_by a e r) → AreOwned m p clients → AreOwned n (and_then p e r) clients
owned-outside come m n p clients e r step reports owned a readable = elim (was-there come m n e r a step readable) [
  | inl was ↦
      elim (owned a was) [ inl used ↦ inl used | inr given ↦ inr (former_of (p.given a) (given_by a e r) given) ]
  | inr new ↦ inr (later_of (p.given a) (given_by a e r) (sym (reports a) ∙ new.1))
]

pub owned-same : (m n : State) (p : Past) (clients : List (Option Client))
    → ((a : ℕ) → readable_at n server a ≡ readable_at m server a)
    → AreOwned m p clients → AreOwned n p clients
owned-same m n p clients same owned a readable = owned a (readable.0, sym (same a) ∙ readable.1)

-- ---- one place changes

-- a client in another place still uses the aggregate, and the new client of this place may use it
used-other : (clients : List (Option Client)) (fd a : ℕ) (x : Option Client) (used : IsUsed clients a) → fd ≢ used.fd
    → IsUsed (with_at clients fd x) a
used-other clients fd a x used differ =
    record { fd = used.fd; client = used.client; at = at-other clients fd used.fd x differ ∙ used.at; uses = used.uses }

pub used-here : (clients : List (Option Client)) (fd a : ℕ) (x : Option Client) (y : Client) → x ≡ Some y
    → uses_agg y a ≡ true → IsUsed (with_at clients fd x) a
used-here clients fd a x y is uses = record { fd = fd; client = y; at = at-same clients fd x ∙ is; uses = uses }

-- if the new client of a place uses the aggregate wherever the old one did, it is still used
pub used-on : (clients : List (Option Client)) (fd a : ℕ) (x : Client) (y : Option Client)
    → in_place clients fd ≡ Some x → IsUsed clients a
    → (uses_agg x a ≡ true → IsUsed (with_at clients fd y) a) → IsUsed (with_at clients fd y) a
used-on clients fd a x y there used here = elim (cases_eq fd used.fd) [
  | inl same ↦
      (let is_x : used.client ≡ x =
      some-inj used.client x (sym used.at ∙ (ap (λ g. in_place clients g) (sym same) ∙ there)) in
      here (ap (λ (z : Client). uses_agg z a) (sym is_x) ∙ used.uses))
  | inr differ ↦ used-other clients fd a y used differ
]

-- a connection that is made ready still uses the aggregates that it used
conn-keeps : (x y : Conn) (a : ℕ) → conn.Readies x y → conn.uses_agg x.phase a ≡ true → conn.uses_agg y.phase a ≡ true
conn-keeps x y a ready u = by x.phase refl ready u
  where
    by : (d : Phase) → x.phase ≡ d → conn.Readies (record x { phase = d }) y → conn.uses_agg d a ≡ true
        → conn.uses_agg y.phase a ≡ true
    by phase.Receiving is r u = absurd (cc (u))
    by d is r u = ap (λ (z : Conn). conn.uses_agg z.phase a) r ∙ u

client-keeps : (c : Conn) (run : Option Running) (script : List ℕ) (y : Client) (a : ℕ) → Readies (of c run script) y
    → uses_agg (of c run script) a ≡ true → uses_agg y a ≡ true
client-keeps c None script y a ready u = ap (λ (z : Client). uses_agg z a) ready.2 ∙ conn-keeps c ready.0 a ready.1 u
client-keeps c (Some z) script y a ready u = ap (λ (v : Client). uses_agg v a) ready ∙ u

pub owned-ready : (m : State) (p : Past) (clients : List (Option Client)) (fd : ℕ) (x y : Client)
    → in_place clients fd ≡ Some x → Readies x y
    → AreOwned m p clients → AreOwned m p (with_at clients fd (Some y))
owned-ready m p clients fd x y there ready owned a readable = elim (owned a readable) [
  | inl used ↦
      inl
      (used-on clients fd a x (Some y) there used
      (λ u. used-here clients fd a (Some y) y refl (client-keeps x.conn x.run x.script y a ready u)))
  | inr given ↦ inr given
]

module _ (site_contents : SiteContents) (worker_set : WorkerSet) (laws : AllLaws worker_set) where
  -- accepting a connection: the new client uses no aggregate, and its place was empty
  pub owned-accept : (m n : State) (p : Past) (clients : List (Option Client)) (r : Reply)
      (process_slots : List (ProcessSlot worker_set.Worker)) → IsOrderly m
      → AllFit site_contents worker_set m p clients process_slots → StepsTo m (event.Call server call.Accept) r n
      → AreOwned m p clients → AreOwned n p (accepted clients r)
  owned-accept m n p clients r process_slots order all step owned a readable =
      by r (laws.the.own.accepts m n server r order step)
      (was-there laws.aggs m n (event.Call server call.Accept) r a step readable)
    where
      by : (r : Reply) → o.Accepts m server r n
          → IsReadable m a
          ⊎ ((readable_at m server a ≡ None) × (brings (event.Call server call.Accept) r server a ≡ true))
          → IsUsed (accepted clients r) a ⊎ (p.given a ≡ true)
      by (reply.Fd fd) takes (inr new) = (let b = new.1 in absurd (cc (b)))
      by (reply.Fd fd) takes (inl was) = elim (owned a was) [
        | inl used ↦ inl (used-other clients fd a (Some new_client) used (λ same.
            let at = all.each used.fd used.client used.at in
            let open_on = opens-on site_contents worker_set laws m (p.came at.conn) (p.sent at.conn) used.fd at.conn
            process_slots used.client.conn used.client.run used.client.script at.fits in
            let none = takes.new in
            let moved = ap (λ g. descriptor m server g) same in
            cc (open_on, none, moved)))
        | inr given ↦ inr given
      ]
      by (reply.Refused y) is (inl was) = owned a was
      by (reply.Refused y) is (inr new) = (let b = new.1 in absurd (cc (b)))
      by r did was = absurd did
