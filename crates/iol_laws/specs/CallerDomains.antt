-- The effect of calls that create and end domains, and of calls on pools, for their caller.
use Rattle.std.specs.Prelude.{◌≡◌, ◌≢◌, ℕ, ◌==◌, ◌||◌, true, List, [], Some, IsTrue, IsFalse}
use Rattle.std.specs.List.{list_any}
use Rattle.iol_core.specs.State.{State, domain, new_domain, no_domain, is_live, pool, is_pool, may_read, descriptor}
use Rattle.iol_core.specs.State.{pipe_at, conn_at}
use Rattle.iol_core.specs.Run.{StepsTo}
use Rattle.iol_core.specs.declared.refusals.Refusal.TheVariants.{Memory}
use Rattle.iol_core.specs.declared.descriptors.Descriptor.TheVariants as on
use Rattle.iol_core.specs.declared.events.Call.TheVariants as call
use Rattle.iol_core.specs.declared.events.Event.TheVariants as event
use Rattle.iol_core.specs.declared.events.Reply.{Reply}
use Rattle.iol_core.specs.declared.events.Reply.TheVariants as reply
use Rattle.iol_laws.specs.Order.{IsOrderly}
use Rattle.iol_laws.specs.Caller.{is_resource_failure, remains, ClosesReadEnd, ClosesWriteEnd}
use Rattle.iol_laws.specs.Others.{HasNotEnd}

-- a new domain is live and has nothing, and all other domains are unchanged
pub record StartsDomain (s : State) (n : ℕ) (t : State) : Type 0 where
  pub new : IsFalse (is_live s n)
  pub empty : domain t n ≡ new_domain
  pub others : (e : ℕ) → n ≢ e → domain t e ≡ domain s e

abbrev pub MakesDomain : State → Reply → State → Type 0
MakesDomain s (reply.Domain n) t = StartsDomain s n t
MakesDomain s (reply.Refused x) t = IsTrue (is_resource_failure (reply.Refused x)) × (t ≡ s)
MakesDomain s r t = ⊥

-- The domain has nothing, and each of its descriptors is closed as by `close`. Queued output of a connection
-- remains. The bytes of a pipe remain, unless the domain had the read end.
pub record EndsDomain (s : State) (d : ℕ) (t : State) : Type 0 where
  pub nothing : domain t d ≡ no_domain
  pub others : (e : ℕ) → d ≢ e → domain t e ≡ domain s e
  pub conns : (fd c : ℕ) → descriptor s d fd ≡ Some (on.Connection c)
      → IsTrue (conn_at t c).closed × ((conn_at t c).outgoing ≡ (conn_at s c).outgoing)
  pub read_ends : (fd p : ℕ) → descriptor s d fd ≡ Some (on.ReadEnd p)
      → IsFalse (pipe_at t p).reading × ((pipe_at t p).queue ≡ [])
  pub write_ends : (fd p : ℕ) → descriptor s d fd ≡ Some (on.WriteEnd p) → IsFalse (pipe_at t p).writing
  pub unread : (p : ℕ) → ((fd : ℕ) → descriptor s d fd ≢ Some (on.ReadEnd p)) → IsTrue (pipe_at s p).reading
      → IsTrue (pipe_at t p).reading × ((pipe_at t p).queue ≡ (pipe_at s p).queue)
  pub conns_remain : (fd c : ℕ) → descriptor s d fd ≡ Some (on.Connection c)
      → conn_at t c ≡ remains (record (conn_at s c) { incoming = []; closed = true })
  -- for a pipe of which it had one end
  pub closes_read_end : (fd p : ℕ) → descriptor s d fd ≡ Some (on.ReadEnd p) → HasNotEnd s d (on.WriteEnd p)
      → ClosesReadEnd s p reply.Done t
  pub closes_write_end : (fd p : ℕ) → descriptor s d fd ≡ Some (on.WriteEnd p) → HasNotEnd s d (on.ReadEnd p)
      → ClosesWriteEnd s p reply.Done t

-- `exit` is never refused
abbrev pub Exits : State → (d : ℕ) → Reply → State → Type 0
Exits s d reply.Done t = EndsDomain s d t
Exits s d r t = ⊥

-- a new pool is open, exactly these domains may read it, and all other pools are unchanged
pub record OpensPool (s : State) (list : List ℕ) (p : ℕ) (t : State) : Type 0 where
  pub new : IsFalse (is_pool s p)
  pub there : IsTrue (is_pool t p)
  pub open_yet : IsFalse (pool t p).closed
  pub may : (e : ℕ) → may_read t e p ≡ list_any (λ d. d == e) list
  pub others : (q : ℕ) → p ≢ q → pool t q ≡ pool s q

abbrev pub MakesPool : State → List ℕ → Reply → State → Type 0
MakesPool s list (reply.Pool p) t = OpensPool s list p t
MakesPool s list (reply.Refused x) t = t ≡ s
MakesPool s list r t = ⊥

-- an open pool is closed, its readers and all other pools are unchanged
pub record ShutsPool (s : State) (d p : ℕ) (t : State) : Type 0 where
  pub was_open : IsFalse (pool s p).closed
  pub may : IsTrue (may_read s d p)
  pub closed : pool t p ≡ record (pool s p) { closed = true }
  pub others : (q : ℕ) → p ≢ q → pool t q ≡ pool s q

abbrev pub ClosesPool : State → (d p : ℕ) → Reply → State → Type 0
ClosesPool s d p reply.Done t = ShutsPool s d p t
ClosesPool s d p (reply.Refused x) t = t ≡ s
ClosesPool s d p r t = ⊥

-- One more domain may read an open pool that the caller may read, and nothing else changes. If the domain could read it
-- before, nothing changes.
pub record AdmitsDomain (s : State) (d p e : ℕ) (t : State) : Type 0 where
  pub may_admit : IsTrue (may_read s d p)
  pub open_yet : IsFalse (pool s p).closed
  pub lives : IsTrue (is_live s e)
  pub may : (f : ℕ) → may_read t f p ≡ (may_read s f p || (e == f))
  pub closed : IsFalse (pool t p).closed
  pub others : (q : ℕ) → p ≢ q → pool t q ≡ pool s q
  pub rest : t ≡ record s { pools = t.pools }
  pub again : IsTrue (may_read s e p) → t ≡ s

-- it needs no memory
abbrev pub Admits : State → (d p e : ℕ) → Reply → State → Type 0
Admits s d p e reply.Done t = AdmitsDomain s d p e t
Admits s d p e (reply.Refused x) t = (x ≢ Memory) × (t ≡ s)
Admits s d p e r t = ⊥

-- the bytes that the domain creates from now on are placed in this pool, which is open and which the domain may read
pub record TakesPool (s : State) (d p : ℕ) (t : State) : Type 0 where
  pub default_is : (domain t d).default ≡ Some p
  pub may : IsTrue (may_read s d p)
  pub open_yet : IsFalse (pool s p).closed

abbrev pub SetsPool : State → (d p : ℕ) → Reply → State → Type 0
SetsPool s d p reply.Done t = TakesPool s d p t
SetsPool s d p (reply.Refused x) t = t ≡ s
SetsPool s d p r t = ⊥

-- Each call on domains and pools.
pub record DomainsAndPoolsComeAndGo : Type 0 where
  pub starts : (s t : State) (d : ℕ) (r : Reply) → IsTrue (is_live s d) → StepsTo s (event.Call d call.DomainNew) r t
      → MakesDomain s r t
  pub exits : (s t : State) (d : ℕ) (r : Reply) → IsOrderly s → IsTrue (is_live s d)
      → StepsTo s (event.Call d call.Exit) r t
      → Exits s d r t
  pub makes_pool : (s t : State) (d chunks : ℕ) (list : List ℕ) (r : Reply)
      → StepsTo s (event.Call d (call.PoolCreate chunks list)) r t → MakesPool s list r t
  pub closes_pool : (s t : State) (d p : ℕ) (r : Reply) → StepsTo s (event.Call d (call.PoolClose p)) r t
      → ClosesPool s d p r t
  pub admits : (s t : State) (d p e : ℕ) (r : Reply) → StepsTo s (event.Call d (call.PoolAdmit p e)) r t
      → Admits s d p e r t
  pub sets_pool : (s t : State) (d p : ℕ) (r : Reply) → StepsTo s (event.Call d (call.SetPool p)) r t
      → SetsPool s d p r t
