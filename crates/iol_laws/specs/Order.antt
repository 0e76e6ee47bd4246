-- Invariants between events: each pipe end and each connection is open in at most one descriptor; the object of each
-- open descriptor exists, and each existing one is open; numbers from the next one on are not used; an ended domain has
-- nothing; the lists of pools are short.
use Rattle.std.specs.Prelude.{◌≡◌, ℕ, ◌≤◌, ◌&&◌, ◌||◌, Bool, true, not, List, [], ◌∷◌, length, Some, None}
use Rattle.std.specs.Prelude.{IsTrue, IsFalse, ⊤}
use Rattle.iol_core.specs.NumberedLists.{lookup, in_place}
use Rattle.iol_core.specs.State.{State, Pipe, domain, is_live, pool, aggregate, descriptor, conn_at, pipe_at, new_state}
use Rattle.iol_core.specs.State.{no_domain}
use Rattle.iol_core.specs.Access.{HasAccess}
use Rattle.iol_core.specs.Positions.{ArePlaced}
use Rattle.iol_core.specs.declared.limits.TheConstants.{MAX_FILES, MAX_LISTED}
use Rattle.iol_core.specs.Calls.Writes.{is_file}
use Rattle.iol_core.specs.Run.{StepsTo}
use Rattle.iol_core.specs.declared.descriptors.Descriptor.{Descriptor}
use Rattle.iol_core.specs.declared.descriptors.Descriptor.TheVariants as on
use Rattle.iol_core.specs.declared.events.Event.{Event}
use Rattle.iol_core.specs.declared.events.Reply.{Reply}

-- whether the object of a descriptor exists: the end of the pipe is open, or the connection was accepted and is not
-- closed
abbrev pub stands : State → Descriptor → Bool
stands s (on.File f at mode) = true
stands s (on.ReadEnd p) = (pipe_at s p).reading
stands s (on.WriteEnd p) = (pipe_at s p).writing
stands s (on.Connection c) = (conn_at s c).accepted && not (conn_at s c).closed

-- a live domain has it open
pub record IsOpen (s : State) (x : Descriptor) : Type 0 where
  pub by : ℕ
  pub fd : ℕ
  pub live : IsTrue (is_live s by)
  pub there : descriptor s by fd ≡ Some x

-- each number occurs at most once
abbrev pub Once : {A : Type 0} → List (ℕ × A) → Type 0
Once [] = ⊤
Once (e ∷ es) = (lookup es e.0 ≡ None) × Once es

pub record IsOrderly (s : State) : Type 0 where
  -- two open descriptors of the same pipe end or connection are the same
  pub one : (d e f g : ℕ) (x : Descriptor) → IsFalse (is_file (Some x)) → descriptor s d f ≡ Some x
      → descriptor s e g ≡ Some x → (d ≡ e) × (f ≡ g)
  -- the object of each open descriptor exists
  pub all_stand : (d f : ℕ) (x : Descriptor) → descriptor s d f ≡ Some x → IsTrue (stands s x)
  -- each open end of a pipe, and each connection that was accepted and is not closed, has a descriptor
  pub held : (x : Descriptor) → IsFalse (is_file (Some x)) → IsTrue (stands s x) → IsOpen s x
  -- an existing pipe has an open end
  pub ends : (p : ℕ) (x : Pipe) → in_place s.pipes p ≡ Some x → IsTrue (x.reading || x.writing)
  -- the list of a pool has at most sixteen domains
  pub listed : (p : ℕ) → length (pool s p).domains ≤ MAX_LISTED
  -- an ended domain has nothing
  pub gone : (d : ℕ) → IsFalse (is_live s d) → domain s d ≡ no_domain
  -- a connection that is not yet accepted is not closed, and has no queued output
  pub waits : (c : ℕ) → IsFalse (conn_at s c).accepted → IsFalse (conn_at s c).closed
  pub silent : (c : ℕ) → IsFalse (conn_at s c).accepted → (conn_at s c).outgoing ≡ []
  -- each connection has a unique number, below the next one
  pub once : Once s.conns
  pub conns : (c : ℕ) → s.next_conn ≤ c → lookup s.conns c ≡ None
  -- the same for each aggregate of a domain
  pub aggs_once : (d : ℕ) → Once (domain s d).aggs
  pub aggs : (d a : ℕ) → (domain s d).next_agg ≤ a → aggregate s d a ≡ None

-- A new state is orderly, and each step preserves this. So do the access of domains to what they have, and positions
-- within files.
pub record EachStepKeepsOrder : Type 0 where
  pub new : (slots : List (List ℕ)) → IsOrderly (new_state slots)
  pub step : (s t : State) (e : Event) (r : Reply) → IsOrderly s → StepsTo s e r t → IsOrderly t
  pub new_access : (slots : List (List ℕ)) → HasAccess (new_state slots)
  pub access : (s t : State) (e : Event) (r : Reply) → HasAccess s → StepsTo s e r t → HasAccess t
  pub new_places : (slots : List (List ℕ)) → MAX_FILES ≤ length slots → ArePlaced (new_state slots)
  pub places : (s t : State) (e : Event) (r : Reply) → ArePlaced s → StepsTo s e r t → ArePlaced t
