-- The parts of the state that a step leaves unchanged: connections, pipes, descriptors, files, pools and domains that
-- its event does not touch.
use Rattle.std.specs.Prelude.{◌≡◌, ℕ, ◌≤◌, ◌==◌, ◌&&◌, ◌||◌, Bool, true, false, List, [], ◌∷◌, ◌++◌, length, Option}
use Rattle.std.specs.Prelude.{Some, unwrap_or, IsTrue, IsFalse}
use Rattle.std.specs.List.{list_any}
use Rattle.iol_core.specs.NumberedLists.{lowest, is_numbered}
use Rattle.iol_core.specs.State.{State, domain, is_live, pool, is_pool, may_read, descriptor, file, content, pipe_at}
use Rattle.iol_core.specs.State.{conn_at}
use Rattle.iol_core.specs.Calls.Descriptors.{waiting}
use Rattle.iol_core.specs.Calls.Files.{file_called}
use Rattle.iol_core.specs.Calls.Writes.{is_file}
use Rattle.iol_core.specs.declared.descriptors.Descriptor.{Descriptor}
use Rattle.iol_core.specs.declared.descriptors.Descriptor.TheVariants as on
use Rattle.iol_core.specs.declared.events.Call.TheVariants as call
use Rattle.iol_core.specs.declared.events.Event.{Event}
use Rattle.iol_core.specs.declared.events.Event.TheVariants as event
use Rattle.iol_core.specs.declared.events.Reply.{Reply}
use Rattle.iol_core.specs.Run.{StepsTo}
use Rattle.iol_core.specs.Values.{ValuesStay}

-- the descriptors of the caller that a call closes, reads or writes
abbrev pub operands : State → Event → List (Option Descriptor)
operands s (event.Call by call.Exit) = (domain s by).fds
operands s (event.Call by (call.Close fd)) = descriptor s by fd ∷ []
operands s (event.Call by (call.IolRead fd n)) = descriptor s by fd ∷ []
operands s (event.Call by (call.IolWrite fd a)) = descriptor s by fd ∷ []
operands s (event.Call by (call.Read fd n)) = descriptor s by fd ∷ []
operands s (event.Call by (call.Write fd bytes)) = descriptor s by fd ∷ []
operands s e = []

abbrev pub is_conn : (c : ℕ) → Option Descriptor → Bool
is_conn c (Some (on.Connection e)) = e == c
is_conn c o = false

abbrev pub is_end : (p : ℕ) → Option Descriptor → Bool
is_end p (Some (on.ReadEnd q)) = q == p
is_end p (Some (on.WriteEnd q)) = q == p
is_end p o = false

-- the connection that an event names, makes or accepts
abbrev pub names_conn : State → Event → (c : ℕ) → Bool
names_conn s (event.Call by call.Accept) c = unwrap_or (waiting s by) 0 == c
names_conn s (event.ConnNew p) c = s.next_conn == c
names_conn s (event.Arrive e bytes) c = e == c
names_conn s (event.PeerClosed e how) c = e == c
names_conn s (event.Transmit e max) c = e == c
names_conn s e c = false

abbrev pub touches_conn : State → Event → (c : ℕ) → Bool
touches_conn s e c = list_any (is_conn c) (operands s e) || names_conn s e c

abbrev pub makes_pipe : State → Event → (p : ℕ) → Bool
makes_pipe s (event.Call by call.Pipe) p = lowest s.pipes == p
makes_pipe s e p = false

abbrev pub touches_pipe : State → Event → (p : ℕ) → Bool
touches_pipe s e p = list_any (is_end p) (operands s e) || makes_pipe s e p

-- whether a descriptor is closed or given away, or the position of its file moves
abbrev pub touches_fd : State → Event → (d fd : ℕ) → Bool
touches_fd s (event.Call by call.Exit) d fd = by == d
touches_fd s (event.Call by (call.Close f)) d fd = (by == d) && (f == fd)
touches_fd s (event.Call by (call.GiveFd f to)) d fd = (by == d) && (f == fd)
touches_fd s (event.Call by (call.Seek f at)) d fd = (by == d) && (f == fd)
touches_fd s (event.Call by (call.IolRead f n)) d fd = (by == d) && (f == fd) && is_file (descriptor s by f)
touches_fd s (event.Call by (call.IolWrite f a)) d fd = (by == d) && (f == fd) && is_file (descriptor s by f)
touches_fd s (event.Call by (call.Read f n)) d fd = (by == d) && (f == fd) && is_file (descriptor s by f)
touches_fd s (event.Call by (call.Write f bytes)) d fd = (by == d) && (f == fd) && is_file (descriptor s by f)
touches_fd s e d fd = false

-- whether the event may make or write a file
abbrev pub changes_files : State → Event → Bool
changes_files s (event.Call by (call.FileNew name p)) = true
changes_files s (event.Call by (call.IolWrite fd a)) = is_file (descriptor s by fd)
changes_files s (event.Call by (call.Write fd bytes)) = is_file (descriptor s by fd)
changes_files s e = false

abbrev pub is_on_file : (f : ℕ) → Option Descriptor → Bool
is_on_file f (Some (on.File g at mode)) = g == f
is_on_file f o = false

-- whether the event may write this file
abbrev pub writes_file : State → Event → (f : ℕ) → Bool
writes_file s (event.Call by (call.IolWrite fd a)) f = is_on_file f (descriptor s by fd)
writes_file s (event.Call by (call.Write fd bytes)) f = is_on_file f (descriptor s by fd)
writes_file s e f = false

-- whether the event may close this pool
abbrev pub closes_pool : Event → (p : ℕ) → Bool
closes_pool (event.Call by (call.PoolClose q)) p = q == p
closes_pool e p = false

-- whether the event may add a domain to the list of this pool
abbrev pub admits_to : Event → (p : ℕ) → Bool
admits_to (event.Call by (call.PoolAdmit q d)) p = q == p
admits_to e p = false

-- a list with at most one more element at its end; none is removed
pub record Grows (old new : List ℕ) : Type 0 where
  pub more : List ℕ
  pub few : length more ≤ 1
  pub is : new ≡ old ++ more

-- whether the event may end the domain
abbrev pub ends : Event → (d : ℕ) → Bool
ends (event.Call by call.Exit) d = by == d
ends e d = false

-- whether the event may change the domain's default pool
abbrev pub sets_default : Event → (d : ℕ) → Bool
sets_default (event.Call by call.Exit) d = by == d
sets_default (event.Call by (call.SetPool p)) d = by == d
sets_default e d = false

-- the unchanged parts, for this event from old to new
pub record Leaves (old : State) (e : Event) (new : State) : Type 0 where
  pub conns : (c : ℕ) → IsFalse (touches_conn old e c) → conn_at new c ≡ conn_at old c
  pub pipes : (p : ℕ) → IsFalse (touches_pipe old e p) → pipe_at new p ≡ pipe_at old p
  pub fds : (d fd : ℕ) (x : Descriptor) → descriptor old d fd ≡ Some x → IsFalse (touches_fd old e d fd)
      → descriptor new d fd ≡ Some x
  pub files : IsFalse (changes_files old e) → (new.files ≡ old.files) × (new.slots ≡ old.slots)
  pub contents : (f : ℕ) → IsFalse (writes_file old e f) → content new f ≡ content old f
  -- a file keeps its name, its number and its pool
  pub known : (f : ℕ) → IsTrue (is_numbered old.files f) → file new f ≡ file old f
  pub called : (name : List ℕ) (f : ℕ) → file_called old name ≡ Some f → file_called new name ≡ Some f
  -- an existing pool remains
  pub numbered : (p : ℕ) → IsTrue (is_pool old p) → IsTrue (is_pool new p)
  pub lists : (p : ℕ) → IsTrue (is_pool old p) → Grows (pool old p).domains (pool new p).domains
  -- a domain that may read a pool keeps this right
  pub readers : (d p : ℕ) → IsTrue (may_read old d p) → IsTrue (may_read new d p)
  pub pools : (p : ℕ) → IsTrue (is_pool old p) → IsFalse (closes_pool e p) → IsFalse (admits_to e p)
      → pool new p ≡ pool old p
  -- a pool, closed or not, keeps its list, unless a domain is admitted to it
  pub listed : (p : ℕ) → IsTrue (is_pool old p) → IsFalse (admits_to e p) → (pool new p).domains ≡ (pool old p).domains
  pub lives : (d : ℕ) → IsTrue (is_live old d) → IsFalse (ends e d) → IsTrue (is_live new d)
  pub defaults : (d : ℕ) → IsTrue (is_live old d) → IsFalse (sets_default e d)
      → (domain new d).default ≡ (domain old d).default

-- every step leaves unchanged what its event does not touch, and the values of aggregates
pub record EachStepLeavesTheRest : Type 0 where
  pub leaves : (old new : State) (e : Event) (r : Reply) → StepsTo old e r new → Leaves old e new
  pub values : (old new : State) (e : Event) (r : Reply) → StepsTo old e r new → ValuesStay old e new
