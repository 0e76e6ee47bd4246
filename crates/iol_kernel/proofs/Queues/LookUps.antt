-- Facts of a queue, by the object of its descriptor, for each reading of places.
use Rattle.std.proofs.Common.{◌≡◌, ℕ, ◌-◌, ◌<◌, List, [], ◌∷◌, length, take, ap, ◌∙◌, refl, sym, arith, Option, Some}
use Rattle.std.proofs.Common.{None, true, false, cond}
use Rattle.std.specs.Prelude.{min, not, option_map, option_and_then, if◌then◌else◌}
use Rattle.iol_core.specs.Text.{Text, barred}
use Rattle.iol_core.specs.NumberedLists.{lookup}
use Rattle.iol_core.specs.State as machine
use Rattle.iol_core.specs.State.{State, Connection}
use Rattle.iol_core.specs.Calls.Files.{open_on}
use Rattle.iol_core.specs.Calls.Reads as reading
use Rattle.iol_core.specs.Calls.Writes as writing
use Rattle.iol_core.specs.declared.descriptors.Mode.{Mode}
use Rattle.iol_core.specs.declared.descriptors.Descriptor.{Descriptor}
use Rattle.iol_core.specs.declared.descriptors.Descriptor.TheVariants as on
use Rattle.iol_core.specs.declared.limits.TheConstants.{MAX_QUEUE_BYTES}
use Rattle.iol_core.specs.declared.refusals.Refusal.TheVariants.{Denied}
use Rattle.iol_hold.specs.Places.{byte_len}
use Rattle.iol_hold.specs.declared.slices.Slice.{Slice}
use Rattle.iol_hold.proofs.AtPlaces.{length-read}
use Rattle.iol_pipe.specs.Queue.{first_pool}
use Rattle.iol_pipe.proofs.FrontBytes.{first_pool-read}
use Rattle.iol_sock.specs.Connections.{Conn, conn_view}
use Rattle.iol_sock.specs.Table.{no_conn}
use Rattle.iol_kernel.specs.FileReads.{held_by}
use Rattle.iol_kernel.specs.KernelState.{KernelState, IsSound, machine_of, read_of, queue_at}
use Rattle.iol_kernel.specs.QueueEnds.{IsSource, pool_of_first}
use Rattle.iol_kernel.specs.Readings.{Reading, bytes_over, read, KeepsPools}
use Rattle.iol_kernel.proofs.Connections.OneConnection.{conn_in-is}
use Rattle.iol_kernel.proofs.Connections.ConnQueues.{conn_at-read_of, conn_in-none}
use Rattle.iol_kernel.proofs.FileCalls.FileTests.{no_queue}
use Rattle.iol_kernel.proofs.Queues.PipeEnds.{end_held}
use Rattle.iol_kernel.proofs.State.ReadOf.{queue-read_of}

-- A connection that exists, and one that does not.

pub conn_at-there : (f : Reading) (h : KernelState) (c : ℕ) (y : Conn (List Slice)) → Some y ≡ lookup h.conns c
    → machine.conn_at (read_of f h) c ≡ conn_view (read f) y
conn_at-there f h c y there = conn_at-read_of f h c ∙ ap (conn_view (read f)) (conn_in-is h.conns c y (sym there))

pub conn_at-none : (f : Reading) (h : KernelState) (c : ℕ) → None ≡ lookup h.conns c
    → machine.conn_at (read_of f h) c ≡ conn_view (read f) no_conn
conn_at-none f h c none = conn_at-read_of f h c ∙ ap (conn_view (read f)) (conn_in-none h.conns c none)

-- The bytes to be read, and the bytes written and not yet read.

module _ (f : Reading) (h : KernelState) (x : Descriptor) where
  pub unread-pipe : (p : ℕ) → x ≡ on.ReadEnd p
      → reading.unread (read_of f h) (Some x) ≡ read f (queue_at h.pipes p).queue
  unread-pipe p is = ap (λ (z : Descriptor). reading.unread (read_of f h) (Some z)) is ∙ queue-read_of f h p

  pub unsent-pipe : (p : ℕ) → x ≡ on.WriteEnd p
      → writing.unsent (read_of f h) (Some x) ≡ read f (queue_at h.pipes p).queue
  unsent-pipe p is = ap (λ (z : Descriptor). writing.unsent (read_of f h) (Some z)) is ∙ queue-read_of f h p

  -- of a connection, as a reading sees it
  module _ (c : ℕ) (y : Conn (List Slice)) (is : x ≡ on.Connection c)
      (seen : machine.conn_at (read_of f h) c ≡ conn_view (read f) y) where
    pub unread-conn : reading.unread (read_of f h) (Some x) ≡ read f y.incoming
    unread-conn = ap (λ (z : Descriptor). reading.unread (read_of f h) (Some z)) is
        ∙ ap (λ (z : Connection). z.incoming) seen

    pub unsent-conn : writing.unsent (read_of f h) (Some x) ≡ read f y.outgoing
    unsent-conn = ap (λ (z : Descriptor). writing.unsent (read_of f h) (Some z)) is
        ∙ ap (λ (z : Connection). z.outgoing) seen

  -- as many bytes
  pub as_long : (q : List Slice) (t : Text) (n : ℕ) → t ≡ read f q → n ≡ byte_len q → n ≡ length t
  as_long q t n is len = len ∙ sym (ap length is ∙ length-read f.at q)

  pub first_of : KeepsPools f → (q : List Slice) (t : Text) (o : Option ℕ) → t ≡ read f q → o ≡ first_pool q
      → o ≡ pool_of_first t
  first_of keeps q t o is reported = reported ∙ first_pool-read f.at keeps q ∙ ap pool_of_first (sym is)

-- How many bytes fit into a queue.

pub fitting-queue : (s : State) (n : ℕ) (x : Descriptor) → ((g at : ℕ) (mode : Mode) → x ≡ on.File g at mode → ⊥)
    → writing.fitting s (Some x) n ≡ min n (MAX_QUEUE_BYTES - length (writing.unsent s (Some x)))
fitting-queue s n (on.File g at mode) other = absurd (other g at mode refl)
fitting-queue s n (on.ReadEnd p) other = refl
fitting-queue s n (on.WriteEnd p) other = refl
fitting-queue s n (on.Connection c) other = refl

-- The pool of the first byte requested, if the reader may not read it.

abbrev pub denied_at : State → (d : ℕ) → Option ℕ → Option ℕ
denied_at s d o = option_and_then (λ q. if machine.may_read s d q then None else Some q) o

denied-queue : (s : State) (d n : ℕ) (x : Descriptor) → writing.is_file (Some x) ≡ false
    → reading.read_denied s d (Some x) n
    ≡ option_map Denied (barred (machine.may_read s d) (take (min n 1) (reading.unread s (Some x))))
denied-queue s d n (on.File g at mode) no_file = absurd (cc no_file)
denied-queue s d n (on.ReadEnd p) no_file = refl
denied-queue s d n (on.WriteEnd p) no_file = refl
denied-queue s d n (on.Connection c) no_file = refl

barred-first : (s : State) (d : ℕ) (t : Text)
    → barred (machine.may_read s d) (take 1 t) ≡ denied_at s d (pool_of_first t)
barred-first s d [] = refl
barred-first s d (x ∷ t) =
    elim (machine.may_read s d x.1) as (λ b. option_map (λ (y : ℕ × ℕ). y.1) (cond (not b) (Some x) None)
    ≡ (if b then None else Some x.1)) [ true ↦ refl | false ↦ refl ]

module _ (s : State) (d n : ℕ) (x : Descriptor) (no_file : writing.is_file (Some x) ≡ false) where
  pub denied-none : n ≡ 0 → None ≡ reading.read_denied s d (Some x) n
  denied-none none =
      sym (denied-queue s d n x no_file
      ∙ ap (λ k. option_map Denied (barred (machine.may_read s d) (take (min k 1) (reading.unread s (Some x))))) none)

  pub denied-first : 0 < n → (o : Option ℕ) → o ≡ pool_of_first (reading.unread s (Some x))
      → reading.read_denied s d (Some x) n ≡ option_map Denied (denied_at s d o)
  denied-first some o is =
      denied-queue s d n x no_file
      ∙ ap (λ k. option_map Denied (barred (machine.may_read s d) (take k (reading.unread s (Some x))))) one
      ∙ ap (λ (p : Option ℕ). option_map Denied p) (barred-first s d (reading.unread s (Some x))
      ∙ ap (denied_at s d) (sym is))
    where
      one : min n 1 ≡ 1
      one = omega arith

-- The object of a domain's descriptor that is not on a file.

pub is_queue : (h : KernelState) (d fd : ℕ) (x : Descriptor) → machine.is_live (machine_of [] h) d ≡ true
    → machine.descriptor (machine_of [] h) d fd ≡ Some x → ((f : Reading) → open_on (held_by (read_of f h) d fd) ≡ None)
    → writing.is_file (Some x) ≡ false
is_queue h d fd (on.File g at mode) live from none = absurd (no_queue h d fd live from none)
is_queue h d fd (on.ReadEnd p) live from none = refl
is_queue h d fd (on.WriteEnd p) live from none = refl
is_queue h d fd (on.Connection c) live from none = refl

pub source_held : (h : KernelState) (d fd : ℕ) (x : Descriptor) → IsSound h → machine.is_live (machine_of [] h) d ≡ true
    → machine.descriptor (machine_of [] h) d fd ≡ Some x → ((f : Reading) → open_on (held_by (read_of f h) d fd) ≡ None)
    → reading.can_read (Some x) ≡ true → IsSource h x
source_held h d fd x sound live from none readable = record {
  sound = sound;
  opened = end_held (bytes_over [] h.store) h d fd x sound from;
  readable = readable;
  no_file = is_queue h d fd x live from none;
}
