-- The event that C's struct, bytes and domains denote.
use Rattle.std.specs.Prelude.{◌≡◌, ◌⊎◌, ◌<◌, ℕ, List, ◌≢◌}
use Rattle.iol_core.specs.declared.descriptors.How.{How}
use Rattle.iol_core.specs.declared.descriptors.How.TheVariants as how
use Rattle.iol_core.specs.declared.descriptors.Mode.{Mode}
use Rattle.iol_core.specs.declared.descriptors.Mode.TheVariants as mode
use Rattle.iol_core.specs.declared.events.Call.{Call}
use Rattle.iol_core.specs.declared.events.Call.TheVariants as call
use Rattle.iol_core.specs.declared.events.Event.{Event}
use Rattle.iol_core.specs.declared.events.Event.TheVariants as event
use Rattle.iol_ffi.specs.declared.events.IolEvent.{IolEvent}
use Rattle.iol_ffi.specs.declared.events.Request.{Request}
use Rattle.iol_ffi.specs.declared.events.Request.TheVariants as request
use Rattle.iol_ffi.specs.declared.events.Unread.{Unread}
use Rattle.iol_ffi.specs.declared.events.Unread.TheVariants as unread

-- the numbers of the modes in which a file is open
abbrev pub mode_number : Mode → ℕ
mode_number mode.Read = 0
mode_number mode.Write = 1
mode_number mode.Both = 2

-- the numbers of the ways in which a peer closes
abbrev pub how_number : How → ℕ
how_number how.Done = 0
how_number how.Gone = 1

-- the call that they denote
abbrev pub IsCall : Call → IolEvent → (bytes names : List ℕ) → Type 0
IsCall call.DomainNew e bs ns = e.kind ≡ 0
IsCall call.Exit e bs ns = e.kind ≡ 1
IsCall (call.PoolCreate chunks domains) e bs ns = (e.kind ≡ 2) × (chunks ≡ e.from) × (domains ≡ ns)
IsCall (call.PoolClose pool) e bs ns = (e.kind ≡ 3) × (pool ≡ e.id)
IsCall (call.PoolAdmit pool domain) e bs ns = (e.kind ≡ 4) × (pool ≡ e.id) × (domain ≡ e.to)
IsCall (call.SetPool pool) e bs ns = (e.kind ≡ 5) × (pool ≡ e.id)
IsCall (call.AggMake bytes) e bs ns = (e.kind ≡ 6) × (bytes ≡ bs)
IsCall (call.AggDup agg) e bs ns = (e.kind ≡ 7) × (agg ≡ e.agg)
IsCall (call.AggCut agg from to) e bs ns = (e.kind ≡ 8) × (agg ≡ e.agg) × (from ≡ e.from) × (to ≡ e.until)
IsCall (call.AggSplit agg at) e bs ns = (e.kind ≡ 9) × (agg ≡ e.agg) × (at ≡ e.from)
IsCall (call.AggJoin first second) e bs ns = (e.kind ≡ 10) × (first ≡ e.agg) × (second ≡ e.with)
IsCall (call.AggReplace agg from to with') e bs ns = (e.kind ≡ 11) × (agg ≡ e.agg) × (from ≡ e.from) × (to ≡ e.until)
    × (with' ≡ e.with)
IsCall (call.AggDrop agg) e bs ns = (e.kind ≡ 12) × (agg ≡ e.agg)
IsCall (call.AggGive agg to) e bs ns = (e.kind ≡ 13) × (agg ≡ e.agg) × (to ≡ e.to)
IsCall (call.Show agg) e bs ns = (e.kind ≡ 14) × (agg ≡ e.agg)
IsCall (call.FileNew name pool) e bs ns = (e.kind ≡ 15) × (name ≡ bs) × (pool ≡ e.id)
IsCall (call.OpenFile name m) e bs ns = (e.kind ≡ 16) × (name ≡ bs) × (e.from ≡ mode_number m)
IsCall call.Pipe e bs ns = e.kind ≡ 17
IsCall (call.GiveFd fd to) e bs ns = (e.kind ≡ 18) × (fd ≡ e.id) × (to ≡ e.to)
IsCall (call.Close fd) e bs ns = (e.kind ≡ 19) × (fd ≡ e.id)
IsCall (call.Seek fd at) e bs ns = (e.kind ≡ 20) × (fd ≡ e.id) × (at ≡ e.from)
IsCall (call.Length fd) e bs ns = (e.kind ≡ 21) × (fd ≡ e.id)
IsCall (call.IolRead fd count) e bs ns = (e.kind ≡ 22) × (fd ≡ e.id) × (count ≡ e.from)
IsCall (call.IolWrite fd agg) e bs ns = (e.kind ≡ 23) × (fd ≡ e.id) × (agg ≡ e.agg)
IsCall (call.Fsync fd) e bs ns = (e.kind ≡ 24) × (fd ≡ e.id)
IsCall (call.Read fd count) e bs ns = (e.kind ≡ 25) × (fd ≡ e.id) × (count ≡ e.from)
IsCall (call.Write fd bytes) e bs ns = (e.kind ≡ 26) × (fd ≡ e.id) × (bytes ≡ bs)
IsCall call.Accept e bs ns = e.kind ≡ 27

-- a call that reads only the fields of the struct, whatever the bytes and domains are
pub record IsPlainCall (c : Call) (e : IolEvent) : Type 0 where
  pub each : (bytes names : List ℕ) → IsCall c e bytes names

-- the event that they denote
abbrev pub IsEvent : Event → IolEvent → (bytes names : List ℕ) → Type 0
IsEvent (event.Call by c) e bs ns = (by ≡ e.by) × IsCall c e bs ns
IsEvent (event.ConnNew pool) e bs ns = (e.kind ≡ 100) × (pool ≡ e.id)
IsEvent (event.Arrive conn bytes) e bs ns = (e.kind ≡ 101) × (conn ≡ e.id) × (bytes ≡ bs)
IsEvent (event.PeerClosed conn h) e bs ns = (e.kind ≡ 102) × (conn ≡ e.id) × (e.from ≡ how_number h)
IsEvent (event.Transmit conn max) e bs ns = (e.kind ≡ 103) × (conn ≡ e.id) × (max ≡ e.from)
IsEvent event.Flush e bs ns = e.kind ≡ 104
IsEvent event.DropClean e bs ns = e.kind ≡ 105

-- the event of a request: its own event, one with the bytes that C passed, or one whose bytes are written to C's memory
abbrev pub event_with : Request → (bytes : List ℕ) → Event
event_with (request.Event e) bs = e
event_with (request.AggMake by) bs = event.Call by (call.AggMake bs)
event_with (request.Show by agg) bs = event.Call by (call.Show agg)
event_with (request.Read by fd count) bs = event.Call by (call.Read fd count)
event_with (request.Write by fd) bs = event.Call by (call.Write fd bs)

-- a call of this kind reads bytes or domains or writes to C's memory, or there is none
abbrev pub IsNoPlainKind : ℕ → Type 0
IsNoPlainKind k = k ≢ 2 → k ≢ 6 → k ≢ 14 → k ≢ 15 → k ≢ 16 → k ≢ 25 → k ≢ 26
    → 27 < k

-- no call has this kind, or its mode has no such number
abbrev pub IsNoCall : IolEvent → Type 0
IsNoCall e = (27 < e.kind) ⊎ ((e.kind ≡ 16) × (2 < e.from))

-- no event has this kind, or the mode or the way that it reads has no such number
abbrev pub IsNoEvent : IolEvent → Type 0
IsNoEvent e = ((27 < e.kind) × (e.kind < 100)) ⊎ ((105 < e.kind)
    ⊎ (((e.kind ≡ 16) × (2 < e.from)) ⊎ ((e.kind ≡ 102) × (1 < e.from))))

-- a call of this kind has a name or a list of domains, which is copied
abbrev pub CopiesInCall : IolEvent → Type 0
CopiesInCall e = (e.kind ≡ 2) ⊎ ((e.kind ≡ 15) ⊎ (e.kind ≡ 16))

-- An event of this kind has such a list, or bytes that arrive: only it needs memory before it is carried out. The bytes
-- of `agg_make` and of a copying `write` (kinds 6 and 26) are not copied before.
abbrev pub CopiesList : IolEvent → Type 0
CopiesList e = (e.kind ≡ 101) ⊎ CopiesInCall e

-- why there is no event: C passed none, or there was no memory for its list
abbrev pub IsUnread : Unread → (bad memory : Type 0) → Type 0
IsUnread unread.Bad bad memory = bad
IsUnread unread.Memory bad memory = memory
