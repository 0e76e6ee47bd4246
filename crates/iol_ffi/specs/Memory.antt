-- The calls that need no memory: `show`, and a `read` that is not of a file. Their bytes are written to C's memory.
use Rattle.std.specs.Prelude.{◌≡◌, ◌⊎◌, ℕ, Option, None, Some, IsFalse, ◌≢◌, ⊤}
use Rattle.iol_core.specs.declared.events.Call.TheVariants as call
use Rattle.iol_core.specs.declared.events.Event.TheVariants as event
use Rattle.iol_system.specs.Machine.{SystemState, tables_of}
use Rattle.iol_system.specs.StoreCalls.{asks_store}
use Rattle.iol_ffi.specs.declared.Machine.{Machine}
use Rattle.iol_ffi.specs.declared.events.IolEvent.{IolEvent}
use Rattle.iol_ffi.specs.declared.events.Request.{Request}
use Rattle.iol_ffi.specs.declared.events.Request.TheVariants as request
use Rattle.iol_ffi.specs.declared.replies.IolReply.{IolReply}

-- a domain's descriptor is not open on a file that it may read
abbrev pub ReadsNoFile : (by fd count : ℕ) → SystemState → Type 0
ReadsNoFile by fd count s = IsFalse (asks_store (tables_of s.kernel) (event.Call by (call.Read fd count)))

-- the request needs no memory in this state
abbrev pub NeedsNone : Request → SystemState → Type 0
NeedsNone (request.Show by agg) s = ⊤
NeedsNone (request.Read by fd count) s = ReadsNoFile by fd count s
NeedsNone q s = ⊥

-- if the request needs no memory, C gets no refusal for lack of memory
abbrev pub IsNotMemory : Request → SystemState → IolReply → Type 0
IsNotMemory q s r = NeedsNone q s → r.refusal ≢ 17

-- likewise for the system in a handle
abbrev pub NeedsNoneIn : Request → Option Machine → Type 0
NeedsNoneIn q (Some m) = NeedsNone q m.system
NeedsNoneIn q None = ⊥

-- the event that C passed needs no memory in this state
abbrev pub NeedsNoMemory : IolEvent → Option Machine → Type 0
NeedsNoMemory e (Some m) = (e.kind ≡ 14) ⊎ ((e.kind ≡ 25) × ReadsNoFile e.by e.id e.from m.system)
NeedsNoMemory e None = ⊥

-- the request needs none if the event that C passed needs none
abbrev pub NeedsAsPassed : IolEvent → Request → Type 0
NeedsAsPassed e q = (o : Option Machine) → NeedsNoMemory e o → NeedsNoneIn q o
