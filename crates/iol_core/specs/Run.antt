-- The copying machine: the meaning of each event, one step, and a run of events.
use Rattle.std.specs.Prelude.{◌≡◌, ℕ, List, [], ◌∷◌, Result, Ok, Err}
use Rattle.iol_core.specs.State.{State}
use Rattle.iol_core.specs.Meaning.{Meaning, Step}
use Rattle.iol_core.specs.Calls.Domains.{domain_new, exit}
use Rattle.iol_core.specs.Calls.Pools.{pool_create, pool_close, pool_admit, set_pool}
use Rattle.iol_core.specs.Calls.Aggregates.{agg_make, agg_dup, agg_cut, agg_split, agg_join, agg_replace, agg_drop}
use Rattle.iol_core.specs.Calls.Aggregates.{agg_give, show}
use Rattle.iol_core.specs.Calls.Descriptors.{pipe, give_fd, close, accept}
use Rattle.iol_core.specs.Calls.Files.{file_new, open_file, seek, file_length, fsync}
use Rattle.iol_core.specs.Calls.Outside.{conn_new, arrive, peer_closed, transmit, flush, drop_clean}
use Rattle.iol_core.specs.Calls.Reads.{iol_read, read}
use Rattle.iol_core.specs.Calls.Writes.{iol_write, write}
use Rattle.iol_core.specs.declared.refusals.Refusal.{Refusal}
use Rattle.iol_core.specs.declared.events.Call.{Call}
use Rattle.iol_core.specs.declared.events.Call.TheVariants as call
use Rattle.iol_core.specs.declared.events.Event.{Event}
use Rattle.iol_core.specs.declared.events.Event.TheVariants as event
use Rattle.iol_core.specs.declared.events.Reply.{Reply}
use Rattle.iol_core.specs.declared.events.Reply.TheVariants as reply

-- the meaning with its result as a reply
abbrev pub replied : {A : Type 0} → (A → Reply) → Meaning A → Meaning Reply
replied f m = record { refusals = m.refusals; Late = m.Late; answer = f m.answer; after = m.after }

abbrev pub done : Unit {0} → Reply
done u = reply.Done

-- the meaning of a domain's call
abbrev pub called : State → (by : ℕ) → Call → Meaning Reply
called s by call.DomainNew = replied reply.Domain (domain_new s by)
called s by call.Exit = replied done (exit s by)
called s by (call.PoolCreate chunks list) = replied reply.Pool (pool_create s by chunks list)
called s by (call.PoolClose p) = replied done (pool_close s by p)
called s by (call.PoolAdmit p d) = replied done (pool_admit s by p d)
called s by (call.SetPool p) = replied done (set_pool s by p)
called s by (call.AggMake bytes) = replied reply.Agg (agg_make s by bytes)
called s by (call.AggDup a) = replied reply.Agg (agg_dup s by a)
called s by (call.AggCut a from to) = replied reply.Agg (agg_cut s by a from to)
called s by (call.AggSplit a at) = replied (λ two. reply.Aggs two.0 two.1) (agg_split s by a at)
called s by (call.AggJoin a b) = replied reply.Agg (agg_join s by a b)
called s by (call.AggReplace a from to b) = replied reply.Agg (agg_replace s by a from to b)
called s by (call.AggDrop a) = replied done (agg_drop s by a)
called s by (call.AggGive a to) = replied reply.Agg (agg_give s by a to)
called s by (call.Show a) = replied reply.Bytes (show s by a)
called s by (call.FileNew name p) = replied reply.File (file_new s by name p)
called s by (call.OpenFile name mode) = replied reply.Fd (open_file s by name mode)
called s by call.Pipe = replied (λ fds. reply.Fds fds.0 fds.1) (pipe s by)
called s by (call.GiveFd fd to) = replied reply.Fd (give_fd s by fd to)
called s by (call.Close fd) = replied done (close s by fd)
called s by (call.Seek fd at) = replied done (seek s by fd at)
called s by (call.Length fd) = replied reply.Count (file_length s by fd)
called s by (call.IolRead fd n) = replied reply.Agg (iol_read s by fd n)
called s by (call.IolWrite fd a) = replied reply.Count (iol_write s by fd a)
called s by (call.Fsync fd) = replied done (fsync s by fd)
called s by (call.Read fd n) = replied reply.Bytes (read s by fd n)
called s by (call.Write fd bytes) = replied reply.Count (write s by fd bytes)
called s by call.Accept = replied reply.Fd (accept s by)

-- the meaning of an event
abbrev pub meaning : State → Event → Meaning Reply
meaning s (event.Call by c) = called s by c
meaning s (event.ConnNew p) = replied reply.Conn (conn_new s p)
meaning s (event.Arrive c bytes) = replied reply.Count (arrive s c bytes)
meaning s (event.PeerClosed c how) = replied done (peer_closed s c how)
meaning s (event.Transmit c max) = replied (λ x. reply.Segment x.0 x.1) (transmit s c max)
meaning s event.Flush = replied done (flush s)
meaning s event.DropClean = replied done (drop_clean s)

-- a reply as a result or a refusal
abbrev pub outcome : Reply → Result Reply Refusal
outcome (reply.Refused x) = Err x
outcome r = Ok r

-- one step of the machine: from old, it may give this reply to the event, with the new state
abbrev pub StepsTo : State → Event → Reply → State → Type 0
StepsTo old e r new = Step (meaning old e) old (outcome r) new

-- a run of the machine: from old, it may give these replies to these events, in order, with the new state at the end
abbrev pub Run : State → List Event → List Reply → State → Type 0
Run old [] [] new = new ≡ old
Run old (e ∷ es) (r ∷ rs) new = (mid : State) × StepsTo old e r mid × Run mid es rs new
Run old [] (r ∷ rs) new = ⊥
Run old (e ∷ es) [] new = ⊥
