-- The numbers and bytes that C gets of a reply.
use Rattle.std.specs.Prelude.{◌≡◌, ◌⊎◌, ◌<◌, ◌≤◌, ℕ, List, length, take, Result, Ok, Err}
use Rattle.iol_core.specs.declared.events.Reply.{Reply}
use Rattle.iol_core.specs.declared.events.Reply.TheVariants as reply
use Rattle.iol_core.specs.declared.refusals.Refusal.{Refusal}
use Rattle.iol_core.specs.declared.refusals.Refusal.TheVariants as refusal
use Rattle.iol_ffi.specs.declared.replies.IolReply.{IolReply}

-- the numbers of refusals
abbrev pub number_of : Refusal → ℕ
number_of refusal.NoDomain = 1
number_of refusal.BadFd = 2
number_of refusal.BadAgg = 3
number_of refusal.NoPool = 4
number_of refusal.NoFile = 5
number_of refusal.WrongMode = 6
number_of refusal.BadRange = 7
number_of refusal.TooLong = 8
number_of refusal.TooMany = 9
number_of (refusal.Denied p) = 10
number_of (refusal.PoolClosed p) = 11
number_of (refusal.PoolBusy p) = 12
number_of refusal.BrokenPipe = 13
number_of refusal.WouldBlock = 14
number_of (refusal.NoRoom p) = 15
number_of (refusal.Fault f) = 16
number_of refusal.Memory = 17

-- the pool or file that a refusal names
abbrev pub about_of : Refusal → ℕ
about_of (refusal.Denied p) = p
about_of (refusal.PoolClosed p) = p
about_of (refusal.PoolBusy p) = p
about_of (refusal.NoRoom p) = p
about_of (refusal.Fault f) = f
about_of r = 0

-- C gets these numbers: the event was carried out
abbrev pub IsDone : IolReply → (number second : ℕ) → Type 0
IsDone r n m = (r.refusal ≡ 0) × (r.number ≡ n) × (r.second ≡ m)

-- C gets this refusal, and the pool or file that it names
abbrev pub IsRefusal : Refusal → IolReply → Type 0
IsRefusal why r = (r.refusal ≡ number_of why) × (r.about ≡ about_of why)

-- C gets these bytes at the front of `out`, and their number. Or they have no room there, and C gets their number.
abbrev pub ReturnsBytes : (bytes : List ℕ) → (second : ℕ) → IolReply → (out : List ℕ) → Type 0
ReturnsBytes bs m r out = (IsDone r (length bs) m × (take (length bs) out ≡ bs))
    ⊎ ((r.refusal ≡ 101) × (r.number ≡ length bs) × (length out < length bs))

-- C gets the number of bytes that were read into its memory, or the refusal
abbrev pub CountsRead : Result ℕ Refusal → IolReply → Type 0
CountsRead (Ok n) r = IsDone r n 0
CountsRead (Err why) r = IsRefusal why r

-- C gets the number of an aggregate's bytes, which are in its memory if they have room there, or the refusal
abbrev pub CountsShown : Result ℕ Refusal → (room : ℕ) → IolReply → Type 0
CountsShown (Ok n) room r = (IsDone r n 0 × (n ≤ room)) ⊎ ((r.refusal ≡ 101) × (r.number ≡ n) × (room < n))
CountsShown (Err why) room r = IsRefusal why r

-- C gets this reply
abbrev pub Encodes : Reply → IolReply → (out : List ℕ) → Type 0
Encodes reply.Done r out = IsDone r 0 0
Encodes (reply.Domain d) r out = IsDone r d 0
Encodes (reply.Pool p) r out = IsDone r p 0
Encodes (reply.File f) r out = IsDone r f 0
Encodes (reply.Conn c) r out = IsDone r c 0
Encodes (reply.Fd fd) r out = IsDone r fd 0
Encodes (reply.Fds a b) r out = IsDone r a b
Encodes (reply.Agg a) r out = IsDone r a 0
Encodes (reply.Aggs a b) r out = IsDone r a b
Encodes (reply.Count n) r out = IsDone r n 0
Encodes (reply.Bytes bs) r out = ReturnsBytes bs 0 r out
Encodes (reply.Segment bs sum) r out = ReturnsBytes bs sum r out
Encodes (reply.Refused why) r out = IsRefusal why r
