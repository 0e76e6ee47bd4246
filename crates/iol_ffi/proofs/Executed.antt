-- The reply that C gets for an event that was carried out, by the bytes in its memory.
use Rattle.std.proofs.Common.{inl, inr, ◌≡◌, ◌∙◌, ◌≤◌, ◌<◌, ◌++◌, ℕ, List, length, take, drop, refl, sym, ap, subst}
use Rattle.std.proofs.Common.{arith}
use Rattle.std.specs.Prelude.{Result, Ok, Err}
use Rattle.std.proofs.lemmas.List.{length-take-le, take-append-le, take_at}
use Rattle.iol_core.specs.declared.events.Event.{Event}
use Rattle.iol_core.specs.declared.events.Reply.{Reply}
use Rattle.iol_core.specs.declared.events.Reply.TheVariants as reply
use Rattle.iol_core.specs.declared.refusals.Refusal.{Refusal}
use Rattle.iol_kernel.specs.FileReads.{first_of}
use Rattle.iol_system.specs.BorrowedMemory.{ReadsTo, ShowsTo, shown}
use Rattle.iol_system.specs.Machine.{SystemState}
use Rattle.iol_system.specs.Promises.{Promises}
use Rattle.iol_system.specs.Replies.{reported}
use Rattle.iol_ffi.specs.Replies.{CountsRead, CountsShown, Encodes, IsDone}
use Rattle.iol_ffi.specs.Room.{most_bytes}
use Rattle.iol_ffi.specs.Steps.{Executes}
use Rattle.iol_ffi.specs.declared.replies.IolReply.{IolReply}
use Rattle.iol_ffi.proofs.Rooms.{fits}

pub executed : (old new : SystemState) (e : Event) (x : Reply) (r : IolReply) (out : List ℕ) → Promises old e x new
    → Encodes x r out → most_bytes e ≤ length out → Executes e r out old new
executed old new e x r out promises encodes room =
    record { reply = x; promises = promises; encodes = encodes; fits = fits old new e x r out promises encodes room }

-- the bytes of an aggregate, or their number
pub shown_in : (by agg : ℕ) (memory filled : List ℕ) (s : SystemState) (o : Result ℕ Refusal) (r : IolReply)
    (x : ShowsTo by agg memory filled s o) → CountsShown o (length memory) r
    → Encodes (reported reply.Bytes (shown x.shows.bytes o)) r filled
shown_in by agg memory filled s (Ok n) r x (inl (done, few)) =
    let bytes = x.shows.bytes in
    let count : n ≡ length bytes = x.shows.count in
    let room : length bytes ≤ length memory = omega (arith, count, few) in
    inl (
      subst (λ (k : ℕ). IsDone r k 0) count done,
      ap (take (length bytes)) (x.shows.fits room)
          ∙ take_at bytes (drop (length bytes) memory) (length bytes) refl,
    )
shown_in by agg memory filled s (Ok n) r x (inr (refused, number, short)) =
    let bytes = x.shows.bytes in
    let count : n ≡ length bytes = x.shows.count in
    let full : length memory < length bytes = omega (arith, count, short) in
    inr (refused, number ∙ count, omega (arith, full, ap length (x.shows.full full)))
shown_in by agg memory filled s (Err why) r x refused = refused

-- the bytes that were read, at the front of the memory
pub read_in : (by fd : ℕ) (memory filled rest out : List ℕ) (old new : SystemState) (o : Result ℕ Refusal)
    (r : IolReply) → out ≡ filled ++ rest → ReadsTo by fd memory filled old o new → CountsRead o r
    → Encodes (reported reply.Bytes (first_of filled o)) r out
read_in by fd memory filled rest out old new (Ok n) r is x done =
    let within : n ≤ length filled = omega (arith, x.count, x.len) in
    let size : length (take n filled) ≡ n = length-take-le n filled within in
    inl (
      subst (λ (k : ℕ). IsDone r k 0) (sym size) done,
      ap (λ (k : ℕ). take k out) size ∙ ap (take n) is
          ∙ take-append-le n filled rest within,
    )
read_in by fd memory filled rest out old new (Err why) r is x refused = refused
