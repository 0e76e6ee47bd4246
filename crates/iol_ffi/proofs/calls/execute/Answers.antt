-- The effect of each request, and the reply that C gets.
use Rattle.std.proofs.Common.{◌≡◌, ◌≤◌, ℕ, List, length, sym, subst, arith}
use Rattle.iol_core.specs.declared.events.Reply.{Reply}
use Rattle.iol_core.specs.declared.events.Reply.TheVariants as reply
use Rattle.iol_system.specs.BorrowedMemory.{shown}
use Rattle.iol_system.specs.Machine.{SystemState}
use Rattle.iol_system.specs.Promises.{Promises}
use Rattle.iol_system.specs.Replies.{reported}
use Rattle.iol_ffi.specs.Events.{event_with}
use Rattle.iol_ffi.specs.Memory.{NeedsNone}
use Rattle.iol_ffi.specs.Replies.{CountsShown, Encodes}
use Rattle.iol_ffi.specs.Room.{most_bytes}
use Rattle.iol_ffi.specs.Steps.{Executes}
use Rattle.iol_ffi.specs.declared.events.Request.{Request}
use Rattle.iol_ffi.specs.declared.replies.IolReply.{IolReply}
use Rattle.iol_ffi.proofs.Executed.{executed, shown_in}
use Rattle.iol_ffi.proofs.Memory.{not_needed, shown_not_memory}
use Rattle.iol_ffi.proofs.calls.execute.Goals as goal

-- the step of a request by the event that it means
meant : (q p : Request) (bytes memory out : List ℕ) (old new : SystemState) (x : Reply) (r : IolReply) → q ≡ p
    → Promises old (event_with p bytes) x new → Encodes x r out → most_bytes (event_with q bytes) ≤ length memory
    → length out ≡ length memory → Executes (event_with q bytes) r out old new
meant q p bytes memory out old new x r is promises encodes room len =
    executed old new (event_with q bytes) x r out
    (subst (λ (w : Request). Promises old (event_with w bytes) x new) (sym is) promises) encodes
    (omega (arith, room, len))

pub returns-in-Event-clause-executes : goal.returns-in-Event-clause-executes
returns-in-Event-clause-executes c =
    meant c.args.request.now _ c.args.bytes.now c.args.out.now c.reply_of.new.out c.args.system.now c.step_ref.new.self
    c.step_ref.result c.reply_of.result c.in-Event.is c.step_ref.ensures c.reply_of.ensures.encodes c.requires
    c.reply_of.ensures.len

pub returns-in-AggMake-clause-executes : goal.returns-in-AggMake-clause-executes
returns-in-AggMake-clause-executes c =
    meant c.args.request.now _ c.args.bytes.now c.args.out.now c.reply_of-in-AggMake.new.out c.args.system.now
    c.make_agg.new.self c.make_agg.result c.reply_of-in-AggMake.result c.in-AggMake.is c.make_agg.ensures
    c.reply_of-in-AggMake.ensures.encodes c.requires c.reply_of-in-AggMake.ensures.len

pub returns-in-Show-clause-executes : goal.returns-in-Show-clause-executes
returns-in-Show-clause-executes c =
    let memory = c.args.out.now in
    let filled = c.show_into.new.out in
    let s = c.args.system.now in
    let shows = c.show_into.ensures in
    let r = c.shown_reply.result in
    let len : length filled ≡ length memory = c.show_into.auto.out in
    let reported_it : Encodes (reported reply.Bytes (shown shows.shows.bytes c.show_into.result)) r filled =
    shown_in c.in-Show.by c.in-Show.agg memory filled s c.show_into.result r shows
    (subst (λ (n : ℕ). CountsShown c.show_into.result n r) len c.shown_reply.ensures) in
    meant c.args.request.now _ c.args.bytes.now memory filled s s
    (reported reply.Bytes (shown shows.shows.bytes c.show_into.result)) r c.in-Show.is shows.step reported_it
    c.requires len

pub returns-in-Read-clause-executes : goal.returns-in-Read-clause-executes
returns-in-Read-clause-executes c =
    subst (λ (w : Request). Executes (event_with w c.args.bytes.now) c.read_front.result c.read_front.new.out
    c.args.system.now c.read_front.new.system) (sym c.in-Read.is) c.read_front.ensures.executes

pub read_front-requires : goal.read_front-requires
read_front-requires c = subst (λ (w : Request). most_bytes (event_with w c.args.bytes.now) ≤ length c.args.out.now)
    c.in-Read.is c.requires

pub returns-in-Write-clause-executes : goal.returns-in-Write-clause-executes
returns-in-Write-clause-executes c =
    meant c.args.request.now _ c.args.bytes.now c.args.out.now c.reply_of-in-Write.new.out c.args.system.now
    c.write_bytes.new.self c.write_bytes.result c.reply_of-in-Write.result c.in-Write.is c.write_bytes.ensures
    c.reply_of-in-Write.ensures.encodes c.requires c.reply_of-in-Write.ensures.len

pub returns-in-Event-clause-needs : goal.returns-in-Event-clause-needs
returns-in-Event-clause-needs c =
    λ none is. not_needed c.args.request.now _ c.args.system.now c.reply_of.result c.in-Event.is (λ n. absurd n) none is

pub returns-in-AggMake-clause-needs : goal.returns-in-AggMake-clause-needs
returns-in-AggMake-clause-needs c =
    λ none is. not_needed c.args.request.now _ c.args.system.now c.reply_of-in-AggMake.result c.in-AggMake.is
    (λ n. absurd n) none is

pub returns-in-Write-clause-needs : goal.returns-in-Write-clause-needs
returns-in-Write-clause-needs c =
    λ none is. not_needed c.args.request.now _ c.args.system.now c.reply_of-in-Write.result c.in-Write.is
    (λ n. absurd n) none is

pub returns-in-Show-clause-needs : goal.returns-in-Show-clause-needs
returns-in-Show-clause-needs c =
    λ none is. shown_not_memory c.show_into.result _ c.shown_reply.result c.shown_reply.ensures
    c.show_into.ensures.not_memory is

pub returns-in-Read-clause-needs : goal.returns-in-Read-clause-needs
returns-in-Read-clause-needs c =
    λ none is. c.read_front.ensures.needs (subst (λ (w : Request). NeedsNone w c.args.system.now) c.in-Read.is none) is
