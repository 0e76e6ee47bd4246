-- The bytes that were read are at the front.
use Rattle.std.proofs.Common.{◌≡◌, ◌-◌, ◌^◌, ◌++◌, ℕ, length, take, drop, min, refl, subst, arith, length-append}
use Rattle.std.proofs.lemmas.List.{length-take-le}
use Rattle.iol_core.specs.declared.events.Call.TheVariants as call
use Rattle.iol_core.specs.declared.events.Event.TheVariants as event
use Rattle.iol_core.specs.declared.events.Reply.TheVariants as reply
use Rattle.iol_kernel.specs.FileReads.{first_of}
use Rattle.iol_system.specs.Promises.{Promises}
use Rattle.iol_system.specs.Replies.{reported}
use Rattle.iol_ffi.proofs.Executed.{executed, read_in}
use Rattle.iol_ffi.proofs.Memory.{read_not_memory}
use Rattle.iol_ffi.proofs.calls.read_front.Goals as goal

pub returns-clause-executes : goal.returns-clause-executes
returns-clause-executes c =
    let out = c.args.out.now in
    let memory = take c.args.count out in
    let filled = c.read_into.new.out in
    let rest = drop c.args.count out in
    let old = c.args.system.now in
    let new = c.read_into.new.self in
    let e = c.read_into.ensures in
    let long : length memory ≡ c.args.count = length-take-le c.args.count out c.requires in
    let most : min (length memory) (2 ^ 32 - 1) ≡ c.args.count = omega (arith, long) in
    let x = reported reply.Bytes (first_of filled c.read_into.result) in
    let step = subst (λ (n : ℕ). Promises old (event.Call c.args.by (call.Read c.args.fd n)) x new) most e.step in
    let encodes = read_in c.args.by c.args.fd memory filled rest (filled ++ rest) old new c.read_into.result
    c.read_reply.result refl e c.read_reply.ensures in
    executed old new (event.Call c.args.by (call.Read c.args.fd c.args.count)) x c.read_reply.result (filled ++ rest)
    step encodes (omega (arith, length-append filled rest, e.len, long))

pub returns-clause-needs : goal.returns-clause-needs
returns-clause-needs c =
    λ none is. read_not_memory c.read_into.result c.read_reply.result c.read_reply.ensures
    (c.read_into.ensures.not_memory none) is
