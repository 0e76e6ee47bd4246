-- Whole runs: "hello" through a pipe, a reader that the pool does not list, a closed pool, aggregates split and joined,
-- pipes whose ends are closed, and lists that grow.
use Rattle.std.proofs.Common.{◌≡◌, ℕ, List, [], ◌∷◌, ◌++◌, map, refl}
use Rattle.std.specs.List.{range_with_len}
use Rattle.std.specs.Prelude.{codes, is_some, unwrap_or, option_map, if◌then◌else◌}
use Rattle.iol_core.specs.State.{State, new_state, no_slots, domain, pool, file, content, pipe_at, conn_at, with_domain}
use Rattle.iol_core.specs.State.{with_pipe, with_conn, with_content}
use Rattle.iol_core.specs.Meaning.{Meaning, first}
use Rattle.iol_core.specs.Run.{meaning}
use Rattle.iol_core.specs.declared.events.Event.{Event}
use Rattle.iol_core.specs.declared.events.Event.TheVariants as event
use Rattle.iol_core.specs.declared.events.Call.TheVariants as call
use Rattle.iol_core.specs.declared.events.Reply.{Reply}
use Rattle.iol_core.specs.declared.events.Reply.TheVariants as reply
use Rattle.iol_core.specs.declared.refusals.Refusal.TheVariants as refusal

-- the reply if pages, memory and the store suffice: the first refusal, or the answer
abbrev reply_to : Meaning Reply → Reply
reply_to m = unwrap_or (option_map reply.Refused (first m.refusals)) m.answer

abbrev state_after : State → Meaning Reply → State
state_after s m = if is_some (first m.refusals) then s else m.after

abbrev replies : State → List Event → List Reply
replies s [] = []
replies s (e ∷ es) = reply_to (meaning s e) ∷ replies (state_after s (meaning s e)) es

-- in a run from the first state, each event has the reply next to it
abbrev Answers : List (Event × Reply) → Type 0
Answers rows = replies (new_state no_slots) (map (λ row. row.0) rows) ≡ map (λ row. row.1) rows

-- domain 1 makes n domains
abbrev new_domains : ℕ → List (Event × Reply)
new_domains n = map (λ d. (event.Call 1 call.DomainNew, reply.Domain d)) (range_with_len 2 n)

-- domain 1 makes its first aggregate, "hello", in a pool for these domains
abbrev hello_in : List ℕ → List (Event × Reply)
hello_in list =
    (event.Call 1 (call.PoolCreate 1 list), reply.Pool 1) ∷
    (event.Call 1 (call.SetPool 1), reply.Done) ∷
    (event.Call 1 (call.AggMake (codes "hello")), reply.Agg 1) ∷ []

hello_through_a_pipe :
    Answers (
    new_domains 1 ++ hello_in (1 ∷ 2 ∷ []) ++
    (event.Call 1 call.Pipe, reply.Fds 0 1) ∷
    (event.Call 1 (call.GiveFd 0 2), reply.Fd 0) ∷
    (event.Call 1 (call.IolWrite 1 1), reply.Count 5) ∷
    (event.Call 2 (call.IolRead 0 3), reply.Agg 1) ∷
    (event.Call 2 (call.Show 1), reply.Bytes (codes "hel")) ∷
    (event.Call 2 (call.IolRead 0 9), reply.Agg 2) ∷
    (event.Call 2 (call.Show 2), reply.Bytes (codes "lo")) ∷ [])
unfolding domain pool file content pipe_at conn_at with_domain with_pipe with_conn with_content
hello_through_a_pipe = refl

reader_not_named :
    Answers (
    new_domains 2 ++ hello_in (1 ∷ 2 ∷ []) ++
    (event.Call 1 call.Pipe, reply.Fds 0 1) ∷
    (event.Call 1 (call.IolWrite 1 1), reply.Count 5) ∷
    (event.Call 1 (call.GiveFd 0 3), reply.Fd 0) ∷
    (event.Call 3 (call.IolRead 0 9), reply.Refused (refusal.Denied 1)) ∷
    (event.Call 3 (call.GiveFd 0 2), reply.Fd 0) ∷
    (event.Call 2 (call.IolRead 0 9), reply.Agg 1) ∷
    (event.Call 2 (call.Show 1), reply.Bytes (codes "hello")) ∷ [])
unfolding domain pool file content pipe_at conn_at with_domain with_pipe with_conn with_content
reader_not_named = refl

-- the bytes of a closed pool stay readable until their aggregate is dropped, and its number is not used again
closed_pool_stays_readable :
    Answers (
    hello_in (1 ∷ []) ++
    (event.Call 1 (call.PoolClose 1), reply.Done) ∷
    (event.Call 1 (call.PoolClose 1), reply.Refused (refusal.PoolClosed 1)) ∷
    (event.Call 1 (call.AggMake (codes "more")), reply.Refused (refusal.PoolClosed 1)) ∷
    (event.Call 1 (call.Show 1), reply.Bytes (codes "hello")) ∷
    (event.Call 1 (call.AggDrop 1), reply.Done) ∷
    (event.Call 1 (call.Show 1), reply.Refused refusal.BadAgg) ∷
    (event.Call 1 (call.AggDrop 1), reply.Refused refusal.BadAgg) ∷
    (event.Call 1 (call.PoolCreate 1 (1 ∷ [])), reply.Pool 2) ∷
    (event.Call 1 (call.SetPool 2), reply.Done) ∷
    (event.Call 1 (call.AggMake (codes "more")), reply.Agg 2) ∷ [])
unfolding domain pool file content pipe_at conn_at with_domain with_pipe with_conn with_content
closed_pool_stays_readable = refl

-- each new aggregate has a new number; an aggregate that was split, joined or given is consumed
aggregates_rearranged :
    Answers (
    hello_in (1 ∷ []) ++
    (event.Call 1 (call.AggSplit 1 2), reply.Aggs 2 3) ∷
    (event.Call 1 (call.Show 1), reply.Refused refusal.BadAgg) ∷
    (event.Call 1 (call.AggJoin 3 2), reply.Agg 4) ∷
    (event.Call 1 (call.Show 4), reply.Bytes (codes "llohe")) ∷
    (event.Call 1 (call.AggCut 4 1 3), reply.Agg 5) ∷
    (event.Call 1 (call.AggReplace 4 0 3 5), reply.Agg 6) ∷
    (event.Call 1 (call.Show 6), reply.Bytes (codes "lohe")) ∷
    (event.Call 1 (call.AggDup 6), reply.Agg 7) ∷
    (event.Call 1 (call.AggGive 6 1), reply.Agg 8) ∷
    (event.Call 1 (call.Show 6), reply.Refused refusal.BadAgg) ∷
    (event.Call 1 (call.Show 8), reply.Bytes (codes "lohe")) ∷ [])
unfolding domain pool file content pipe_at conn_at with_domain with_pipe with_conn with_content
aggregates_rearranged = refl

-- the bytes that an ended domain wrote can be read, and then the pipe is at its end
exit_ends_a_pipe :
    Answers (
    new_domains 1 ++ hello_in (1 ∷ 2 ∷ []) ++
    (event.Call 1 (call.AggGive 1 2), reply.Agg 1) ∷
    (event.Call 1 call.Pipe, reply.Fds 0 1) ∷
    (event.Call 1 (call.GiveFd 1 2), reply.Fd 0) ∷
    (event.Call 2 (call.IolWrite 0 1), reply.Count 5) ∷
    (event.Call 2 call.Exit, reply.Done) ∷
    (event.Call 2 call.Exit, reply.Refused refusal.NoDomain) ∷
    (event.Call 1 (call.IolRead 0 9), reply.Agg 2) ∷
    (event.Call 1 (call.Show 2), reply.Bytes (codes "hello")) ∷
    (event.Call 1 (call.IolRead 0 9), reply.Agg 3) ∷
    (event.Call 1 (call.Show 3), reply.Bytes []) ∷ [])
unfolding domain pool file content pipe_at conn_at with_domain with_pipe with_conn with_content
exit_ends_a_pipe = refl

-- a write to a pipe without a read end is refused; when both ends are closed, the pipe is removed
close_breaks_a_pipe :
    Answers (
    hello_in (1 ∷ []) ++
    (event.Call 1 call.Pipe, reply.Fds 0 1) ∷
    (event.Call 1 (call.Close 0), reply.Done) ∷
    (event.Call 1 (call.IolWrite 1 1), reply.Refused refusal.BrokenPipe) ∷
    (event.Call 1 (call.Close 1), reply.Done) ∷
    (event.Call 1 (call.Close 1), reply.Refused refusal.BadFd) ∷
    (event.Call 1 call.Pipe, reply.Fds 0 1) ∷ [])
unfolding domain pool file content pipe_at conn_at with_domain with_pipe with_conn with_content
close_breaks_a_pipe = refl

-- a domain that was admitted can get bytes that were already in the pool; only a listed domain can admit others
admitted_then_given :
    Answers (
    new_domains 1 ++
    (event.Call 1 (call.PoolCreate 1 (1 ∷ [])), reply.Pool 1) ∷
    (event.Call 1 (call.SetPool 1), reply.Done) ∷
    (event.Call 1 (call.AggMake (codes "a")), reply.Agg 1) ∷
    (event.Call 1 (call.AggGive 1 2), reply.Refused (refusal.Denied 1)) ∷
    (event.Call 2 (call.PoolAdmit 1 2), reply.Refused (refusal.Denied 1)) ∷
    (event.Call 1 (call.PoolAdmit 1 9), reply.Refused refusal.NoDomain) ∷
    (event.Call 1 (call.PoolAdmit 9 2), reply.Refused refusal.NoPool) ∷
    (event.Call 1 (call.PoolAdmit 1 2), reply.Done) ∷
    (event.Call 1 (call.PoolAdmit 1 2), reply.Done) ∷
    (event.Call 1 (call.AggGive 1 2), reply.Agg 1) ∷
    (event.Call 2 (call.Show 1), reply.Bytes (codes "a")) ∷
    (event.Call 1 (call.PoolClose 1), reply.Done) ∷
    (event.Call 1 (call.PoolAdmit 1 2), reply.Refused (refusal.PoolClosed 1)) ∷ [])
unfolding domain pool file content pipe_at conn_at with_domain with_pipe with_conn with_content
admitted_then_given = refl

-- a list of sixteen domains refuses another one, and accepts one that it already has
list_of_sixteen :
    Answers (
    new_domains 16 ++ (
      event.Call 1 (call.PoolCreate 1 (1 ∷ 2 ∷ 3 ∷ 4 ∷ 5 ∷ 6 ∷ 7 ∷ 8 ∷ 9 ∷ 10 ∷ 11 ∷ 12 ∷ 13 ∷ 14 ∷ 15 ∷ 16 ∷ [])),
      reply.Pool 1,
    ) ∷
    (event.Call 1 (call.PoolAdmit 1 17), reply.Refused refusal.TooMany) ∷
    (event.Call 1 (call.PoolAdmit 1 16), reply.Done) ∷ [])
unfolding domain pool file content pipe_at conn_at with_domain with_pipe with_conn with_content
list_of_sixteen = refl

-- a domain can read bytes in a pipe once it is admitted to their pool
admitted_then_read :
    Answers (
    new_domains 2 ++
    (event.Call 1 (call.PoolCreate 1 (1 ∷ 3 ∷ [])), reply.Pool 1) ∷
    (event.Call 1 (call.PoolCreate 1 (1 ∷ [])), reply.Pool 2) ∷
    (event.Call 1 (call.SetPool 1), reply.Done) ∷
    (event.Call 1 (call.AggMake (codes "aa")), reply.Agg 1) ∷
    (event.Call 1 (call.SetPool 2), reply.Done) ∷
    (event.Call 1 (call.AggMake (codes "bb")), reply.Agg 2) ∷
    (event.Call 1 call.Pipe, reply.Fds 0 1) ∷
    (event.Call 1 (call.IolWrite 1 1), reply.Count 2) ∷
    (event.Call 1 (call.IolWrite 1 2), reply.Count 2) ∷
    (event.Call 1 (call.GiveFd 0 3), reply.Fd 0) ∷
    (event.Call 3 (call.IolRead 0 4), reply.Agg 1) ∷
    (event.Call 3 (call.Show 1), reply.Bytes (codes "aa")) ∷
    (event.Call 3 (call.IolRead 0 4), reply.Refused (refusal.Denied 2)) ∷
    (event.Call 1 (call.PoolAdmit 2 3), reply.Done) ∷
    (event.Call 3 (call.IolRead 0 4), reply.Agg 2) ∷
    (event.Call 3 (call.Show 2), reply.Bytes (codes "bb")) ∷ [])
unfolding domain pool file content pipe_at conn_at with_domain with_pipe with_conn with_content
admitted_then_read = refl
