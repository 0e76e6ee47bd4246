-- Calls from C, one after another, as a run of the system.
use Rattle.std.proofs.Common.{List, [], ◌∷◌, Option, None, Some, inl, inr, refl, ap, subst}
use Rattle.iol_core.specs.declared.events.Event.{Event}
use Rattle.iol_core.specs.declared.events.Reply.{Reply}
use Rattle.iol_system.specs.Promises.{Chain}
use Rattle.iol_system.proofs.Chains.{chain_run}
use Rattle.iol_ffi.specs.Runs.{Calls, CallsAreARun, Denote, StepCall}
use Rattle.iol_ffi.specs.Steps.{CarriesOutOrNot}
use Rattle.iol_ffi.specs.declared.Machine.{Machine}

-- the machine of a handle, or another machine if it has none
abbrev machine_or : Machine → Option Machine → Machine
machine_or m None = m
machine_or m (Some x) = x

-- the events of calls, with their replies, and their chain
record Chained (old : Machine) (cs : List StepCall) (new : Machine) : Type 0 where
  events : List Event
  replies : List Reply
  denote : Denote cs events replies
  chain : Chain old.system events replies new.system

-- one more call, before the others
call_first : (old mid new : Machine) (c : StepCall) (cs : List StepCall)
    → CarriesOutOrNot c.event c.bytes c.names c.reply c.out (Some old) (Some mid) → Chained mid cs new
    → Chained old (c ∷ cs) new
call_first old mid new c cs (inl step) rest = record {
  events = step.event ∷ rest.events;
  replies = step.takes.reply ∷ rest.replies;
  denote =
      inr (
        step.event,
        step.takes.reply,
        rest.events,
        rest.replies,
        refl,
        refl,
        step.is,
        step.takes.encodes,
        rest.denote,
      );
  chain = (mid.system, step.takes.steps, rest.chain);
}
call_first old mid new c cs (inr not) rest = record {
  events = rest.events;
  replies = rest.replies;
  denote = inl (not.1, rest.denote);
  chain = subst (λ (m : Machine). Chain m.system rest.events rest.replies new.system) (ap (machine_or old) not.0)
      rest.chain;
}

chained : (old new : Machine) (cs : List StepCall) → Calls old cs new → Chained old cs new
chained old new [] calls =
    record { events = []; replies = []; denote = (refl, refl); chain = ap (λ (m : Machine). m.system) calls }
chained old new (c ∷ cs) calls = call_first old calls.0 new c cs calls.1 (chained calls.0 new cs calls.2)

pub calls_run : CallsAreARun
calls_run old new cs calls =
    let it : Chained old cs new = chained old new cs calls in record {
      events = it.events;
      replies = it.replies;
      denote = it.denote;
      chain = it.chain;
      run = chain_run old.system new.system it.events it.replies it.chain;
    }
