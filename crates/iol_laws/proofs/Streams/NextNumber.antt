-- No event lowers the next number of a connection.
use Rattle.std.proofs.Common.{◌≤◌, sym, subst, arith}
use Rattle.std.specs.Prelude.{Result, Ok, Err}
use Rattle.iol_core.specs.State.{State, with_conn, with_domain, with_pipe, with_content}
use Rattle.iol_core.specs.Meaning.{Meaning, Step}
use Rattle.iol_core.specs.Run.{meaning, StepsTo, outcome}
use Rattle.iol_core.specs.declared.refusals.Refusal.{Refusal}
use Rattle.iol_core.specs.declared.events.Event.{Event}
use Rattle.iol_core.specs.declared.events.Reply.{Reply}
use Rattle.iol_laws.proofs.Changes.{Change, NewConn, changed, kept_always}

next_changed : (s : State) (c : Change) → s.next_conn ≤ (changed s c).next_conn
unfolding with_domain with_pipe with_conn with_content
next_changed s (NewConn p) = omega arith
next_changed s c = omega arith

-- the next number does not fall
next_meant : (s : State) (e : Event) → s.next_conn ≤ (meaning s e).after.next_conn
next_meant s e =
    kept_always (λ t. s.next_conn ≤ t.next_conn)
    (λ t c more. (let rises = next_changed t c in omega (arith, more, rises))) s e (omega arith)

next_outcome : (m : Meaning Reply) (old new : State) (r : Result Reply Refusal) → old.next_conn ≤ m.after.next_conn
    → Step m old r new → old.next_conn ≤ new.next_conn
next_outcome m old new (Ok a) more step = subst (λ (s : State). old.next_conn ≤ s.next_conn) (sym step.2) more
next_outcome m old new (Err x) more step = subst (λ (s : State). old.next_conn ≤ s.next_conn) (sym step.1) (omega arith)

pub next_step : (s t : State) (e : Event) (r : Reply) → StepsTo s e r t → s.next_conn ≤ t.next_conn
next_step s t e r step = next_outcome (meaning s e) s t (outcome r) (next_meant s e) step
