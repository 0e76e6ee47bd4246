-- A connection whose peer is reported as gone is removed, or its peer is gone.
use Rattle.std.proofs.Common.{◌≡◌, ℕ, ◌+◌, ◌<◌, List, [], ◌∷◌, map, Option, None, Some, Result, Ok, Err, MatchOption}
use Rattle.std.proofs.Common.{◌⊎◌, Bool, true, false, inl, inr, refl, sym, ap, subst, arith, is_none, unwrap_or}
use Rattle.std.proofs.Common.{if◌then◌else◌}
use Rattle.std.proofs.lemmas.Bool.Decides.{nat_tests}
use Rattle.std.proofs.lemmas.Grind.{common_steps}
use Rattle.iol_core.specs.NumberedLists.{lookup, without, changed}
use Rattle.iol_core.specs.State.{State, Connection, no_conn, conn_at, is_gone, is_over, with_conn}
use Rattle.iol_core.specs.Calls.Outside.{lacks_conn, closed_by}
use Rattle.iol_core.specs.declared.descriptors.How.TheVariants.{Gone}
use Rattle.iol_core.specs.Meaning.{◌when◌, Step, first}
use Rattle.iol_core.specs.Run.{meaning, outcome}
use Rattle.iol_core.specs.declared.events.Event.TheVariants as event
use Rattle.iol_core.specs.declared.events.Reply.{Reply}
use Rattle.iol_core.specs.declared.refusals.Refusal.{Refusal}
use Rattle.iol_core.specs.declared.refusals.Refusal.TheVariants.{BadFd}
use Rattle.iol_laws.specs.Order.{Once}
use Rattle.iol_laws.proofs.Connections.{forgotten}
use Rattle.iol_laws.proofs.Places.{lookup-changed_same}
use Rattle.iol_system.specs.Machine.{tables_of}
use Rattle.iol_system.specs.Prelude.{IsSound, KernelState, Rises, StepsBeside, read_of, state_view, with_slots}
use Rattle.iol_serve.specs.Service.{HasEnded}

-- no entry below the first of ascending numbers
lookup_low : {A : Type 0} (es : List (ℕ × A)) (from to n : ℕ) → Rises from es to → n < from → lookup es n ≡ None
lookup_low [] from to n rises low = refl
lookup_low (e ∷ es) from to n rises low =
    let rest = lookup_low es (e.0 + 1) to n rises.1 (omega (arith, low, rises.0)) in
    grind (arith, nat_tests, common_steps, rest, low)

pub once_rising : {A : Type 0} (es : List (ℕ × A)) (from to : ℕ) → Rises from es to → Once es
once_rising [] from to rises = tt
once_rising (e ∷ es) from to rises =
    (lookup_low es (e.0 + 1) to e.0 rises.1 (omega arith), once_rising es (e.0 + 1) to rises.1)

pub rises_map : {A B : Type 0} (f : A → B) (es : List (ℕ × A)) (from to : ℕ) → Rises from es to
    → Rises from (map (λ e. (e.0, f e.1)) es) to
rises_map f [] from to rises = rises
rises_map f (e ∷ es) from to rises = (rises.0, rises_map f es (e.0 + 1) to rises.1)

pub ended_gone : (s : State) (c : ℕ) → Once s.conns → lacks_conn s c ≡ false
    → HasEnded (with_conn s c (closed_by (conn_at s c) Gone)) c
unfolding with_conn conn_at
ended_gone s c once there = by (is_over x) (lookup s.conns c) refl there
  where
    x : Connection
    x = closed_by (conn_at s c) Gone

    by : (over : Bool) (found : Option Connection) → lookup s.conns c ≡ found → is_none found ≡ false
        → (is_none (lookup (if over then without s.conns c else changed s.conns c x) c) ≡ true)
        ⊎ (is_gone (unwrap_or (lookup (if over then without s.conns c else changed s.conns c x) c) no_conn).peer
        ≡ true)
    by true found is some = inl (ap is_none (forgotten s.conns c once))
    by false (Some y) is some =
        inr (ap (λ (z : Option Connection). is_gone (unwrap_or z no_conn).peer) (lookup-changed_same s.conns c x y is))
    by false None is some = absurd (cc some)

-- if the connection exists, the call is not refused
not_refused : (b : Bool) (x : Refusal) → b ≡ false → MatchOption (first ((BadFd when b) ∷ [])) ⊥ (λ y. x ≡ y) → ⊥
not_refused true x there refused = absurd (cc there)
not_refused false x there refused = refused

gone_after : (s t : State) (c : ℕ) (o : Result Reply Refusal) → Once s.conns → lacks_conn s c ≡ false
    → Step (meaning s (event.PeerClosed c Gone)) s o t → HasEnded t c
gone_after s t c (Ok a) once there step = subst (λ (u : State). HasEnded u c) (sym step.2) (ended_gone s c once there)
gone_after s t c (Err x) once there step = absurd (not_refused (lacks_conn s c) x there step.0)

-- over any store
pub ended_beside : (old new : KernelState) (c : ℕ) (r : Reply) → IsSound old → lacks_conn (tables_of old) c ≡ false
    → StepsBeside (λ s. meaning s (event.PeerClosed c Gone)) old (outcome r) new → HasEnded (tables_of new) c
unfolding with_slots conn_at read_of state_view
ended_beside old new c r sound there b =
    gone_after (with_slots b.before old) (with_slots b.after new) c (outcome r)
    (once_rising _ 0 _ (rises_map _ old.conns 0 _ sound.limits.objects.rising)) there b.step
