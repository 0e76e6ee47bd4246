-- While a connection is not accepted, all its input is unread, and nothing was sent.
use Rattle.std.proofs.Common.{inl, inr, ◌≡◌, ◌≢◌, ℕ, ◌==◌, ◌<◌, ◌≤◌, List, [], ◌∷◌, ◌++◌, take, ap, ◌∙◌, refl, sym}
use Rattle.std.proofs.Common.{subst, arith, true, false, Bool, append_assoc}
use Rattle.std.specs.Prelude.{if◌then◌else◌, Result, Ok, Err}
use Rattle.std.proofs.lemmas.Bool.{cases_eq, cases_lt}
use Rattle.std.proofs.lemmas.Bool.Decides.{nat_tests}
use Rattle.std.proofs.lemmas.List.{append-nil}
use Rattle.iol_core.specs.Text.{Text, bytes_of}
use Rattle.iol_core.specs.State.{State, Connection, conn_at, with_conn}
use Rattle.iol_core.specs.Meaning.{Meaning, Step}
use Rattle.iol_core.specs.Run.{meaning, StepsTo, Run, outcome}
use Rattle.iol_core.specs.Calls.Outside.{conn_new, closed_by}
use Rattle.iol_core.specs.declared.refusals.Refusal.{Refusal}
use Rattle.iol_core.specs.declared.descriptors.How.{How}
use Rattle.iol_core.specs.declared.descriptors.How.TheVariants as ways
use Rattle.iol_core.specs.declared.events.Call.{Call}
use Rattle.iol_core.specs.declared.events.Event.{Event}
use Rattle.iol_core.specs.declared.events.Event.TheVariants as event
use Rattle.iol_core.specs.declared.events.Reply.{Reply}
use Rattle.iol_core.specs.declared.events.Reply.TheVariants as reply
use Rattle.iol_laws.proofs.Runs.{run_keeps}
use Rattle.iol_laws.specs.Order.{Once, IsOrderly}
use Rattle.iol_laws.specs.Others.{ComesIn}
use Rattle.iol_laws.specs.History.{came_by, sent_by, stream_of, sent_of, IsAllUnread}
use Rattle.iol_laws.proofs.Streams.Accept.{IsAccepted, accepted-with_conn, accepted_called, accepted_outcome}
use Rattle.iol_laws.proofs.Connections.{conns_conn, conn-push, conn-unmade, after-with_conn}
use Rattle.iol_laws.proofs.Frame.Steps.{leaves_step}
use Rattle.iol_laws.proofs.Streams.NextNumber.{next_step}
use Rattle.iol_laws.proofs.Order.Steps.{orderly_step}
use Rattle.iol_laws.proofs.Streams.OtherCalls.{other_waiting}
use Rattle.iol_laws.proofs.Streams.Outside.{does_arrive, does_transmit}
use Rattle.iol_laws.proofs.Streams.Remains.{Went, went-out}

-- An accepted connection stays accepted, whatever the event.

accepted_conn_new : (s : State) (p c : ℕ) → c < s.next_conn → IsAccepted s c → IsAccepted (conn_new s p).after c
accepted_conn_new s p c made was =
    ap (λ (k : Connection). k.accepted) (conn-push s p c (λ same. omega (arith, made, same))) ∙ was

accepted_meant : (s : State) (e : Event) (c : ℕ) → IsOrderly s → c < s.next_conn → IsAccepted s c
    → IsAccepted (meaning s e).after c
accepted_meant s (event.Call d k) c order made was = accepted_called s d k c order.once was
accepted_meant s (event.ConnNew p) c order made was = accepted_conn_new s p c made was
accepted_meant s (event.Arrive e bytes) c order made was =
    accepted-with_conn s e _ c order.once (λ same. ap (λ n. (conn_at s n).accepted) same ∙ was) was
accepted_meant s (event.PeerClosed e ways.Done) c order made was =
    accepted-with_conn s e (closed_by (conn_at s e) ways.Done) c order.once
    (λ same. ap (λ n. (conn_at s n).accepted) same ∙ was) was
accepted_meant s (event.PeerClosed e ways.Gone) c order made was =
    accepted-with_conn s e (closed_by (conn_at s e) ways.Gone) c order.once
    (λ same. ap (λ n. (conn_at s n).accepted) same ∙ was) was
accepted_meant s (event.Transmit e max) c order made was =
    accepted-with_conn s e _ c order.once (λ same. ap (λ n. (conn_at s n).accepted) same ∙ was) was
accepted_meant s other c order made was = was

accepted_step : (s t : State) (e : Event) (r : Reply) (c : ℕ) → IsOrderly s → StepsTo s e r t → c < s.next_conn
    → IsAccepted s c → IsAccepted t c
accepted_step s t e r c order step made was =
    accepted_outcome (meaning s e) s t (outcome r) c (accepted_meant s e c order made was) was step

accepted_run : (old new : State) (es : List Event) (rs : List Reply) (c : ℕ) → IsOrderly old → Run old es rs new
    → c < old.next_conn → IsAccepted old c → IsAccepted new c
accepted_run old new es rs c order run made was =
    (run_keeps (λ s. IsOrderly s × (c < s.next_conn) × IsAccepted s c)
    (λ s t e r has step. (let more = next_step s t e r step in let made = has.1 in
    (orderly_step s t e r has.0 step, omega (arith, made, more), accepted_step s t e r c has.0 step made has.2)))
    old new es rs (order, made, was) run).2

-- Steps after which the connection is still not accepted.

unread_all_same : (s t : State) (c : ℕ) → (conn_at t c).incoming ≡ (conn_at s c).incoming → IsAllUnread s c [] [] t
unread_all_same s t c same =
    record {
      unread = ap (λ (l : Text). bytes_of l) same ∙ sym (append-nil (bytes_of (conn_at s c).incoming));
      none =
          refl;
    }

-- the number of a connection that is not accepted is below the next one
made_of : (s : State) (c : ℕ) → IsOrderly s → (conn_at s c).accepted ≡ false → c < s.next_conn
made_of s c order waits = elim (cases_lt c s.next_conn) [
  | inl made ↦ made
  | inr past ↦ absurd (let e = ap (λ (k : Connection). k.accepted) (conn-unmade s c (order.conns c past)) in
      cc (e, waits))
]

unread_all_conn_new : (s t : State) (p : ℕ) (r : Reply) (c : ℕ) → IsOrderly s → StepsTo s (event.ConnNew p) r t
    → (conn_at s c).accepted ≡ false → IsAllUnread s c [] [] t
unread_all_conn_new s t p r c order step waits =
    let made = made_of s c order waits in
    unread_all_same s t c
    (ap (λ (x : Connection). x.incoming)
    ((leaves_step s t (event.ConnNew p) r step).conns c
    (apart_from s.next_conn (λ same. omega (arith, made, same)))))
  where
    apart_from : (n : ℕ) → n ≢ c → (n == c) ≡ false
    apart_from n differ = grind (arith, nat_tests, differ)

unread_all_arrive : (s t : State) (e : ℕ) (bytes : List ℕ) (r : Reply) (c : ℕ) → IsOrderly s
    → StepsTo s (event.Arrive e bytes) r t → IsAllUnread s c (came_by c (event.Arrive e bytes) r) [] t
unread_all_arrive s t e bytes (reply.Count k) c order step = by (e == c) refl
  where
    came : ComesIn s e (take k bytes) t
    came = does_arrive s t e bytes (reply.Count k) order step

    by : (b : Bool) → (e == c) ≡ b → IsAllUnread s c (if b then take k bytes else []) [] t
    by true is =
        let same : e ≡ c = grind (arith, nat_tests, is) in
        subst (λ n. IsAllUnread s n (take k bytes) [] t) same
        (record { unread = ap (λ (x : Connection). bytes_of x.incoming) came.conn ∙ came.bytes_are; none = refl })
    by false is =
        unread_all_same s t c
        (ap (λ (x : Connection). x.incoming) ((leaves_step s t (event.Arrive e bytes) (reply.Count k) step).conns c is))
unread_all_arrive s t e bytes (reply.Refused x) c order step =
    unread_all_same s t c (ap (λ (u : State). (conn_at u c).incoming) step.1)
unread_all_arrive s t e bytes r c order step = (let e = step.1 in absurd (cc))

unread_all_transmit : (s t : State) (e max : ℕ) (r : Reply) (c : ℕ) → IsOrderly s → StepsTo s (event.Transmit e max) r t
    → (conn_at s c).accepted ≡ false → IsAllUnread s c [] (sent_by c (event.Transmit e max) r) t
unread_all_transmit s t e max (reply.Segment bytes sum) c order step waits = by (e == c) refl
  where
    went : Went s e bytes t
    went = went-out s t e max bytes order (does_transmit s t e max (reply.Segment bytes sum) order step)

    by : (b : Bool) → (e == c) ≡ b → IsAllUnread s c [] (if b then bytes else []) t
    by true is =
        let same : e ≡ c = grind (arith, nat_tests, is) in
        absurd (went.some (ap (λ n. (conn_at s n).outgoing) same ∙ order.silent c waits))
    by false is =
        unread_all_same s t c
        (ap (λ (x : Connection). x.incoming)
        ((leaves_step s t (event.Transmit e max) (reply.Segment bytes sum) step).conns c is))
unread_all_transmit s t e max (reply.Refused x) c order step waits =
    unread_all_same s t c (ap (λ (u : State). (conn_at u c).incoming) step.1)
unread_all_transmit s t e max r c order step waits = (let e = step.1 in absurd (cc))

-- a change that keeps the input, for a connection that is not accepted afterwards
unread_all_with_conn : (s : State) (e : ℕ) (x : Connection) (c : ℕ) → Once s.conns → x.incoming ≡ (conn_at s e).incoming
    → (conn_at (with_conn s e x) c).accepted ≡ false → (conn_at (with_conn s e x) c).incoming ≡ (conn_at s c).incoming
unread_all_with_conn s e x c once x_is waits = elim (cases_eq e c) [
  | inr differ ↦ ap (λ (k : Connection). k.incoming) (conns_conn s e x c differ)
  | inl same ↦ elim (after-with_conn s e x once) [
    | inl is ↦ subst (λ n. (conn_at (with_conn s e x) n).incoming ≡ (conn_at s n).incoming) same
        (ap (λ (k : Connection). k.incoming) is ∙ x_is)
    | inr none ↦ absurd (let a = ap (λ n. (conn_at (with_conn s e x) n).accepted) same in let b =
        ap (λ (k : Connection). k.accepted) none in cc (a, b, waits))
  ]
]

closed_by-incoming : (x : Connection) (how : How) → (closed_by x how).incoming ≡ x.incoming
closed_by-incoming x ways.Done = refl
closed_by-incoming x ways.Gone = refl

unread_all_peer_closed : (s t : State) (e : ℕ) (how : How) (r : Result Reply Refusal) (c : ℕ) → IsOrderly s
    → Step (meaning s (event.PeerClosed e how)) s r t → (conn_at t c).accepted ≡ false → IsAllUnread s c [] [] t
unread_all_peer_closed s t e how (Ok a) c order step waits =
    let x : Connection = closed_by (conn_at s e) how in
    let still = subst (λ (u : State). (conn_at u c).accepted ≡ false) step.2 waits in
    unread_all_same s t c (ap (λ (u : State). (conn_at u c).incoming) step.2
    ∙ unread_all_with_conn s e x c order.once (closed_by-incoming (conn_at s e) how) still)
unread_all_peer_closed s t e how (Err x) c order step waits =
    unread_all_same s t c (ap (λ (u : State). (conn_at u c).incoming) step.1)

-- an event that changes nothing
unread_all_after : (s t : State) (m : Meaning Reply) (r : Result Reply Refusal) (c : ℕ) → m.after ≡ s → Step m s r t
    → IsAllUnread s c [] [] t
unread_all_after s t m (Ok a) c same step =
    unread_all_same s t c (ap (λ (u : State). (conn_at u c).incoming) (step.2 ∙ same))
unread_all_after s t m (Err x) c same step = unread_all_same s t c (ap (λ (u : State). (conn_at u c).incoming) step.1)

unread_all_call : (s t : State) (d : ℕ) (k : Call) (r : Reply) (c : ℕ) → IsOrderly s → StepsTo s (event.Call d k) r t
    → (conn_at s c).accepted ≡ false → (conn_at t c).accepted ≡ false → IsAllUnread s c [] [] t
unread_all_call s t d k r c order step waits still = elim (other_waiting s t d k r c order step waits) [
  | inl same ↦ unread_all_same s t c (ap (λ (x : Connection). x.incoming) same)
  | inr taken ↦ absurd (cc (taken, still))
]

unread_all_step : (s t : State) (e : Event) (r : Reply) (c : ℕ) → IsOrderly s → StepsTo s e r t
    → (conn_at s c).accepted ≡ false → (conn_at t c).accepted ≡ false
    → IsAllUnread s c (came_by c e r) (sent_by c e r) t
unread_all_step s t (event.Call d k) r c order step waits still = unread_all_call s t d k r c order step waits still
unread_all_step s t (event.ConnNew p) r c order step waits still = unread_all_conn_new s t p r c order step waits
unread_all_step s t (event.Arrive e bytes) r c order step waits still = unread_all_arrive s t e bytes r c order step
unread_all_step s t (event.PeerClosed e how) r c order step waits still =
    unread_all_peer_closed s t e how (outcome r) c order step still
unread_all_step s t (event.Transmit e max) r c order step waits still =
    unread_all_transmit s t e max r c order step waits
unread_all_step s t event.Flush r c order step waits still =
    unread_all_after s t (meaning s event.Flush) (outcome r) c refl step
unread_all_step s t event.DropClean r c order step waits still =
    unread_all_after s t (meaning s event.DropClean) (outcome r) c refl step

-- Over a run.

unread_all_then : (s t u : State) (c : ℕ) (came sent more out : List ℕ) → IsAllUnread s c came sent t
    → IsAllUnread t c more out u → IsAllUnread s c (came ++ more) (sent ++ out) u
unread_all_then s t u c came sent more out one two = record {
  unread =
      two.unread
      ∙ (ap (λ (l : List ℕ). l ++ more) one.unread ∙ append_assoc (bytes_of (conn_at s c).incoming) came more);
  none = ap (λ (l : List ℕ). l ++ out) one.none ∙ two.none;
}

pub waiting_run : (old new : State) (es : List Event) (rs : List Reply) (c : ℕ) → IsOrderly old → Run old es rs new
    → (conn_at old c).accepted ≡ false → (conn_at new c).accepted ≡ false
    → IsAllUnread old c (stream_of c es rs) (sent_of c es rs) new
unfolding stream_of sent_of
waiting_run old new [] [] c order run waits still =
    unread_all_same old new c (ap (λ (u : State). (conn_at u c).incoming) run)
waiting_run old new (e ∷ es) (r ∷ rs) c order run waits still =
    by (conn_at run.0 c).accepted refl (waiting_run run.0 new es rs c (orderly_step old run.0 e r order run.1) run.2)
  where
    made : c < old.next_conn
    made = made_of old c order waits

    more : old.next_conn ≤ run.0.next_conn
    more = next_step old run.0 e r run.1

    then_on : IsOrderly run.0
    then_on = orderly_step old run.0 e r order run.1

    by : (b : Bool) → (conn_at run.0 c).accepted ≡ b
        → ((conn_at run.0 c).accepted ≡ false → (conn_at new c).accepted ≡ false
        → IsAllUnread run.0 c (stream_of c es rs) (sent_of c es rs) new)
        → IsAllUnread old c (came_by c e r ++ stream_of c es rs) (sent_by c e r ++ sent_of c es rs) new
    by true is rest = absurd (let e = accepted_run run.0 new es rs c then_on run.2 (omega (arith, made, more)) is in
        cc (e, still))
    by false is rest =
        unread_all_then old run.0 new c (came_by c e r) (sent_by c e r) (stream_of c es rs) (sent_of c es rs)
        (unread_all_step old run.0 e r c order run.1 waits is) (rest is still)
waiting_run old new [] (r ∷ rs) c order run waits still = absurd run
waiting_run old new (e ∷ es) [] c order run waits still = absurd run
