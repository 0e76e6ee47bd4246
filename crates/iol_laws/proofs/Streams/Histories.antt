-- Histories of connections add up over runs.
use Rattle.std.proofs.Common.{◌≡◌, ℕ, ◌==◌, List, [], ◌∷◌, ◌++◌, take, ap, ◌∙◌, refl, sym, subst, arith, true, false}
use Rattle.std.proofs.Common.{Bool, append_assoc}
use Rattle.std.specs.Prelude.{if◌then◌else◌, Result, Ok, Err}
use Rattle.std.specs.List.{list_any}
use Rattle.std.proofs.lemmas.Bool.Decides.{nat_tests}
use Rattle.std.proofs.lemmas.Grind.{common_steps}
use Rattle.std.proofs.lemmas.List.{append-nil}
use Rattle.iol_core.specs.Text.{Text, bytes_of}
use Rattle.iol_core.specs.State.{State, Connection, conn_at}
use Rattle.iol_core.specs.Meaning.{Meaning, Step, first}
use Rattle.iol_core.specs.Run.{meaning, StepsTo, Run, outcome}
use Rattle.iol_core.specs.declared.refusals.Refusal.{Refusal}
use Rattle.iol_core.specs.declared.events.Event.{Event}
use Rattle.iol_core.specs.declared.events.Event.TheVariants as event
use Rattle.iol_core.specs.declared.events.Reply.{Reply}
use Rattle.iol_core.specs.declared.events.Reply.TheVariants as reply
use Rattle.iol_laws.specs.Order.{IsOrderly}
use Rattle.iol_laws.proofs.Runs.{reported-append, run-even}
use Rattle.iol_laws.specs.Others.{ComesIn}
use Rattle.iol_laws.specs.History.{came_by, sent_by, stream_of, sent_of, drops_unsent, IsEndOf, GoesFirst}
use Rattle.iol_laws.proofs.Frame.Steps.{leaves_step}
use Rattle.iol_laws.proofs.Streams.Outside.{does_arrive, does_transmit}
use Rattle.iol_laws.proofs.Streams.Remains.{Went, went-out}
use Rattle.iol_laws.proofs.Order.Steps.{orderly_step}
use Rattle.iol_laws.proofs.Texts.{bytes-append}
use Rattle.iol_laws.proofs.Streams.UnsentBytes.{IsLonger, longer_same, longer_meant}
use Rattle.iol_laws.proofs.Streams.UnreadBytes.{IsRest, rest_same, rest_meant}

-- Runs in parts.

pub stream-append : (old now : State) (past future : List Event) (rs qs : List Reply) (c : ℕ) → Run old past rs now
    → stream_of c (past ++ future) (rs ++ qs) ≡ stream_of c past rs ++ stream_of c future qs
unfolding stream_of
stream-append old now past future rs qs c run =
    reported-append (λ e r. came_by c e r) (λ es qs. stream_of c es qs)
    (record { none = refl; next = λ e r es rs. refl }) past future rs qs (run-even old now past rs run)

pub sent-append : (old now : State) (past future : List Event) (rs qs : List Reply) (c : ℕ) → Run old past rs now
    → sent_of c (past ++ future) (rs ++ qs) ≡ sent_of c past rs ++ sent_of c future qs
unfolding sent_of
sent-append old now past future rs qs c run =
    reported-append (λ e r. sent_by c e r) (λ es qs. sent_of c es qs) (record { none = refl; next = λ e r es rs. refl })
    past future rs qs (run-even old now past rs run)

-- Unread bytes.

end_of_rest : (s t : State) (c : ℕ) → IsRest s t c
    → IsEndOf (bytes_of (conn_at s c).incoming) [] (bytes_of (conn_at t c).incoming)
end_of_rest s t c rest = record {
  taken = bytes_of rest.front;
  all = append-nil (bytes_of (conn_at s c).incoming)
      ∙ (ap (λ (l : Text). bytes_of l) rest.was ∙ bytes-append rest.front (conn_at t c).incoming);
}

end_outcome : (m : Meaning Reply) (old new : State) (r : Result Reply Refusal) (c : ℕ) → IsRest old m.after c
    → Step m old r new → IsRest old new c
end_outcome m old new (Ok a) c rest step = subst (λ (s : State). IsRest old s c) (sym step.2) rest
end_outcome m old new (Err x) c rest step =
    subst (λ (s : State). IsRest old s c) (sym step.1) (rest_same old old c refl)

-- arriving bytes are at the end of the input
end_arrive : (s t : State) (e : ℕ) (bytes : List ℕ) (r : Reply) (c : ℕ) → IsOrderly s
    → StepsTo s (event.Arrive e bytes) r t
    → IsEndOf (bytes_of (conn_at s c).incoming) (came_by c (event.Arrive e bytes) r) (bytes_of (conn_at t c).incoming)
end_arrive s t e bytes (reply.Count k) c order step = by (e == c) refl
  where
    came : ComesIn s e (take k bytes) t
    came = does_arrive s t e bytes (reply.Count k) order step

    by : (b : Bool) → (e == c) ≡ b
        → IsEndOf (bytes_of (conn_at s c).incoming) (if b then take k bytes else []) (bytes_of (conn_at t c).incoming)
    by true is =
        let same : e ≡ c = grind (arith, nat_tests, is) in
        subst (λ n. IsEndOf (bytes_of (conn_at s n).incoming) (take k bytes) (bytes_of (conn_at t n).incoming)) same
        (record { taken = []; all = sym came.bytes_are ∙ ap (λ (x : Connection). bytes_of x.incoming) (sym came.conn) })
    by false is =
        end_of_rest s t c (rest_same s t c ((leaves_step s t (event.Arrive e bytes) (reply.Count k) step).conns c is))
end_arrive s t e bytes (reply.Refused x) c order step =
    end_of_rest s t c (rest_same s t c (ap (λ (u : State). conn_at u c) step.1))
end_arrive s t e bytes r c order step = (let e = step.1 in absurd (cc))

end_step : (s t : State) (e : Event) (r : Reply) (c : ℕ) → IsOrderly s → StepsTo s e r t
    → IsEndOf (bytes_of (conn_at s c).incoming) (came_by c e r) (bytes_of (conn_at t c).incoming)
end_step s t (event.Arrive e bytes) r c order step = end_arrive s t e bytes r c order step
end_step s t e r c order step =
    end_of_rest s t c (end_outcome (meaning s e) s t (outcome r) c (rest_meant s e c order refl) step)

end_then : (a b one two u : List ℕ) (first : List ℕ) → IsEndOf a one b → IsEndOf b two u → IsEndOf a (one ++ two) u
end_then a b one two u first x y = record {
  taken = x.taken ++ y.taken;
  all = sym (append_assoc a one two)
      ∙ (ap (λ (l : List ℕ). l ++ two) x.all
      ∙ (append_assoc x.taken b two
      ∙ (ap (λ (l : List ℕ). x.taken ++ l) y.all ∙ sym (append_assoc x.taken y.taken u))));
}

pub unread_run : (old new : State) (es : List Event) (rs : List Reply) (c : ℕ) → IsOrderly old → Run old es rs new
    → IsEndOf (bytes_of (conn_at old c).incoming) (stream_of c es rs) (bytes_of (conn_at new c).incoming)
unfolding stream_of
unread_run old new [] [] c order run = end_of_rest old new c (rest_same old new c (ap (λ (u : State). conn_at u c) run))
unread_run old new (e ∷ es) (r ∷ rs) c order run =
    end_then (bytes_of (conn_at old c).incoming) (bytes_of (conn_at run.0 c).incoming) (came_by c e r)
    (stream_of c es rs) (bytes_of (conn_at new c).incoming) []
    (end_step old run.0 e r c order run.1) (unread_run run.0 new es rs c (orderly_step old run.0 e r order run.1) run.2)
unread_run old new [] (r ∷ rs) c order run = absurd run
unread_run old new (e ∷ es) [] c order run = absurd run

-- Queued output.

first_of_longer : (s t : State) (c : ℕ) → IsLonger s t c
    → GoesFirst (bytes_of (conn_at s c).outgoing) [] (bytes_of (conn_at t c).outgoing)
first_of_longer s t c longer = record {
  written = bytes_of longer.more;
  all = sym (bytes-append (conn_at s c).outgoing longer.more) ∙ ap (λ (l : Text). bytes_of l) (sym longer.is);
}

longer_outcome : (m : Meaning Reply) (old new : State) (r : Result Reply Refusal) (c : ℕ) → IsLonger old m.after c
    → Step m old r new → IsLonger old new c
longer_outcome m old new (Ok a) c longer step = subst (λ (s : State). IsLonger old s c) (sym step.2) longer
longer_outcome m old new (Err x) c longer step =
    subst (λ (s : State). IsLonger old s c) (sym step.1) (longer_same old old c refl)

-- a segment is taken from the front of the output
first_transmit : (s t : State) (e max : ℕ) (r : Reply) (c : ℕ) → IsOrderly s → StepsTo s (event.Transmit e max) r t
    → GoesFirst (bytes_of (conn_at s c).outgoing) (sent_by c (event.Transmit e max) r) (bytes_of (conn_at t c).outgoing)
first_transmit s t e max (reply.Segment bytes sum) c order step = by (e == c) refl
  where
    went : Went s e bytes t
    went = went-out s t e max bytes order (does_transmit s t e max (reply.Segment bytes sum) order step)

    by : (b : Bool) → (e == c) ≡ b
        → GoesFirst (bytes_of (conn_at s c).outgoing) (if b then bytes else []) (bytes_of (conn_at t c).outgoing)
    by true is =
        let same : e ≡ c = grind (arith, nat_tests, is) in
        subst (λ n. GoesFirst (bytes_of (conn_at s n).outgoing) bytes (bytes_of (conn_at t n).outgoing)) same
        (record { written = []; all = append-nil (bytes_of (conn_at s e).outgoing) ∙ went.bytes_were })
    by false is =
        first_of_longer s t c
        (longer_same s t c
        (ap (λ (x : Connection). x.outgoing)
        ((leaves_step s t (event.Transmit e max) (reply.Segment bytes sum) step).conns c is)))
first_transmit s t e max (reply.Refused x) c order step =
    first_of_longer s t c (longer_same s t c (ap (λ (u : State). (conn_at u c).outgoing) step.1))
first_transmit s t e max r c order step = (let e = step.1 in absurd (cc))

first_step : (s t : State) (e : Event) (r : Reply) (c : ℕ) → IsOrderly s → StepsTo s e r t → drops_unsent e c ≡ false
    → GoesFirst (bytes_of (conn_at s c).outgoing) (sent_by c e r) (bytes_of (conn_at t c).outgoing)
first_step s t (event.Transmit e max) r c order step kept = first_transmit s t e max r c order step
first_step s t e r c order step kept =
    first_of_longer s t c (longer_outcome (meaning s e) s t (outcome r) c (longer_meant s e c order refl kept) step)

first_then : (a b c one two : List ℕ) → GoesFirst a one b → GoesFirst b two c → GoesFirst a (one ++ two) c
first_then a b c one two x y = record {
  written = x.written ++ y.written;
  all = sym (append_assoc a x.written y.written)
      ∙ (ap (λ (l : List ℕ). l ++ y.written) x.all
      ∙ (append_assoc one b y.written ∙ (ap (λ (l : List ℕ). one ++ l) y.all ∙ sym (append_assoc one two c))));
}

pub unsent_run : (old new : State) (es : List Event) (rs : List Reply) (c : ℕ) → IsOrderly old → Run old es rs new
    → list_any (λ e. drops_unsent e c) es ≡ false
    → GoesFirst (bytes_of (conn_at old c).outgoing) (sent_of c es rs) (bytes_of (conn_at new c).outgoing)
unfolding sent_of
unsent_run old new [] [] c order run kept =
    first_of_longer old new c (longer_same old new c (ap (λ (u : State). (conn_at u c).outgoing) run))
unsent_run old new (e ∷ es) (r ∷ rs) c order run kept =
    let here : drops_unsent e c ≡ false = grind (arith, nat_tests, common_steps, kept) in
    let later : list_any (λ x. drops_unsent x c) es ≡ false = grind (arith, nat_tests, common_steps, kept) in
    first_then (bytes_of (conn_at old c).outgoing) (bytes_of (conn_at run.0 c).outgoing)
    (bytes_of (conn_at new c).outgoing) (sent_by c e r) (sent_of c es rs)
    (first_step old run.0 e r c order run.1 here)
    (unsent_run run.0 new es rs c (orderly_step old run.0 e r order run.1) run.2 later)
unsent_run old new [] (r ∷ rs) c order run kept = absurd run
unsent_run old new (e ∷ es) [] c order run kept = absurd run
