-- The connections of the server's descriptors are accepted and not closed; and a ready client that reads waits for
-- input.
use Rattle.std.proofs.Common.{inl, inr, ◌≡◌, ◌≢◌, ℕ, List, ap, ◌∙◌, refl, sym, subst, Option, Some, true, false, Bool}
use Rattle.std.specs.Prelude.{◌&&◌, not}
use Rattle.iol_core.specs.State.{State, descriptor, conn_at}
use Rattle.iol_laws.specs.Order.{IsOrderly}
use Rattle.iol_core.specs.declared.descriptors.Descriptor.{Descriptor}
use Rattle.iol_core.specs.declared.descriptors.Descriptor.TheVariants as on
use Rattle.flash_http.specs.Request.{Answer, serve, refuse}
use Rattle.flash_laws.specs.Conn.{Conn, begins, Starts, Readies, IsAwaiting}
use Rattle.flash_laws.specs.declared.phase.Phase.{Phase}
use Rattle.flash_laws.specs.declared.phase.Phase.TheVariants.{Receiving}
use Rattle.flash_laws.specs.Site.{server}

pub no-true : (b : Bool) → (b ≡ true → ⊥) → b ≡ false
no-true true never = absurd (never refl)
no-true false never = refl

-- a connection that the server has is accepted and not closed
pub held-open : (m : State) (fd c : ℕ) → IsOrderly m → descriptor m server fd ≡ Some (on.Connection c)
    → ((conn_at m c).accepted ≡ true) × ((conn_at m c).closed ≡ false)
held-open m fd c order is =
    let both = order.all_stand server fd (on.Connection c) is in
    by (conn_at m c).accepted (conn_at m c).closed refl refl both
  where
    by : (a b : Bool) → (conn_at m c).accepted ≡ a → (conn_at m c).closed ≡ b → (a && not b) ≡ true
        → ((conn_at m c).accepted ≡ true) × ((conn_at m c).closed ≡ false)
    by true false is_a is_b both = (is_a, is_b)
    by true true is_a is_b both = absurd (cc)
    by false b is_a is_b both = absurd (cc)

-- a connection that is not accepted, or that is closed, is not that of a descriptor of the server
pub not-waiting : (m : State) (fd c k : ℕ) → IsOrderly m
    → descriptor m server fd ≡ Some (on.Connection c) → (conn_at m k).accepted ≡ false → c ≢ k
not-waiting m fd c k order is waits same =
    (let a = (held-open m fd c order is).0 in let b = ap (λ z. (conn_at m z).accepted) same in
    absurd (cc (a, b, waits)))

pub not-closed : (m : State) (fd c k : ℕ) → IsOrderly m → descriptor m server fd ≡ Some (on.Connection c)
    → (conn_at m k).closed ≡ true → c ≢ k
not-closed m fd c k order is closed same =
    (let a = (held-open m fd c order is).1 in let b = ap (λ z. (conn_at m z).closed) same in absurd (cc (a, b, closed)))

abbrev number_on : Option Descriptor → ℕ
number_on (Some (on.Connection c)) = c
number_on d = 0

pub conn-same : (m : State) (fd c k : ℕ) → descriptor m server fd ≡ Some (on.Connection c)
    → descriptor m server fd ≡ Some (on.Connection k) → c ≡ k
conn-same m fd c k is_c is_k = ap number_on (sym is_c ∙ is_k)

-- a connection that is made ready, if it reads, has no request that could begin
pub ready-awaits : (buffered : List ℕ) (q : Answer) (d : Phase) (y : Conn)
    → Readies (record { buffered = buffered; request = q; phase = d }) y → IsAwaiting y
ready-awaits buffered q Receiving y ready = starts ready
  where
    begun : (p : Answer) (rest : List ℕ) → IsAwaiting (record { buffered = rest; request = p; phase = begins p })
    begun (serve w) rest = tt
    begun (refuse status head_only close) rest = tt

    starts : Starts (record { buffered = buffered; request = q; phase = Receiving }) y → IsAwaiting y
    starts (inl waits) = subst (λ (x : Conn). IsAwaiting x) (sym waits.1) waits.0
    starts (inr some) = subst (λ (x : Conn). IsAwaiting x) (sym some.3) (begun some.0 some.1)
ready-awaits buffered q d y ready = subst (λ (x : Conn). IsAwaiting x) (sym ready) tt
