-- The effect of calls on connections: they change some of them, one after another, each in one of four ways.
use Rattle.std.proofs.Common.{◌≡◌, ℕ, List, [], ◌∷◌, ◌++◌, length, take, drop, ap, refl, Option, Some, None, true}
use Rattle.std.proofs.Common.{false}
use Rattle.std.specs.Prelude.{unwrap_or, if◌then◌else◌, fold}
use Rattle.std.specs.Option.{option_map_or}
use Rattle.iol_core.specs.Text.{Text, labelled}
use Rattle.iol_core.specs.NumberedLists.{lookup, without, changed}
use Rattle.iol_core.specs.State.{State, Domain, Connection, domain, text, descriptor, conn_at, no_conn, is_over}
use Rattle.iol_core.specs.State.{no_domain, with_domain, with_pipe, with_conn, with_content}
use Rattle.iol_core.specs.Run.{called}
use Rattle.iol_core.specs.Calls.Aggregates as aggs
use Rattle.iol_core.specs.Calls.Descriptors as fds
use Rattle.iol_core.specs.Calls.Reads as reading
use Rattle.iol_core.specs.Calls.Writes as writing
use Rattle.iol_core.specs.declared.descriptors.Descriptor.{Descriptor}
use Rattle.iol_core.specs.declared.descriptors.Descriptor.TheVariants as on
use Rattle.iol_core.specs.declared.events.Call.{Call}
use Rattle.iol_core.specs.declared.events.Call.TheVariants as call
use Rattle.iol_laws.proofs.Gives.{agg_given, fd_given}
use Rattle.iol_laws.specs.Order.{Once}
use Rattle.iol_laws.proofs.Connections.{once-with_conn}

-- a change of a connection: its first bytes are read, bytes are written, it is closed, or it is accepted
pub data Change : Type 0 where
  Reads : (n : ℕ) → Change
  Writes : (w : Text) → Change
  Closes : Change
  Takes : Change

abbrev pub changed_by : Change → Connection → Connection
changed_by (Reads n) k = record k { incoming = drop n k.incoming }
changed_by (Writes w) k = record k { outgoing = k.outgoing ++ w }
changed_by Closes k = record k { incoming = []; closed = true }
changed_by Takes k = record k { accepted = true }

abbrev pub turned : State → ℕ × Change → State
turned s e = with_conn s e.0 (changed_by e.1 (conn_at s e.0))

abbrev pub all_turned : State → List (ℕ × Change) → State
all_turned s [] = s
all_turned s (e ∷ es) = all_turned (turned s e) es

-- the connection that a descriptor is open on, with this change
abbrev pub on_conn : Option Descriptor → Change → List (ℕ × Change)
on_conn (Some (on.Connection c)) x = (c, x) ∷ []
on_conn o x = []

abbrev pub closings : List (Option Descriptor) → List (ℕ × Change)
closings [] = []
closings (o ∷ list) = on_conn o Closes ++ closings list

abbrev pub changes : State → (d : ℕ) → Call → List (ℕ × Change)
changes s d call.Exit = closings (domain s d).fds
changes s d (call.Close f) = on_conn (descriptor s d f) Closes
changes s d (call.IolRead f n) =
    on_conn (descriptor s d f) (Reads (length (reading.read_text s d (descriptor s d f) n)))
changes s d (call.IolWrite f a) =
    on_conn (descriptor s d f) (Writes (take (writing.fitting s (descriptor s d f) (length (text s d a))) (text s d a)))
changes s d (call.Read f n) = on_conn (descriptor s d f) (Reads (length (reading.read_text s d (descriptor s d f) n)))
changes s d (call.Write f bytes) =
    on_conn (descriptor s d f)
    (Writes
    (labelled (writing.pool_for s d (descriptor s d f))
    (take (writing.fitting s (descriptor s d f) (length bytes)) bytes)))
changes s d call.Accept = (unwrap_or (fds.waiting s d) 0, Takes) ∷ []
changes s d k = []

-- connections and their next number are unchanged
pub record SameConns (s t : State) : Type 0 where
  pub conns : t.conns ≡ s.conns
  pub next : t.next_conn ≡ s.next_conn

conns_domain : (s t : State) (d : ℕ) (x : Domain Text) → SameConns s t → SameConns s (with_domain t d x)
unfolding with_domain
conns_domain s t d x same = record { conns = same.conns; next = same.next }

-- the same change of equal connections
conns_more : (s t : State) (e : ℕ × Change) → SameConns s t → SameConns (turned s e) (turned t e)
unfolding with_conn conn_at
conns_more s t e same = record { conns = ap with_change same.conns; next = same.next }
  where
    with_change : List (ℕ × Connection) → List (ℕ × Connection)
    with_change l = let x : Connection = changed_by e.1 (unwrap_or (lookup l e.0) no_conn) in
        if is_over x then without l e.0 else changed l e.0 x

closed_turned : (s t : State) (o : Option Descriptor) → SameConns s t
    → SameConns (all_turned s (on_conn o Closes)) (fds.closed_on t o)
unfolding with_pipe
closed_turned s t (Some (on.ReadEnd p)) same = record { conns = same.conns; next = same.next }
closed_turned s t (Some (on.WriteEnd p)) same = record { conns = same.conns; next = same.next }
closed_turned s t (Some (on.Connection c)) same = conns_more s t (c, Closes) same
closed_turned s t o same = same

turned-append : (s : State) (es fs : List (ℕ × Change)) → all_turned s (es ++ fs) ≡ all_turned (all_turned s es) fs
turned-append s [] fs = refl
turned-append s (e ∷ es) fs = turned-append (turned s e) es fs

all_closed_turned : (s t : State) (list : List (Option Descriptor)) → SameConns s t
    → SameConns (all_turned s (closings list)) (fold fds.closed_on t list)
all_closed_turned s t [] same = same
all_closed_turned s t (o ∷ list) same =
    rw (turned-append s (on_conn o Closes) (closings list))
    (all_closed_turned (all_turned s (on_conn o Closes)) (fds.closed_on t o) list (closed_turned s t o same))

read_turned : (s : State) (by fd : ℕ) (o : Option Descriptor) (n : ℕ)
    → SameConns (all_turned s (on_conn o (Reads n))) (reading.read_on s by fd o n)
unfolding with_domain with_pipe
read_turned s by fd (Some (on.File f at mode)) n = record { conns = refl; next = refl }
read_turned s by fd o n = record { conns = refl; next = refl }

written_turned : (s : State) (by fd : ℕ) (o : Option Descriptor) (w : Text)
    → SameConns (all_turned s (on_conn o (Writes w))) (writing.written s by fd o w)
unfolding with_domain with_pipe with_content
written_turned s by fd (Some (on.File f at mode)) w = record { conns = refl; next = refl }
written_turned s by fd o w = record { conns = refl; next = refl }

given_turned : (s : State) (by fd to : ℕ) (o : Option Descriptor)
    → SameConns s (option_map_or (fds.given_to s by fd to) o s)
unfolding with_domain
given_turned s by fd to None = record { conns = refl; next = refl }
given_turned s by fd to (Some x) =
    fd_given (λ t. SameConns s t) s by fd to x (λ same. record { conns = refl; next = refl })
    (λ other. record { conns = refl; next = refl })

agg_given_turned : (s : State) (by a to : ℕ) → SameConns s (aggs.agg_give s by a to).after
unfolding with_domain
agg_given_turned s by a to =
    agg_given (λ t. SameConns s t) s by a to (λ same. record { conns = refl; next = refl })
    (λ other. record { conns = refl; next = refl })

pub conns_turned : (s : State) (d : ℕ) (k : Call) → SameConns (all_turned s (changes s d k)) (called s d k).after
unfolding with_domain
conns_turned s d call.Exit =
    conns_domain _ (fold fds.closed_on s (domain s d).fds) d no_domain
    (all_closed_turned s s (domain s d).fds (record { conns = refl; next = refl }))
conns_turned s d (call.Close f) =
    conns_domain _ (fds.closed_on s (descriptor s d f)) d _
    (closed_turned s s (descriptor s d f) (record { conns = refl; next = refl }))
conns_turned s d (call.IolRead f n) =
    conns_domain _ (reading.read_on s d f (descriptor s d f) _) d _ (read_turned s d f (descriptor s d f) _)
conns_turned s d (call.IolWrite f a) = written_turned s d f (descriptor s d f) _
conns_turned s d (call.Read f n) = read_turned s d f (descriptor s d f) _
conns_turned s d (call.Write f bytes) = written_turned s d f (descriptor s d f) _
conns_turned s d call.Accept = record { conns = refl; next = refl }
conns_turned s d (call.GiveFd f to) = given_turned s d f to (descriptor s d f)
conns_turned s d (call.AggGive a to) = agg_given_turned s d a to
conns_turned s d k = record { conns = refl; next = refl }

pub once_turned : (s : State) (e : ℕ × Change) → Once s.conns → Once (turned s e).conns
once_turned s e once = once-with_conn s e.0 (changed_by e.1 (conn_at s e.0)) once

-- A connection that is written to is accepted and open, and one that is closed is accepted.
abbrev pub IsAllowed : State → ℕ × Change → Type 0
IsAllowed s (c, Writes w) = ((conn_at s c).accepted ≡ true) × ((conn_at s c).closed ≡ false)
IsAllowed s (c, Closes) = (conn_at s c).accepted ≡ true
IsAllowed s e = Unit {0}

abbrev pub AllAllowed : State → List (ℕ × Change) → Type 0
AllAllowed s [] = Unit {0}
AllAllowed s (e ∷ es) = IsAllowed s e × AllAllowed (turned s e) es
