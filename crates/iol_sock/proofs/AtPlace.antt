-- A call on one connection of a table, by its number.
use Rattle.std.proofs.Common.{◌≡◌, ℕ, List, Some, sym, ap, subst, ◌∙◌}
use Rattle.iol_core.specs.NumberedLists.{lookup, changed}
use Rattle.iol_hold.specs.declared.slices.Slice.{Slice}
use Rattle.iol_desc.specs.EntryLists.{Rises}
use Rattle.iol_sock.specs.Connections.{Conn}
use Rattle.iol_sock.specs.Table.{ChangesOne, ConnTable, IsAmong, conn_in, with_conn}
use Rattle.iol_sock.proofs.WaitingList.{some-none, conn_in-there, lookup-changed, changed-same}

-- A call changed the table t to u. Only the connection of that number changed, from x to y. So the promises for x and y
-- hold for the connections in the tables.
pub record AtPlace (t u : ConnTable) (number : ℕ) (x y : Conn (List Slice)) : Type 0 where
  pub old : x ≡ conn_in t.conns number
  pub new : y ≡ conn_in u.conns number
  pub one : ChangesOne t u number

here : (t : ConnTable) (to n : ℕ) (x y : Conn (List Slice)) → Rises 0 t.conns to → lookup t.conns n ≡ Some x
    → AtPlace t (with_conn t n y) n x y
here t to n x y r found =
    let old : conn_in t.conns n ≡ x = conn_in-there t.conns n x found in
    let new : conn_in (changed t.conns n y) n ≡ y =
    conn_in-there (changed t.conns n y) n y (lookup-changed t.conns n y (λ none. some-none x (sym found ∙ none))) in
    record {
      old = sym old;
      new = sym new;
      one = record {
        others = ap (with_conn t n) (sym new);
        same = λ e. ap (with_conn t n) (sym new ∙ e ∙ old)
            ∙ ap (λ es. record t { conns = es }) (changed-same t.conns 0 to n x r found);
      };
    }

-- the connection of a table, equal to t, is set
pub at_place : {v t : ConnTable} {to n : ℕ} {x : Conn (List Slice)} (y : Conn (List Slice)) → v ≡ t
    → IsAmong v.conns to n x → AtPlace t (with_conn v n y) n x y
at_place {v} {t} {to} {n} {x} y view found =
    subst (λ u. AtPlace u (with_conn v n y) n x y) view (here v to n x y found.rise found.value)

-- before the call, a table equal to t has x under that number
pub was_at : {v t : ConnTable} {x : Conn (List Slice)} (n : ℕ) → v ≡ t → lookup v.conns n ≡ Some x
    → x ≡ conn_in t.conns n
was_at {v} {t} {x} n view found = subst (λ u. x ≡ conn_in u.conns n) view (sym (conn_in-there v.conns n x found))

-- the new value of the connection is z
pub changed_to : {t u : ConnTable} {number : ℕ} {z : Conn (List Slice)} → ChangesOne t u number
    → conn_in u.conns number ≡ z → u ≡ with_conn t number z
changed_to {t} {u} {number} one is = one.others ∙ ap (with_conn t number) is
