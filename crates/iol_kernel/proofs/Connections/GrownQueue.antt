-- New bytes at the end of one of a connection's queues: the connection was x, and is y.
use Rattle.std.proofs.Common.{◌≡◌, ℕ, ◌+◌, List, Some, arith}
use Rattle.std.specs.Prelude.{Err, Ok, OnErr, Result}
use Rattle.iol_core.specs.NumberedLists.{changed, lookup}
use Rattle.iol_core.specs.declared.numbers.BufId.{BufId}
use Rattle.iol_core.specs.declared.refusals.Refusal.{Refusal}
use Rattle.iol_hold.specs.StoreState.{Stored}
use Rattle.iol_hold.specs.Texts.{AllReadable}
use Rattle.iol_hold.specs.declared.slices.Slice.{Slice}
use Rattle.iol_pipe.specs.NewBytes.{AddsBytes}
use Rattle.iol_sock.specs.Connections.{Conn}
use Rattle.iol_sock.specs.Table.{ChangesOne, ConnTable, conn_in}
use Rattle.iol_kernel.specs.HoldCounts.{conn_uses, uses}
use Rattle.iol_kernel.specs.KernelState as held
use Rattle.iol_kernel.specs.KernelState.{IsConnReadable, IsSound, KernelState}
use Rattle.iol_kernel.proofs.Connections.OneConnection.{IsOpenConn, turned, turned_counted, turned_fds, turned_limits}
use Rattle.iol_kernel.proofs.Connections.OneConnection.{turned_pooled}
use Rattle.iol_kernel.proofs.State.NewBytes.{added-sound, added_queue, added_readable, added_uses}
use Rattle.iol_kernel.proofs.State.NumberedEntries.{each-changed, each_found}
use Rattle.iol_kernel.proofs.State.Pools.{pools_pooled}

module _ (h : KernelState) (t : Stored) (c pool : ℕ) (x y : Conn (List Slice)) (old q : List Slice) (bytes : List ℕ)
    (sound : IsSound h) (found : lookup h.conns c ≡ Some x) (adds : AddsBytes h.store t old q pool bytes) where
  pub grown-sound : ((b : BufId) → conn_uses b (c, y) + uses b old ≡ conn_uses b (c, x) + uses b q)
      → (IsConnReadable t (c, x) → (AllReadable t old → AllReadable t q) → IsConnReadable t (c, y))
      → (held.IsConn (c, x) → held.IsConn (c, y)) → y.pool ≡ x.pool → (IsOpenConn x → IsOpenConn y)
      → IsSound (turned h t c x y sound found)
  grown-sound more readable limit pool' keeps =
      let good = added_readable h t old q pool bytes sound adds in
      let now : IsConnReadable t (c, y) =
      readable (each_found (IsConnReadable t) h.conns c x good.conns found)
      (added_queue h t old q pool bytes sound adds) in
      added-sound h t old q pool bytes sound adds h.pipes (changed h.conns c y)
      (record {
        pipes = good.pipes;
        conns = each-changed (IsConnReadable t) h.conns c y good.conns now;
        files =
            good.files;
      })
      (turned_fds h t c x y sound found keeps)
      (turned_counted h t c x y sound found (λ b. omega (arith, added_uses h t old q pool bytes sound adds b, more b)))
      (turned_limits h t c x y sound found
      (limit (each_found held.IsConn h.conns c x sound.limits.objects.conns found)))
      (turned_pooled h t c x y sound found pool' (pools_pooled h.store t h.conns h.cache.files adds.pools sound.pooled))

-- a refusal leaves the table and the store unchanged
pub kept_table : {A : Type 0} (h : KernelState) (t : Stored) (old w : ConnTable) (c : ℕ) (r : Result A Refusal)
    → ChangesOne old w c → OnErr r ((conn_in w.conns c ≡ conn_in old.conns c) × (t ≡ h.store))
    → OnErr r (record h { store = t; conns = w.conns; next_conn = w.next } ≡ record h {
      conns = old.conns;
      next_conn =
          old.next;
    })
kept_table h t old w c (Ok a) one same = tt
kept_table h t old w c (Err x) one same = let table = one.same same.0 in
    λ i. record h { store = same.1 i; conns = (table i).conns; next_conn = (table i).next }
