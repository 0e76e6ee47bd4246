-- Admitting a domain to a pool changes no buffer, no page and no chunk.
use Rattle.std.proofs.Common.{◌≡◌, ◌∙◌, inl, ℕ, true, List, [], refl, sym, subst}
use Rattle.std.specs.Prelude.{◌&&◌}
use Rattle.std.specs.List.{Contains, list_all}
use Rattle.iol_core.specs.NumberedLists.{is_numbered}
use Rattle.iol_arena.specs.Chunks.{is_unused}
use Rattle.iol_pool.specs.Pools.{Pool, pool_in, with_admitted}
use Rattle.iol_pool.proofs.Admission.{chunks-admitted, closed-admitted, owned_admitted}
use Rattle.iol_hold.specs.StoreState.{Stored, AllReclaimed, IsReclaimed, with_pools}
use Rattle.iol_hold.specs.Moves.{Moves}
use Rattle.iol_hold.specs.Pages.{KeepsPages}
use Rattle.iol_hold.proofs.PoolCalls.{pools_move}
use Rattle.iol_hold.proofs.PageChanges.{keeps_pages_entries}

-- a pool with the same chunks, which is closed exactly if it was closed before, is still reclaimed
reclaimed_alike : (s : Stored) (ps : List Pool) (q : ℕ) → (pool_in ps q).closed ≡ (pool_in s.pools q).closed
    → (pool_in ps q).chunks ≡ (pool_in s.pools q).chunks → IsReclaimed s q → IsReclaimed (with_pools s ps) q
reclaimed_alike s ps q closed chunks was back =
    chunks ∙ was (subst (λ b. (b && list_all (is_unused s.arena) (pool_in s.pools q).chunks) ≡ true) closed
    (subst (λ cs. ((pool_in ps q).closed && list_all (is_unused s.arena) cs) ≡ true) chunks back))

module _ (s : Stored) (p d : ℕ) (there : is_numbered s.pools p ≡ true) where
  pub admitted_moves : Moves s (with_pools s (with_admitted s.pools p d)) [] []
  admitted_moves = pools_move s s.arena.taken (with_admitted s.pools p d)
      (λ q c h. subst (λ cs. Contains cs c) (sym (chunks-admitted s.pools p d q there)) h)
      (λ o. owned_admitted s.arena s.pools p d there o)

  pub admitted_reclaims : AllReclaimed s → AllReclaimed (with_pools s (with_admitted s.pools p d))
  admitted_reclaims all =
      record {
        each = λ q. reclaimed_alike s (with_admitted s.pools p d) q (closed-admitted s.pools p d q there)
            (chunks-admitted s.pools p d q there) (all.each q);
      }

  pub admitted_pages : KeepsPages s (with_pools s (with_admitted s.pools p d)) []
  admitted_pages =
      keeps_pages_entries s (with_pools s (with_admitted s.pools p d)) refl refl
      (λ q was is. chunks-admitted s.pools p d q there) (λ q is. inl (chunks-admitted s.pools p d q there))
