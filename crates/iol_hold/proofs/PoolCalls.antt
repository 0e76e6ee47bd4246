-- Pools made and closed.
use Rattle.std.proofs.Common.{◌≡◌, ℕ, ◌+◌, ◌/◌, true, false, Bool, inl, inr, List, [], ◌∷◌, ◌++◌, length, refl, sym}
use Rattle.std.proofs.Common.{arith, subst}
use Rattle.std.specs.List.{Contains}
use Rattle.std.proofs.lemmas.Bool.{cases_eq}
use Rattle.iol_core.specs.NumberedLists.{is_numbered}
use Rattle.iol_arena.specs.State.{State}
use Rattle.iol_arena.specs.Chunks.{TakesChunks}
use Rattle.iol_pool.specs.Owners.{AreOwned}
use Rattle.iol_pool.specs.Pools.{Pool, pool_in, with_closed, AddsPool, reclaimed, reclaimed_arena}
use Rattle.iol_pool.proofs.Owners.{pool_in-before, chunks-closed, nowhere, owned_added, owned_closed}
use Rattle.iol_hold.specs.StoreState.{Stored, count_of, IsPlaced}
use Rattle.iol_hold.specs.Moves.{Moves}
use Rattle.iol_hold.proofs.Moves.{moves_trans}
use Rattle.iol_hold.proofs.LiveBuffers.{placed_stays, tidy_of}
use Rattle.iol_hold.proofs.ChunkReturns.{reclaimed_moves}

-- the store with these taken chunks and these pools
abbrev with_taken : Stored → List Bool → List Pool → Stored
with_taken s taken ps =
    record {
      arena = record {
        memory = s.arena.memory;
        base = s.arena.base;
        entries = s.arena.entries;
        limit =
            s.arena.limit;
        taken = taken;
      };
      pools = ps;
      counts = s.counts;
    }

-- if each pool keeps its chunks, no hold moves
pub pools_move : (s : Stored) (taken : List Bool) (ps : List Pool)
    → ((p c : ℕ) → Contains (pool_in s.pools p).chunks c → Contains (pool_in ps p).chunks c)
    → (AreOwned s.arena s.pools → AreOwned (with_taken s taken ps).arena ps) → Moves s (with_taken s taken ps) [] []
unfolding count_of
pools_move s taken ps kept owned = record {
  counts = record { each = λ b. refl };
  stays = record {
    keeps =
        record {
          rising = λ q. omega arith;
          kept =
              λ b live. inl (record { head = live.head; generation = live.generation }, refl);
          base = refl;
        };
    homes = λ p b live h home. kept p (b.page / 16) home;
  };
  still = λ h. record { each = h.each };
  tidy =
      λ h. tidy_of (record {
        held = λ b live. h.held b (record { head = live.head; generation = live.generation });
        placed = λ q. placed q (h.placed q);
      }) h.runs (owned h.owned);
}
  where
    placed : (q : ℕ) → IsPlaced s.arena q → IsPlaced (with_taken s taken ps).arena q
    placed q h = placed_stays s.arena (with_taken s taken ps).arena q refl (λ b live lies. refl) h

pub created_moves : (s : Stored) (a : State) (ps : List Pool) (n : ℕ) (list : List ℕ)
    → AddsPool s.arena a s.pools ps n list → Moves s (record { arena = a; pools = ps; counts = s.counts }) [] []
created_moves s a ps n list x =
    let new : Pool = record { domains = list; closed = false; chunks = x.chunks } in
    let grown : List Pool = s.pools ++ new ∷ [] in
    let taken = a.taken in
    let kept : (p c : ℕ) → Contains (pool_in s.pools p).chunks c → Contains (pool_in grown p).chunks c =
    λ p c h. elim (cases_eq p (length s.pools + 1)) [
      | inl e ↦ absurd (nowhere s.pools c (subst (λ q. Contains (pool_in s.pools q).chunks c) e h))
      | inr ne ↦ subst (λ (y : Pool). Contains y.chunks c) (sym (pool_in-before s.pools new p ne)) h
    ] in
    let takes : TakesChunks s.arena (with_taken s taken grown).arena x.chunks =
    subst (λ b. TakesChunks s.arena b x.chunks) x.taken.same x.taken in
    let owned : AreOwned s.arena s.pools → AreOwned (with_taken s taken grown).arena grown =
    λ o. owned_added s.arena (with_taken s taken grown).arena s.pools new takes o in
    subst (λ b. Moves s (record { arena = b; pools = ps; counts = s.counts }) [] []) (sym x.taken.same)
    (subst (λ qs. Moves s (with_taken s taken qs) [] []) (sym x.added) (pools_move s taken grown kept owned))

pub closed_moves : (s : Stored) (p : ℕ) → is_numbered s.pools p ≡ true
    → Moves s (record {
      arena = reclaimed_arena s.arena (with_closed s.pools p) p;
      pools =
          reclaimed s.arena (with_closed s.pools p) p;
      counts = s.counts;
    }) [] []
closed_moves s p there =
    let t = with_taken s s.arena.taken (with_closed s.pools p) in
    moves_trans
    (pools_move s s.arena.taken (with_closed s.pools p)
    (λ q c h. subst (λ cs. Contains cs c) (sym (chunks-closed s.pools p q there)) h)
    (λ o. owned_closed (with_taken s s.arena.taken s.pools).arena s.pools p there o)) (reclaimed_moves t p)
