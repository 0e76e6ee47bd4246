-- Pools: examples.
use Rattle.std.proofs.Common.{◌≡◌, [], ◌∷◌, replicate, refl, true, false, Some}
use Rattle.std.specs.Prelude.{Ok, Err}
use Rattle.iol_core.specs.Text.{Text}
use Rattle.iol_core.specs.State.{State, new_domain, domain, pool, file, content, pipe_at, conn_at, with_domain}
use Rattle.iol_core.specs.State.{with_pipe, with_conn, with_content}
use Rattle.iol_core.specs.declared.refusals.Refusal.TheVariants.{NoDomain, NoPool, BadRange, TooMany, Denied}
use Rattle.iol_core.specs.declared.refusals.Refusal.TheVariants.{PoolClosed, PoolBusy}
use Rattle.iol_core.specs.declared.limits.TheConstants.{MAX_POOLS}
use Rattle.iol_core.proofs.Examples.World.{answered, world}
use Rattle.iol_core.specs.Calls.Pools.{pool_create, pool_close, pool_admit, set_pool}

-- no pool; 17 domains and no pool; as many pools as the limit; no file and no connection
abbrev empty : State
empty = record world { pools = [] }

abbrev many : State
many = record world { domains = replicate 17 (new_domain {A = Text}); pools = [] }

abbrev full : State
full = record world { pools = replicate MAX_POOLS (record { domains = 1 ∷ []; closed = true }) }

abbrev idle : State
idle = record world { files = []; conns = [] }

pool_create_lists_each_once :
    (answered (pool_create empty 1 16 (2 ∷ 1 ∷ 2 ∷ [])) ≡ Ok 1)
    × ((pool (pool_create empty 1 16 (2 ∷ 1 ∷ 2 ∷ [])).after 1) ≡ record { domains = 2 ∷ 1 ∷ []; closed = false })
unfolding domain pool file content pipe_at conn_at with_domain with_pipe with_conn with_content
pool_create_lists_each_once = (refl, refl)

pool_create_refused :
    (answered (pool_create empty 3 1 (1 ∷ [])) ≡ Err NoDomain)
    × (answered (pool_create empty 1 1 (1 ∷ 3 ∷ [])) ≡ Err NoDomain)
    × (answered (pool_create empty 1 1 []) ≡ Err BadRange)
    × (answered (pool_create empty 1 0 (1 ∷ [])) ≡ Err BadRange)
    × (answered (pool_create empty 1 257 (1 ∷ [])) ≡ Err BadRange)
    × (answered (pool_create many 1 1 (1 ∷ 2 ∷ 3 ∷ 4 ∷ 5 ∷ 6 ∷ 7 ∷ 8 ∷ 9 ∷ 10 ∷ 11 ∷ 12 ∷ 13 ∷ 14 ∷ 15 ∷ 16 ∷ 17 ∷ []))
    ≡ Err TooMany)
    × (answered (pool_create many 1 1 (1 ∷ 2 ∷ 3 ∷ 4 ∷ 5 ∷ 6 ∷ 7 ∷ 8 ∷ 9 ∷ 10 ∷ 11 ∷ 12 ∷ 13 ∷ 14 ∷ 15 ∷ 16 ∷ 16 ∷ []))
    ≡ Ok 1)
    × (answered (pool_create full 1 1 (1 ∷ [])) ≡ Err TooMany)
unfolding domain pool file content pipe_at conn_at with_domain with_pipe with_conn with_content
pool_create_refused = (refl, refl, refl, refl, refl, refl, refl, refl)

pool_close_keeps_the_list :
    (answered (pool_close idle 1 2) ≡ Ok tt)
    × ((pool (pool_close idle 1 2).after 2) ≡ record { domains = 1 ∷ []; closed = true })
    × ((pool (pool_close idle 1 2).after 1).closed ≡ false)
unfolding domain pool file content pipe_at conn_at with_domain with_pipe with_conn with_content
pool_close_keeps_the_list = (refl, refl, refl)

pool_close_refused :
    (answered (pool_close world 3 1) ≡ Err NoDomain)
    × (answered (pool_close world 1 5) ≡ Err NoPool)
    × (answered (pool_close world 1 0) ≡ Err NoPool)
    × (answered (pool_close world 1 3) ≡ Err (Denied 3))
    × (answered (pool_close world 1 4) ≡ Err (PoolClosed 4))
    × (answered (pool_close world 1 2) ≡ Err (PoolBusy 2))
    × (answered (pool_close (record world { files = [] }) 1 1) ≡ Err (PoolBusy 1))
unfolding domain pool file content pipe_at conn_at with_domain with_pipe with_conn with_content
pool_close_refused = (refl, refl, refl, refl, refl, refl, refl)

-- pool 2 lists sixteen domains, without domain 1; pool 3 lists only domain 2, and is closed
abbrev listed : State
listed = record many {
  pools =
      record { domains = 1 ∷ []; closed = false } ∷
      record { domains = 2 ∷ 3 ∷ 4 ∷ 5 ∷ 6 ∷ 7 ∷ 8 ∷ 9 ∷ 10 ∷ 11 ∷ 12 ∷ 13 ∷ 14 ∷ 15 ∷ 16 ∷ 17 ∷ []; closed = false } ∷
      record { domains = 2 ∷ []; closed = true } ∷ [];
}

pool_admit_names_one_more :
    (answered (pool_admit world 1 2 2) ≡ Ok tt)
    × ((pool (pool_admit world 1 2 2).after 2) ≡ record { domains = 1 ∷ 2 ∷ []; closed = false })
    × ((pool (pool_admit world 1 2 2).after 3).domains ≡ 2 ∷ [])
    × (answered (pool_admit world 1 1 2) ≡ Ok tt)
    × ((pool_admit world 1 1 2).after ≡ world)
    × (answered (pool_admit listed 17 2 16) ≡ Ok tt)
    × ((pool_admit listed 17 2 16).after ≡ listed)
unfolding domain pool file content pipe_at conn_at with_domain with_pipe with_conn with_content
pool_admit_names_one_more = (refl, refl, refl, refl, refl, refl, refl)

pool_admit_refused :
    (answered (pool_admit world 3 1 1) ≡ Err NoDomain)
    × (answered (pool_admit world 1 5 3) ≡ Err NoDomain)
    × (answered (pool_admit world 1 5 2) ≡ Err NoPool)
    × (answered (pool_admit listed 1 2 1) ≡ Err TooMany)
    × (answered (pool_admit listed 1 2 2) ≡ Err (Denied 2))
    × (answered (pool_admit listed 1 3 1) ≡ Err (Denied 3))
    × (answered (pool_admit world 1 4 2) ≡ Err (PoolClosed 4))
unfolding domain pool file content pipe_at conn_at with_domain with_pipe with_conn with_content
pool_admit_refused = (refl, refl, refl, refl, refl, refl, refl)

set_pool_sets_the_default :
    (answered (set_pool world 1 2) ≡ Ok tt)
    × ((domain (set_pool world 1 2).after 1).default ≡ Some 2)
unfolding domain pool file content pipe_at conn_at with_domain with_pipe with_conn with_content
set_pool_sets_the_default = (refl, refl)

set_pool_refused :
    (answered (set_pool world 3 1) ≡ Err NoDomain)
    × (answered (set_pool world 1 5) ≡ Err NoPool)
    × (answered (set_pool world 1 3) ≡ Err (Denied 3))
    × (answered (set_pool world 1 4) ≡ Err (PoolClosed 4))
unfolding domain pool file content pipe_at conn_at with_domain with_pipe with_conn with_content
set_pool_refused = (refl, refl, refl, refl)
