use Rattle.std.proofs.Common.{◌≡◌, ◌<◌, sym, ◌∙◌, ap, subst, List, ℕ, true}
use Rattle.std.specs.List.{All}
use Rattle.iol_core.specs.NumberedLists.{is_numbered}
use Rattle.iol_arena.specs.State.{State, chunk_count}
use Rattle.iol_arena.specs.Buffers.{IsLive}
use Rattle.iol_pool.specs.Pools.{Pool, reclaimed, with_closed}
use Rattle.iol_pool.proofs.Owners.{all_owned, owned_stays, is_numbered-closed, is_numbered-reclaimed, live-reclaimed}
use Rattle.test_iol_store.proofs.tests.pools.close_in_use.Goals as goal

numbered_still : (s : State) (ps qs : List Pool) (p : ℕ) → is_numbered ps p ≡ true
    → qs ≡ reclaimed s (with_closed ps p) p → is_numbered qs p ≡ true
numbered_still s ps qs p there is = ap (λ (l : List Pool). is_numbered l p) is
    ∙ is_numbered-reclaimed s (with_closed ps p) p p ∙ is_numbered-closed ps p p ∙ there

pub make_one-buf-requires : goal.make_one-buf-requires
make_one-buf-requires g c = subst (λ (l : List ℕ). All (λ k. k < chunk_count c.args.arena.now) l) (sym c.chunks.ensures)
    (all_owned c.args.arena.now c.args.pools.now c.args.pool c.requires.owned)

pub close-requires-clause-owned : goal.close-requires-clause-owned
close-requires-clause-owned g c =
    owned_stays c.args.arena.now c.make_one-buf.new.arena c.args.pools.now c.make_one-buf.ensures.taken c.requires.owned

pub report-closed-requires-clause-there : goal.report-closed-requires-clause-there
report-closed-requires-clause-there g c =
    numbered_still c.make_one-buf.new.arena c.args.pools.now c.close.new.self c.args.pool c.requires.there
    c.close.ensures.pools

pub free-requires : goal.free-requires
free-requires g c =
    let b = c.make_one-buf.result in
    subst (λ (s : State). IsLive s b) (sym c.close.ensures.arena)
    (live-reclaimed c.make_one-buf.new.arena (with_closed c.args.pools.now c.args.pool) c.args.pool b
    c.make_one-buf.ensures.live)

pub reclaim-requires : goal.reclaim-requires
reclaim-requires g c =
    owned_stays c.close.new.arena c.free.new.self c.close.new.self (ap (λ (s : State). s.taken) c.free.ensures.arena)
    c.close.ensures.owned

pub report-requires-clause-there : goal.report-requires-clause-there
report-requires-clause-there g c =
    ap (λ (l : List Pool). is_numbered l c.args.pool) c.reclaim.ensures.pools
    ∙ is_numbered-reclaimed c.free.new.self c.close.new.self c.args.pool c.args.pool
    ∙ numbered_still c.make_one-buf.new.arena c.args.pools.now c.close.new.self c.args.pool c.requires.there
    c.close.ensures.pools
