-- In a safe system each page has one use, and each chunk that is taken has one pool.
use Rattle.std.proofs.Common.{◌≡◌, ◌⊎◌, inl, inr, ◌<◌, ◌≤◌, ℕ, arith, sym, subst}
use Rattle.std.specs.List.{Contains}
use Rattle.std.proofs.lemmas.Bool.{cases_lt}
use Rattle.iol_core.specs.declared.numbers.BufId.{BufId}
use Rattle.iol_arena.specs.State.{State, HasRuns, entry_at}
use Rattle.iol_arena.specs.Buffers.{IsLive, LiesOn, kind_len}
use Rattle.iol_arena.specs.declared.pages.PageKind.TheVariants.{Free, Head, Tail}
use Rattle.iol_pool.specs.Pools.{pool_in}
use Rattle.iol_hold.specs.StoreState.{Stored, IsTidy, IsStill, IsPlaced}
use Rattle.iol_system.specs.Uses.{HasOneUse}
use Rattle.iol_system.specs.Laws.{EachPageHasOneUse, EachChunkHasOnePool}

-- a page of a live buffer is not free
lies-not_free : (s : State) (b : BufId) (q : ℕ) → HasRuns s.entries → IsLive s b → LiesOn s b q
    → (entry_at s q).kind ≡ Free → (b.page < q) ⊎ (q ≤ b.page) → ⊥
lies-not_free s b q runs live on free (inl before) =
    let tail : (entry_at s q).kind ≡ Tail b.page = (runs.each b.page _ live.head).tails q before on.to in cc
lies-not_free s b q runs live on free (inr here) =
    let same : q ≡ b.page = omega (arith, on.from) in
    let head : (entry_at s q).kind ≡ Head (kind_len (entry_at s b.page).kind) =
    subst (λ p. (entry_at s p).kind ≡ Head (kind_len (entry_at s b.page).kind)) (sym same) live.head in cc

page_placed : (s : Stored) (q : ℕ) → IsTidy s → IsStill s.arena → IsPlaced s.arena q → HasOneUse s.arena q
page_placed s q tidy still (inl free) =
    inl
    (record { free = free; none = λ b live on. lies-not_free s.arena b q tidy.runs live on free (cases_lt b.page q) })
page_placed s q tidy still (inr (inl pending)) = absurd (still.each q pending)
page_placed s q tidy still (inr (inr (buf, live, on))) =
    inr (record { buf = buf; live = live; on = on; only = λ b other lies. tidy.alone.each b buf q other live lies on })

pub page_use : EachPageHasOneUse
page_use s safe q = page_placed s.kernel.store q safe.sound.tidy safe.sound.still (safe.sound.tidy.placed q)

pub chunk_pool : EachChunkHasOnePool
chunk_pool s safe c within taken =
    let owned = safe.sound.tidy.owned in
    let owner : (p : ℕ) × Contains (pool_in s.kernel.store.pools p).chunks c = owned.owner c within taken in record {
      pool = owner.0;
      has = owner.1;
      only = λ p has. owned.single p owner.0 c has owner.1;
    }
