-- A closed pool has returned its chunks, or a buffer in them is still held.
use Rattle.std.proofs.Common.{inl, inr, ◌≡◌, ◌∙◌, ℕ, ◌*◌, ◌/◌, Bool, true, false, List, [], ◌∷◌, ap, arith, refl, sym}
use Rattle.std.proofs.Common.{subst}
use Rattle.std.specs.Prelude.{◌&&◌}
use Rattle.std.specs.List.{Contains, list_all}
use Rattle.iol_core.specs.declared.numbers.BufId.{BufId}
use Rattle.iol_arena.specs.State.{State, entry_at, kind_free}
use Rattle.iol_arena.specs.Buffers.{IsLive, LiesOn, kind_len}
use Rattle.iol_arena.specs.Chunks.{chunk_pages, is_unused}
use Rattle.iol_arena.proofs.Members.{In, contains_in, range_in}
use Rattle.iol_pool.specs.Pools.{pool_in}
use Rattle.iol_hold.specs.StoreState.{Stored, IsInBuffer, IsPlaced, IsStill, IsTidy, IsReclaimed}
use Rattle.iol_system.specs.Laws.{ClosedPoolsGiveBack, HasGivenBack}

-- if a test fails for a list, it fails for an element
some-fails : (f : ℕ → Bool) (xs : List ℕ) → list_all f xs ≡ false → (x : ℕ) × In xs x × (f x ≡ false)
some-fails f [] is = absurd (cc)
some-fails f (x ∷ xs) is = by (f x) refl (some-fails f xs)
  where
    by : (b : Bool) → f x ≡ b → (list_all f xs ≡ false → (y : ℕ) × In xs y × (f y ≡ false))
        → (y : ℕ) × In (x ∷ xs) y × (f y ≡ false)
    by false fails later = (x, inl refl, fails)
    by true holds later =
        let rest = later (sym (ap (λ b. b && list_all f xs) holds) ∙ is) in
        (rest.0, inr rest.1, rest.2)

-- a page that is not free is part of a live buffer
in-buffer : (s : State) (q : ℕ) → IsStill s → kind_free (entry_at s q).kind ≡ false → IsPlaced s q → IsInBuffer s q
in-buffer s q still used (inl free) = absurd (let e = ap kind_free free in cc (e, used))
in-buffer s q still used (inr (inl pending)) = absurd (still.each q pending)
in-buffer s q still used (inr (inr there)) = there

-- a buffer on a page is in the chunk of the page
in-chunk : (s : Stored) (q : ℕ) (b : BufId) → IsTidy s → IsLive s.arena b → LiesOn s.arena b q → q / 16 ≡ b.page / 16
in-chunk s q b tidy live on =
    let run = tidy.runs.each b.page (kind_len (entry_at s.arena b.page).kind) live.head in
    omega (arith, on.from, on.to, run.chunk)

page-in : (c q : ℕ) → In (chunk_pages c) q → q / 16 ≡ c
unfolding chunk_pages
page-in c q is = (let both = range_in (c * 16) 16 q is in omega (arith, both.0, both.1))

pool_gives : (s : Stored) (p : ℕ) → IsTidy s → IsStill s.arena → IsReclaimed s p → (pool_in s.pools p).closed ≡ true
    → HasGivenBack s p
pool_gives s p tidy still reclaimed closed = by (list_all (is_unused s.arena) cs) refl
  where
    cs : List ℕ
    cs = (pool_in s.pools p).chunks

    by : (b : Bool) → list_all (is_unused s.arena) cs ≡ b → HasGivenBack s p
    by true all = inl (reclaimed (ap (λ b. b && list_all (is_unused s.arena) cs) closed ∙ all))
    by false some =
        let c = some-fails (is_unused s.arena) cs some in
        let q = some-fails (λ q. kind_free (entry_at s.arena q).kind) (chunk_pages c.0) c.2 in
        let there = in-buffer s.arena q.0 still q.2 (tidy.placed q.0) in
        let at : c.0 ≡ there.0.page / 16 = sym (page-in c.0 q.0 q.1) ∙ in-chunk s q.0 there.0 tidy there.1 there.2 in
        inr (there.0, there.1, subst (λ n. Contains cs n) at (contains_in cs c.0 c.1), tidy.held there.0 there.1)

pub gives_back : ClosedPoolsGiveBack
gives_back s safe p closed = pool_gives s.kernel.store p safe.sound.tidy safe.sound.still (safe.sound.reclaimed.each p)
    closed
