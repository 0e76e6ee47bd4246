-- Returning the chunks of a closed pool.
use Rattle.std.proofs.Common.{◌≡◌, true, false, inl, inr, ℕ, ◌*◌, ◌/◌, Bool, List, [], ◌∷◌, refl, sym, ap, ◌∙◌, arith}
use Rattle.std.proofs.Common.{subst}
use Rattle.std.specs.Prelude.{◌&&◌}
use Rattle.std.specs.List.{Contains, list_all}
use Rattle.std.proofs.lemmas.Bool.{cases_eq}
use Rattle.iol_core.specs.NumberedLists.{is_numbered}
use Rattle.iol_core.specs.declared.numbers.BufId.{BufId}
use Rattle.iol_arena.specs.State.{State, entry_at, kind_free, page_count}
use Rattle.iol_arena.specs.Buffers.{IsLive}
use Rattle.iol_arena.specs.Chunks.{is_unused, chunk_pages}
use Rattle.iol_arena.proofs.Good.{bool_cases}
use Rattle.iol_arena.proofs.Members.{In, in_range, in_contains}
use Rattle.iol_pool.specs.Pools.{Pool, pool_in, goes_back, reclaimed, reclaimed_arena, with_emptied, with_returned}
use Rattle.iol_pool.proofs.Owners.{chunks-emptied, pool_in-there, pool_in-nowhere, is_numbered-reclaimed}
use Rattle.iol_pool.proofs.Owners.{owned_reclaimed, reclaimed-yes, reclaimed-no, reclaimed-nowhere, reclaimed_arena-yes}
use Rattle.iol_pool.proofs.Owners.{reclaimed_arena-no, reclaimed_arena-nowhere}
use Rattle.iol_hold.specs.StoreState.{Stored, count_of, IsPlaced, IsReclaimed}
use Rattle.iol_hold.specs.Moves.{Stays, Moves}
use Rattle.iol_hold.proofs.LiveBuffers.{placed_stays, tidy_of}
use Rattle.iol_hold.proofs.Moves.{moves_none}

-- the store after pool p has returned its chunks
abbrev emptied : Stored → (p : ℕ) → Stored
emptied s p = record {
  arena = with_returned s.arena (pool_in s.pools p).chunks;
  pools = with_emptied s.pools p;
  counts = s.counts;
}

-- the store with this arena and these pools
abbrev pub with_both : Stored → State → List Pool → Stored
with_both s a ps = record { arena = a; pools = ps; counts = s.counts }

pub moves_both : (s : Stored) (a b : State) (ps qs : List Pool) → a ≡ b → ps ≡ qs → Moves s (with_both s b qs) [] []
    → Moves s (with_both s a ps) [] []
moves_both s a b ps qs e f m =
    subst (λ x. Moves s (with_both s x ps) [] []) (sym e) (subst (λ xs. Moves s (with_both s b xs) [] []) (sym f) m)

pub first_of : (a b : Bool) → (a && b) ≡ true → a ≡ true
first_of true b h = refl
first_of false b h = cc

pub second_of : (a b : Bool) → (a && b) ≡ true → b ≡ true
second_of true b h = h
second_of false b h = cc

each_of : (f : ℕ → Bool) (xs : List ℕ) (x : ℕ) → list_all f xs ≡ true → In xs x → f x ≡ true
each_of f [] x h i = absurd i
each_of f (y ∷ ys) x h (inl e) = ap f e ∙ first_of (f y) (list_all f ys) h
each_of f (y ∷ ys) x h (inr i) = each_of f ys x (second_of (f y) (list_all f ys) h) i

-- no live buffer is in an unused chunk
nothing_there : (s : State) (c : ℕ) (b : BufId) → is_unused s c ≡ true → b.page / 16 ≡ c → IsLive s b → ⊥
unfolding chunk_pages
nothing_there s c b unused at live =
    let free =
    each_of (λ q. kind_free (entry_at s q).kind) (chunk_pages c) b.page unused
    (in_range (c * 16) 16 b.page (omega (arith, at)) (omega (arith, at))) in
    let head = ap kind_free live.head in
    cc (free, head)

emptied_stays : (s : Stored) (p : ℕ) → goes_back s.arena s.pools p ≡ true → Stays s (emptied s p)
emptied_stays s p back = record {
  keeps =
      record {
        rising = λ q. omega arith;
        kept =
            λ b live. inl (record { head = live.head; generation = live.generation }, refl);
        base = refl;
      };
  homes = λ q b live h home. elim (cases_eq q p) [
    | inl e ↦ (let x : Contains (pool_in s.pools p).chunks (b.page / 16) =
        subst (λ q. Contains (pool_in s.pools q).chunks (b.page / 16)) e home in
        let unused =
        each_of (is_unused s.arena) (pool_in s.pools p).chunks (b.page / 16)
        (second_of (pool_in s.pools p).closed (list_all (is_unused s.arena) (pool_in s.pools p).chunks) back)
        (in_contains (pool_in s.pools p).chunks (b.page / 16) x) in
        absurd (nothing_there s.arena (b.page / 16) b unused refl live))
    | inr ne ↦ subst (λ cs. Contains cs (b.page / 16)) (sym (chunks-emptied s.pools p q ne)) home
  ];
}

emptied_moves : (s : Stored) (p : ℕ) → is_numbered s.pools p ≡ true → goes_back s.arena s.pools p ≡ true
    → Moves s (emptied s p) [] []
unfolding count_of
emptied_moves s p there back = record {
  counts = record { each = λ b. refl };
  stays = emptied_stays s p back;
  still = λ h. record { each = h.each };
  tidy =
      λ h. tidy_of (record {
        held = λ b live. h.held b (record { head = live.head; generation = live.generation });
        placed = λ q. placed q (h.placed q);
      }) h.runs (owned_reclaimed s.arena s.pools p there h.owned);
}
  where
    placed : (q : ℕ) → IsPlaced s.arena q → IsPlaced (emptied s p).arena q
    placed q h = placed_stays s.arena (emptied s p).arena q refl (λ b live lies. refl) h

-- reclaiming a pool, whether its chunks are returned or not
pub reclaimed_moves : (s : Stored) (p : ℕ)
    → Moves s (record {
      arena = reclaimed_arena s.arena s.pools p;
      pools = reclaimed s.arena s.pools p;
      counts =
          s.counts;
    }) [] []
reclaimed_moves s p = elim (bool_cases (is_numbered s.pools p)) [
  | inl there ↦ elim (bool_cases (goes_back s.arena s.pools p)) [
    | inl back ↦ to (with_returned s.arena (pool_in s.pools p).chunks) (with_emptied s.pools p)
        (reclaimed_arena-yes s.arena s.pools p back) (reclaimed-yes s.arena s.pools p back)
        (emptied_moves s p there back)
    | inr not ↦ to s.arena s.pools (reclaimed_arena-no s.arena s.pools p not) (reclaimed-no s.arena s.pools p not)
        (moves_none s)
  ]
  | inr out ↦
      to s.arena s.pools (reclaimed_arena-nowhere s.arena s.pools p out) (reclaimed-nowhere s.arena s.pools p out)
      (moves_none s)
]
  where
    to : (a : State) (ps : List Pool) → reclaimed_arena s.arena s.pools p ≡ a → reclaimed s.arena s.pools p ≡ ps
        → Moves s (record { arena = a; pools = ps; counts = s.counts }) [] []
        → Moves s (record {
          arena = reclaimed_arena s.arena s.pools p;
          pools = reclaimed s.arena s.pools p;
          counts =
              s.counts;
        }) [] []
    to a ps e f m =
        subst (λ b. Moves s (record { arena = b; pools = reclaimed s.arena s.pools p; counts = s.counts }) [] [])
        (sym e) (subst (λ qs. Moves s (record { arena = a; pools = qs; counts = s.counts }) [] []) (sym f) m)

pub length-reclaimed_arena : (s : State) (ps : List Pool) (p : ℕ) → page_count (reclaimed_arena s ps p) ≡ page_count s
length-reclaimed_arena s ps p = elim (bool_cases (goes_back s ps p)) [
  | inl back ↦ ap page_count (reclaimed_arena-yes s ps p back)
  | inr not ↦ ap page_count (reclaimed_arena-no s ps p not)
]

emptied_there : (ps : List Pool) (p : ℕ) → is_numbered ps p ≡ true → (pool_in (with_emptied ps p) p).chunks ≡ []
unfolding with_emptied
emptied_there ps p there =
    ap (λ (x : Pool). x.chunks) (pool_in-there ps p (record (pool_in ps p) { chunks = [] }) there)

-- a pool has no chunks after they are returned
pub chunks_returned : (a : State) (ps : List Pool) (p : ℕ) → goes_back a ps p ≡ true
    → (pool_in (reclaimed a ps p) p).chunks ≡ []
chunks_returned a ps p back = elim (bool_cases (is_numbered ps p)) [
  | inl there ↦ ap (λ (qs : List Pool). (pool_in qs p).chunks) (reclaimed-yes a ps p back) ∙ emptied_there ps p there
  | inr out ↦ ap (λ (x : Pool). x.chunks) (pool_in-nowhere (reclaimed a ps p) p (is_numbered-reclaimed a ps p p ∙ out))
]

-- a pool that was reclaimed has no more chunks to return
pub reclaimed_reclaimed : (a : State) (ps : List Pool) (p : ℕ) (counts : List ℕ)
    → IsReclaimed (record { arena = reclaimed_arena a ps p; pools = reclaimed a ps p; counts = counts }) p
reclaimed_reclaimed a ps p counts again = elim (bool_cases (goes_back a ps p)) [
  | inl back ↦ chunks_returned a ps p back
  | inr not ↦ (let same = ap (λ s. goes_back s (reclaimed a ps p) p) (reclaimed_arena-no a ps p not)
      ∙ ap (λ (qs : List Pool). goes_back a qs p) (reclaimed-no a ps p not) in let bad = sym again ∙ same ∙ not in
      cc bad)
]
