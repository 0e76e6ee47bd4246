-- Pages if nothing changes, after releases, after buffers are made, and over several steps.
use Rattle.std.proofs.Common.{◌≡◌, inl, inr, true, false, ℕ, ◌-◌, List, [], ◌∷◌, get_or, map, ap, sym, ◌∙◌, length}
use Rattle.std.proofs.Common.{refl, arith, zero, suc}
use Rattle.std.specs.List.{Contains}
use Rattle.std.proofs.lemmas.Bool.{cases_eq}
use Rattle.std.proofs.lemmas.Bool.Decides.{nat_tests}
use Rattle.iol_core.specs.State as machine
use Rattle.iol_core.specs.declared.numbers.BufId.{BufId}
use Rattle.iol_arena.specs.State.{State, entry_at, entry_in, generation_at, page_count}
use Rattle.iol_arena.specs.Buffers.{Grows}
use Rattle.iol_arena.specs.Pages.{IsSameBut, MadeOn}
use Rattle.iol_arena.specs.declared.pages.Entry.{Entry}
use Rattle.iol_arena.proofs.Good.{bool_cases}
use Rattle.iol_arena.proofs.Members.{in_contains}
use Rattle.iol_pool.specs.Pools.{Pool, no_pool, pool_in}
use Rattle.iol_hold.specs.StoreState.{Stored}
use Rattle.iol_hold.specs.Moves.{SameLists, Shares, pool_meant}
use Rattle.iol_hold.specs.Pages.{KeepsPages}
use Rattle.iol_hold.specs.Releases.{FreesOnly, HasAllOrNone}
use Rattle.iol_hold.proofs.Releases.{all_or_none}

no_member : (q : ℕ) → Contains (let l : List ℕ = [] in l) q → ⊥
no_member q h = in_contains [] q h

pub keeps_pages_same : (s t : Stored) → t.arena ≡ s.arena → t.pools ≡ s.pools → KeepsPages s t []
keeps_pages_same s t arena pools = record {
  count = ap page_count arena;
  limit = ap (λ (a : State). a.limit) arena;
  raises = record { incremented = λ q h. absurd (no_member q h); kept = λ q out. ap (λ a. generation_at a q) arena };
  others = λ q out. inl (ap (λ a. (entry_at a q).kind) arena);
  chunks = λ p was is. ap (λ (ps : List Pool). (pool_in ps p).chunks) pools;
  returned = λ p is. inl (ap (λ (ps : List Pool). (pool_in ps p).chunks) pools);
}

pub keeps_pages_shares : {s t : Stored} {taken given : List BufId} → Shares s t taken given → KeepsPages s t []
keeps_pages_shares {s = s} {t = t} shares = keeps_pages_same s t shares.arena shares.pools

pub keeps_pages_frees : {s t : Stored} → FreesOnly s t → KeepsPages s t []
keeps_pages_frees frees = record {
  count = frees.count;
  limit = frees.limit;
  raises = record { incremented = λ q h. absurd (no_member q h); kept = λ q out. frees.incremented q };
  others = λ q out. frees.each q;
  chunks = λ p was is. ap (λ (x : Pool). x.chunks) (frees.pools p was);
  returned = λ p is. frees.chunks p;
}

-- if no entry changed, pools that stay open have their chunks, and closed ones have all or none
pub keeps_pages_entries : (s t : Stored) → t.arena.entries ≡ s.arena.entries → t.arena.limit ≡ s.arena.limit
    → ((p : ℕ) → (pool_in s.pools p).closed ≡ false → (pool_in t.pools p).closed ≡ false
    → (pool_in t.pools p).chunks ≡ (pool_in s.pools p).chunks)
    → ((p : ℕ) → (pool_in t.pools p).closed ≡ true → HasAllOrNone s t p) → KeepsPages s t []
keeps_pages_entries s t entries limit chunks returned = record {
  count = ap length entries;
  limit = limit;
  raises =
      record {
        incremented = λ q h. absurd (no_member q h);
        kept =
            λ q out. ap (λ (es : List Entry). (entry_in es q).generation) entries;
      };
  others = λ q out. inl (ap (λ (es : List Entry). (entry_in es q).kind) entries);
  chunks = chunks;
  returned = returned;
}

-- buffers were made on these pages
pub keeps_pages_made : {s t : Stored} {bufs : List BufId} {placed : List ℕ} → MadeOn s.arena t.arena bufs placed
    → IsSameBut placed s.arena t.arena → Grows s.arena t.arena → t.pools ≡ s.pools → KeepsPages s t placed
keeps_pages_made made others grows pools = record {
  count = grows.count;
  limit = grows.limit;
  raises = made.raises;
  others = λ q out. inl (ap (λ (e : Entry). e.kind) (others.each q out));
  chunks = λ p was is. ap (λ (ps : List Pool). (pool_in ps p).chunks) pools;
  returned = λ p is. inl (ap (λ (ps : List Pool). (pool_in ps p).chunks) pools);
}

-- Pools with the same lists are open or closed alike.
numbered_map : {A B : Type 0} (f : A → B) (xs : List A) (i : ℕ) (z : A) → f (get_or xs i z) ≡ get_or (map f xs) i (f z)
numbered_map f [] i z = refl
numbered_map f (x ∷ xs) zero z = refl
numbered_map f (x ∷ xs) (suc i) z = numbered_map f xs i z

meant_at : (ps : List Pool) (p : ℕ) → (p ≡ 0 → ⊥)
    → pool_meant (pool_in ps p) ≡ get_or (map pool_meant ps) (p - 1) (pool_meant no_pool)
unfolding pool_in
meant_at ps p some = let e = numbered_map pool_meant ps (p - 1) no_pool in
    let is : pool_in ps p ≡ get_or ps (p - 1) no_pool = grind (arith, nat_tests, some) in ap pool_meant is ∙ e

nothing_at : (ps qs : List Pool) (p : ℕ) → p ≡ 0 → pool_in ps p ≡ pool_in qs p
unfolding pool_in
nothing_at ps qs p z = grind (arith, nat_tests, z)

pub same_closed : (s t : Stored) → SameLists s t → (p : ℕ) → (pool_in t.pools p).closed ≡ (pool_in s.pools p).closed
same_closed s t same p = elim (cases_eq p 0) [
  | inl z ↦ ap (λ (x : Pool). x.closed) (nothing_at t.pools s.pools p z)
  | inr some ↦
      ap (λ (x : machine.Pool). x.closed) (meant_at t.pools p some
      ∙ ap (λ l. get_or l (p - 1) (pool_meant no_pool)) same ∙ sym (meant_at s.pools p some))
]

-- a step that keeps the lists of pools, and then another
pub returned_then : (a b c : Stored) {placed : List ℕ} → SameLists a b → KeepsPages a b placed → (p : ℕ)
    → HasAllOrNone b c p → HasAllOrNone a c p
returned_then a b c same m p n = elim (bool_cases (pool_in b.pools p).closed) [
  | inl shut ↦ all_or_none a b c p (m.returned p shut) n
  | inr is ↦ all_or_none a b c p (inl (m.chunks p (sym (same_closed a b same p) ∙ is) is)) n
]

-- two steps that make no buffers, of which the first keeps the lists of pools
pub keeps_pages_trans : {a b c : Stored} → SameLists a b → KeepsPages a b [] → KeepsPages b c [] → KeepsPages a c []
keeps_pages_trans {a = a} {b = b} {c = c} same m n = record {
  count = n.count ∙ m.count;
  limit = n.limit ∙ m.limit;
  raises = record {
    incremented = λ q h. absurd (no_member q h);
    kept = λ q out. n.raises.kept q out
        ∙ m.raises.kept q out;
  };
  others = λ q out. elim (n.others q out) [
    | inl same ↦ elim (m.others q out) [ inl was ↦ inl (same ∙ was) | inr free ↦ inr (same ∙ free) ]
    | inr free ↦ inr free
  ];
  chunks = λ p was is. (let between = same_closed a b same p ∙ was in n.chunks p between is ∙ m.chunks p was between);
  returned = λ p is. returned_then a b c same m p (n.returned p is);
}
