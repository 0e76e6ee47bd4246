-- The machine's state of a new kernel, and its invariant.
use Rattle.std.proofs.Common.{◌<◌, inl, inr, ◌≡◌, ℕ, zero, suc, List, [], ◌∷◌, length, get_or, refl, sym, subst}
use Rattle.std.proofs.Common.{replicate, arith, ap, ◌∙◌}
use Rattle.std.specs.Prelude.{Option, Result, Ok, Err, ◌↔◌}
use Rattle.std.proofs.lemmas.Bool.{cases_lt}
use Rattle.iol_core.specs.Configuration.{IsInRange}
use Rattle.iol_core.specs.declared.configuration.Config.{Config}
use Rattle.iol_core.specs.declared.refusals.Refusal.{Refusal}
use Rattle.iol_core.specs.declared.refusals.Refusal.TheVariants.{BadRange}
use Rattle.iol_core.specs.declared.numbers.BufId.{BufId}
use Rattle.iol_core.specs.State.{new_state, new_domain, Domain}
use Rattle.iol_arena.specs.State.{no_entry, page_count}
use Rattle.iol_arena.specs.declared.pages.PageKind.TheVariants.{Free}
use Rattle.std.proofs.lemmas.List.{length-replicate}
use Rattle.iol_arena.specs.declared.pages.Entry.{Entry}
use Rattle.iol_pool.specs.Pools.{Pool}
use Rattle.iol_hold.specs.StoreState.{Stored, count_in, count_of, IsTidy, IsStill, AllReclaimed}
use Rattle.iol_hold.specs.declared.slices.Slice.{Slice}
use Rattle.iol_sum.specs.Sums.{IsRight}
use Rattle.iol_sock.specs.Connections.{Conn}
use Rattle.iol_core.specs.State.{File}
use Rattle.iol_cache.specs.Sound as cache
use Rattle.iol_cache.specs.declared.files.CachedFile.{CachedFile}
use Rattle.iol_kernel.specs.Readings.{bytes_over, slots_of}
use Rattle.iol_kernel.proofs.State.Slots.{slots-none, none_readable, held-none, none_there}
use Rattle.iol_kernel.specs.Views.{Objects, Pipe, state_view}
use Rattle.iol_kernel.specs.KernelState.{KernelState, objects_of, machine_of, IsCached, IsSound, read_of}

-- no pipes, and no connections yet
abbrev pub no_objects : Objects (List Slice)
no_objects = record { pipes = []; conns = []; next_conn = 1; files = []; cached = [] }

pub none_of : {qs : List (Option (Pipe (List Slice)))} {cs : List (ℕ × Conn (List Slice))} {n : ℕ} {fs : List File}
    {gs : List CachedFile} → qs ≡ [] → cs ≡ [] → n ≡ 1 → fs ≡ [] → gs ≡ []
    → ◌≡◌ {A = Objects (List Slice)} (record { pipes = qs; conns = cs; next_conn = n; files = fs; cached = gs })
    no_objects
none_of qs cs n fs gs = λ i. record { pipes = qs i; conns = cs i; next_conn = n i; files = fs i; cached = gs i }

pub new-machine : (h : KernelState) → h.domains ≡ new_domain ∷ [] → h.store.pools ≡ [] → objects_of h ≡ no_objects
    → (stored : List (List ℕ)) → machine_of stored h ≡ new_state (slots_of stored)
unfolding read_of state_view
new-machine h domains' pools' objects' stored =
    ap (λ (ds : List (Domain (List Slice))). state_view (bytes_over stored h.store) ds h.store.pools (objects_of h))
    domains'
    ∙ ap (λ (ps : List Pool). state_view (bytes_over stored h.store) (new_domain ∷ []) ps (objects_of h)) pools'
    ∙ ap (λ (o : Objects (List Slice)). state_view (bytes_over stored h.store) (new_domain ∷ []) [] o) objects'
    ∙ ap (λ (xs : List (List ℕ)). new_state xs) (slots-none (bytes_over stored h.store))

every : {A : Type 0} (n i : ℕ) (x : A) → get_or (replicate n x) i x ≡ x
every zero i x = refl
every (suc n) zero x = refl
every (suc n) (suc i) x = every n i x

-- in a new store no buffer is held
none_held : (s : Stored) (n : ℕ) → s.arena.entries ≡ replicate n no_entry → (b : BufId) → count_of s b ≡ 0
unfolding count_of
none_held s n e b =
    ap (λ (x : Entry). count_in x (get_or s.counts b.page 0) b.generation)
    (ap (λ (es : List Entry). get_or es b.page no_entry) e ∙ every n b.page no_entry)

pub new-sound : (h : KernelState) (n : ℕ) → h.domains ≡ new_domain ∷ [] → h.store.arena.entries ≡ replicate n no_entry
    → IsTidy h.store → AllReclaimed h.store → objects_of h ≡ no_objects → h.store.pools ≡ []
    → IsRight h.store.arena h.sums
    → ((s : Stored) → page_count s.arena ≡ n → IsTidy s → IsStill s.arena → cache.IsSound s h.cache) → IsSound h
unfolding IsCached
new-sound h n domains' entries' tidy reclaimed objects' pools' sums cached =
    let free : (q : ℕ) → (get_or h.store.arena.entries q no_entry).kind ≡ Free =
    λ q. ap (λ (x : Entry). x.kind) (ap (λ (es : List Entry). get_or es q no_entry) entries'
    ∙ every n q no_entry) in
    let still : IsStill h.store.arena = record { each = λ q waits. cc (free q, waits) } in
    subst (λ (ds : List (Domain (List Slice))). IsSound (record h { domains = ds })) (sym domains')
    (subst
    (λ (o : Objects (List Slice)). IsSound (record h {
      domains = new_domain ∷ [];
      pipes = o.pipes;
      conns =
          o.conns;
      next_conn = o.next_conn;
      files = o.files;
      cache = record h.cache { files = o.cached };
    }))
    (sym objects') (record {
      domains = (tt, tt);
      objects = record { pipes = tt; conns = tt; files = λ n. none_readable h.store n };
      fds = (tt, tt);
      once = record { each = λ x. omega arith };
      counted = record { each = λ b. omega (arith, none_held h.store n entries' b, held-none b) };
      tidy = tidy;
      still = still;
      reclaimed = reclaimed;
      limits =
          record {
            aggs = (tt, tt);
            few = omega arith;
            objects =
                record {
                  queues = tt;
                  few_pipes = omega arith;
                  conns = tt;
                  few_conns = omega arith;
                  rising =
                      omega arith;
                  last = omega arith;
                  cached = tt;
                  few_files = omega arith;
                };
          };
      pooled = record {
        few = omega (arith, ap length pools');
        opened = tt;
        files_open =
            λ n there. absurd (none_there {A = CachedFile} [] n refl there);
      };
      sums = sums;
      filed = refl;
      cached = subst (λ (fs : List CachedFile). cache.IsSound h.store (record h.cache { files = fs }))
          (ap (λ (o : Objects (List Slice)). o.cached) objects')
          (cached h.store (ap length entries' ∙ length-replicate n no_entry) tidy still);
    }))

-- a store that was made has sizes in their ranges
pub some_sums : (c : Config) {A : Type 0} (r : Result A Refusal) (x : A) → (r ≡ Err BadRange) ↔ (IsInRange c → ⊥)
    → r ≡ Ok x → 0 < c.sums
some_sums c r x range is = elim (cases_lt 0 c.sums) [
  | inl k ↦ k
  | inr k ↦
      (let bad : r ≡ Err BadRange = range.1 (λ in_range. (let some = in_range.3 in absurd (omega (arith, some, k)))) in
      absurd (cc (bad, is)))
]
