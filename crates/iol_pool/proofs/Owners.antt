-- Pools by number, and the pool of each chunk.
use Rattle.std.proofs.Common.{◌≡◌, ◌⊎◌, inl, inr, ℕ, zero, suc, ◌+◌, ◌-◌, ◌<◌, ◌≤◌, Bool, true, false, not, List, []}
use Rattle.std.proofs.Common.{◌∷◌, ◌++◌, drop, length, get_or, set, map, refl, sym, ap, ◌∙◌, subst, arith, length-set}
use Rattle.std.proofs.Common.{length-append}
use Rattle.std.specs.Prelude.{nat_lt, nat_le, ◌&&◌, ◌==◌}
use Rattle.std.specs.List.{All, Contains, list_any, range_with_len}
use Rattle.std.proofs.Math.Seq.{get_or-append_seam, map-set_same}
use Rattle.std.proofs.lemmas.List.{get_or-set_other, drop_all, drop_more, get_or-set_same, get_or_append_left}
use Rattle.std.proofs.lemmas.List.{get_or_default, get_or_past, same_lists}
use Rattle.std.proofs.lemmas.List.FromFn.{get_or-map-range_with_len, length-map-range_with_len}
use Rattle.std.proofs.lemmas.List.Elements.{Contains-get_or}
use Rattle.std.proofs.lemmas.Bool.{cases_eq, cases_lt}
use Rattle.std.proofs.lemmas.Bool.Decides.{nat_tests}
use Rattle.iol_core.specs.NumberedLists.{is_numbered, with_numbered}
use Rattle.iol_core.specs.declared.numbers.BufId.{BufId}
use Rattle.iol_arena.specs.State.{State, chunk_count, generation_at}
use Rattle.iol_arena.specs.Buffers.{IsLive, Keeps, bytes_of}
use Rattle.iol_arena.specs.Chunks.{TakesChunks, free_chunks, is_taken, is_untaken}
use Rattle.iol_arena.proofs.Good.{bool_cases}
use Rattle.iol_arena.proofs.Members.{In, in_contains, contains_in, in_or_out, in_passes, in_take}
use Rattle.iol_pool.specs.Pools.{Pool, no_pool, pool_in, with_closed, with_emptied, all_returned, with_returned}
use Rattle.iol_pool.specs.Pools.{goes_back, reclaimed, reclaimed_arena}
use Rattle.iol_pool.specs.Owners.{AreOwned}

-- whether q is one of them
abbrev named : List ℕ → ℕ → Bool
named cs q = list_any (λ d. d == q) cs

-- Pools by number.

pub numbered : (ps : List Pool) (p : ℕ) → is_numbered ps p ≡ true → (0 < p) × (p ≤ length ps)
numbered ps p h = grind (arith, nat_tests, h)

pub pool_in-other : (ps : List Pool) (p q : ℕ) (x : Pool) → (q ≡ p → ⊥)
    → pool_in (with_numbered ps p x) q ≡ pool_in ps q
unfolding pool_in
pool_in-other ps p q x other = elim (cases_eq p 0) [
  | inl k ↦ grind (arith, nat_tests, k)
  | inr k ↦ elim (cases_eq q 0) [
    | inl z ↦ grind (arith, nat_tests, z)
    | inr z ↦ (let e = get_or-set_other ps (p - 1) (q - 1) x no_pool (λ e. other (omega arith)) in
        grind (arith, nat_tests, k, z, e))
  ]
]

pub pool_in-there : (ps : List Pool) (p : ℕ) (x : Pool) → is_numbered ps p ≡ true → pool_in (with_numbered ps p x) p ≡ x
unfolding pool_in
pool_in-there ps p x there =
    let n = numbered ps p there in
    let e = get_or-set_same ps (p - 1) x no_pool (omega (arith, n.0, n.1)) in
    grind (arith, nat_tests, n.0, e)

pub length-with_numbered : (ps : List Pool) (p : ℕ) (x : Pool) → length (with_numbered ps p x) ≡ length ps
length-with_numbered ps p x = let e = length-set ps (p - 1) x in grind (arith, nat_tests, e)

pub pool_in-pushed : (ps : List Pool) (x : Pool) → pool_in (ps ++ x ∷ []) (length ps + 1) ≡ x
unfolding pool_in
pool_in-pushed ps x = let e = get_or-append_seam ps x [] no_pool in grind (arith, nat_tests, e)

pub pool_in-before : (ps : List Pool) (x : Pool) (q : ℕ) → (q ≡ length ps + 1 → ⊥)
    → pool_in (ps ++ x ∷ []) q ≡ pool_in ps q
unfolding pool_in
pool_in-before ps x q other = elim (cases_eq q 0) [
  | inl z ↦ grind (arith, nat_tests, z)
  | inr z ↦ elim (cases_lt (q - 1) (length ps)) [
    | inl k ↦ (let e = get_or_append_left ps (x ∷ []) no_pool (q - 1) k in grind (arith, nat_tests, z, e))
    | inr k ↦ (let l : length ps < q - 1 = omega (arith, z, k, other) in
        let a = get_or_past ps (q - 1) no_pool k in
        let b = get_or_past (ps ++ x ∷ []) (q - 1) no_pool (omega (arith, l, length-append ps (x ∷ []))) in
        grind (arith, nat_tests, z, a, b))
  ]
]

-- closing a pool leaves the others unchanged
pub pool_in-closed : (ps : List Pool) (p q : ℕ) → (q ≡ p → ⊥) → pool_in (with_closed ps p) q ≡ pool_in ps q
unfolding with_closed
pool_in-closed ps p q n = pool_in-other ps p q (record (pool_in ps p) { closed = true }) n

pub closed-closed : (ps : List Pool) (p : ℕ) → is_numbered ps p ≡ true → (pool_in (with_closed ps p) p).closed ≡ true
unfolding with_closed
closed-closed ps p there =
    ap (λ (x : Pool). x.closed) (pool_in-there ps p (record (pool_in ps p) { closed = true }) there)

-- closing a pool changes no pool's chunks
pub chunks-closed : (ps : List Pool) (p q : ℕ) → is_numbered ps p ≡ true
    → (pool_in (with_closed ps p) q).chunks ≡ (pool_in ps q).chunks
unfolding with_closed
chunks-closed ps p q there = elim (cases_eq q p) [
  | inl e ↦
      subst (λ q. (pool_in (with_numbered ps p (record (pool_in ps p) { closed = true })) q).chunks
      ≡ (pool_in ps q).chunks) (sym e)
      (ap (λ (x : Pool). x.chunks) (pool_in-there ps p (record (pool_in ps p) { closed = true }) there))
  | inr n ↦ ap (λ (x : Pool). x.chunks) (pool_in-other ps p q (record (pool_in ps p) { closed = true }) n)
]

-- emptying a pool leaves the chunks of the others unchanged
pub chunks-emptied : (ps : List Pool) (p q : ℕ) → (q ≡ p → ⊥)
    → (pool_in (with_emptied ps p) q).chunks ≡ (pool_in ps q).chunks
unfolding with_emptied
chunks-emptied ps p q n = ap (λ (x : Pool). x.chunks) (pool_in-other ps p q (record (pool_in ps p) { chunks = [] }) n)

emptied : (ps : List Pool) (p q c : ℕ) → is_numbered ps p ≡ true → Contains (pool_in (with_emptied ps p) q).chunks c
    → (q ≡ p → ⊥) × Contains (pool_in ps q).chunks c
unfolding with_emptied
emptied ps p q c there h = elim (cases_eq q p) [
  | inl e ↦
      absurd
      (in_contains [] c
      (subst (λ (x : Pool). Contains x.chunks c) (pool_in-there ps p (record (pool_in ps p) { chunks = [] }) there)
      (subst (λ q. Contains (pool_in (with_numbered ps p (record (pool_in ps p) { chunks = [] })) q).chunks c) e h)))
  | inr n ↦
      (n, subst (λ (x : Pool). Contains x.chunks c) (pool_in-other ps p q (record (pool_in ps p) { chunks = [] }) n) h)
]

pub length-all_returned : (taken : List Bool) (cs : List ℕ) → length (all_returned taken cs) ≡ length taken
length-all_returned taken cs = length-map-range_with_len (λ c. get_or taken c true && not (named cs c)) 0 (length taken)

-- a change at an index past the last pool changes nothing
set_past : (ps : List Pool) (i : ℕ) (x : Pool) → length ps ≤ i → set ps i x ≡ ps
set_past [] i x h = refl
set_past (y ∷ ps) zero x h = absurd (omega arith)
set_past (y ∷ ps) (suc i) x h = ap (λ t. y ∷ t) (set_past ps i x (omega arith))

with_numbered-nowhere : (ps : List Pool) (p : ℕ) (x : Pool) → is_numbered ps p ≡ false → with_numbered ps p x ≡ ps
with_numbered-nowhere ps p x out = elim (cases_eq p 0) [
  | inl z ↦ grind (arith, nat_tests, z)
  | inr z ↦ (let far : length ps ≤ p - 1 = grind (arith, nat_tests, z, out) in let e = set_past ps (p - 1) x far in
      grind (arith, nat_tests, z, e))
]

pub pool_in-nowhere : (ps : List Pool) (p : ℕ) → is_numbered ps p ≡ false → pool_in ps p ≡ no_pool
unfolding pool_in
pool_in-nowhere ps p out = elim (cases_eq p 0) [
  | inl z ↦ grind (arith, nat_tests, z)
  | inr z ↦ (let far : length ps ≤ p - 1 = grind (arith, nat_tests, z, out) in let e =
      get_or_past ps (p - 1) no_pool far in grind (arith, nat_tests, z, e))
]

-- Chunks that are returned.

returned_at : (taken : List Bool) (cs : List ℕ) (q : ℕ) (d : Bool) → q < length taken
    → get_or (all_returned taken cs) q d ≡ (get_or taken q true && not (named cs q))
returned_at taken cs q d lt = get_or-map-range_with_len (λ c. get_or taken c true && not (named cs c)) 0 (length taken)
    q q d lt (omega arith)

named_in : (cs : List ℕ) (q : ℕ) → In cs q → named cs q ≡ true
named_in [] q h = absurd h
named_in (c ∷ cs) q (inl e) = grind (arith, nat_tests, e)
named_in (c ∷ cs) q (inr h) = let r = named_in cs q h in
    elim (bool_cases (c == q)) [ inl e ↦ rw e refl | inr e ↦ rw e r ]

named_out : (cs : List ℕ) (q : ℕ) → (In cs q → ⊥) → named cs q ≡ false
named_out [] q out = refl
named_out (c ∷ cs) q out = elim (cases_eq q c) [
  | inl e ↦ absurd (out (inl e))
  | inr ne ↦ (let r = named_out cs q (λ h. out (inr h)) in let t : (c == q) ≡ false = grind (arith, nat_tests, ne) in
      rw t r)
]

still : (b : Bool) → (b && not false) ≡ b
still true = refl
still false = refl

free : (b : Bool) → (b && not true) ≡ false
free true = refl
free false = refl

returned_out : (taken : List Bool) (cs : List ℕ) (q : ℕ) → (In cs q → ⊥)
    → get_or (all_returned taken cs) q true ≡ get_or taken q true
returned_out taken cs q out = elim (cases_lt q (length taken)) [
  | inl lt ↦ returned_at taken cs q true lt ∙ ap (λ b. get_or taken q true && not b) (named_out cs q out)
      ∙ still (get_or taken q true)
  | inr ge ↦ get_or_past (all_returned taken cs) q true (omega (arith, ge, length-all_returned taken cs))
      ∙ sym (get_or_past taken q true ge)
]

returned_in : (taken : List Bool) (cs : List ℕ) (q : ℕ) → In cs q → q < length taken
    → get_or (all_returned taken cs) q true ≡ false
returned_in taken cs q h lt = returned_at taken cs q true lt ∙ ap (λ b. get_or taken q true && not b) (named_in cs q h)
    ∙ free (get_or taken q true)

-- Chunks that are returned one after another.
pub all_returned-none : (taken : List Bool) → all_returned taken [] ≡ taken
all_returned-none taken = same_lists (all_returned taken []) taken (length-all_returned taken []) (λ k d h.
    (let lt : k < length taken = omega (arith, h, length-all_returned taken []) in
    returned_at taken [] k d lt ∙ still (get_or taken k true) ∙ get_or_default taken k true d lt))

returned_more : (taken : List Bool) (c : ℕ) (cs : List ℕ) (k : ℕ) → k < length taken
    → (get_or (set taken c false) k true && not (named cs k)) ≡ (get_or taken k true && not (named (c ∷ cs) k))
returned_more taken c cs k lt = elim (cases_eq k c) [
  | inl e ↦ (
      let t : (c == k) ≡ true = grind (arith, nat_tests, e) in
      let f : get_or (set taken c false) k true ≡ false = ap (λ i. get_or (set taken i false) k true) (sym e)
      ∙ get_or-set_same taken k false true lt in
      rw (t, f) (sym (free (get_or taken k true))))
  | inr ne ↦ (let t : (c == k) ≡ false = grind (arith, nat_tests, ne) in
      rw (t, get_or-set_other taken c k false true ne) refl)
]

pub all_returned-more : (taken : List Bool) (c : ℕ) (cs : List ℕ)
    → all_returned (set taken c false) cs ≡ all_returned taken (c ∷ cs)
all_returned-more taken c cs = same_lists (all_returned (set taken c false) cs) (all_returned taken (c ∷ cs))
    (length-all_returned (set taken c false) cs ∙ length-set taken c false ∙ sym (length-all_returned taken (c ∷ cs)))
    (λ k d h. (
    let lt : k < length taken =
    omega (arith, h, length-all_returned (set taken c false) cs, length-set taken c false) in
    returned_at (set taken c false) cs k d (omega (arith, lt, length-set taken c false)) ∙ returned_more taken c cs k lt
    ∙ sym (returned_at taken (c ∷ cs) k d lt)))

pub returned_on : (taken : List Bool) (cs : List ℕ) (i c : ℕ) → i < length cs → c ≡ get_or cs i c
    → all_returned (set taken c false) (drop (i + 1) cs) ≡ all_returned taken (drop i cs)
returned_on taken cs i c h is = all_returned-more taken c (drop (i + 1) cs)
    ∙ ap (λ l. all_returned taken l) (sym (drop_more cs i c h ∙ ap (λ x. x ∷ drop (i + 1) cs) (sym is)))

pub returned_last : (taken : List Bool) (cs : List ℕ) (i : ℕ) → length cs ≤ i → all_returned taken (drop i cs) ≡ taken
returned_last taken cs i h = ap (λ l. all_returned taken l) (drop_all i cs h) ∙ all_returned-none taken

-- A pool that is reclaimed.

pub reclaimed-no : (s : State) (ps : List Pool) (p : ℕ) → goes_back s ps p ≡ false → reclaimed s ps p ≡ ps
unfolding reclaimed
reclaimed-no s ps p out = rw out refl

pub reclaimed-yes : (s : State) (ps : List Pool) (p : ℕ) → goes_back s ps p ≡ true
    → reclaimed s ps p ≡ with_emptied ps p
unfolding reclaimed
reclaimed-yes s ps p back = rw back refl

pub reclaimed_arena-no : (s : State) (ps : List Pool) (p : ℕ) → goes_back s ps p ≡ false → reclaimed_arena s ps p ≡ s
unfolding reclaimed_arena
reclaimed_arena-no s ps p out = rw out refl

pub reclaimed_arena-yes : (s : State) (ps : List Pool) (p : ℕ) → goes_back s ps p ≡ true
    → reclaimed_arena s ps p ≡ with_returned s (pool_in ps p).chunks
unfolding reclaimed_arena
reclaimed_arena-yes s ps p back = rw back refl

pub reclaimed-nowhere : (s : State) (ps : List Pool) (p : ℕ) → is_numbered ps p ≡ false → reclaimed s ps p ≡ ps
unfolding with_emptied
reclaimed-nowhere s ps p out = elim (bool_cases (goes_back s ps p)) [
  | inl e ↦ reclaimed-yes s ps p e ∙ with_numbered-nowhere ps p (record (pool_in ps p) { chunks = [] }) out
  | inr e ↦ reclaimed-no s ps p e
]

pub reclaimed_arena-nowhere : (s : State) (ps : List Pool) (p : ℕ) → is_numbered ps p ≡ false
    → reclaimed_arena s ps p ≡ s
reclaimed_arena-nowhere s ps p out = elim (bool_cases (goes_back s ps p)) [
  | inl e ↦ reclaimed_arena-yes s ps p e ∙ ap (λ (x : Pool). with_returned s x.chunks) (pool_in-nowhere ps p out)
      ∙ ap (λ (l : List Bool). record {
        memory = s.memory;
        base = s.base;
        entries = s.entries;
        limit = s.limit;
        taken =
            l;
      }) (all_returned-none s.taken)
  | inr e ↦ reclaimed_arena-no s ps p e
]

-- reclaiming a pool leaves the others unchanged
pub pool_in-reclaimed : (s : State) (ps : List Pool) (p q : ℕ) → (q ≡ p → ⊥)
    → pool_in (reclaimed s ps p) q ≡ pool_in ps q
unfolding with_emptied
pool_in-reclaimed s ps p q other = elim (bool_cases (goes_back s ps p)) [
  | inl e ↦ ap (λ (l : List Pool). pool_in l q) (reclaimed-yes s ps p e)
      ∙ pool_in-other ps p q (record (pool_in ps p) { chunks = [] }) other
  | inr e ↦ ap (λ (l : List Pool). pool_in l q) (reclaimed-no s ps p e)
]

-- reclaiming a pool does not change which pools are closed
pub closed-reclaimed : (s : State) (ps : List Pool) (p q : ℕ)
    → (pool_in (reclaimed s ps p) q).closed ≡ (pool_in ps q).closed
unfolding with_emptied
closed-reclaimed s ps p q = elim (cases_eq q p) [
  | inr ne ↦ ap (λ (x : Pool). x.closed) (pool_in-reclaimed s ps p q ne)
  | inl e ↦ elim (bool_cases (is_numbered ps p)) [
    | inr out ↦ ap (λ (l : List Pool). (pool_in l q).closed) (reclaimed-nowhere s ps p out)
    | inl there ↦ elim (bool_cases (goes_back s ps p)) [
      | inr stays ↦ ap (λ (l : List Pool). (pool_in l q).closed) (reclaimed-no s ps p stays)
      | inl back ↦ ap (λ (l : List Pool). (pool_in l q).closed) (reclaimed-yes s ps p back)
          ∙ ap (λ r. (pool_in (with_numbered ps p (record (pool_in ps p) { chunks = [] })) r).closed) e
          ∙ ap (λ (x : Pool). x.closed) (pool_in-there ps p (record (pool_in ps p) { chunks = [] }) there)
          ∙ ap (λ r. (pool_in ps r).closed) (sym e)
    ]
  ]
]

-- Emptying a pool changes only its chunks, and closing it only whether it is closed.
pub map-emptied : {A : Type 0} (f : Pool → A) → ((x : Pool) (cs : List ℕ) → f (record x { chunks = cs }) ≡ f x)
    → (ps : List Pool) (p : ℕ) → map f (with_emptied ps p) ≡ map f ps
unfolding with_emptied pool_in
map-emptied f same ps p = elim (cases_eq p 0) [
  | inl z ↦ ap (λ (l : List Pool). map f l) (grind (arith, nat_tests, z))
  | inr z ↦
      let x : pool_in ps p ≡ get_or ps (p - 1) no_pool = grind (arith, nat_tests, z) in
      let is : with_numbered ps p (record (pool_in ps p) { chunks = [] })
      ≡ set ps (p - 1) (record (pool_in ps p) { chunks = [] }) = grind (arith, nat_tests, z) in
      ap (λ (l : List Pool). map f l) is ∙ map-set_same f ps (p - 1) (record (pool_in ps p) { chunks = [] }) no_pool
      (same (pool_in ps p) [] ∙ ap f x)
]

pub map-reclaimed : {A : Type 0} (f : Pool → A) → ((x : Pool) (cs : List ℕ) → f (record x { chunks = cs }) ≡ f x)
    → (s : State) (ps : List Pool) (p : ℕ) → map f (reclaimed s ps p) ≡ map f ps
map-reclaimed f same s ps p = elim (bool_cases (goes_back s ps p)) [
  | inl e ↦ ap (λ (l : List Pool). map f l) (reclaimed-yes s ps p e) ∙ map-emptied f same ps p
  | inr e ↦ ap (λ (l : List Pool). map f l) (reclaimed-no s ps p e)
]

pub length-reclaimed : (s : State) (ps : List Pool) (p : ℕ) → length (reclaimed s ps p) ≡ length ps
unfolding with_emptied
length-reclaimed s ps p = elim (bool_cases (goes_back s ps p)) [
  | inl e ↦ ap (λ (l : List Pool). length l) (reclaimed-yes s ps p e)
      ∙ length-with_numbered ps p (record (pool_in ps p) { chunks = [] })
  | inr e ↦ ap (λ (l : List Pool). length l) (reclaimed-no s ps p e)
]

pub length-closed : (ps : List Pool) (p : ℕ) → length (with_closed ps p) ≡ length ps
unfolding with_closed
length-closed ps p = length-with_numbered ps p (record (pool_in ps p) { closed = true })

pub is_numbered-reclaimed : (s : State) (ps : List Pool) (p q : ℕ) → is_numbered (reclaimed s ps p) q ≡ is_numbered ps q
is_numbered-reclaimed s ps p q = ap (λ n. nat_lt 0 q && nat_le q n) (length-reclaimed s ps p)

pub is_numbered-closed : (ps : List Pool) (p q : ℕ) → is_numbered (with_closed ps p) q ≡ is_numbered ps q
is_numbered-closed ps p q = ap (λ n. nat_lt 0 q && nat_le q n) (length-closed ps p)

-- reclaiming a pool changes no memory and no page
pub reclaimed_arena-same : (s : State) (ps : List Pool) (p : ℕ)
    → reclaimed_arena s ps p ≡ record {
      memory = s.memory;
      base = s.base;
      entries = s.entries;
      limit = s.limit;
      taken =
          (reclaimed_arena s ps p).taken;
    }
reclaimed_arena-same s ps p = elim (bool_cases (goes_back s ps p)) [
  | inl e ↦
      subst (λ (t : State). t ≡ record {
        memory = s.memory;
        base = s.base;
        entries = s.entries;
        limit = s.limit;
        taken =
            t.taken;
      }) (sym (reclaimed_arena-yes s ps p e)) refl
  | inr e ↦
      subst (λ (t : State). t ≡ record {
        memory = s.memory;
        base = s.base;
        entries = s.entries;
        limit = s.limit;
        taken =
            t.taken;
      }) (sym (reclaimed_arena-no s ps p e)) refl
]

live_kept : (s : State) (taken : List Bool) (b : BufId) → IsLive s b
    → IsLive (record { memory = s.memory; base = s.base; entries = s.entries; limit = s.limit; taken = taken }) b
live_kept s taken b h = record { head = h.head; generation = h.generation }

live_was : (s : State) (taken : List Bool) (b : BufId)
    → IsLive (record { memory = s.memory; base = s.base; entries = s.entries; limit = s.limit; taken = taken }) b
    → IsLive s b
live_was s taken b h = record { head = h.head; generation = h.generation }

pub live-reclaimed : (s : State) (ps : List Pool) (p : ℕ) (b : BufId) → IsLive s b → IsLive (reclaimed_arena s ps p) b
live-reclaimed s ps p b h =
    subst (λ (t : State). IsLive t b) (sym (reclaimed_arena-same s ps p))
    (live_kept s (reclaimed_arena s ps p).taken b h)

pub live_before-reclaimed : (s : State) (ps : List Pool) (p : ℕ) (b : BufId) → IsLive (reclaimed_arena s ps p) b
    → IsLive s b
live_before-reclaimed s ps p b h =
    live_was s (reclaimed_arena s ps p).taken b (subst (λ (t : State). IsLive t b) (reclaimed_arena-same s ps p) h)

pub bytes_of-reclaimed : (s : State) (ps : List Pool) (p : ℕ) (b : BufId)
    → bytes_of (reclaimed_arena s ps p) b ≡ bytes_of s b
bytes_of-reclaimed s ps p b = ap (λ (t : State). bytes_of t b) (reclaimed_arena-same s ps p)

pub keeps-reclaimed : (s : State) (ps : List Pool) (p : ℕ) → Keeps s (reclaimed_arena s ps p)
keeps-reclaimed s ps p = record {
  rising = λ q. (let e : generation_at (reclaimed_arena s ps p) q ≡ generation_at s q =
      ap (λ (t : State). generation_at t q) (reclaimed_arena-same s ps p) in omega (arith, e));
  kept = λ b h. inl (live_before-reclaimed s ps p b h, bytes_of-reclaimed s ps p b);
  base = ap (λ (t : State). t.base) (reclaimed_arena-same s ps p);
}

pub chunk_count-reclaimed : (s : State) (ps : List Pool) (p : ℕ) → chunk_count (reclaimed_arena s ps p) ≡ chunk_count s
chunk_count-reclaimed s ps p = elim (bool_cases (goes_back s ps p)) [
  | inl e ↦ ap (λ (t : State). length t.taken) (reclaimed_arena-yes s ps p e)
      ∙ length-all_returned s.taken (pool_in ps p).chunks
  | inr e ↦ ap (λ (t : State). length t.taken) (reclaimed_arena-no s ps p e)
]

-- The pool of each chunk.

pub pool_in-none : (p : ℕ) → pool_in (let l : List Pool = [] in l) p ≡ no_pool
unfolding pool_in
pool_in-none p = elim (cases_eq p 0) [ inl z ↦ grind (arith, nat_tests, z) | inr z ↦ grind (arith, nat_tests, z) ]

none_owned : (p c : ℕ) → Contains (pool_in (let l : List Pool = [] in l) p).chunks c → ⊥
none_owned p c h = in_contains [] c (subst (λ (x : Pool). Contains x.chunks c) (pool_in-none p) h)

pub owned_none : (s : State) → ((c : ℕ) → c < chunk_count s → is_taken s c ≡ false) → AreOwned s []
owned_none s free = record {
  within = λ p c h. absurd (none_owned p c h);
  taken = λ p c h. absurd (none_owned p c h);
  single = λ p q c h k. absurd (none_owned p c h);
  owner = λ c h is. (let no = free c h in cc (no, is));
}

-- an arena in which the same chunks are taken
pub owned_stays : (s t : State) (ps : List Pool) → t.taken ≡ s.taken → AreOwned s ps → AreOwned t ps
owned_stays s t ps same o = record {
  within = λ p c h. subst (λ (l : List Bool). c < length l) (sym same) (o.within p c h);
  taken = λ p c h. subst (λ (l : List Bool). get_or l c true ≡ true) (sym same) (o.taken p c h);
  single = o.single;
  owner =
      λ c h is. o.owner c (subst (λ (l : List Bool). c < length l) same h)
      (subst (λ (l : List Bool). get_or l c true ≡ true) same is);
}

-- pools with the same chunks
pub owned_same : (s : State) (ps qs : List Pool) → ((q : ℕ) → (pool_in qs q).chunks ≡ (pool_in ps q).chunks)
    → AreOwned s ps → AreOwned s qs
owned_same s ps qs same o = record {
  within = λ p c h. o.within p c (subst (λ l. Contains l c) (same p) h);
  taken = λ p c h. o.taken p c (subst (λ l. Contains l c) (same p) h);
  single = λ p q c h k. o.single p q c (subst (λ l. Contains l c) (same p) h) (subst (λ l. Contains l c) (same q) k);
  owner = λ c h is. (let w = o.owner c h is in (w.0, subst (λ l. Contains l c) (sym (same w.0)) w.1));
}

pub owned_closed : (s : State) (ps : List Pool) (p : ℕ) → is_numbered ps p ≡ true → AreOwned s ps
    → AreOwned s (with_closed ps p)
owned_closed s ps p there o = owned_same s ps (with_closed ps p) (λ q. chunks-closed ps p q there) o

pub all_owned : (s : State) (ps : List Pool) (p : ℕ) → AreOwned s ps
    → All (λ c. c < chunk_count s) (pool_in ps p).chunks
all_owned s ps p o =
    λ k d h. o.within p (get_or (pool_in ps p).chunks k d) (Contains-get_or (pool_in ps p).chunks k d h)

-- the chunks of a pool are in the arena, by any list that equals them
pub within_chunks : (s : State) (ps : List Pool) (p : ℕ) (cs ds : List ℕ) → AreOwned s ps → cs ≡ ds
    → ds ≡ (pool_in ps p).chunks → All (λ k. k < chunk_count s) cs
within_chunks s ps p cs ds o a b =
    subst (λ (l : List ℕ). All (λ k. k < chunk_count s) l) (sym (a ∙ b)) (all_owned s ps p o)

pub owned_reclaimed : (s : State) (ps : List Pool) (p : ℕ) → is_numbered ps p ≡ true → AreOwned s ps
    → AreOwned (with_returned s (pool_in ps p).chunks) (with_emptied ps p)
owned_reclaimed s ps p there o = record {
  within =
      λ q c h. omega (
        arith,
        o.within q c (emptied ps p q c there h).1,
        length-all_returned s.taken (pool_in ps p).chunks,
      );
  taken =
      λ q c h. (let e = emptied ps p q c there h in
      returned_out s.taken (pool_in ps p).chunks c
      (λ k. e.0 (o.single q p c e.1 (contains_in (pool_in ps p).chunks c k))) ∙ o.taken q c e.1);
  single = λ q r c h k. o.single q r c (emptied ps p q c there h).1 (emptied ps p r c there k).1;
  owner = λ c h is.
      let cs = (pool_in ps p).chunks in
      let within : c < chunk_count s = omega (arith, h, length-all_returned s.taken cs) in
      let out : In cs c → ⊥ = λ k. (let no = returned_in s.taken cs c k within in cc (no, is)) in
      let w = o.owner c within (sym (returned_out s.taken cs c out) ∙ is) in
      let other : w.0 ≡ p → ⊥ = λ e. out (in_contains cs c (subst (λ q. Contains (pool_in ps q).chunks c) e w.1)) in
      (w.0, subst (λ l. Contains l c) (sym (chunks-emptied ps p w.0 other)) w.1);
}

-- Chunks that a new pool takes.

pub past_closed : (ps : List Pool) → (pool_in ps (length ps + 1)).closed ≡ true
unfolding pool_in
past_closed ps = let past = get_or_past ps (length ps + 1 - 1) no_pool (omega arith) in grind (arith, nat_tests, past)

-- the number after the last pool has no chunks
pub nowhere : (ps : List Pool) (c : ℕ) → Contains (pool_in ps (length ps + 1)).chunks c → ⊥
unfolding pool_in
nowhere ps c h =
    let past = get_or_past ps (length ps + 1 - 1) no_pool (omega arith) in
    let none : pool_in ps (length ps + 1) ≡ no_pool = grind (arith, nat_tests, past) in
    let k = subst (λ (x : Pool). Contains x.chunks c) none h in
    omega (arith, k.1)

module _ (s t : State) (ps : List Pool) (x : Pool) (takes : TakesChunks s t x.chunks) (o : AreOwned s ps) where
  whose : (q c : ℕ) → Contains (pool_in (ps ++ x ∷ []) q).chunks c → ((q ≡ length ps + 1) × Contains x.chunks c)
      ⊎ Contains (pool_in ps q).chunks c
  whose q c h = elim (cases_eq q (length ps + 1)) [
    | inl e ↦
        inl (
          e,
          subst (λ (y : Pool). Contains y.chunks c) (pool_in-pushed ps x)
              (subst (λ q. Contains (pool_in (ps ++ x ∷ []) q).chunks c) e h),
        )
    | inr n ↦ inr (subst (λ (y : Pool). Contains y.chunks c) (pool_in-before ps x q n) h)
  ]

  untaken : (c : ℕ) → Contains x.chunks c → is_taken s c ≡ true → ⊥
  untaken c h taken =
      let i : In (free_chunks s) c =
      in_take (length x.chunks) (free_chunks s) c (subst (λ l. In l c) takes.chunks (in_contains x.chunks c h)) in
      let free = in_passes (is_untaken s.taken) (range_with_len 0 (length s.taken)) c i in
      let no : false ≡ true = ap not (sym taken) ∙ free in cc

  below : (q c : ℕ) → Contains (pool_in (ps ++ x ∷ []) q).chunks c → c < chunk_count t
  below q c h = elim (whose q c h) [
    | inl k ↦ subst (λ d. d < chunk_count t) k.1.2 (takes.within k.1.0 c k.1.1)
    | inr k ↦ omega (arith, o.within q c k, takes.count)
  ]

  given : (q c : ℕ) → Contains (pool_in (ps ++ x ∷ []) q).chunks c → is_taken t c ≡ true
  given q c h = elim (whose q c h) [
    | inl k ↦ takes.taken.there c k.1
    | inr k ↦ elim (in_or_out x.chunks c) [
      | inl new ↦ takes.taken.there c (contains_in x.chunks c new)
      | inr old ↦
          takes.taken.others c (λ a. old (in_contains x.chunks c a)) ∙ o.taken q c k
    ]
  ]

  one : (p q c : ℕ) → Contains (pool_in (ps ++ x ∷ []) p).chunks c → Contains (pool_in (ps ++ x ∷ []) q).chunks c
      → p ≡ q
  one p q c h k = elim (whose p c h) [
    | inl a ↦ elim (whose q c k) [ inl b ↦ a.0 ∙ sym b.0 | inr b ↦ absurd (untaken c a.1 (o.taken q c b)) ]
    | inr a ↦ elim (whose q c k) [ inl b ↦ absurd (untaken c b.1 (o.taken p c a)) | inr b ↦ o.single p q c a b ]
  ]

  pub owned_added : AreOwned t (ps ++ x ∷ [])
  owned_added = record { within = below; taken = given; single = one; owner = owner }
    where
      owner : (c : ℕ) → c < chunk_count t → is_taken t c ≡ true → (p : ℕ) × Contains (pool_in (ps ++ x ∷ []) p).chunks c
      owner c h is = elim (in_or_out x.chunks c) [
        | inl new ↦ (
          length ps + 1,
          subst (λ (y : Pool). Contains y.chunks c) (sym (pool_in-pushed ps x))
              (contains_in x.chunks c new),
        )
        | inr old ↦ (
            let was : is_taken s c ≡ true = sym (takes.taken.others c (λ a. old (in_contains x.chunks c a))) ∙ is in
            let w = o.owner c (omega (arith, h, takes.count)) was in
            let before : w.0 ≡ length ps + 1 → ⊥ =
            λ e. nowhere ps c (subst (λ q. Contains (pool_in ps q).chunks c) e w.1) in
            (w.0, subst (λ (y : Pool). Contains y.chunks c) (sym (pool_in-before ps x w.0 before)) w.1))
      ]
